-- What one call can change, and a run as a course of such changes.
use Rattle.std.proofs.Common.{◌≡◌, ℕ, ◌+◌, Bool, true, false, cond, not, ◌&&◌, eqb, ltb, leb, ◌⊎◌, List, [], ◌∷◌, ◌++◌, map, length, vec_items, refl, inl, inr}
use Rattle.std.proofs.lemmas.Bool.{cond_both, cases_Bool}
use Rattle.records.specs.declared.kinds.Closure.{Closure}
use Rattle.timetable.specs.Closed.{closed_in, line}
use Rattle.bag.specs.declared.finding.Finding.{Finding}
use Rattle.checker.specs.Judged.{Judged, Verdict, stray, starving, passed}
use Rattle.checker.specs.Judged as judged
use Rattle.survey.specs.Surveys.{Airable, PeakOf}
use Rattle.station.specs.Calls.{Step, Replied, Run}
use Rattle.station.specs.States.{State, Told, slip, reopened, passes, found, surveyed, goes_on_air, ticked, withdrawn, refused, on_air, sent_by, with_phase, with_closures, in_table, Is, closes, reopens, Checks, verdict_told, after_check, SurveyTold, FindingsTold, not_passed, out_of_range, short_scratch, few_cells, long_period, peak, short_bag, all_found, airs, airs_from, last_slot, ticks, ticks_from, withdraws, withdraws_from}
use Rattle.station.specs.Tables.{without}
use Rattle.station.specs.declared.call.Call.{Call}
use Rattle.station.specs.declared.call.Call.TheVariants as call
use Rattle.station.specs.declared.phase.Phase.{Phase}
use Rattle.station.specs.declared.phase.Phase.TheVariants.{Open, Passed, OnAir}

-- a call that answers so leaves this state
pub data Change (s : State) : Told → State → Type 0 where
  refusing : (t : ℕ × List ℕ) → Change s (refused t) s
  finding : (xs : List Finding) → Change s (found xs) s
  closing : (mark : ℕ) (e : Closure) (es : List Closure) → on_air s.phase ≡ false → Change s (slip mark e) (with_closures s es)
  reopening : (es : List Closure) → on_air s.phase ≡ false → Change s reopened (with_closures s es)
  passing : on_air s.phase ≡ false → Airable (sent_by s) s.delay s.pages → Change s passes (with_phase s Passed)
  surveying : (p t : ℕ) → (Airable (sent_by s) s.delay s.pages → PeakOf (sent_by s) s.delay s.pages p t) → Change s (surveyed p t) s
  airing : s.phase ≡ Passed → Change s goes_on_air (with_phase s (OnAir 0))
  ticking : (c : ℕ) → s.phase ≡ OnAir c → Change s (ticked c (line (sent_by s) c)) (with_phase s (OnAir (c + 1)))
  withdrawing : Change s withdrawn (with_phase s Open)

-- an answer and the state with it are a change
record By (s : State) (r : Told × State) : Type 0 where
  by : Change s r.0 r.1

module _ (s : State) where
  is : (r : Told × State) (a : Told) (s' : State) → By s r → Is r a s' → Change s a s'
  is r a s' h e = rw (e.0, e.1) h.by

  same : (t : ℕ × List ℕ) → By s (refused t, s)
  same t = record { by = refusing t }

  -- refused where a test holds, and else as the rest says
  unless : (b : Bool) (t : ℕ × List ℕ) (y : Told × State) → (b ≡ false → By s y) → By s (cond b (refused t, s) y)
  unless b t y h = cond_both b (refused t, s) y (By s) (λ _. same t) h

  closes_by : (e : Closure) → By s (closes s e)
  closes_by e =
      unless (on_air s.phase) (11, []) _ (λ off.
      unless (not (in_table s.table e)) (19, []) _ (λ _.
      unless (closed_in s.closures e.channel e.slot) (20, []) _ (λ _.
      unless (leb 64 (length s.closures)) (21, []) _ (λ _.
      record { by = closing s.mark e (s.closures ++ e ∷ []) off }))))

  reopens_by : (mark : ℕ) (e : Closure) → By s (reopens s mark e)
  reopens_by mark e =
      unless (on_air s.phase) (11, []) _ (λ off.
      unless (not (eqb mark s.mark && closed_in s.closures e.channel e.slot)) (22, []) _ (λ _.
      record { by = reopening (without s.closures e.channel e.slot) off }))

  verdict_by : (cells : ℕ) (v : Verdict) → on_air s.phase ≡ false → Judged (sent_by s) s.delay s.pages cells v → Change s (verdict_told v) (after_check s v)
  verdict_by cells _ off (judged.out_of_range _) = refusing _
  verdict_by cells _ off (judged.short_scratch _ _) = refusing _
  verdict_by cells _ off (stray _ _ _ _ _ _) = refusing _
  verdict_by cells _ off (starving _ _ _ _ _ _) = refusing _
  verdict_by cells _ off (passed range _ sound) = passing off (record { in_range = range; sound = sound })

  checks_by : (cells : ℕ) (a : Told) (s' : State) → Checks s cells a s' → (on_air s.phase ≡ true) ⊎ (on_air s.phase ≡ false) → Change s a s'
  checks_by cells a s' h (inl on) =
      let e = h.while_on_air on in rw (e.0, e.1) (refusing _)
  checks_by cells a s' h (inr off) =
      let e = h.off_air off in rw (e.2, e.3) (verdict_by cells e.0 off e.1)

  finds_by : (cells places : ℕ) (a : Told) → FindingsTold s cells places a → Change s a s
  finds_by cells places _ (out_of_range _) = refusing _
  finds_by cells places _ (few_cells _ _) = refusing _
  finds_by cells places _ (short_bag _ _ _ _ _) = refusing _
  finds_by cells places _ (all_found xs _ _ _ _) = finding xs

  surveys_by : (cells : ℕ) (a : Told) → SurveyTold s cells a → Change s a s
  surveys_by cells _ (not_passed _) = refusing _
  surveys_by cells _ (short_scratch _ _) = refusing _
  surveys_by cells _ (long_period _ _ _) = refusing _
  surveys_by cells _ (peak p t _ _ _ h) = surveying p t h

  airs_by : (p : Phase) → s.phase ≡ p → By s (airs_from s p)
  airs_by Open e = same _
  airs_by Passed e = record { by = airing e }
  airs_by (OnAir c) e = same _

  ticks_by : (places : ℕ) (p : Phase) → s.phase ≡ p → By s (ticks_from s places p)
  ticks_by places Open e = same _
  ticks_by places Passed e = same _
  ticks_by places (OnAir c) e =
      unless (ltb places s.table.channels) (13, []) _ (λ _.
      unless (leb last_slot c) (18, []) _ (λ _.
      record { by = ticking c e }))

  withdraws_by : (p : Phase) → By s (withdraws_from s p)
  withdraws_by Open = same _
  withdraws_by Passed = same _
  withdraws_by (OnAir c) = record { by = withdrawing }

  unchanged : (a : Told) (s' : State) → Change s a s → s' ≡ s → Change s a s'
  unchanged a s' h e = rw e h

  -- every call is one of these changes
  pub change : (c : Call) (a : Told) (s' : State) → Step s c a s' → Change s a s'
  change (call.Close e) a s' h = is (closes s e) a s' (closes_by e) h
  change (call.Reopen mark e) a s' h = is (reopens s mark e) a s' (reopens_by mark e) h
  change (call.Check scratch) a s' h = checks_by (length (vec_items scratch)) a s' h (cases_Bool (on_air s.phase))
  change (call.Findings scratch places) a s' h = unchanged a s' (finds_by (length (vec_items scratch)) places a h.0) h.1
  change (call.Survey scratch) a s' h = unchanged a s' (surveys_by (length (vec_items scratch)) a h.0) h.1
  change call.Air a s' h = is (airs s) a s' (airs_by s.phase refl) h
  change (call.Tick list) a s' h = is (ticks s (length (vec_items list))) a s' (ticks_by (length (vec_items list)) s.phase refl) h
  change call.Withdraw a s' h = is (withdraws s) a s' (withdraws_by s.phase) h

-- the answers of a run, each of them that of a change
abbrev pub Course : State → List Told → Type 0
Course s [] = Unit {0}
Course s (a ∷ as') = (mid : State) × Change s a mid × Course mid as'

pub course : (cs : List Call) (rs : List Replied) (s s' : State) → Run s cs rs s' → Course s (map (λ r. r.answer) rs)
course [] [] s s' h = tt
course [] (r ∷ rs) s s' h = absurd h
course (c ∷ cs) [] s s' h = absurd h
course (c ∷ cs) (r ∷ rs) s s' h = (h.0, change s c r.answer h.0 h.1.steps, course cs rs h.0 s' h.2)
