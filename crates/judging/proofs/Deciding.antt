-- What the answers of a judging run say is the judgement of the plan.
use Rattle.std.proofs.Common.{◌≡◌, ℕ, ◌-◌, ◌*◌, ◌<◌, ◌≤◌, cond, List, [], ◌∷◌, ◌++◌, map, length, Ok, vec_items, All, Vec, sym, refl, ap, ◌∙◌, subst, append-nil, arith}
use Rattle.std.specs.declared.alloc.Global.{Global}
use Rattle.std.proofs.lemmas.List.Elements.{All-head, All-tail, All-weaker}
use Rattle.std.proofs.lemmas.List.{map-append}
use Rattle.records.specs.declared.kinds.Closure.{Closure}
use Rattle.timetable.specs.Closed.{aired}
use Rattle.timetable.specs.Meaning.{Meaning}
use Rattle.timetable.specs.Windows.{InRange, FirstSlot}
use Rattle.bag.specs.declared.finding.Finding.{Finding}
use Rattle.checker.specs.Findings.{Ascending, Findings}
use Rattle.checker.specs.Judged.{Judged, Verdict, out_of_range, stray, starving, passed}
use Rattle.checker.specs.Judged as judged
use Rattle.station.specs.declared.call.Call.TheVariants as call
use Rattle.station.specs.declared.phase.Phase.TheVariants.{Open, Passed}
use Rattle.station.specs.Calls.{Replied, Run}
use Rattle.station.specs.States.{State, Told, found, surveyed, refused, SurveyTold, not_passed, short_scratch, long_period, peak, FindingsTold, few_cells, short_bag, all_found, verdict_told, after_check, with_phase}
use Rattle.station.specs.States as states
use Rattle.runs.specs.declared.rehearsal.Script.{Script}
use Rattle.line.specs.declared.Line.{Line}
use Rattle.line.specs.declared.Line.TheVariants as line
use Rattle.judging.specs.Judgements.{Bookable, Judgement, miss}
use Rattle.judging.specs.Judgements as judgements
use Rattle.judging.specs.Telling.{Scripted, Tells, told_lines, all_lines}
use Rattle.judging.proofs.Booking.{booked, said, book_all}
use Rattle.judging.proofs.Saying.{lines_append, answers_told}

-- there are no more findings than pages
few_above : (n b : ℕ) (fs : List Finding) → Ascending fs → All (λ f. (b < f.page) × (f.page ≤ n)) fs → length fs ≤ n - b
few_above n b [] up all = omega arith
few_above n b (f ∷ fs) up all =
    let low : Finding → Type 0 = λ g. (b < g.page) × (g.page ≤ n) in
    let first = All-head low f fs all in
    let rest = few_above n f.page fs up.1 (both fs up.0 (All-tail low f fs all)) in
    omega (arith, first.0, first.1)
  where
    both : (gs : List Finding) → All (λ g. f.page < g.page) gs → All (λ g. (b < g.page) × (g.page ≤ n)) gs → All (λ g. (f.page < g.page) × (g.page ≤ n)) gs
    both gs x y = λ k d lt. (x k d lt, (y k d lt).1)

findings_few : (X : Meaning) (m n : ℕ) (fs : List Finding) → Findings X m n fs → length fs ≤ n
findings_few X m n fs h =
    let low = few_above n 0 fs h.ascending (All-weaker (λ f. FirstSlot X m n f.page f.slot) (λ f. (0 < f.page) × (f.page ≤ n)) (λ f s. (omega (arith, s.page.0), s.page.1)) fs h.each) in
    omega arith

never : Passed ≡ Open → ⊥
never x = let z : ◌≡◌ {A = ℕ} 0 1 = cc in omega arith

module _ (M : Meaning) (m n : ℕ) (es : List Closure) (range : InRange M m n) where
  abbrev X : Meaning
  X = aired M es

  in_range : InRange X m n
  in_range = record { delay = range.delay; pages = range.pages; channels = range.channels; period = range.period }

  -- the findings are told, whole
  finds : (cells : ℕ) (a : Told) → cells ≡ 2 * n → FindingsTold (booked M m n es) cells n a → (fs : List Finding) × Findings X m n fs × (told_lines a ≡ map miss fs)
  finds cells _ e (states.out_of_range out) = absurd (out in_range)
  finds cells _ e (few_cells _ short) = absurd (omega arith)
  finds cells _ e (short_bag fs _ _ exact small) = absurd (omega (arith, findings_few X m n fs exact))
  finds cells _ e (all_found fs _ _ exact _) = (fs, exact, refl)

  -- the survey of what passes is told
  surveys : (cells : ℕ) (a : Told) → cells ≡ 2 * n → Judged X m n cells (Ok tt) → SurveyTold (with_phase (booked M m n es) Passed) cells a → Judgement X m n (line.Pass ∷ told_lines a)
  surveys cells _ e j (not_passed is_open) = absurd (never is_open)
  surveys cells _ e j (short_scratch _ short) = absurd (omega arith)
  surveys cells _ e (passed ok _ sound) (long_period _ _ long) = judgements.passes_long sound long
  surveys cells _ e (passed ok _ sound) (peak p t _ _ short top) = judgements.passes p t sound short (top (record { in_range = ok; sound = sound }))

  one_finding : (cells : Vec ℕ Global) (last : State) (rest : List Replied) → length (vec_items cells) ≡ 2 * n → Run (booked M m n es) (call.Findings cells n ∷ []) rest last → (fs : List Finding) × Findings X m n fs × (all_lines (said rest) ≡ map miss fs)
  one_finding cells last [] e h = absurd h
  one_finding cells last (r ∷ (x ∷ rs)) e h = absurd h.2
  one_finding cells last (r ∷ []) e h =
      let f = finds (length (vec_items cells)) r.answer e h.1.steps.0 in
      (f.0, f.1, append-nil _ ∙ f.2)

  one_survey : (cells : Vec ℕ Global) (last : State) (rest : List Replied) → length (vec_items cells) ≡ 2 * n → Run (with_phase (booked M m n es) Passed) (call.Survey cells ∷ []) rest last → Judged X m n (2 * n) (Ok tt) → Judgement X m n (line.Pass ∷ all_lines (said rest))
  one_survey cells last [] e h j = absurd h
  one_survey cells last (r ∷ (x ∷ rs)) e h j = absurd h.2
  one_survey cells last (r ∷ []) e h j =
      subst (λ ls. Judgement X m n (line.Pass ∷ ls)) (sym (append-nil (told_lines r.answer)))
      (surveys (length (vec_items cells)) r.answer e (subst (λ k. Judged X m n k (Ok tt)) (sym e) j) h.1.steps.0)

  module _ (mid last : State) (rest : List Replied) (script : Script) (scripted : Scripted n es script)
      (went_on : Run mid (cond (states.passed mid.phase) (vec_items script.passed) (vec_items script.otherwise)) rest last) where
    -- what is left to do after a check that refuses
    otherwise : mid ≡ booked M m n es → (fs : List Finding) × Findings X m n fs × (all_lines (said rest) ≡ map miss fs)
    otherwise state =
        let calls = scripted.otherwise in
        one_finding scripted.finding_cells last rest scripted.enough.2 (subst (λ s. Run s (call.Findings scripted.finding_cells n ∷ []) rest last) state
        (subst (λ cs. Run mid cs rest last) calls (subst (λ s. Run mid (cond (states.passed s.phase) (vec_items script.passed) (vec_items script.otherwise)) rest last) state went_on)))

    -- what is left to do after a check that passes
    surveyed_on : mid ≡ with_phase (booked M m n es) Passed → Judged X m n (2 * n) (Ok tt) → Judgement X m n (line.Pass ∷ all_lines (said rest))
    surveyed_on state j =
        one_survey scripted.survey_cells last rest scripted.enough.1 (subst (λ s. Run s (call.Survey scripted.survey_cells ∷ []) rest last) state
        (subst (λ cs. Run mid cs rest last) scripted.passed (subst (λ s. Run mid (cond (states.passed s.phase) (vec_items script.passed) (vec_items script.otherwise)) rest last) state went_on))) j

    -- by the verdict of the check
    decides : (v : Verdict) → Judged X m n (2 * n) v → mid ≡ after_check (booked M m n es) v → Judgement X m n (told_lines (verdict_told v) ++ all_lines (said rest))
    decides _ (out_of_range out) state = absurd (out in_range)
    decides _ (judged.short_scratch _ short) state = absurd (omega arith)
    decides _ (stray s k p _ _ at) state =
        let f = otherwise state in subst (λ ls. Judgement X m n (line.Stray s k p ∷ ls)) (sym f.2) (judgements.stray s k p f.0 at f.1)
    decides _ (starving i t _ _ clean at) state =
        let f = otherwise state in subst (λ ls. Judgement X m n (line.Starved i t ∷ ls)) (sym f.2) (judgements.starved i t f.0 clean at f.1)
    decides _ (passed ok room sound) state = surveyed_on state (passed ok room sound)

  -- the check after the bookings
  checks : (cells : Vec ℕ Global) (mid : State) (rs : List Replied) → length (vec_items cells) ≡ 2 * n → Run (booked M m n es) (call.Check cells ∷ []) rs mid
      → (v : Verdict) × Judged X m n (2 * n) v × (all_lines (said rs) ≡ told_lines (verdict_told v)) × (mid ≡ after_check (booked M m n es) v)
  checks cells mid [] e h = absurd h
  checks cells mid (r ∷ (x ∷ rs)) e h = absurd h.2
  checks cells mid (r ∷ []) e h =
      let c = h.1.steps.off_air refl in
      (c.0, subst (λ k. Judged X m n k c.0) e c.1, append-nil _ ∙ ap told_lines c.2, h.2 ∙ c.3)

pub tells_judges : (M : Meaning) (m n : ℕ) (es : List Closure) (ls : List Line) → Tells M m n es ls → Bookable M es → InRange M m n → Judgement (aired M es) m n ls
tells_judges M m n es ls h b range =
    let c = h.rehearsed.chosen in
    let s = h.scripted in
    let after = book_all M m n es b (call.Check s.check_cells ∷ []) c.then_state c.first
    (subst (λ cs. Run (booked M m n []) cs c.first c.then_state) s.opening c.opened) in
    let v = checks M m n es range s.check_cells c.then_state after.0 s.enough.0 after.1 in
    let whole : ls ≡ told_lines (verdict_told v.0) ++ all_lines (said c.rest) =
    h.lines
    ∙ ap all_lines (sym (answers_told (vec_items h.rehearsal.replies)) ∙ ap said c.all_replies ∙ map-append (λ r. r.answer) c.first c.rest)
    ∙ lines_append (said c.first) (said c.rest)
    ∙ ap (λ xs. xs ++ all_lines (said c.rest)) (after.2 ∙ v.2) in
    subst (λ xs. Judgement (aired M es) m n xs) (sym whole)
    (decides M m n es range c.then_state c.last_state c.rest h.script s c.went_on v.0 v.1 v.3)
