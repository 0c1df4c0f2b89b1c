-- While a spell lasts, what is sent may be aired, its lines are what was sent from slot 0 on, and each surveyed peak is the peak.
use Rattle.std.proofs.Common.{◌≡◌, ℕ, ◌+◌, false, List, [], ◌∷◌, ◌++◌, map, Some, None, Option, sym, refl, ap, ◌∙◌, subst, ⊎_elim, arith}
use mathlib.Core.List.Memᴰ
use mathlib.Core.List.{Memᴰ}
use Rattle.std.specs.List.{range_with_len}
use Rattle.std.specs.Option.{option_to_list}
use Rattle.std.proofs.lemmas.List.FromFn.{map-range_with_len_more}
use Rattle.std.proofs.lemmas.Bool.{true≢false}
use Rattle.records.specs.declared.kinds.Closure.{Closure}
use Rattle.timetable.specs.Meaning.{Meaning}
use Rattle.timetable.specs.Closed.{aired, line}
use Rattle.survey.specs.Surveys.{Airable, PeakOf}
use Rattle.station.specs.States.{State, Told, slip, reopened, passes, found, surveyed, goes_on_air, ticked, withdrawn, refused, fresh, on_air, sent_by, with_phase}
use Rattle.station.specs.declared.phase.Phase.{Phase}
use Rattle.station.specs.declared.phase.Phase.TheVariants.{Open, Passed, OnAir}
use Rattle.guarantee.specs.Spells.{Spell, spells, begun, with_line, with_survey}
use Rattle.guarantee.proofs.Changes.{Change, refusing, finding, closing, reopening, passing, surveying, airing, ticking, withdrawing, Course}

-- the spell that lasts after an answer
abbrev pub after : Option Spell → Told → Option Spell
after now (slip mark e) = None
after now reopened = None
after now passes = begun now
after now (found fs) = now
after now (surveyed p t) = with_survey p t now
after now goes_on_air = now
after now (ticked c l) = with_line l now
after now withdrawn = None
after now (refused t) = now

-- the spell that an answer ends
abbrev pub ended : Option Spell → Told → List Spell
ended now (slip mark e) = option_to_list now
ended now reopened = option_to_list now
ended now passes = []
ended now (found fs) = []
ended now (surveyed p t) = []
ended now goes_on_air = []
ended now (ticked c l) = []
ended now withdrawn = option_to_list now
ended now (refused t) = []

pub spells_step : (now : Option Spell) (a : Told) (rest : List Told) → spells now (a ∷ rest) ≡ ended now a ++ spells (after now a) rest
spells_step now (slip mark e) rest = refl
spells_step now reopened rest = refl
spells_step now passes rest = refl
spells_step now (found fs) rest = refl
spells_step now (surveyed p t) rest = refl
spells_step now goes_on_air rest = refl
spells_step now (ticked c l) rest = refl
spells_step now withdrawn rest = refl
spells_step now (refused t) rest = refl

-- what a spell has sent, by the phase
abbrev pub Sent : Meaning → Phase → List (List ℕ) → Type 0
Sent X Open ls = ⊥
Sent X Passed ls = ls ≡ []
Sent X (OnAir c) ls = ls ≡ map (line X) (range_with_len 0 c)

-- what was surveyed are peaks
abbrev pub Peaks : Meaning → ℕ → ℕ → List (ℕ × ℕ) → Type 0
Peaks X m n surveys = (p t : ℕ) → Memᴰ (p, t) surveys → PeakOf X m n p t

pub record Lasts (s : State) (w : Spell) : Type 0 where
  pub airable : Airable (sent_by s) s.delay s.pages
  pub sent : Sent (sent_by s) s.phase w.lines
  pub peaks : Peaks (sent_by s) s.delay s.pages w.surveys

-- no spell lasts while a station is open, and one does else
abbrev pub Now : State → Option Spell → Type 0
Now s None = s.phase ≡ Open
Now s (Some w) = Lasts s w

-- a phase is only one of these
passed_not_open : (p : Phase) → p ≡ Open → p ≡ Passed → ⊥
passed_not_open p e f = let z : ◌≡◌ {A = ℕ} 0 1 = cc in omega arith

pub on_air_not_open : (p : Phase) (c : ℕ) → p ≡ Open → p ≡ OnAir c → ⊥
on_air_not_open p c e f = let z : ◌≡◌ {A = ℕ} 0 1 = cc in omega arith

nothing_sent : (X : Meaning) (p : Phase) (ls : List (List ℕ)) → on_air p ≡ false → Sent X p ls → ls ≡ []
nothing_sent X Open ls off h = absurd h
nothing_sent X Passed ls off h = h
nothing_sent X (OnAir c) ls off h = absurd (true≢false off)

begun_now : (s : State) (now : Option Spell) → on_air s.phase ≡ false → Airable (sent_by s) s.delay s.pages → Now s now → Now (with_phase s Passed) (begun now)
begun_now s None off x h = record { airable = x; sent = refl; peaks = λ p t i. absurd (Memᴰ.not-nil i) }
begun_now s (Some w) off x h =
    record { airable = x; sent = nothing_sent (sent_by s) s.phase w.lines off h.sent; peaks = h.peaks }

aired_now : (s : State) (now : Option Spell) → s.phase ≡ Passed → Now s now → Now (with_phase s (OnAir 0)) now
aired_now s None e h = absurd (passed_not_open s.phase h e)
aired_now s (Some w) e h = record {
  airable = h.airable;
  sent = nothing_sent (sent_by s) s.phase w.lines (ap on_air e) h.sent;
  peaks = h.peaks;
}

ticked_now : (s : State) (now : Option Spell) (c : ℕ) → s.phase ≡ OnAir c → Now s now → Now (with_phase s (OnAir (c + 1))) (with_line (line (sent_by s) c) now)
ticked_now s None c e h = absurd (on_air_not_open s.phase c h e)
ticked_now s (Some w) c e h =
    let so_far = subst (λ (p : Phase). Sent (sent_by s) p w.lines) e h.sent in
    let more = map-range_with_len_more (line (sent_by s)) 0 c c (omega arith) in
    record { airable = h.airable; sent = ap (λ ls. ls ++ line (sent_by s) c ∷ []) so_far ∙ sym more; peaks = h.peaks }

peaks_more : (X : Meaning) (m n : ℕ) (surveys : List (ℕ × ℕ)) (p t : ℕ) → Peaks X m n surveys → PeakOf X m n p t → Peaks X m n (surveys ++ (p, t) ∷ [])
peaks_more X m n surveys p t all peak q u i =
    ⊎_elim (all q u) (λ j. subst (λ (x : ℕ × ℕ). PeakOf X m n x.0 x.1) (sym (Memᴰ.eq_of_singleton j)) peak)
    (Memᴰ.append_cases surveys i)

surveyed_now : (s : State) (now : Option Spell) (p t : ℕ) → (Airable (sent_by s) s.delay s.pages → PeakOf (sent_by s) s.delay s.pages p t) → Now s now → Now s (with_survey p t now)
surveyed_now s None p t peak h = h
surveyed_now s (Some w) p t peak h = record {
  airable = h.airable;
  sent = h.sent;
  peaks = peaks_more (sent_by s) s.delay s.pages w.surveys p t h.peaks (peak h.airable);
}

-- the invariant of a run, step by step
pub now_after : (s mid : State) (now : Option Spell) (a : Told) → Change s a mid → Now s now → Now mid (after now a)
now_after s mid now a (refusing t) h = h
now_after s mid now a (finding xs) h = h
now_after s mid now a (closing mark e es off) h = refl
now_after s mid now a (reopening es off) h = refl
now_after s mid now a (passing off x) h = begun_now s now off x h
now_after s mid now a (surveying p t peak) h = surveyed_now s now p t peak h
now_after s mid now a (airing e) h = aired_now s now e h
now_after s mid now a (ticking c e) h = ticked_now s now c e h
now_after s mid now a withdrawing h = refl

-- the state is that of a station over M with delay m and n pages
abbrev Over : Meaning → ℕ → ℕ → State → Type 0
Over M m n s = (s.table ≡ M) × (s.delay ≡ m) × (s.pages ≡ n)

over_after : (M : Meaning) (m n : ℕ) (s mid : State) (a : Told) → Change s a mid → Over M m n s → Over M m n mid
over_after M m n s mid a (refusing t) o = o
over_after M m n s mid a (finding xs) o = o
over_after M m n s mid a (closing mark e es off) o = o
over_after M m n s mid a (reopening es off) o = o
over_after M m n s mid a (passing off x) o = o
over_after M m n s mid a (surveying p t peak) o = o
over_after M m n s mid a (airing e) o = o
over_after M m n s mid a (ticking c e) o = o
over_after M m n s mid a withdrawing o = o

-- a spell of a station over M with delay m and n pages
pub record Good (M : Meaning) (m n : ℕ) (w : Spell) : Type 0 where
  -- the closed entries while it lasted, and the slots that were sent
  pub closures : List Closure
  pub slots : ℕ
  pub airable : Airable (aired M closures) m n
  pub lines : w.lines ≡ map (line (aired M closures)) (range_with_len 0 slots)
  pub peaks : (p t : ℕ) → Memᴰ (p, t) w.surveys → PeakOf (aired M closures) m n p t

good_by : (s : State) (w : Spell) (p : Phase) → Lasts s w → Sent (sent_by s) p w.lines → Good s.table s.delay s.pages w
good_by s w Open h sent = absurd sent
good_by s w Passed h sent = record { closures = s.closures; slots = 0; airable = h.airable; lines = sent; peaks = h.peaks }
good_by s w (OnAir c) h sent = record { closures = s.closures; slots = c; airable = h.airable; lines = sent; peaks = h.peaks }

module _ (M : Meaning) (m n : ℕ) where
  abbrev AllGood : List Spell → Type 0
  AllGood ws = (w : Spell) → Memᴰ w ws → Good M m n w

  lasting_good : (s : State) (now : Option Spell) → Over M m n s → Now s now → AllGood (option_to_list now)
  lasting_good s None o h w i = absurd (Memᴰ.not-nil i)
  lasting_good s (Some v) o h w i =
      rw (Memᴰ.eq_of_singleton i, ← o.0, ← o.1, ← o.2) (good_by s v s.phase h h.sent)

  no_spells : AllGood []
  no_spells w i = absurd (Memᴰ.not-nil i)

  ended_good : (s : State) (now : Option Spell) (a : Told) → Over M m n s → Now s now → AllGood (ended now a)
  ended_good s now (slip mark e) o h = lasting_good s now o h
  ended_good s now reopened o h = lasting_good s now o h
  ended_good s now passes o h = no_spells
  ended_good s now (found fs) o h = no_spells
  ended_good s now (surveyed p t) o h = no_spells
  ended_good s now goes_on_air o h = no_spells
  ended_good s now (ticked c l) o h = no_spells
  ended_good s now withdrawn o h = lasting_good s now o h
  ended_good s now (refused t) o h = no_spells

  all_good : (answers : List Told) (s : State) (now : Option Spell) → Over M m n s → Now s now → Course s answers → AllGood (spells now answers)
  all_good [] s now o h r = lasting_good s now o h
  all_good (a ∷ rest) s now o h r =
      let later = all_good rest r.0 (after now a) (over_after M m n s r.0 a r.1 o) (now_after s r.0 now a r.1 h) r.2 in
      λ w i.
      ⊎_elim (ended_good s now a o h w) (later w)
      (Memᴰ.append_cases (ended now a) (subst (λ (ws : List Spell). Memᴰ w ws) (spells_step now a rest) i))

  -- every spell of a station that was just built is good
  pub spells_good : (mark : ℕ) (answers : List Told) → Course (fresh M m n mark) answers → (w : Spell) → Memᴰ w (spells None answers) → Good M m n w
  spells_good mark answers r = all_good answers (fresh M m n mark) None (refl, refl, refl) refl r
