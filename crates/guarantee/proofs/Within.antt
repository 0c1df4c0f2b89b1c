-- What is sent from a tick on until the station is withdrawn was sent in one spell.
use Rattle.std.proofs.Common.{◌≡◌, ℕ, zero, suc, ◌+◌, true, ◌⊎◌, List, [], ◌∷◌, ◌++◌, length, drop, Some, None, Option, sym, refl, ap, ◌∙◌, inl, inr, append_assoc, append-nil}
use mathlib.Core.List.Memᴰ
use mathlib.Core.List.{Memᴰ}
use Rattle.std.proofs.lemmas.List.{drop_at}
use Rattle.std.proofs.lemmas.Bool.{both_ways}
use Rattle.timetable.specs.Meaning.{Meaning}
use Rattle.timetable.specs.Closed.{line}
use Rattle.station.specs.States.{State, Told, fresh, on_air, sent_by, with_phase}
use Rattle.station.specs.declared.phase.Phase.TheVariants.{OnAir}
use Rattle.guarantee.specs.Spells.{Spell, spells, with_line, until_withdrawn, lines_from}
use Rattle.guarantee.proofs.Changes.{Change, refusing, finding, closing, reopening, passing, surveying, airing, ticking, withdrawing, Course}
use Rattle.guarantee.proofs.Keeping.{after, ended, spells_step, Now, now_after, on_air_not_open}

-- one of these spells has these lines
abbrev Has : List Spell → List (List ℕ) → Type 0
Has ws ls = (w : Spell) × Memᴰ w ws × (w.lines ≡ ls)

-- The spell that lasts on air goes on with what is sent until the station is withdrawn: one step, given that it does so after it.
sends_first : (rest : List Told) (s mid : State) (w : Spell) (a : Told) → on_air s.phase ≡ true → Change s a mid
    → ((v : Spell) → on_air mid.phase ≡ true → Has (spells (Some v) rest) (v.lines ++ until_withdrawn rest))
    → Has (spells (Some w) (a ∷ rest)) (w.lines ++ until_withdrawn (a ∷ rest))
sends_first rest s mid w a on (refusing t) later = later w on
sends_first rest s mid w a on (finding xs) later = later w on
sends_first rest s mid w a on (closing mark e es off) later = absurd (both_ways _ off on)
sends_first rest s mid w a on (reopening es off) later = absurd (both_ways _ off on)
sends_first rest s mid w a on (passing off x) later = absurd (both_ways _ off on)
sends_first rest s mid w a on (surveying p t peak) later = later (record { surveys = w.surveys ++ (p, t) ∷ []; lines = w.lines }) on
sends_first rest s mid w a on (airing e) later = absurd (both_ways _ (ap on_air e) on)
sends_first rest s mid w a on (ticking c e) later =
    let l = line (sent_by s) c in
    let h = later (record { surveys = w.surveys; lines = w.lines ++ l ∷ [] }) refl in
    (h.0, h.1, h.2 ∙ append_assoc w.lines (l ∷ []) (until_withdrawn rest))
sends_first rest s mid w a on withdrawing later = (w, Memᴰ.head refl, sym (append-nil w.lines))

sends_on : (answers : List Told) (s : State) (w : Spell) → on_air s.phase ≡ true → Course s answers → Has (spells (Some w) answers) (w.lines ++ until_withdrawn answers)
sends_on [] s w on r = (w, Memᴰ.head refl, sym (append-nil w.lines))
sends_on (a ∷ rest) s w on r = sends_first rest s r.0 w a on r.1 (λ v still. sends_on rest r.0 v still r.2)

-- nothing, or what one of these spells sent from some slot on
abbrev Somewhere : List Spell → List (List ℕ) → Type 0
Somewhere ws ls = (ls ≡ []) ⊎ ((w : Spell) × Memᴰ w ws × ((t : ℕ) × (ls ≡ drop t w.lines)))

among_more : (vs ws us : List Spell) (ls : List (List ℕ)) → us ≡ vs ++ ws → Somewhere ws ls → Somewhere us ls
among_more vs ws us ls e (inl none) = inl none
among_more vs ws us ls e (inr h) = inr (h.0, rw e (Memᴰ.append_right vs h.1), h.2)

-- a tick and what is sent after it
from_tick : (rest : List Told) (s : State) (now : Option Spell) (c : ℕ) → s.phase ≡ OnAir c → Now s now → Course (with_phase s (OnAir (c + 1))) rest
    → Somewhere (spells (with_line (line (sent_by s) c) now) rest) (line (sent_by s) c ∷ until_withdrawn rest)
from_tick rest s None c e h r = absurd (on_air_not_open s.phase c h e)
from_tick rest s (Some w) c e h r =
    let l = line (sent_by s) c in
    let on = sends_on rest (with_phase s (OnAir (c + 1))) (record { surveys = w.surveys; lines = w.lines ++ l ∷ [] }) refl r in
    let all : on.0.lines ≡ w.lines ++ (l ∷ until_withdrawn rest) = on.2 ∙ append_assoc w.lines (l ∷ []) (until_withdrawn rest) in
    let t = length w.lines in
    inr (on.0, on.1, (t, sym (ap (λ (ls : List (List ℕ)). drop t ls) all ∙ drop_at w.lines (l ∷ until_withdrawn rest) t refl)))

-- one step of a run: only a tick is counted, and it begins what is looked for or stands before it
within_first : (rest : List Told) (s mid : State) (now : Option Spell) (a : Told) (k : ℕ) → Now s now → Change s a mid → Course mid rest
    → ((j : ℕ) → Somewhere (spells (after now a) rest) (lines_from j rest))
    → Somewhere (spells (after now a) rest) (lines_from k (a ∷ rest))
within_first rest s mid now a k h (refusing t) r later = later k
within_first rest s mid now a k h (finding xs) r later = later k
within_first rest s mid now a k h (closing mark e es off) r later = later k
within_first rest s mid now a k h (reopening es off) r later = later k
within_first rest s mid now a k h (passing off x) r later = later k
within_first rest s mid now a k h (surveying p t peak) r later = later k
within_first rest s mid now a k h (airing e) r later = later k
within_first rest s mid now a zero h (ticking c e) r later = from_tick rest s now c e h r
within_first rest s mid now a (suc k) h (ticking c e) r later = later k
within_first rest s mid now a k h withdrawing r later = later k

within : (answers : List Told) (s : State) (now : Option Spell) (k : ℕ) → Now s now → Course s answers → Somewhere (spells now answers) (lines_from k answers)
within [] s now k h r = inl refl
within (a ∷ rest) s now k h r =
    let later : (j : ℕ) → Somewhere (spells (after now a) rest) (lines_from j rest) =
    λ j. within rest r.0 (after now a) j (now_after s r.0 now a r.1 h) r.2 in
    among_more (ended now a) (spells (after now a) rest) (spells now (a ∷ rest)) (lines_from k (a ∷ rest)) (spells_step now a rest)
    (within_first rest s r.0 now a k h r.1 r.2 later)

-- whoever tunes in at a tick is fed what a spell sent from some slot on
pub fed_within : (M : Meaning) (m n mark : ℕ) (answers : List Told) → Course (fresh M m n mark) answers → (k : ℕ) → Somewhere (spells None answers) (lines_from k answers)
fed_within M m n mark answers r k = within answers (fresh M m n mark) None k refl r
