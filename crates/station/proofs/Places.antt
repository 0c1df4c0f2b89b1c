-- Finding and taking out a closed entry.
use Rattle.std.proofs.Common.{◌≡◌, ℕ, suc, ◌+◌, ◌<◌, ◌≤◌, Bool, true, false, List, [], ◌∷◌, length, Some, None, Option, refl, sym, ap, ◌∙◌, subst, ⊎_elim, arith}
use Rattle.std.specs.List.{position, position_or_len, remove}
use Rattle.std.proofs.lemmas.Bool.{cases_lt, cond-true, cond-false, lt-ltb, le-ltb}
use Rattle.records.specs.declared.kinds.Closure.{Closure}
use Rattle.timetable.specs.Closed.{closed_in}
use Rattle.station.specs.Tables.{is_entry, without}

-- the first place of the entry, or the end of the list
abbrev place : List Closure → ℕ → ℕ → ℕ
place es k s = position_or_len (is_entry k s) es

-- what is taken out there
abbrev TakenOut : List Closure → ℕ → ℕ → Type 0
TakenOut es k s = (closed_in es k s ≡ true) × (remove es (place es k s) ≡ without es k s)

taken_more : (e : Closure) (es : List Closure) (k s : ℕ) (b : Bool) → is_entry k s e ≡ b → (place es k s < length es → TakenOut es k s) → place (e ∷ es) k s < suc (length es) → TakenOut (e ∷ es) k s
taken_more e es k s true h later low = rw h (refl, refl)
taken_more e es k s false h later low =
    let t = later (omega (arith, rw h at low)) in
    let next : suc (place es k s) ≡ 1 + place es k s = omega arith in
    rw h (t.0, subst (λ i. remove (e ∷ es) i ≡ e ∷ without es k s) next (ap (λ fs. e ∷ fs) t.1))

taken_out : (es : List Closure) (k s : ℕ) → place es k s < length es → TakenOut es k s
taken_out [] k s low = absurd (omega arith)
taken_out (e ∷ es) k s low = taken_more e es k s (is_entry k s e) refl (taken_out es k s) low

-- where the entry is not closed, nothing is left out
abbrev LeftAlone : List Closure → ℕ → ℕ → Type 0
LeftAlone es k s = (closed_in es k s ≡ false) × (es ≡ without es k s)

left_more : (e : Closure) (es : List Closure) (k s : ℕ) (b : Bool) → is_entry k s e ≡ b → (length es ≤ place es k s → LeftAlone es k s) → suc (length es) ≤ place (e ∷ es) k s → LeftAlone (e ∷ es) k s
left_more e es k s true h later high = absurd (omega (arith, rw h at high))
left_more e es k s false h later high =
    let t = later (omega (arith, rw h at high)) in
    rw h (t.0, ap (λ fs. e ∷ fs) t.1)

left_alone : (es : List Closure) (k s : ℕ) → length es ≤ place es k s → LeftAlone es k s
left_alone [] k s high = (refl, refl)
left_alone (e ∷ es) k s high = left_more e es k s (is_entry k s e) refl (left_alone es k s) high

-- an entry that stands at a place
pub at_place : (es : List Closure) (k s i : ℕ) → position (is_entry k s) es ≡ Some i → (closed_in es k s ≡ true) × (remove es i ≡ without es k s)
at_place es k s i h = ⊎_elim
    (λ low.
    let found : Some (place es k s) ≡ Some i = sym (cond-true _ _ _ (lt-ltb (place es k s) (length es) low)) ∙ h in
    let same : place es k s ≡ i = cc in
    let t = taken_out es k s low in
    (t.0, ap (λ j. remove es j) (sym same) ∙ t.1))
    (λ high.
    let none : ◌≡◌ {A = Option ℕ} None (Some i) = sym (cond-false _ _ _ (le-ltb (place es k s) (length es) high)) ∙ h in
    let z : ◌≡◌ {A = ℕ} 0 1 = cc in absurd (omega arith))
    (cases_lt (place es k s) (length es))

-- an entry that stands at none
pub at_no_place : (es : List Closure) (k s : ℕ) → position (is_entry k s) es ≡ None → LeftAlone es k s
at_no_place es k s h = ⊎_elim
    (λ low.
    let some : ◌≡◌ {A = Option ℕ} (Some (place es k s)) None = sym (cond-true _ _ _ (lt-ltb (place es k s) (length es) low)) ∙ h in
    let z : ◌≡◌ {A = ℕ} 0 1 = cc in absurd (omega arith))
    (λ high. left_alone es k s high)
    (cases_lt (place es k s) (length es))
