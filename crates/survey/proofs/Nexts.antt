-- The next coming of each page, as the slots are noted from the last to the first.
use Rattle.std.proofs.Common.{◌≡◌, ℕ, zero, suc, ◌+◌, ◌-◌, ◌<◌, ◌≤◌, Bool, true, false, cond, ◌&&◌, ◌||◌, eqb, ltb, leb, List, [], ◌∷◌, length, get_or, set, sym, refl, ap, ◌∙◌, subst, ⊎_elim, arith, length-set, get_or-set_other, get_or-set_same}
use Rattle.std.proofs.lemmas.Bool.{cases_eq, cases_lt, lt-ltb, le-ltb, le-leb, eq-eqb, ne_eqb, and_from, and_parts, leb-true, or_right, or_from}
use Rattle.receiver.specs.Stores.{member}
use Rattle.feeding.specs.Laws.{came}
use Rattle.feeding.proofs.Marks.{came_by}
use Rattle.survey.specs.Cells.{Coming, Comings, note_one, noted}

pub length_note : (n u : ℕ) (xs : List ℕ) (p : ℕ) → length (note_one n u xs p) ≡ length xs
length_note n u xs p = elim (leb 1 p && leb p n) as (λ b. length (cond b (set xs (p - 1) u) xs) ≡ length xs) [ true ↦ length-set _ _ _ | false ↦ refl ]

getD_note : (n u : ℕ) (xs : List ℕ) (p i : ℕ) → n ≤ length xs → i < n → get_or (note_one n u xs p) i 0 ≡ cond (eqb (i + 1) p) u (get_or xs i 0)
getD_note n u xs p i room l = ⊎_elim
    (λ e.
    let pi : p - 1 ≡ i = omega arith in
    let film : (leb 1 p && leb p n) ≡ true = and_from _ _ (le-leb 1 p (omega arith)) (le-leb p n (omega arith)) in
    ap (λ b. get_or (cond b (set xs (p - 1) u) xs) i 0) film ∙ ap (λ x. get_or (set xs x u) i 0) pi ∙ get_or-set_same xs i u 0 (omega arith)
    ∙ sym (ap (λ b. cond b u (get_or xs i 0)) (eq-eqb (i + 1) p e)))
    (λ (ne : i + 1 ≡ p → ⊥).
    elim (leb 1 p && leb p n) as (λ b. (leb 1 p && leb p n) ≡ b → get_or (cond b (set xs (p - 1) u) xs) i 0 ≡ get_or xs i 0) [
      | true ↦ λ w. let one = leb-true 1 p (and_parts _ _ w).0 in get_or-set_other xs (p - 1) i u 0 (omega arith)
      | false ↦ λ w. refl
    ] refl
    ∙ sym (ap (λ b. cond b u (get_or xs i 0)) (ne_eqb (i + 1) p ne)))
    (cases_eq (i + 1) p)

cond_twice : (a b : Bool) (u v : ℕ) → cond b u (cond a u v) ≡ cond (a || b) u v
cond_twice true true u v = refl
cond_twice true false u v = refl
cond_twice false true u v = refl
cond_twice false false u v = refl

getD_noted : (n u : ℕ) (xs ps : List ℕ) (i : ℕ) → n ≤ length xs → i < n → get_or (noted n u xs ps) i 0 ≡ cond (member (i + 1) ps) u (get_or xs i 0)
getD_noted n u xs [] i room l = refl
getD_noted n u xs (p ∷ ps) i room l =
    getD_noted n u (note_one n u xs p) ps i (subst (λ x. n ≤ x) (sym (length_note n u xs p)) room) l
    ∙ ap (λ v. cond (member (i + 1) ps) u v) (getD_note n u xs p i room l)
    ∙ cond_twice (eqb (i + 1) p) (member (i + 1) ps) u (get_or xs i 0)

coming_here : (L : ℕ → List ℕ) (p u end : ℕ) → u < end → member p (L u) ≡ true → Coming L p u end u
coming_here L p u end l e = record { ahead = (omega arith, omega arith); quiet = λ u' a b. absurd (omega arith); comes = λ a. e }

coming_past : (L : ℕ → List ℕ) (p T u end v : ℕ) → T ≡ u + 1 → member p (L u) ≡ false → Coming L p T end v → Coming L p u end v
coming_past L p T u end v is e h = record {
  ahead = (omega (arith, h.ahead.0), h.ahead.1);
  quiet = λ u' a b. ⊎_elim (λ same. ap (λ x. member p (L x)) same ∙ e) (λ (ne : u' ≡ u → ⊥). h.quiet u' (omega arith) b) (cases_eq u' u);
  comes = h.comes;
}

coming_none : (L : ℕ → List ℕ) (p end : ℕ) → Coming L p end end end
coming_none L p end = record { ahead = (omega arith, omega arith); quiet = λ u a b. absurd (omega arith); comes = λ a. absurd (omega arith) }

pub comings_none : (L : ℕ → List ℕ) (n end : ℕ) (xs : List ℕ) → ((i : ℕ) → i < n → get_or xs i 0 ≡ end) → Comings L n end end xs
comings_none L n end xs h i l = subst (λ v. Coming L (i + 1) end end v) (sym (h i l)) (coming_none L (i + 1) end)

pub comings_step : (L : ℕ → List ℕ) (n T u end : ℕ) (xs ys : List ℕ) → T ≡ u + 1 → n ≤ length xs → u < end → ys ≡ noted n u xs (L u) → Comings L n T end xs → Comings L n u end ys
comings_step L n T u end xs ys is room low e h i l =
    subst (λ v. Coming L (i + 1) u end v) (sym (ap (λ z. get_or z i 0) e ∙ getD_noted n u xs (L u) i room l))
    (elim (member (i + 1) (L u)) as (λ b. member (i + 1) (L u) ≡ b → Coming L (i + 1) u end (cond b u (get_or xs i 0))) [
      | true ↦ λ w. coming_here L (i + 1) u end low w
      | false ↦ λ w. coming_past L (i + 1) T u end (get_or xs i 0) is w (h i l)
    ] refl)

came_none : (L : ℕ → List ℕ) (p t a : ℕ) → ((u : ℕ) → t ≤ u → u < t + a → member p (L u) ≡ false) → came L p t a ≡ false
came_none L p t zero h = refl
came_none L p t (suc a) h = or_from _ _ (came_none L p t a (λ u x y. h u x (omega arith))) (h (t + a) (omega arith) (omega arith))

came_at : (L : ℕ → List ℕ) (p t v a : ℕ) → t ≤ v → v < t + a → member p (L v) ≡ true → came L p t a ≡ true
came_at L p t v a lo hi e =
    let same : t + (v - t) ≡ v = omega arith in
    came_by L p t (suc (v - t)) a (omega arith) (or_right _ _ (ap (λ x. member p (L x)) same ∙ e))

-- the next coming decides what comes within a slots
pub came_is : (L : ℕ → List ℕ) (p t end v a : ℕ) → t + a ≤ end → Coming L p t end v → came L p t a ≡ ltb v (t + a)
came_is L p t end v a le h = ⊎_elim
    (λ lt. came_at L p t v a h.ahead.0 lt (h.comes (omega arith)) ∙ sym (lt-ltb v (t + a) lt))
    (λ ge. came_none L p t a (λ u x y. h.quiet u x (omega arith)) ∙ sym (le-ltb v (t + a) ge))
    (cases_lt v (t + a))
