-- Where nobody starves, the lines of what is sent serve every receiver.
use Rattle.std.proofs.Common.{◌≡◌, ℕ, zero, suc, ◌+◌, ◌<◌, ◌≤◌, true, false, List, map, sym, ap, ◌∙◌, ⊎_elim, arith}
use Rattle.std.specs.List.{range_with_len}
use Rattle.std.proofs.lemmas.Bool.{cases_Bool, cases_eq, eq-eqb, or_left, or_right, or_parts, both_ways}
use Rattle.timetable.specs.Meaning.{Meaning}
use Rattle.timetable.specs.Closed.{line}
use Rattle.timetable.specs.Windows.{Comes, Sound}
use Rattle.receiver.specs.Stores.{member}
use Rattle.feeding.specs.Laws.{came}

-- a page that comes in a slot is on its line
member_map : (f : ℕ → ℕ) (a n k p : ℕ) → a ≤ k → k < a + n → f k ≡ p → member p (map f (range_with_len a n)) ≡ true
member_map f a zero k p lo hi e = absurd (omega arith)
member_map f a (suc n) k p lo hi e = ⊎_elim
    (λ (same : k ≡ a). or_left _ _ (eq-eqb p (f a) (sym e ∙ ap f same)))
    (λ (ne : k ≡ a → ⊥). or_right _ _ (member_map f (a + 1) n k p (omega arith) (omega arith) e))
    (cases_eq k a)

pub comes_on_line : (X : Meaning) (p u : ℕ) → Comes X p u → member p (line X u) ≡ true
comes_on_line X p u c = member_map (λ k. X.page k u) 1 X.channels c.0 p c.1 (omega (arith, c.2)) c.3

-- a page that did not come in some slots is on none of their lines
came_not : (L : ℕ → List ℕ) (p t a : ℕ) → came L p t a ≡ false → (u : ℕ) → t ≤ u → u < t + a → member p (L u) ≡ false
came_not L p t zero e u lo hi = absurd (omega arith)
came_not L p t (suc a) e u lo hi =
    let parts = or_parts (came L p t a) (member p (L (t + a))) e in
    ⊎_elim
    (λ (same : u ≡ t + a). ap (λ x. member p (L x)) same ∙ parts.1)
    (λ (ne : u ≡ t + a → ⊥). came_not L p t a parts.0 u lo (omega arith))
    (cases_eq u (t + a))

-- every page comes before it is due, from every tune-in
pub sound_serves : (X : Meaning) (m n : ℕ) → Sound X m n → (t i : ℕ) → i < n → came (line X) (i + 1) t (m + i) ≡ true
sound_serves X m n ok t i l = ⊎_elim
    (λ yes'. yes')
    (λ no'. absurd (ok.none_starving (
      i + 1,
      t,
      omega arith,
      omega arith,
      λ u lo hi c.
          both_ways _ (came_not (line X) (i + 1) t (m + i) no' u lo (omega arith)) (comes_on_line X (i + 1) u c),
    )))
    (cases_Bool (came (line X) (i + 1) t (m + i)))
