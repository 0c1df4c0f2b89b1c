-- What a timetable carries that is given by one period.
use Rattle.std.proofs.Common.{◌≡◌, ℕ, zero, suc, ◌%◌, ◌^◌, ◌<◌, ◌≤◌, eqb, ltb, refl, mod-eq_of_lt, arith, le-ltb, ne_eqb}
use native.Mathlib.Nat.{mod-le}
use Rattle.std.proofs.lemmas.Bool.{cond_both, eqb-false, ltb-false}
use Rattle.timetable.specs.Meaning.{page_of}

-- on a channel of it, the page of that place in the period
pub page_of_at : (c p : ℕ) (F : ℕ → ℕ → ℕ) (k t : ℕ) → 0 < p → 1 ≤ k → k ≤ c → F k (t % p) < 2 ^ 16 → page_of c p F k t ≡ F k (t % p)
page_of_at c p F k t some low high small =
    rw (ne_eqb p 0 (λ e. omega arith), ne_eqb k 0 (λ e. omega arith), le-ltb c k high) (mod-eq_of_lt small)

-- no page is above n if none of a period is
pub page_of_below : (c p : ℕ) (F : ℕ → ℕ → ℕ) (n k t : ℕ) → (0 < p → 1 ≤ k → k ≤ c → F k (t % p) ≤ n) → page_of c p F k t ≤ n
page_of_below c p F n k t h =
    cond_both (eqb p 0) _ _ (λ x. x ≤ n) (λ _. omega arith) (λ a.
    cond_both (eqb k 0) _ _ (λ x. x ≤ n) (λ _. omega arith) (λ b.
    cond_both (ltb c k) _ _ (λ x. x ≤ n) (λ _. omega arith) (λ d.
    let bound : F k (t % p) ≤ n = h (positive p (eqb-false p 0 a)) (positive k (eqb-false k 0 b)) (ltb-false c k d) in
    omega (arith, bound, mod-le (F k (t % p)) (2 ^ 16)))))
  where
    positive : (x : ℕ) → (x ≡ 0 → ⊥) → 0 < x
    positive zero e = absurd (e refl)
    positive (suc x) e = omega arith
