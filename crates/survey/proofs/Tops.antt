-- The greatest of some numbers, and the arrivals up to a slot.
use Rattle.std.proofs.Common.{◌≡◌, ℕ, zero, suc, ◌+◌, ◌-◌, ◌<◌, ◌≤◌, max, ◌||◌, eqb, leb, List, get_or, sym, refl, ap, ◌∙◌, ⊎_elim, arith}
use Rattle.std.proofs.lemmas.Bool.{cases_eq, cases_lt, le-leb, lt-leb, eq-eqb, ne_eqb, leb-true}
use Rattle.std.proofs.lemmas.Bool.Decides.{nat_tests}
use Rattle.receiver.specs.Count.{count}
use Rattle.receiver.proofs.Counts.{count_same, count_or}
use Rattle.feeding.specs.Laws.{top}
use Rattle.survey.specs.Cells.{total}

pub top_step : (S : ℕ → ℕ) (s n b : ℕ) → s < n → top S s (n - s) b ≡ top S (s + 1) (n - (s + 1)) (max b (S s))
top_step S s n b l =
    let e : n - s ≡ suc (n - (s + 1)) = omega arith in
    let f : suc s ≡ s + 1 = omega arith in
    ap (λ k. top S s k b) e ∙ ap (λ x. top S x (n - (s + 1)) (max b (S s))) f

pub top_end : (S : ℕ → ℕ) (s n b : ℕ) → n ≤ s → top S s (n - s) b ≡ b
top_end S s n b l = let e : n - s ≡ 0 = omega arith in ap (λ k. top S s k b) e

pub top_same : (S R : ℕ → ℕ) (j k b : ℕ) → ((i : ℕ) → j ≤ i → i < j + k → S i ≡ R i) → top S j k b ≡ top R j k b
top_same S R j zero b h = refl
top_same S R j (suc k) b h =
    ap (λ x. top S (suc j) k (max b x)) (h j (omega arith) (omega arith)) ∙ top_same S R (suc j) k (max b (R j)) (λ i x y. h i (omega arith) (omega arith))

pub top_split : (S : ℕ → ℕ) (j a k b : ℕ) → top S j (a + k) b ≡ top S (j + a) k (top S j a b)
top_split S j zero k b = let e : zero + k ≡ k = omega arith in let f : j ≡ j + zero = omega arith in ap (λ x. top S j x b) e ∙ ap (λ x. top S x k b) f
top_split S j (suc a) k b =
    let e : suc a + k ≡ suc (a + k) = omega arith in
    let f : suc j + a ≡ j + suc a = omega arith in
    ap (λ x. top S j x b) e ∙ top_split S (suc j) a k (max b (S j)) ∙ ap (λ x. top S x k (top S (suc j) a (max b (S j)))) f

pub top_low : (S : ℕ → ℕ) (j k b x : ℕ) → b ≤ x → ((i : ℕ) → j ≤ i → i < j + k → S i ≤ x) → top S j k b ≤ x
top_low S j zero b x l h = l
top_low S j (suc k) b x l h =
    let here = h j (omega arith) (omega arith) in
    top_low S (suc j) k (max b (S j)) x (omega arith) (λ i p q. h i (omega arith) (omega arith))

pub top_start : (S : ℕ → ℕ) (j k b : ℕ) → 1 ≤ k → b ≤ S j → top S j k b ≡ top S j k 0
top_start S j zero b l h = absurd (omega arith)
top_start S j (suc k) b l h = let e : max b (S j) ≡ max 0 (S j) = omega arith in ap (λ x. top S (suc j) k x) e

pub top_shift : (S : ℕ → ℕ) (m j k b : ℕ) → top S (m + j) k b ≡ top (λ s. S (m + s)) j k b
top_shift S m j zero b = refl
top_shift S m j (suc k) b =
    let e : suc (m + j) ≡ m + suc j = omega arith in
    ap (λ x. top S x k (max b (S (m + j)))) e ∙ top_shift S m (suc j) k (max b (S (m + j)))

leb_more : (d s : ℕ) → leb d (suc s) ≡ (leb d s || eqb d (suc s))
leb_more d s = ⊎_elim
    (λ lt. le-leb d (suc s) (omega arith) ∙ sym (ap (λ b. b || eqb d (suc s)) (le-leb d s (omega arith))))
    (λ ge. ⊎_elim
    (λ e. le-leb d (suc s) (omega arith) ∙ sym (ap (λ b. b || eqb d (suc s)) (lt-leb d s (omega arith)) ∙ eq-eqb d (suc s) e))
    (λ ne. lt-leb d (suc s) (omega arith) ∙ sym (ap (λ b. b || eqb d (suc s)) (lt-leb d s (omega arith)) ∙ ne_eqb d (suc s) ne))
    (cases_eq d (suc s)))
    (cases_lt d (suc s))

leb_zero : (d : ℕ) → eqb d 0 ≡ leb d 0
leb_zero d = grind (arith, nat_tests)

-- the arrivals up to slot s are the pages that come by it
pub total_is : (n : ℕ) (xs : List ℕ) (d : ℕ → ℕ) → ((s : ℕ) → s < n → get_or xs s 0 ≡ count n (λ i. eqb (d i) s)) → (s : ℕ) → s < n → total xs (suc s) ≡ count n (λ i. leb (d i) s)
total_is n xs d h zero l =
    let a : get_or xs 0 0 ≡ count n (λ i. eqb (d i) 0) = h 0 l in
    let b : count n (λ i. eqb (d i) 0) ≡ count n (λ i. leb (d i) 0) = count_same n _ _ (λ i l'. leb_zero (d i)) in
    omega arith
total_is n xs d h (suc s) l =
    let a : get_or xs (suc s) 0 ≡ count n (λ i. eqb (d i) (suc s)) = h (suc s) l in
    let rest : total xs (suc s) ≡ count n (λ i. leb (d i) s) = total_is n xs d h s (omega arith) in
    let b : count n (λ i. leb (d i) (suc s)) ≡ count n (λ i. leb (d i) s || eqb (d i) (suc s)) = count_same n _ _ (λ i l'. leb_more (d i) s) in
    let e : count n (λ i. leb (d i) s || eqb (d i) (suc s)) ≡ count n (λ i. leb (d i) s) + count n (λ i. eqb (d i) (suc s)) =
    count_or n (λ i. leb (d i) s) (λ i. eqb (d i) (suc s)) (λ i l' x. ne_eqb (d i) (suc s) (λ y. let z = leb-true (d i) s x in omega arith)) in
    let f : total xs (suc (suc s)) ≡ total xs (suc s) + get_or xs (suc s) 0 = refl in
    omega arith
