-- How many numbers pass a test.
use Rattle.std.proofs.Common.{◌≡◌, ℕ, zero, suc, ◌+◌, ◌<◌, ◌≤◌, Bool, true, false, ◌||◌, ltb, List, length, get_or, take, ◌≢◌, sym, refl, ap, ◌∙◌, subst, ⊎_elim, arith}
use Rattle.std.proofs.lemmas.Bool.{cases_eq, cases_lt, lt-ltb, le-ltb}
use Rattle.std.specs.List.{count_by}
use Rattle.std.proofs.lemmas.List.{take_all}
use Rattle.std.proofs.lemmas.List.Sums.{count_by_more_yes, count_by_more_no}
use Rattle.receiver.specs.Count.{count, bit}

pub bit_le : (b : Bool) → bit b ≤ 1
bit_le true = omega arith
bit_le false = omega arith

bit_mono : (b d : Bool) → (b ≡ true → d ≡ true) → bit b ≤ bit d
bit_mono true d h = subst (λ x. 1 ≤ bit x) (sym (h refl)) (omega arith)
bit_mono false true h = omega arith
bit_mono false false h = omega arith

bit_or : (b d : Bool) → (b ≡ true → d ≡ false) → bit (b || d) ≡ bit b + bit d
bit_or true d h = subst (λ x. 1 ≡ 1 + bit x) (sym (h refl)) refl
bit_or false true h = refl
bit_or false false h = refl

pub count_same : (n : ℕ) (p q : ℕ → Bool) → ((j : ℕ) → j < n → p j ≡ q j) → count n p ≡ count n q
count_same zero p q h = refl
count_same (suc n) p q h =
    let a = count_same n p q (λ j l. h j (omega arith)) in
    let b = ap bit (h n (omega arith)) in
    omega arith

pub count_le : (n : ℕ) (p : ℕ → Bool) → count n p ≤ n
count_le zero p = omega arith
count_le (suc n) p = let a = count_le n p in let b = bit_le (p n) in omega arith

pub count_mono : (n : ℕ) (p q : ℕ → Bool) → ((j : ℕ) → j < n → p j ≡ true → q j ≡ true) → count n p ≤ count n q
count_mono zero p q h = omega arith
count_mono (suc n) p q h =
    let a = count_mono n p q (λ j l e. h j (omega arith) e) in
    let b = bit_mono (p n) (q n) (h n (omega arith)) in
    omega arith

-- two tests that never both pass
pub count_or : (n : ℕ) (p q : ℕ → Bool) → ((j : ℕ) → j < n → p j ≡ true → q j ≡ false) → count n (λ j. p j || q j) ≡ count n p + count n q
count_or zero p q h = refl
count_or (suc n) p q h =
    let a = count_or n p q (λ j l e. h j (omega arith) e) in
    let b = bit_or (p n) (q n) (h n (omega arith)) in
    omega arith

-- a test that passes one number more
pub count_one : (n k : ℕ) (p q : ℕ → Bool) → k < n → p k ≡ false → q k ≡ true → ((j : ℕ) → j < n → j ≢ k → p j ≡ q j) → count n q ≡ count n p + 1
count_one zero k p q l off on h = absurd (omega arith)
count_one (suc n) k p q l off on h = ⊎_elim
    (λ e.
    let a = count_same n p q (λ j l'. h j (omega arith) (omega arith)) in
    let b : bit (p n) ≡ 0 = subst (λ x. bit (p x) ≡ 0) e (ap bit off) in
    let d : bit (q n) ≡ 1 = subst (λ x. bit (q x) ≡ 1) e (ap bit on) in
    omega arith)
    (λ ne.
    let a = count_one n k p q (omega arith) off on (λ j l' x. h j (omega arith) x) in
    let b = ap bit (h n (omega arith) (λ e. ne (sym e))) in
    omega arith)
    (cases_eq k n)

-- the numbers below k
pub count_below : (n k : ℕ) → k ≤ n → count n (λ j. ltb j k) ≡ k
count_below zero k l = omega arith
count_below (suc n) k l = ⊎_elim
    (λ lt. let a = count_below n k (omega arith) in let b : bit (ltb n k) ≡ 0 = ap bit (le-ltb n k (omega arith)) in omega arith)
    (λ ge.
    let e : k ≡ suc n = omega arith in
    let a = count_same n (λ j. ltb j k) (λ j. ltb j n) (λ j l'. lt-ltb j k (omega arith) ∙ sym (lt-ltb j n l')) in
    let b = count_below n n (omega arith) in
    let d : bit (ltb n k) ≡ 1 = ap bit (lt-ltb n k (omega arith)) in
    omega arith)
    (cases_lt k (suc n))

pub count_none : (n : ℕ) (p : ℕ → Bool) → ((j : ℕ) → j < n → p j ≡ false) → count n p ≡ 0
count_none zero p h = refl
count_none (suc n) p h =
    let a : count n p ≡ 0 = count_none n p (λ j l. h j (omega arith)) in
    let b : bit (p n) ≡ 0 = ap bit (h n (omega arith)) in
    omega arith

pub count_more : (n : ℕ) (p : ℕ → Bool) → count (n + 1) p ≡ count n p + bit (p n)
count_more n p = let e : n + 1 ≡ suc n = omega arith in ap (λ x. count x p) e

-- the numbers of a list that pass a test, counted by their places
count_upto : (p : ℕ → Bool) (xs : List ℕ) (n : ℕ) → n ≤ length xs → count n (λ j. p (get_or xs j 0)) ≡ count_by p (take n xs)
count_upto p xs zero l = refl
count_upto p xs (suc n) l =
    let before = count_upto p xs n (omega arith) in
    let more : (b : Bool) → p (get_or xs n 0) ≡ b → count n (λ j. p (get_or xs j 0)) + bit b ≡ count_by p (take (n + 1) xs) = λ b. elim b as (λ b. p (get_or xs n 0) ≡ b → count n (λ j. p (get_or xs j 0)) + bit b ≡ count_by p (take (n + 1) xs)) [
      | true ↦ λ e. let more = count_by_more_yes p xs n 0 (omega arith) e in omega arith
      | false ↦ λ e. let more = count_by_more_no p xs n 0 (omega arith) e in omega arith
    ] in
    let e : n + 1 ≡ suc n = omega arith in
    subst (λ x. count n (λ j. p (get_or xs j 0)) + bit (p (get_or xs n 0)) ≡ count_by p (take x xs)) e (more (p (get_or xs n 0)) refl)

pub count_all : (p : ℕ → Bool) (xs : List ℕ) → count (length xs) (λ j. p (get_or xs j 0)) ≡ count_by p xs
count_all p xs = count_upto p xs (length xs) (omega arith) ∙ ap (λ ys. count_by p ys) (take_all (length xs) xs (omega arith))
