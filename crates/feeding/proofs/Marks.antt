-- What a store holds, place by place, while a film is fed.
use Rattle.std.proofs.Common.{◌≡◌, ℕ, zero, suc, ◌+◌, ◌-◌, ◌<◌, ◌≤◌, Bool, true, false, ◌||◌, eqb, ltb, ◌≢◌, List, length, get_or, set, sym, refl, ap, ◌∙◌, ⊎_elim, arith, get_or-set_other, get_or-set_same}
use Rattle.std.proofs.lemmas.Bool.{cases_eq, cases_lt, ltb-true, lt-ltb, le-ltb, or_left}
use Rattle.receiver.specs.Count.{count}
use Rattle.receiver.specs.Stores.{member, taken, held}
use Rattle.receiver.proofs.Counts.{count_same, count_or, count_below}
use Rattle.receiver.proofs.Stores.{getD_taken, marked}
use Rattle.feeding.specs.Laws.{came, arrived}

-- a byte by whether its page was shown, and whether it came
abbrev pub mark : Bool → Bool → ℕ
mark true b = 2
mark false true = 1
mark false false = 0

marked_mark : (a b x : Bool) → marked (mark a b) x ≡ mark a (b || x)
marked_mark true b x = refl
marked_mark false true x = refl
marked_mark false false true = refl
marked_mark false false false = refl

-- j slots from t on were taken in, and s pages shown
abbrev pub Marked : (ℕ → List ℕ) → ℕ → ℕ → ℕ → ℕ → List ℕ → Type 0
Marked L n t j s store = (i : ℕ) → i < n → get_or store i 0 ≡ mark (ltb i s) (came L (i + 1) t j)

pub marked_line : (L : ℕ → List ℕ) (n t j s : ℕ) (store : List ℕ) → n ≤ length store → Marked L n t j s store → Marked L n t (suc j) s (taken n store (L (t + j)))
marked_line L n t j s store room h i l =
    getD_taken n store (L (t + j)) i room l ∙ ap (λ b. marked b (member (i + 1) (L (t + j)))) (h i l) ∙ marked_mark (ltb i s) (came L (i + 1) t j) (member (i + 1) (L (t + j)))

pub marked_show : (L : ℕ → List ℕ) (n t j s : ℕ) (store : List ℕ) → n ≤ length store → s < n → Marked L n t j s store → Marked L n t j (s + 1) (set store s 2)
marked_show L n t j s store room sn h i l = ⊎_elim
    (λ e. ap (λ x. get_or (set store s 2) x 0) e ∙ get_or-set_same store s 2 0 (omega arith) ∙ ap (λ b. mark b (came L (i + 1) t j)) (sym (lt-ltb i (s + 1) (omega arith))))
    (λ ne. get_or-set_other store s i 2 0 ne ∙ h i l ∙ ap (λ b. mark b (came L (i + 1) t j)) (same ne))
    (cases_eq i s)
  where
    same : i ≢ s → ltb i s ≡ ltb i (s + 1)
    same ne = ⊎_elim (λ a. lt-ltb i s a ∙ sym (lt-ltb i (s + 1) (omega arith))) (λ b. le-ltb i s b ∙ sym (le-ltb i (s + 1) (omega arith))) (cases_lt i s)

pub came_more : (L : ℕ → List ℕ) (p t a d : ℕ) → came L p t a ≡ true → came L p t (a + d) ≡ true
came_more L p t a zero h = let e : a + zero ≡ a = omega arith in ap (λ x. came L p t x) e ∙ h
came_more L p t a (suc d) h = let e : a + suc d ≡ suc (a + d) = omega arith in ap (λ x. came L p t x) e ∙ or_left _ _ (came_more L p t a d h)

pub came_by : (L : ℕ → List ℕ) (p t a b : ℕ) → a ≤ b → came L p t a ≡ true → came L p t b ≡ true
came_by L p t a b l h = let e : a + (b - a) ≡ b = omega arith in ap (λ x. came L p t x) (sym e) ∙ came_more L p t a (b - a) h

apart : (a b : Bool) → (a ≡ true → b ≡ true) → b ≡ (a || eqb (mark a b) 1)
apart true b h = h refl
apart false true h = refl
apart false false h = refl

exclusive : (a b : Bool) → a ≡ true → eqb (mark a b) 1 ≡ false
exclusive a b h = ap (λ x. eqb (mark x b) 1) h

-- what is held is what came less what was shown
pub held_marked : (L : ℕ → List ℕ) (n t j s : ℕ) (store : List ℕ) → s ≤ n → ((i : ℕ) → i < s → came L (i + 1) t j ≡ true) → Marked L n t j s store → held n store ≡ arrived L n t j - s
held_marked L n t j s store le shown h =
    let a : held n store ≡ count n (λ i. eqb (mark (ltb i s) (came L (i + 1) t j)) 1) = count_same n _ _ (λ i l. ap (λ b. eqb b 1) (h i l)) in
    let b : arrived L n t j ≡ count n (λ i. ltb i s || eqb (mark (ltb i s) (came L (i + 1) t j)) 1) =
    count_same n _ _ (λ i l. apart (ltb i s) (came L (i + 1) t j) (λ e. shown i (ltb-true i s e))) in
    let d : count n (λ i. ltb i s || eqb (mark (ltb i s) (came L (i + 1) t j)) 1) ≡ count n (λ i. ltb i s) + count n (λ i. eqb (mark (ltb i s) (came L (i + 1) t j)) 1) =
    count_or n _ _ (λ i l e. exclusive (ltb i s) (came L (i + 1) t j) e) in
    let f : count n (λ i. ltb i s) ≡ s = count_below n s le in
    omega arith
