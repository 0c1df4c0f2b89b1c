-- Findings that are taken out of a bag in order are the findings in their order.
use Rattle.std.proofs.Common.{◌≡◌, ℕ, zero, suc, ◌<◌, ◌≤◌, false, cond, eqb, ltb, ◌⊎◌, List, [], ◌∷◌, All, Contains, sum_by, sym, refl, ap, ◌∙◌, inl, inr, ⊎_elim, arith}
use Rattle.std.specs.List.Sorted.{IsPermutation}
use Rattle.std.proofs.lemmas.List.Elements.{All-nil, All-cons, All-head, All-tail, All-contains, All-contains_itself, All-weaker}
use Rattle.std.proofs.lemmas.List.Sorted.{All-permutation, sum_by-IsPermutation}
use Rattle.std.proofs.lemmas.List.Sums.{sum_by-cons}
use Rattle.std.proofs.lemmas.Bool.{cond-true, cond-false, eq-eqb, ne_eqb, ltb-false, or_parts}
use Rattle.bag.specs.Draining.{InOrder}
use Rattle.bag.specs.Findings.{lower}
use Rattle.bag.specs.declared.finding.Finding.{Finding}
use Rattle.checker.specs.Findings.{Ascending}

-- how many findings are of page p
abbrev on_page : ℕ → Finding → ℕ
on_page p f = cond (eqb f.page p) 1 0

abbrev many : ℕ → List Finding → ℕ
many p fs = sum_by (on_page p) fs

none_of : (p : ℕ) (fs : List Finding) → All (λ f. p < f.page) fs → many p fs ≡ 0
none_of p [] h = refl
none_of p (f ∷ fs) h =
    let other : on_page p f ≡ 0 = cond-false (eqb f.page p) 1 0 (ne_eqb f.page p (λ e. omega (arith, All-head (λ g. p < g.page) f fs h))) in
    let rest = none_of p fs (All-tail (λ g. p < g.page) f fs h) in
    omega (arith, sum_by-cons (on_page p) f fs)

no_page : (p : ℕ) (fs : List Finding) → many p fs ≡ 0 → All (λ f. f.page ≡ p → ⊥) fs
no_page p [] h = All-nil (λ g. g.page ≡ p → ⊥)
no_page p (f ∷ fs) h =
    All-cons (λ g. g.page ≡ p → ⊥) f fs
    (λ e. let one : on_page p f ≡ 1 = cond-true (eqb f.page p) 1 0 (eq-eqb f.page p e) in omega (arith, sum_by-cons (on_page p) f fs))
    (no_page p fs (omega (arith, sum_by-cons (on_page p) f fs)))

has_cases : (f : Finding) (fs : List Finding) (g : Finding) → Contains (f ∷ fs) g → (f ≡ g) ⊎ Contains fs g
has_cases f fs g (zero, low, here) = inl here
has_cases f fs g (suc k, low, here) = inr (k, omega arith, here)

-- the first finding is not among these
others : (f : Finding) (fs gs : List Finding) → All (λ g. g.page ≡ f.page → ⊥) gs → All (Contains (f ∷ fs)) gs → All (Contains fs) gs
others f fs [] none all = All-nil (Contains fs)
others f fs (g ∷ gs) none all =
    let other : Finding → Type 0 = λ h. h.page ≡ f.page → ⊥ in
    All-cons (Contains fs) g gs
    (⊎_elim (λ e. absurd (All-head other g gs none (ap (λ (x : Finding). x.page) (sym e)))) (λ h. h) (has_cases f fs g (All-head (Contains (f ∷ fs)) g gs all)))
    (others f fs gs (All-tail other g gs none) (All-tail (Contains (f ∷ fs)) g gs all))

-- none of these comes before a finding, so none has a lower page
not_lower : (w : ℕ) (f : Finding) (fs : List Finding) → All (λ g. lower w g f ≡ false) fs → All (λ g. f.page ≤ g.page) fs
not_lower w f fs h = All-weaker (λ g. lower w g f ≡ false) (λ g. f.page ≤ g.page) (λ g e. ltb-false g.page f.page (or_parts (ltb g.page f.page) _ e).0) fs h

sorted_same : (w : ℕ) (xs vs : List Finding) → Ascending xs → InOrder (lower w) vs → All (Contains xs) vs → ((p : ℕ) → many p vs ≡ many p xs) → vs ≡ xs
sorted_same w [] [] up order has count = refl
sorted_same w [] (v ∷ vs) up order has count = absurd (omega (arith, (All-head (Contains []) v vs has).1))
sorted_same w (x ∷ xs) [] up order has count =
    let one : on_page x.page x ≡ 1 = cond-true (eqb x.page x.page) 1 0 (eq-eqb x.page x.page refl) in
    absurd (omega (arith, count x.page, sum_by-cons (on_page x.page) x xs))
sorted_same w (x ∷ xs) (v ∷ vs) up order has count =
    let one : on_page x.page x ≡ 1 = cond-true (eqb x.page x.page) 1 0 (eq-eqb x.page x.page refl) in
    let same : x ≡ v = ⊎_elim (λ e. e)
    (λ later. let high : x.page < v.page = All-contains (λ g. x.page < g.page) xs v up.0 later in
    let none_here : on_page x.page v ≡ 0 = cond-false (eqb v.page x.page) 1 0 (ne_eqb v.page x.page (λ e. omega arith)) in
    let none-later = none_of x.page vs (All-weaker (λ g. v.page ≤ g.page) (λ g. x.page < g.page) (λ g le. omega arith) vs (not_lower w v vs order.0)) in
    absurd (omega (arith, count x.page, sum_by-cons (on_page x.page) x xs, sum_by-cons (on_page x.page) v vs)))
    (has_cases x xs v (All-head (Contains (x ∷ xs)) v vs has)) in
    let rest : (p : ℕ) → many p vs ≡ many p xs = λ p. omega (arith, count p, ap (on_page p) same, sum_by-cons (on_page p) x xs, sum_by-cons (on_page p) v vs) in
    let none : many x.page vs ≡ 0 = rest x.page ∙ none_of x.page xs up.0 in
    let tail = sorted_same w xs vs up.1 order.1 (others x xs vs (no_page x.page vs none) (All-tail (Contains (x ∷ xs)) v vs has)) rest in
    cc

pub taken_in_order : (w : ℕ) (xs hs vs : List Finding) → Ascending xs → IsPermutation xs hs → IsPermutation hs vs → InOrder (lower w) vs → vs ≡ xs
taken_in_order w xs hs vs up a b order =
    sorted_same w xs vs up order (All-permutation (Contains xs) hs vs b (All-permutation (Contains xs) xs hs a (All-contains_itself xs)))
    (λ p. sum_by-IsPermutation (on_page p) hs vs b ∙ sum_by-IsPermutation (on_page p) xs hs a)
