-- The period that some cycles have together, one after the other.
use Rattle.std.proofs.Common.{ℕ, suc, ◌+◌, ◌<◌, ◌≤◌, List, [], ◌∷◌, ◌++◌, length, get_or, take, drop, Some, None, Option, sym, subst, arith}
use Rattle.std.proofs.lemmas.List.Elements.{All-get_or}
use Rattle.std.proofs.lemmas.List.{take_all, take-append-drop, take_more}
use Rattle.numbers.specs.Computed.{lcm_of_all}
use Rattle.numbers.specs.Divisors.{LeastCommonMultipleOfAll}
use Rattle.numbers.proofs.All.{AllPositive, lcm_all_unique, lcm_all_grows, lcm_all_positive, lcm_of_all_is}
use Rattle.plans.specs.Periods.{PeriodOf, longest_period}
use Rattle.nodes.specs.Finding.{AllPeriods, Within}

-- what a number has to be to be a period
abbrev pub IsPeriod : ℕ → Type 0
IsPeriod p = (0 < p) × (p ≤ longest_period)

pub all_positive : (xs : List ℕ) → AllPeriods xs → AllPositive xs
all_positive [] h = tt
all_positive (x ∷ xs) h = ((h 0 0 (omega arith)).0, all_positive xs (λ k d low. h (suc k) d (omega arith)))

pub lcm_positive_of : (xs : List ℕ) → AllPeriods xs → 0 < lcm_of_all xs
lcm_positive_of xs h = lcm_all_positive xs _ (all_positive xs h) (lcm_of_all_is xs)

-- the period that the code has is the computed one
within_some : (xs : List ℕ) (l : ℕ) → PeriodOf xs (Some l) → Within (lcm_of_all xs) (Some l)
within_some xs l h = (lcm_all_unique xs l _ h.0 (lcm_of_all_is xs), h.1, h.2)

pub within_all : (xs : List ℕ) (i l : ℕ) → length xs ≤ i → PeriodOf (take i xs) (Some l) → Within (lcm_of_all xs) (Some l)
within_all xs i l end h =
    within_some xs l (subst (λ (ys : List ℕ). PeriodOf ys (Some l)) (take_all i xs end) h)

-- what is too long for some of the cycles is too long for all
pub within_none : (xs : List ℕ) (i : ℕ) → AllPeriods xs → PeriodOf (take i xs) None → longest_period < lcm_of_all xs
within_none xs i p h =
    let whole = subst (λ (ys : List ℕ). LeastCommonMultipleOfAll ys (lcm_of_all xs)) (sym (take-append-drop i xs)) (lcm_of_all_is xs) in
    let grows = lcm_all_grows (take i xs) (drop i xs) h.0 (lcm_of_all xs) h.1 whole (lcm_positive_of xs p) in
    omega (arith, grows, h.2)

-- one cycle more
module _ (xs : List ℕ) (i l : ℕ) (r : Option ℕ) (inside : i < length xs) (all : AllPeriods xs) where
  pub period_next : ((ys : List ℕ) → 0 < get_or xs i 0 → PeriodOf ys (Some l) → PeriodOf (ys ++ (get_or xs i 0 ∷ [])) r) → PeriodOf (take i xs) (Some l) → PeriodOf (take (i + 1) xs) r
  period_next joins h = rw (take_more xs i 0 inside) (joins (take i xs) (All-get_or IsPeriod xs i 0 inside all).0 h)
