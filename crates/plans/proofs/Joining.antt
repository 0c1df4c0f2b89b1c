-- One cycle more in a period.
use Rattle.std.proofs.Common.{ℕ, ◌<◌, List, [], ◌∷◌, ◌++◌, Some, None, Option, arith}
use Rattle.numbers.specs.Computed.{lcm_of}
use Rattle.numbers.specs.Divisors.{LeastWithin}
use Rattle.numbers.proofs.All.{lcm_all_push, lcm_of_is}
use Rattle.numbers.proofs.Common.{lcm_positive, lcm_above}
use Rattle.plans.specs.Periods.{PeriodOf, longest_period}

pub join_some : (xs : List ℕ) (l x : ℕ) (r : Option ℕ) → 0 < x → PeriodOf xs (Some l) → LeastWithin l x longest_period r → PeriodOf (xs ++ (x ∷ [])) r
join_some xs l x None p h i = (i.0, lcm_all_push xs x l i.0 h.0 i.1, i.2)
join_some xs l x (Some l') p h i = (lcm_all_push xs x l l' h.0 i.0, i.1, lcm_positive l x l' h.2 p i.0)

-- what is too long stays so
pub join_none : (xs : List ℕ) (x : ℕ) → 0 < x → PeriodOf xs None → PeriodOf (xs ++ (x ∷ [])) None
join_none xs x p h =
    let l : ℕ = h.0 in
    let above = lcm_above l x (lcm_of l x) (omega (arith, h.2)) p (lcm_of_is l x) in
    (lcm_of l x, lcm_all_push xs x l (lcm_of l x) h.1 (lcm_of_is l x), omega (arith, above.0, h.2))
