-- The period of a plan: the least common multiple of its cycles, at most 65,536.
use Rattle.std.specs.Prelude.{◌≡◌, ℕ, ◌<◌, ◌≤◌, List, Some, None, Option, MatchOption}
use Rattle.numbers.specs.Divisors.{LeastCommonMultipleOfAll, LeastWithin}

abbrev pub longest_period : ℕ
longest_period = 65536

-- the period that the cycles have together, or none where it is too long
abbrev pub PeriodOf : List ℕ → Option ℕ → Type 0
PeriodOf cycles answer =
    MatchOption answer ((l : ℕ) × LeastCommonMultipleOfAll cycles l × (longest_period < l))
    (λ l. LeastCommonMultipleOfAll cycles l × (l ≤ longest_period) × (0 < l))

-- a period so far, unless it is too long, and one more cycle
abbrev pub Joins : Option ℕ → ℕ → Option ℕ → Type 0
Joins None cycle answer = answer ≡ None
Joins (Some period) cycle answer = LeastWithin period cycle longest_period answer
