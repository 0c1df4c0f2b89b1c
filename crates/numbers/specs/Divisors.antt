-- Divisors and multiples: the greatest common divisor and the least common multiple, each by what it is to every other.
use Rattle.std.specs.Prelude.{◌≡◌, ℕ, ◌*◌, ◌<◌, ◌≤◌, List, [], ◌∷◌, Option, MatchOption}

-- d divides n: n is some number of times d
abbrev pub Divides : ℕ → ℕ → Type 0
Divides d n = (k : ℕ) × (n ≡ k * d)

-- g divides a and b, and every number that divides both divides g
pub record GreatestCommonDivisor (a b g : ℕ) : Type 0 where
  pub of_first : Divides g a
  pub of_second : Divides g b
  pub greatest : (d : ℕ) → Divides d a → Divides d b → Divides d g

-- l is a multiple of a and of b, and divides every number that is; where a or b is 0, l is 0
pub record LeastCommonMultiple (a b l : ℕ) : Type 0 where
  pub of_first : Divides a l
  pub of_second : Divides b l
  pub least : (m : ℕ) → Divides a m → Divides b m → Divides l m

-- m is a multiple of each number of a list
abbrev pub MultipleOfAll : List ℕ → ℕ → Type 0
MultipleOfAll [] m = Unit {0}
MultipleOfAll (x ∷ xs) m = Divides x m × MultipleOfAll xs m

-- l is a multiple of each number of a list, and divides every number that is; for the empty list, l is 1
pub record LeastCommonMultipleOfAll (xs : List ℕ) (l : ℕ) : Type 0 where
  pub of_all : MultipleOfAll xs l
  pub least : (m : ℕ) → MultipleOfAll xs m → Divides l m

-- the answer is the least common multiple where that is at most the ceiling, and none where it is larger
abbrev pub LeastWithin : ℕ → ℕ → ℕ → Option ℕ → Type 0
LeastWithin a b ceiling answer =
    MatchOption answer ((l : ℕ) × LeastCommonMultiple a b l × (ceiling < l)) (λ l. LeastCommonMultiple a b l × (l ≤ ceiling))
