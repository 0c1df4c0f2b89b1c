-- The greatest common divisor and the least common multiple, computed. That they are what their names say is proved.
use Rattle.std.specs.Prelude.{ℕ, zero, suc, ◌*◌, ◌/◌, ◌%◌, List, [], ◌∷◌}

-- Euclid's way, in at most so many remainders
abbrev pub gcd_in : ℕ → ℕ → ℕ → ℕ
gcd_in zero a b = a
gcd_in (suc steps) a zero = a
gcd_in (suc steps) a (suc b) = gcd_in steps (suc b) (a % suc b)

-- each remainder is smaller than the last, so that b and one more are enough
abbrev pub gcd_of : ℕ → ℕ → ℕ
gcd_of a b = gcd_in (suc b) a b

abbrev pub lcm_of : ℕ → ℕ → ℕ
lcm_of a b = a / gcd_of a b * b

abbrev pub lcm_of_all : List ℕ → ℕ
lcm_of_all [] = 1
lcm_of_all (x ∷ xs) = lcm_of x (lcm_of_all xs)
