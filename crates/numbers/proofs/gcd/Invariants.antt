use Rattle.std.proofs.Common.{ℕ}
use Rattle.numbers.specs.Divisors.{GreatestCommonDivisor}
use Rattle.numbers.proofs.gcd.Given as goal

-- what is the greatest common divisor of the two that are left is that of a and b
abbrev pub invariant-loop-right : goal.invariant-loop-right
invariant-loop-right l = (g : ℕ) → GreatestCommonDivisor l.left l.right g → GreatestCommonDivisor l.a l.b g

abbrev pub decreases-loop-right : goal.decreases-loop-right
decreases-loop-right l = l.right
