use Rattle.std.proofs.Common.{◌≡◌, arith, rules}
use Rattle.numbers.proofs.Common.{gcd_zero, gcd_step}
use Rattle.numbers.proofs.gcd.Goals as goal

pub loop-right-preserved : goal.loop-right-preserved
loop-right-preserved c = search (rules, gcd_step, c.loop-right.invariant)

pub returns : goal.returns
returns c =
    let over : c.loop-right.right ≡ 0 = omega arith in
    record { greatest_common_divisor = c.loop-right.invariant c.loop-right.left (rw over (gcd_zero c.loop-right.left)) }
