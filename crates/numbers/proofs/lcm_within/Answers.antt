use Rattle.std.proofs.Common.{◌≡◌, ℕ, ◌*◌, ◌/◌, ◌<◌, None, Option, leb, inl, inr, arith}
use Rattle.std.specs.Bool.{then_some}
use Rattle.std.proofs.lemmas.Bool.{cases_lt, le-leb, lt-leb}
use Rattle.numbers.specs.Divisors.{GreatestCommonDivisor, LeastCommonMultiple, LeastWithin}
use Rattle.numbers.proofs.Common.{lcm_from_gcd}
use Rattle.numbers.proofs.lcm_within.Goals as goal

-- l is the least common multiple, as the code makes it
module _ (a b g x l ceiling : ℕ) (some : 0 < g) (common : GreatestCommonDivisor a b g) (quotient : x ≡ a / g) (product : l ≡ x * b) where
  least : LeastCommonMultiple a b l
  least = rw (product, quotient) (lcm_from_gcd a b g some common)

  -- it is answered where it is at most the ceiling
  within : (answer : Option ℕ) → answer ≡ then_some (leb l ceiling) l → LeastWithin a b ceiling answer
  within answer e =
      elim (cases_lt ceiling l) [
        | inl above ↦ rw (e, lt-leb l ceiling above) (l, least, above)
        | inr below ↦ rw (e, le-leb l ceiling below) (least, below)
      ]

  above : (answer : Option ℕ) → answer ≡ None → ceiling < l → LeastWithin a b ceiling answer
  above answer e more = rw e (l, least, more)

pub returns-in_err-least : goal.returns-in_err-least
returns-in_err-least c =
    let g = c.gcd-common in
    record {
      least_within_ceiling =
          above c.args.a c.args.b g.result (c.args.a / g.result) (c.args.a / g.result * c.args.b) c.args.ceiling (omega arith) g.ensures.greatest_common_divisor (omega arith) (omega arith)
          c.from_residual.result c.from_residual.ensures (omega (arith, c.in_err-least.ensures, c.ranges.ceiling.fits));
    }

pub returns : goal.returns
returns c =
    let g = c.gcd-common in
    record {
      least_within_ceiling =
          within c.args.a c.args.b g.result (c.args.a / g.result) c.in_ok-least.least c.args.ceiling (omega arith) g.ensures.greatest_common_divisor (omega arith) (omega arith)
          c.then_some.result c.then_some.ensures;
    }
