use Rattle.std.proofs.Common.{ℕ, subst, mul-pos, arith}
use Rattle.nodes.specs.Finding.{Within}
use Rattle.nodes.proofs.Children.{some_children, inner_period, inner_long}
use Rattle.nodes.proofs.period.period_of.Goals as goal

pub returns-in_err-together-in-Inner : goal.returns-in_err-together-in-Inner
returns-in_err-together-in-Inner c =
    record {
      own_period =
          rw c.from_residual.ensures
          (inner_long c.args.node c.in-Inner.inner c.args.periods.now c.in-Inner.is c.from-first.result c.from.result (omega arith) (omega arith) c.requires.children_known
          c.in_err-together-in-Inner.ensures.least_common_multiple);
    }

pub unless_long-requires : goal.unless_long-requires
unless_long-requires c =
    let some = some_children c.args.node c.in-Inner.inner c.args.periods.now c.in-Inner.is c.requires.children_known in
    record { some = mul-pos (omega (arith, some)) c.in_ok-together-in-Inner.ensures.least_common_multiple.2 }

pub returns-in_ok-together-in-Inner : goal.returns-in_ok-together-in-Inner
returns-in_ok-together-in-Inner c =
    record {
      own_period =
          subst (λ (p : ℕ). Within p c.unless_long.result)
          (inner_period c.args.node c.in-Inner.inner c.args.periods.now c.in-Inner.is c.from-first.result c.from.result (omega arith) (omega arith) c.in_ok-together-in-Inner.together c.from-in-Inner.result
          c.in_ok-together-in-Inner.ensures.least_common_multiple.0 (omega arith))
          c.unless_long.ensures.within_longest;
    }
