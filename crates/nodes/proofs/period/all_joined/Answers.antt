use Rattle.std.proofs.Common.{Some, None, arith}
use Rattle.numbers.proofs.All.{lcm_all_none}
use Rattle.nodes.proofs.Together.{within_all, within_none, period_next}
use Rattle.nodes.proofs.period.all_joined.Goals as goal

pub loop-cycle-init : goal.loop-cycle-init
loop-cycle-init c = (lcm_all_none, omega arith, omega arith)

pub returns-in_err-period : goal.returns-in_err-period
returns-in_err-period c =
    let next =
    period_next c.args.cycles.now c.loop-cycle.cycle-index c.loop-cycle.period None (omega arith) c.requires.positive
    c.in_err-period.ensures.joins_cycle c.loop-cycle.invariant in
    record { least_common_multiple = rw c.from_residual.ensures (within_none c.args.cycles.now _ c.requires.positive next) }

pub loop-cycle-preserved : goal.loop-cycle-preserved
loop-cycle-preserved c =
    period_next c.args.cycles.now c.loop-cycle.cycle-index c.loop-cycle.period (Some c.in_ok-period.period) (omega arith) c.requires.positive
    c.in_ok-period.ensures.joins_cycle c.loop-cycle.invariant

pub returns : goal.returns
returns c =
    record {
      least_common_multiple = within_all c.args.cycles.now c.loop-cycle.cycle-index c.loop-cycle.period (omega arith) c.loop-cycle.invariant;
    }
