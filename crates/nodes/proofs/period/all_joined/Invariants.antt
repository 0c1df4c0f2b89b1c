use Rattle.std.proofs.Common.{take, Some}
use Rattle.plans.specs.Periods.{PeriodOf}
use Rattle.nodes.proofs.period.all_joined.Given as goal

abbrev pub invariant-loop-cycle : goal.invariant-loop-cycle
invariant-loop-cycle l = PeriodOf (take l.cycle-index l.cycles) (Some l.period)
