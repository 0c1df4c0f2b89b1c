use Rattle.std.proofs.Common.{ℕ, Option, subst}
use Rattle.plans.specs.Periods.{PeriodOf}
use Rattle.plans.proofs.Joining.{join_some, join_none}
use Rattle.plans.proofs.period.joined.Goals as goal

pub returns-in_err-period-clause-joins_cycle : goal.returns-in_err-period-clause-joins_cycle
returns-in_err-period-clause-joins_cycle c xs p h =
    rw c.from_residual.ensures (join_none xs _ p (subst (λ (o : Option ℕ). PeriodOf xs o) c.in_err-period.was h))

pub returns-clause-joins_cycle : goal.returns-clause-joins_cycle
returns-clause-joins_cycle c xs p h =
    join_some xs c.in_ok-period.period _ _ p (subst (λ (o : Option ℕ). PeriodOf xs o) c.in_ok-period.was h) c.lcm_within.ensures.least_within_ceiling
