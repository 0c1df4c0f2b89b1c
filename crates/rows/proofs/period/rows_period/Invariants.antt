use Rattle.std.proofs.Common.{take, Some}
use Rattle.plans.specs.Periods.{PeriodOf}
use Rattle.rows.specs.Period.{row_periods}
use Rattle.rows.proofs.period.rows_period.Given as goal

abbrev pub invariant-loop-row : goal.invariant-loop-row
invariant-loop-row l = PeriodOf (row_periods (take l.row-index l.rows)) (Some l.period)
