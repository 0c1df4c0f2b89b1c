use Rattle.std.proofs.Common.{ℕ, ◌≡◌, ◌⊎◌, ◌+◌, [], take, None, Some, subst, rules, arith}
use Rattle.records.proofs.Exits.{exit}
use Rattle.numbers.proofs.All.{lcm_all_none}
use Rattle.plans.specs.Periods.{PeriodOf}
use Rattle.plans.specs.Refusals.{told}
use Rattle.rows.specs.Period.{row_periods, Idle}
use Rattle.rows.proofs.Together.{periods_more, long_or_idle}
use Rattle.rows.proofs.period.rows_period.Goals as goal

pub loop-row-init : goal.loop-row-init
loop-row-init c = (lcm_all_none, omega arith, omega arith)

pub returns-in_err-period : goal.returns-in_err-period
returns-in_err-period c =
    let rs = c.args.rows.now in
    let i : ℕ = c.loop-row.row-index in
    let e = c.in_err-period.field-0.0 in
    let joined = c.joined.ensures.joins_cycle (row_periods (take i rs)) (omega arith) c.loop-row.invariant in
    let long : PeriodOf (row_periods (take (i + 1) rs)) None = rw (periods_more rs i (record { page = 0; channel = 0; start = 0; period = 0 }) c.loop-row-test.true) (subst (PeriodOf _) c.in_err-period.ensures.ok_part joined) in
    let four : told e ≡ (4, []) = search rules in
    record {
      least_common_multiple = exit (λ p. PeriodOf (row_periods rs) (Some p)) (λ e. (told e ≡ (4, [])) × (Idle rs ⊎ PeriodOf (row_periods rs) None)) c.from_residual.result e c.from_residual.ensures.1
          (four, long_or_idle rs (i + 1) long);
    }
