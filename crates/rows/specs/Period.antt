-- The period of a plan by rows.
use Rattle.std.specs.Prelude.{◌≡◌, ℕ, ◌<◌, ◌⊎◌, List, [], map, length, Some, None, Result, MatchResult, slice_index_or}
use Rattle.records.specs.declared.kinds.Row.{Row}
use Rattle.plans.specs.Periods.{PeriodOf}
use Rattle.plans.specs.Refusals.{told}
use Rattle.plans.specs.declared.refusal.Refusal.{Refusal}

-- the periods of the rows
abbrev pub row_periods : List Row → List ℕ
row_periods = map (λ r. r.period)

-- some row has the period 0
abbrev pub Idle : List Row → Type 0
Idle rs = (i : ℕ) × (i < length rs) × (slice_index_or (row_periods rs) i 1 ≡ 0)

-- the period of the rows together; 4 where it is too long, or where a row has none
abbrev pub RowsPeriod : List Row → Result ℕ Refusal → Type 0
RowsPeriod rs answer =
    MatchResult answer (λ p. PeriodOf (row_periods rs) (Some p)) (λ e. (told e ≡ (4, [])) × (Idle rs ⊎ PeriodOf (row_periods rs) None))
