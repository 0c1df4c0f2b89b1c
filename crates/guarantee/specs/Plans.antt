-- The plans of the three planners pass a check.
use Rattle.std.specs.Prelude.{◌≡◌, ℕ, ◌*◌, ◌≤◌, false, List, [], take}
use Rattle.records.specs.declared.kinds.Channel.{Channel}
use Rattle.records.specs.declared.kinds.Row.{Row}
use Rattle.timetable.specs.Meaning.{Meaning}
use Rattle.fast.specs.Fast.{fast, fast_delay, fast_pages}
use Rattle.planner.specs.PagodaAnswers.{Planned, meant}
use Rattle.planner.specs.declared.pagoda.Pagoda.{Pagoda}
use Rattle.rows.specs.Rows.{rows_timetable}
use Rattle.splitting_rule.specs.Answers.{Plan}
use Rattle.station.specs.States.{State, Told, passes, on_air, Checks}

-- Whatever its mark: off air, with nothing closed, over the timetable M and for a film of delay m and n pages, a check with scratch
-- for two numbers a page passes.
abbrev pub Passes : Meaning → ℕ → ℕ → Type 0
Passes M m n =
    (s : State) (cells : ℕ) (a : Told) (s' : State)
    → s.table ≡ M → s.delay ≡ m → s.pages ≡ n → s.closures ≡ [] → on_air s.phase ≡ false → 2 * n ≤ cells
    → Checks s cells a s' → a ≡ passes

-- every plan that a planner makes, with its own delay and pages
pub record PlansPass : Type 0 where
  pub pagoda_plans : (m : ℕ) (cs : List Channel) (plan : Pagoda) → Planned m cs plan → Passes (meant plan) plan.delay plan.pages
  pub fast_plans : (c : ℕ) → 1 ≤ c → c ≤ 8 → Passes (fast c) fast_delay (fast_pages c)
  pub splitting_plans : (m c n most p : ℕ) (before after : List Row) → Plan m c n most before after p → Passes (rows_timetable (take n after) c p) m n
