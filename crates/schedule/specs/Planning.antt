-- The plan of a film, or why there is none.
use Rattle.std.specs.Prelude.{◌≡◌, ℕ, ◌≤◌, ◌⊎◌, List, [], length, Some, None, vec_items, Result, MatchResult, ◌≢◌}
use Rattle.records.specs.declared.kinds.Channel.{Channel}
use Rattle.records.specs.Ranges.{FilmInRange}
use Rattle.records.specs.declared.kinds.Film.{Film}
use Rattle.plans.specs.Refusals.{told}
use Rattle.plans.specs.declared.refusal.Refusal.{Refusal}
use Rattle.format.specs.declared.plan.Parts.{Parts}
use Rattle.format.specs.declared.plan.Parts.TheVariants as parts
use Rattle.plans.specs.Periods.{PeriodOf}
use Rattle.rows.specs.Period.{row_periods, Idle}
use Rattle.nodes.specs.Answers as trees
use Rattle.nodes.specs.Answers.{TreeRefused}
use Rattle.schedule.specs.declared.schedule.Schedule.{Schedule}
use Rattle.schedule.specs.declared.schedule.Schedule.TheVariants.{Pagoda, Rows, Tree}
use Rattle.planner.specs.PagodaAnswers.{Planned, PagodaRefused}
use Rattle.planner.specs.declared.pagoda.Pagoda as pagodas

-- the pagoda plan of a film: it has the film's channels and pages
pub record PagodaFits (f : Film) (cs : List Channel) (plan : pagodas.Pagoda) : Type 0 where
  pub channels : f.channels ≡ length cs
  pub planned : Planned f.delay cs plan
  pub pages : plan.pages ≡ f.pages

-- 1: the film has another number of channels; then what the planner refuses with; then 1: it has another number of pages
abbrev pub PagodaUnfit : Film → List Channel → ℕ × List ℕ → Type 0
PagodaUnfit f cs t =
    ((t ≡ (1, [])) × (f.channels ≢ length cs))
    ⊎ ((f.channels ≡ length cs) × (PagodaRefused f.delay cs t
    ⊎ ((t ≡ (1, [])) × ((plan : pagodas.Pagoda) × Planned f.delay cs plan × (plan.pages ≢ f.pages)))))

abbrev pub PagodaAnswered : Film → List Channel → Result pagodas.Pagoda Refusal → Type 0
PagodaAnswered f cs answer = MatchResult answer (PagodaFits f cs) (λ e. PagodaUnfit f cs (told e))

-- the plan of a film's plan records, of each sort
abbrev pub Schedules : Film → Parts → Schedule → Type 0
Schedules f (parts.Pagoda v) (Pagoda plan) = PagodaFits f (vec_items v) plan
Schedules f (parts.Pagoda v) (Rows plan) = ⊥
Schedules f (parts.Pagoda v) (Tree plan) = ⊥
Schedules f (parts.Rows v) (Pagoda plan) = ⊥
Schedules f (parts.Rows v) (Rows plan) =
    (plan.rows ≡ v) × (plan.channels ≡ f.channels) × PeriodOf (row_periods (vec_items v)) (Some plan.period)
Schedules f (parts.Rows v) (Tree plan) = ⊥
Schedules f (parts.Tree v) (Pagoda plan) = ⊥
Schedules f (parts.Tree v) (Rows plan) = ⊥
Schedules f (parts.Tree v) (Tree plan) =
    (plan.nodes ≡ v) × (plan.channels ≡ f.channels) × trees.Planned (vec_items v) f.channels plan.period

-- what the planner of each sort refuses with
abbrev pub Unplanned : Film → Parts → ℕ × List ℕ → Type 0
Unplanned f (parts.Pagoda v) t = PagodaUnfit f (vec_items v) t
Unplanned f (parts.Rows v) t = (t ≡ (4, [])) × (Idle (vec_items v) ⊎ PeriodOf (row_periods (vec_items v)) None)
Unplanned f (parts.Tree v) t = TreeRefused (vec_items v) f.channels t

-- 1: a number of the film is out of range; then what the planner refuses with
abbrev pub Refuses : Film → Parts → ℕ × List ℕ → Type 0
Refuses f p t = ((t ≡ (1, [])) × (FilmInRange f → ⊥)) ⊎ (FilmInRange f × Unplanned f p t)

abbrev pub Scheduled : Film → Parts → Result Schedule Refusal → Type 0
Scheduled f p answer = MatchResult answer (λ s. FilmInRange f × Schedules f p s) (λ e. Refuses f p (told e))
