-- What the planner of fast plans answers.
use Rattle.std.specs.Prelude.{◌≡◌, ℕ, ◌≤◌, [], IfOk, Result, MatchResult}
use Rattle.timetable.specs.Closed.{aired}
use Rattle.timetable.specs.Windows.{Sound}
use Rattle.fast.specs.Fast.{fast, fast_delay, fast_pages}
use Rattle.plans.specs.Refusals.{told}
use Rattle.fast.specs.declared.fast.Fast.{Fast}
use Rattle.plans.specs.declared.refusal.Refusal.{Refusal}

-- the plan on c channels where c is 1 to 8, and else refusal 1
abbrev pub FastAnswer : ℕ → Result Fast Refusal → Type 0
FastAnswer c answer =
    MatchResult answer (λ plan. (1 ≤ c) × (c ≤ 8) × (plan.channels ≡ c))
    (λ e. ((1 ≤ c) × (c ≤ 8) → ⊥) × (told e ≡ (1, [])))

-- with nothing closed, no entry of the plan is stray and no tune-in starves
abbrev pub FastSound : Result Fast Refusal → Type 0
FastSound answer =
    IfOk answer (λ plan. Sound (aired (fast plan.channels) []) fast_delay (fast_pages plan.channels))
