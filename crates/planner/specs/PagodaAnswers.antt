-- What the planner of pagoda plans answers.
use Rattle.std.specs.Prelude.{◌≡◌, ℕ, ◌<◌, ◌≤◌, ◌⊎◌, List, [], length, IfOk, vec_items, Result, MatchResult}
use Rattle.records.specs.declared.kinds.Channel.{Channel}
use Rattle.numbers.specs.Divisors.{LeastCommonMultipleOfAll}
use Rattle.timetable.specs.Closed.{aired}
use Rattle.timetable.specs.Meaning.{Meaning}
use Rattle.timetable.specs.Windows.{Sound}
use Rattle.planner.specs.Pagoda.{Askable, Deals, BadChannel, count_at, begins, first_of, share_of, cycles, pagoda, pagoda_pages}
use Rattle.plans.specs.Periods.{longest_period}
use Rattle.plans.specs.Refusals.{told}
use Rattle.planner.specs.declared.pagoda.Pagoda.{Pagoda}
use Rattle.plans.specs.declared.refusal.Refusal.{Refusal}
use Rattle.planner.specs.declared.subchannel.Subchannel.{Subchannel}

-- what a plan means as a timetable
abbrev pub meant : Pagoda → Meaning
meant plan = pagoda plan.delay (vec_items plan.channels) plan.period

-- x is subchannel j of channel k, both counted from 0, of a plan
abbrev pub Own : Pagoda → ℕ → ℕ → Subchannel → Type 0
Own plan k j x =
    (x.first ≡ first_of plan.delay (count_at (vec_items plan.channels) k) (begins plan.delay (vec_items plan.channels) k) j)
    × (x.pages ≡ share_of plan.delay (count_at (vec_items plan.channels) k) (begins plan.delay (vec_items plan.channels) k) j)

-- the plan of the delay m and the channels cs
pub record Planned (m : ℕ) (cs : List Channel) (plan : Pagoda) : Type 0 where
  pub askable : Askable m cs
  pub deals : Deals m cs (length cs)
  pub delay : plan.delay ≡ m
  pub channels : vec_items plan.channels ≡ cs
  pub pages : plan.pages ≡ pagoda_pages m cs
  pub period : LeastCommonMultipleOfAll (cycles m cs (length cs)) plan.period
  pub short : plan.period ≤ longest_period

-- 1: a number is out of range; 2 and 3: a channel gets no pages; 4: the period is too long; 0: there is no memory
abbrev pub PagodaRefused : ℕ → List Channel → ℕ × List ℕ → Type 0
PagodaRefused m cs t =
    ((t ≡ (1, [])) × (Askable m cs → ⊥))
    ⊎ ((Askable m cs × BadChannel m cs t)
    ⊎ (((t ≡ (4, [])) × Askable m cs × Deals m cs (length cs) × ((l : ℕ) × LeastCommonMultipleOfAll (cycles m cs (length cs)) l × (longest_period < l)))
    ⊎ ((t ≡ (0, [])) × Askable m cs)))

abbrev pub PagodaAnswer : ℕ → List Channel → Result Pagoda Refusal → Type 0
PagodaAnswer m cs answer = MatchResult answer (Planned m cs) (λ e. PagodaRefused m cs (told e))

-- with nothing closed, no entry of the plan is stray and no tune-in starves
abbrev pub PagodaSound : Result Pagoda Refusal → Type 0
PagodaSound answer = IfOk answer (λ plan. Sound (aired (meant plan) []) plan.delay plan.pages)
