-- What the planner answers, and what it leaves in the rows and in the bag.
use Rattle.std.specs.Prelude.{◌≡◌, ℕ, ◌<◌, ◌≤◌, ◌⊎◌, List, [], length, take, drop, IfOk, Some, None, Ok, Result, MatchResult, OnOk, slice_index_or}
use Rattle.records.specs.declared.kinds.Row.{Row}
use Rattle.timetable.specs.Closed.{aired}
use Rattle.timetable.specs.Windows.{Sound}
use Rattle.plans.specs.Periods.{PeriodOf}
use Rattle.plans.specs.Refusals.{told}
use Rattle.plans.specs.declared.refusal.Refusal.{Refusal}
use Rattle.rows.specs.Period.{row_periods}
use Rattle.rows.specs.Rows.{rows_timetable}
use Rattle.bag.specs.Bags.{room, Same, Emptied}
use Rattle.bag.specs.declared.bag.Bag.{Bag}
use Rattle.bag.specs.declared.ranked.Ranked.{Ghosts}
use Rattle.splitting_rule.specs.Listed.{split_list}
use Rattle.splitting_rule.specs.Rule.{Splits, Refuses}
use Rattle.sequences.specs.Sequences.{whole_channels}
use Rattle.splitting_rule.specs.Sharing.{Apart}
use Rattle.sequences.specs.declared.sequence.FreeSequence.{FreeSequence}

-- the delay m, the channels c and the pages n are in range
pub record Askable (m c n : ℕ) : Type 0 where
  pub delay : (1 ≤ m) × (m ≤ 1024)
  pub channels : (1 ≤ c) × (c ≤ 8)
  pub pages : (1 ≤ n) × (n ≤ 1024)

-- there are n rows at least, and a place in the bag for each channel
pub record Enough (c n many most : ℕ) : Type 0 where
  pub rows : n ≤ many
  pub places : c ≤ most

abbrev pub zero_row : Row
zero_row = record { page = 0; channel = 0; start = 0; period = 0 }

abbrev pub AllZero : List Row → Type 0
AllZero rows = (k : ℕ) → k < length rows → slice_index_or rows k zero_row ≡ zero_row

-- the first n rows are the plan, with the period p, and the other rows are as they were
pub record Plan (m c n most : ℕ) (before after : List Row) (p : ℕ) : Type 0 where
  pub askable : Askable m c n
  pub enough : Enough c n (length before) most
  pub left : List FreeSequence
  pub splits : Splits m most (whole_channels c) n after left
  pub others : drop n after ≡ drop n before
  pub period : PeriodOf (row_periods (take n after)) (Some p)

-- the pages all get rows, and the period that these have together is too long
pub record TooLong (m c n most : ℕ) : Type 0 where
  pub rows : List Row
  pub left : List FreeSequence
  pub splits : Splits m most (whole_channels c) n rows left
  pub period : PeriodOf (row_periods (take n rows)) None

-- why there is no plan though the numbers are in range. 6: too few rows or places; 5 or 6 at some page; 4: the period
abbrev pub NoPlan : ℕ → ℕ → ℕ → ℕ → ℕ → ℕ × List ℕ → Type 0
NoPlan m c n many most t =
    ((t ≡ (6, [])) × (Enough c n many most → ⊥))
    ⊎ ((Enough c n many most × Refuses m most (whole_channels c) n t)
    ⊎ ((t ≡ (4, [])) × Enough c n many most × TooLong m c n most))

-- the plan, or why there is none
abbrev pub FillAnswer : ℕ → ℕ → ℕ → ℕ → List Row → List Row → Result ℕ Refusal → Type 0
FillAnswer m c n most before after answer =
    MatchResult answer (Plan m c n most before after) (λ e. NoPlan m c n (length before) most (told e))

-- 1: a number is out of range, and nothing has changed; else there is no plan, and every row is zero and the bag empty
abbrev pub Refused : {g : Ghosts FreeSequence} → ℕ → ℕ → ℕ → List Row → List Row → Bag FreeSequence g → Bag FreeSequence g → ℕ × List ℕ → Type 0
Refused m c n before after was is t =
    ((t ≡ (1, [])) × (Askable m c n → ⊥) × (after ≡ before) × Same was is)
    ⊎ (Askable m c n × NoPlan m c n (length before) (room was) t × AllZero after × Emptied is)

abbrev pub SplittingAnswer : {g : Ghosts FreeSequence} → ℕ → ℕ → ℕ → List Row → List Row → Bag FreeSequence g → Bag FreeSequence g → Result ℕ Refusal → Type 0
SplittingAnswer m c n before after was is answer =
    MatchResult answer (λ p. Plan m c n (room was) before after p × Emptied is) (λ e. Refused m c n before after was is (told e))

-- the rows of the plan are those that are computed on lists
abbrev pub SplittingListed : ℕ → ℕ → ℕ → ℕ → List Row → Result ℕ Refusal → Type 0
SplittingListed m c n most after answer =
    OnOk answer ((rest : List FreeSequence) × (split_list m most (whole_channels c) n ≡ Ok (take n after, rest)))

-- no two rows of the plan have the same slot of the same channel
abbrev pub SplittingApart : ℕ → List Row → Result ℕ Refusal → Type 0
SplittingApart n after answer = OnOk answer (Apart (take n after))

-- with nothing closed, no entry of the plan is stray and no tune-in starves
abbrev pub SplittingSound : ℕ → ℕ → ℕ → List Row → Result ℕ Refusal → Type 0
SplittingSound m c n after answer = IfOk answer (λ p. Sound (aired (rows_timetable (take n after) c p) []) m n)
