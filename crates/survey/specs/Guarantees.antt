-- What a surveyed peak is good for, wherever a receiver tunes in. What it is fed are the lines of a timetable of what is sent.
use Rattle.std.specs.Prelude.{◌≡◌, ℕ, ◌+◌, ◌-◌, ◌%◌, ◌≤◌, List, [], map, length}
use Rattle.std.specs.List.{range_with_len}
use Rattle.timetable.specs.Meaning.{Meaning, Lawful}
use Rattle.timetable.specs.Closed.{line}
use Rattle.timetable.specs.Windows.{Sound, InRange}
use Rattle.feeding.specs.Feeding.{fed, denied}
use Rattle.feeding.specs.Laws.{stock_at, Unbroken}
use Rattle.survey.specs.Surveys.{PeakOf}

-- the stock of a tune-in depends on its place in the period alone
abbrev pub StockRepeats : Type 0
StockRepeats =
    (X : Meaning) → Lawful X → (m n t j : ℕ) → stock_at (line X) m n t j ≡ stock_at (line X) m n (t % X.period) j

-- as much room as the peak is enough for every tune-in
abbrev pub Enough : Type 0
Enough =
    (X : Meaning) (m n peak slot t K : ℕ) (store : List ℕ) → Lawful X → InRange X m n → Sound X m n
    → PeakOf X m n peak slot → n ≤ length store
    → Unbroken m n K (fed m n peak store (map (line X) (range_with_len t K)))

-- room for one page less is refused from each slot that has the place in the period of the one that the survey names
abbrev pub Least : Type 0
Least =
    (X : Meaning) (m n peak slot t K : ℕ) (store : List ℕ) → Lawful X → InRange X m n → Sound X m n
    → PeakOf X m n peak slot → n ≤ length store
    → t % X.period ≡ slot → m + n ≤ K
    → (fed m n (peak - 1) store (map (line X) (range_with_len t K))).ending ≡ denied 34 []
