-- What the check and the findings begin with.
use Rattle.std.specs.Prelude.{◌≡◌, ℕ, ◌*◌, ◌<◌, ◌≤◌, List, length, replicate}
use Rattle.timetable.specs.Meaning.{Meaning}
use Rattle.timetable.specs.Windows.{InRange}
use Rattle.checker.specs.Sweep.{sweep_end}
use Rattle.checker.specs.declared.refusal.Unready.{Unready}
use Rattle.checker.specs.declared.refusal.Unready.TheVariants.{OutOfRange, ShortScratch}

-- the numbers are in range, the scratch xs has two cells a page and is zero, and the sweep ends before the slot `end`
pub record Ready (X : Meaning) (m n end : ℕ) (xs : List ℕ) : Type 0 where
  pub in_range : InRange X m n
  pub two_a_page : 2 * n ≤ length xs
  pub zeroed : xs ≡ replicate (length xs) 0
  pub ends : end ≡ sweep_end X m n

-- why they do not begin, with so many cells of scratch
abbrev pub NotReady : Meaning → ℕ → ℕ → ℕ → Unready → Type 0
NotReady X m n cells OutOfRange = InRange X m n → ⊥
NotReady X m n cells ShortScratch = InRange X m n × (cells < 2 * n)
