-- A timetable written out: the numbers of all channels in slot 0, then those of slot 1, and so on for one period.
use Rattle.std.specs.Prelude.{ℕ, ◌+◌, ◌-◌, ◌*◌, List, slice_index}
use Rattle.timetable.specs.Meaning.{Meaning, Lawful, repeating, repeating_lawful}

-- silence past the end of the list
abbrev pub grid : List ℕ → ℕ → ℕ → Meaning
grid cells c p = repeating c p (λ k u. slice_index cells (u * c + k - 1))

pub grid_lawful : (cells : List ℕ) (c p : ℕ) → Lawful (grid cells c p)
grid_lawful cells c p = repeating_lawful c p (λ k u. slice_index cells (u * c + k - 1))
