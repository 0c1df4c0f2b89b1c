-- Places of which the first `count` are in use.
use Rattle.std.specs.Prelude.{◌≡◌, ℕ, ◌<◌, ◌≤◌, List, length, slice_index_or}

-- every place from `count` on holds the blank record
abbrev pub FreeFrom : {X : Type 0} → ℕ → List X → X → Type 0
FreeFrom {X} count places blank = (k : ℕ) → count ≤ k → k < length places → slice_index_or places k blank ≡ blank
