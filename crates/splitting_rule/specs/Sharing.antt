-- Who has which slots: the rows and the free sequences never share one.
use Rattle.std.specs.Prelude.{◌≡◌, ℕ, ◌+◌, ◌≤◌, cond, List, take, sum_by}
use Rattle.records.specs.declared.kinds.Row.{Row}
use Rattle.rows.specs.Rows.{fitting}
use Rattle.sequences.specs.Sequences.{covers}
use Rattle.sequences.specs.declared.sequence.FreeSequence.{FreeSequence}

-- 1 where the row has slot t of channel k, else 0
abbrev pub row_covers : ℕ → ℕ → Row → ℕ
row_covers k t r = cond (fitting k t r) 1 0

-- the first n rows and what is left free have, each as often, the slots of what was free
abbrev pub SharedOut : List FreeSequence → ℕ → List Row → List FreeSequence → Type 0
SharedOut free n rows left = (k t : ℕ) → sum_by (row_covers k t) (take n rows) + sum_by (covers k t) left ≡ sum_by (covers k t) free

-- no two rows have the same slot of the same channel
abbrev pub Apart : List Row → Type 0
Apart rows = (k t : ℕ) → sum_by (row_covers k t) rows ≤ 1
