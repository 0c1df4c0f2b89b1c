-- The closed entries that a table holds.
use Rattle.std.specs.Prelude.{ℕ, Bool, cond, ◌&&◌, List, [], ◌∷◌, ◌==◌, slice_index_or}
use Rattle.records.specs.declared.kinds.Closure.{Closure}
use Rattle.station.specs.declared.table.ClosureTable.{ClosureTable}

-- the closed entries, in the order in which they were closed
abbrev pub listed : ClosureTable → List Closure
listed t = t.entries.items

-- it is the entry of channel k in slot s
abbrev pub is_entry : ℕ → ℕ → Closure → Bool
is_entry k s e = e.channel == k && e.slot == s

-- the closed entries with that of channel k in slot s left out
abbrev pub without : List Closure → ℕ → ℕ → List Closure
without [] k s = []
without (e ∷ es) k s = cond (is_entry k s e) es (e ∷ without es k s)

abbrev pub entry_at : List Closure → ℕ → Closure
entry_at es i = slice_index_or es i (record { channel = 0; slot = 0 })
