use Rattle.std.proofs.Common.{◌-◌, ◌≤◌, map, length, vec_items, vec_len}
use Rattle.records.specs.Places.{Spans}
use Rattle.format.specs.Format.{encoded}
use Rattle.planfile.proofs.runs.read_run.Given as goal

abbrev pub invariant-loop-all : goal.invariant-loop-all
invariant-loop-all g l = Spans l.bytes l.start l.at (encoded (map g.L.Listed.item (vec_items l.all))) × (vec_len l.all ≤ l.most)

abbrev pub decreases-loop-all : goal.decreases-loop-all
decreases-loop-all g l = length l.bytes - l.at
