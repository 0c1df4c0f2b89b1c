use Rattle.std.proofs.Common.{◌≡◌, ◌++◌, map, take, vec_items}
use Rattle.format.specs.Format.{encoded}
use Rattle.planfile.proofs.runs.append_run.Given as goal

abbrev pub invariant-loop-item : goal.invariant-loop-item
invariant-loop-item g l = vec_items l.out ≡ vec_items l.initial.out ++ encoded (map g.L.Listed.item (take l.item-index l.items))
