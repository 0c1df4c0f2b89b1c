use Rattle.std.proofs.Common.{◌≡◌, drop}
use Rattle.guarantee.specs.Spells.{lines_from}
use Rattle.runs.specs.Rehearsals.{told_of}
use Rattle.runs.proofs.lines.place_of_tick.Given as goal

abbrev pub invariant-loop-place : goal.invariant-loop-place
invariant-loop-place l = lines_from l.tick (told_of l.replies) ≡ lines_from l.left (told_of (drop l.place l.replies))
