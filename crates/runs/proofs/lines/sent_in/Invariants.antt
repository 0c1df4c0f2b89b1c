use Rattle.std.proofs.Common.{◌≡◌, ◌++◌, map, drop, vec_items}
use Rattle.guarantee.specs.Spells.{until_withdrawn}
use Rattle.runs.specs.Rehearsals.{told_of}
use Rattle.runs.proofs.lines.sent_in.Given as goal

abbrev pub invariant-loop-reply : goal.invariant-loop-reply
invariant-loop-reply l = until_withdrawn (told_of l.replies) ≡ map vec_items (vec_items l.lines) ++ until_withdrawn (told_of (drop l.reply-index l.replies))
