use Rattle.std.proofs.Common.{◌≡◌, ◌++◌, drop, vec_items}
use Rattle.runs.specs.Rehearsals.{told_of}
use Rattle.judging.specs.Telling.{all_lines}
use Rattle.judging.proofs.telling.lines_of.Given as goal

abbrev pub invariant-loop-reply : goal.invariant-loop-reply
invariant-loop-reply l = all_lines (told_of l.replies) ≡ vec_items l.lines ++ all_lines (told_of (drop l.reply-index l.replies))
