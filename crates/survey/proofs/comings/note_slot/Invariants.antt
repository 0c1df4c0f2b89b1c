use Rattle.std.proofs.Common.{◌≡◌, ◌-◌, length, drop}
use Rattle.timetable.specs.Closed.{line}
use Rattle.survey.specs.Cells.{noted}
use Rattle.survey.proofs.comings.note_slot.Given as goal

abbrev pub invariant-loop-channel : goal.invariant-loop-channel
invariant-loop-channel g l = noted (length l.initial.nexts) l.slot l.nexts (drop (l.channel - 1) (line (g.T.Timetable.meaning l.table) l.slot)) ≡ noted (length l.initial.nexts) l.slot l.initial.nexts (line (g.T.Timetable.meaning l.table) l.slot)
