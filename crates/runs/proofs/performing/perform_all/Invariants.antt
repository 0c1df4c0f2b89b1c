use Rattle.std.proofs.Common.{vec_items}
use Rattle.station.specs.States.{seen}
use Rattle.runs.specs.Rehearsals.{Performs}
use Rattle.runs.proofs.performing.perform_all.Given as goal

abbrev pub invariant-loop-call : goal.invariant-loop-call
invariant-loop-call g l =
    Performs (seen (g.T.Timetable.meaning l.initial.station.table) l.initial.station) l.yielded (vec_items l.initial.replies) (vec_items l.replies)
    (seen (g.T.Timetable.meaning l.station.table) l.station)
