use Rattle.std.proofs.Common.{◌≡◌, ◌+◌, ◌≤◌, Ok}
use Rattle.checker.specs.Sweep.{Heard, Clean}
use Rattle.checker.proofs.sweep.sweep.Given as goal

abbrev pub invariant-loop-channel : goal.invariant-loop-channel
invariant-loop-channel g l =
    (l.outcome ≡ Ok tt)
    × (l.channel ≤ (g.T.Timetable.meaning l.table).channels + 1)
    × Clean (g.T.Timetable.meaning l.table) l.highest l.slot l.channel
    × Heard (g.T.Timetable.meaning l.table) l.film.delay l.film.pages l.slot l.channel l.scratch

abbrev pub invariant-sweep : goal.invariant-sweep
invariant-sweep g l =
    (l.outcome ≡ Ok tt)
    × Clean (g.T.Timetable.meaning l.table) l.highest l.slot 1
    × Heard (g.T.Timetable.meaning l.table) l.film.delay l.film.pages l.slot 1 l.scratch
