use Rattle.std.proofs.Common.{◌≡◌, ◌++◌, map, drop}
use Rattle.std.specs.List.{range_with_len}
use Rattle.station.proofs.station.airing.write_line.Given as goal

abbrev pub invariant-loop-place : goal.invariant-loop-place
invariant-loop-place g l =
    l.front ≡ map (λ k. (g.T.Timetable.meaning l.table).page k l.slot) (range_with_len 1 l.place) ++ drop l.place l.initial.front
