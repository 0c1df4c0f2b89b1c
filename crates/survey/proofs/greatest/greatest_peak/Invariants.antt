use Rattle.std.proofs.Common.{◌≡◌, ◌<◌, ◌≤◌}
use Rattle.timetable.specs.Closed.{line}
use Rattle.survey.specs.Cells.{Comings}
use Rattle.survey.specs.Surveys.{peak_from, Peak, Airable}
use Rattle.survey.proofs.greatest.greatest_peak.Given as goal

abbrev pub invariant-loop-after : goal.invariant-loop-after
invariant-loop-after g l = (l.period ≤ l.after) × Comings (line (g.T.Timetable.meaning l.table)) l.film l.after l.end l.nexts

abbrev pub invariant-loop-slot : goal.invariant-loop-slot
invariant-loop-slot g l = Comings (line (g.T.Timetable.meaning l.table)) l.film l.slot l.end l.nexts
    × (Airable (g.T.Timetable.meaning l.table) l.delay l.film → (l.period ≤ l.slot → l.best ≡ 0)
    × (l.slot < l.period → Peak (peak_from (line (g.T.Timetable.meaning l.table)) l.delay l.film) l.slot l.period l.best l.first))
