-- The lines on a file.
use Rattle.std.specs.Prelude.{◌≡◌, ℕ, List, [], ◌∷◌, ◌++◌, vec_items}
use Rattle.timetable.specs.Closed.{aired}
use Rattle.timetable.specs.Meaning.{Meaning}
use Rattle.judging.specs.Judgements.{Judgement}
use Rattle.load.specs.declared.loading.Loaded.{Loaded}
use Rattle.line.specs.declared.Line.{Line}
use Rattle.line.specs.declared.Line.TheVariants.{Film, Period, Wait}
use Rattle.report.specs.Reports.{ToldBy, ReportedBy}
use Rattle.schedule.specs.Schedules.{meant}

-- what a plan that is loaded sends
abbrev pub sent : Loaded → Meaning
sent l = aired (meant l.schedule) (vec_items l.closures)

-- the lines on a plan that is loaded, with those of its judgement
abbrev pub lines : Loaded → List Line → List Line
lines l judged =
    Film l.film.delay l.film.pages l.film.channels ∷ (Period (meant l.schedule).period ∷ (judged ++ Wait l.film.delay ∷ []))

-- these are its lines, with those of its judgement
abbrev pub WithJudgement : Loaded → List Line → Type 0
WithJudgement l ls = (judged : List Line) × Judgement (sent l) l.film.delay l.film.pages judged × (ls ≡ lines l judged)

-- the file holds a plan that can be sent, and these are its lines
abbrev pub Told : List ℕ → List Line → Type 0
Told file ls = ToldBy WithJudgement file ls

-- the lines on a file: of its plan, or the one line of its fault
abbrev pub Reported : List ℕ → List Line → Type 0
Reported file ls = ReportedBy WithJudgement file ls
