-- The lines on a file.
use Rattle.std.specs.Prelude.{◌≡◌, ℕ, List, [], ◌∷◌, Option}
use Rattle.load.specs.declared.loading.Loaded.{Loaded}
use Rattle.load.specs.Loading.{Loads, LoadRefused}
use Rattle.schedule.specs.Schedules.{meant}
use Rattle.load.specs.Told.{told_load, lower_list}
use Rattle.line.specs.declared.Line.{Line}
use Rattle.line.specs.declared.Line.TheVariants.{Film, Period, Wait, Fault}
use Rattle.report.specs.declared.fault.ReportFault.{ReportFault}
use Rattle.report.specs.declared.fault.ReportFault.TheVariants.{Loading, Memory}

-- the lines on a plan that is loaded
abbrev pub lines : Loaded → List Line
lines l =
    Film l.film.delay l.film.pages l.film.channels ∷ Period (meant l.schedule).period ∷ Wait l.film.delay ∷ []

-- the file holds a plan that can be sent, and these are its lines, where Lines says which they are
abbrev pub ToldBy : (Loaded → List Line → Type 0) → List ℕ → List Line → Type 0
ToldBy Lines file ls = (l : Loaded) × Loads file l × Lines l ls

-- with these lines and no others
abbrev pub Plain : Loaded → List Line → Type 0
Plain l ls = ls ≡ lines l

abbrev pub Told : List ℕ → List Line → Type 0
Told file ls = ToldBy Plain file ls

-- the number and the values of a fault
abbrev pub told_report : ReportFault → ℕ × List ℕ
told_report (Loading f) = told_load f
told_report Memory = (0, [])

-- the file is refused, or there is no memory
abbrev pub Untold : List ℕ → ReportFault → Type 0
Untold file (Loading f) = LoadRefused file (told_load f).0 (told_load f).1
Untold file Memory = Unit {0}

-- the one line on a fault
abbrev pub FaultLine : ReportFault → List Line → Type 0
FaultLine f ls =
    (k : ℕ) × (b : ℕ) × (lower : Option ℕ) × (told_report f ≡ (k, b ∷ lower_list lower)) × (ls ≡ Fault k b lower ∷ [])

-- the lines on a file: of its plan, where Lines says which they are, or the one line of its fault
pub data ReportedBy (Lines : Loaded → List Line → Type 0) (file : List ℕ) : List Line → Type 0 where
  plan : (l : Loaded) (ls : List Line) → Loads file l → Lines l ls → ReportedBy Lines file ls
  fault : (k b : ℕ) (lower : Option ℕ) → LoadRefused file k (b ∷ lower_list lower) → ReportedBy Lines file (Fault k b lower ∷ [])

abbrev pub Reported : List ℕ → List Line → Type 0
Reported file ls = ReportedBy Plain file ls
