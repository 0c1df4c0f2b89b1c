-- What loading a plan file answers.
use Rattle.std.specs.Prelude.{◌≡◌, ℕ, List, [], ◌∷◌, ◌++◌, map, length, take, vec_items}
use Rattle.format.specs.declared.plan.Plan.{Plan}
use Rattle.format.specs.Items.{Item, film, part, closure}
use Rattle.format.specs.Format.{encoded, Refused}
use Rattle.format.specs.Answers.{listed, Reads}
use Rattle.load.specs.declared.fault.ClosureFault.{ClosureFault}
use Rattle.load.specs.declared.loading.Loaded.{Loaded}
use Rattle.schedule.specs.declared.schedule.Schedule.{Schedule}
use Rattle.load.specs.Closures.{told_closure, CloseTo, FirstIdle}
use Rattle.load.specs.Told.{told_plan}
use Rattle.records.specs.Ranges.{FilmInRange}
use Rattle.schedule.specs.Planning.{Schedules, Refuses}
use Rattle.schedule.specs.Schedules.{meant}

-- the records before closure i of a plan
abbrev pub before : Plan → ℕ → List Item
before p i = film p.film ∷ (map part (listed p.parts) ++ map closure (take i (vec_items p.closures)))

-- the byte where closure i begins
abbrev pub closure_byte : Plan → ℕ → ℕ
closure_byte p i = length (encoded (before p i))

-- the film's numbers are in range and its plan records are planned as s
abbrev pub PlannedAs : Plan → Schedule → Type 0
PlannedAs p s = FilmInRange p.film × Schedules p.film p.parts s

-- the file holds a plan, this is it with its timetable, and each of its closures closes something
pub record Loads (file : List ℕ) (l : Loaded) : Type 0 where
  pub plan : Plan
  pub reads : Reads file plan
  pub film : l.film ≡ plan.film
  pub planned : PlannedAs plan l.schedule
  pub closures : l.closures ≡ plan.closures
  pub close : CloseTo plan.film.channels (meant l.schedule).period (vec_items plan.closures) (length (vec_items plan.closures))

-- why a file is not loaded, by number and values: as a file, by its plan, or by the first closure that closes nothing; 0 is want of memory
pub data LoadRefused (file : List ℕ) : ℕ → List ℕ → Type 0 where
  reading : (k : ℕ) (vs : List ℕ) → Refused file k vs → LoadRefused file k vs
  planning : (p : Plan) (t : ℕ × List ℕ) → Reads file p → Refuses p.film p.parts t → LoadRefused file (told_plan t).0 (told_plan t).1
  closing : (p : Plan) (s : Schedule) (i : ℕ) (f : ClosureFault) → Reads file p → PlannedAs p s → FirstIdle p.film.channels (meant s).period (vec_items p.closures) i f → LoadRefused file 45 (closure_byte p i ∷ told_closure f ∷ [])
