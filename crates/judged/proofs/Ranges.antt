-- The numbers of a plan that is loaded are in range, and its closures can be booked.
use Rattle.std.proofs.Common.{◌≡◌, ℕ, ◌≤◌, true, List, length, vec_items, sym, ap, ◌∙◌, subst, arith}
use Rattle.std.proofs.lemmas.Bool.{and_from, le-leb, lt-ltb}
use Rattle.records.specs.Ranges.{FilmInRange}
use Rattle.records.specs.declared.kinds.Closure.{Closure}
use Rattle.records.specs.declared.kinds.Film.{Film}
use Rattle.timetable.specs.Meaning.{Meaning}
use Rattle.timetable.specs.Windows.{InRange}
use Rattle.format.specs.declared.plan.Parts.{Parts}
use Rattle.format.specs.declared.plan.Parts.TheVariants as parts
use Rattle.station.specs.States.{in_table}
use Rattle.judging.specs.Judgements.{Bookable}
use Rattle.schedule.specs.Planning.{Schedules}
use Rattle.schedule.specs.Schedules.{meant}
use Rattle.schedule.specs.declared.schedule.Schedule.{Schedule}
use Rattle.schedule.specs.declared.schedule.Schedule.TheVariants.{Pagoda, Rows, Tree}
use Rattle.load.specs.Closures.{InTable, CloseTo}
use Rattle.load.specs.Loading.{Loads}
use Rattle.load.specs.declared.loading.Loaded.{Loaded}

-- a timetable of the film's channels, with a period in range
ranged : (M : Meaning) (f : Film) → FilmInRange f → M.channels ≡ f.channels → (1 ≤ M.period) × (M.period ≤ 65536) → InRange M f.delay f.pages
ranged M f h same period = record { delay = h.delay; pages = h.pages; channels = rw same h.channels; period = period }

-- the timetable has the film's channels
own_channels : (f : Film) (p : Parts) (s : Schedule) → Schedules f p s → (meant s).channels ≡ f.channels
own_channels f (parts.Pagoda v) (Pagoda plan) h = ap length h.planned.channels ∙ sym h.channels
own_channels f (parts.Pagoda v) (Rows plan) h = absurd h
own_channels f (parts.Pagoda v) (Tree plan) h = absurd h
own_channels f (parts.Rows v) (Pagoda plan) h = absurd h
own_channels f (parts.Rows v) (Rows plan) h = h.1
own_channels f (parts.Rows v) (Tree plan) h = absurd h
own_channels f (parts.Tree v) (Pagoda plan) h = absurd h
own_channels f (parts.Tree v) (Rows plan) h = absurd h
own_channels f (parts.Tree v) (Tree plan) h = h.1

-- and a period in range
own_period : (f : Film) (p : Parts) (s : Schedule) → Schedules f p s → (1 ≤ (meant s).period) × ((meant s).period ≤ 65536)
own_period f (parts.Pagoda v) (Pagoda plan) h = (plan.positive, h.planned.short)
own_period f (parts.Pagoda v) (Rows plan) h = absurd h
own_period f (parts.Pagoda v) (Tree plan) h = absurd h
own_period f (parts.Rows v) (Pagoda plan) h = absurd h
own_period f (parts.Rows v) (Rows plan) h = (h.2.2, h.2.1)
own_period f (parts.Rows v) (Tree plan) h = absurd h
own_period f (parts.Tree v) (Pagoda plan) h = absurd h
own_period f (parts.Tree v) (Rows plan) h = absurd h
own_period f (parts.Tree v) (Tree plan) h = (h.2.some, h.2.short)

pub loaded_in_range : (file : List ℕ) (l : Loaded) → Loads file l → InRange (meant l.schedule) l.film.delay l.film.pages
loaded_in_range file l h =
    subst (λ f. InRange (meant l.schedule) f.delay f.pages) (sym h.film)
    (ranged (meant l.schedule) h.plan.film h.planned.0 (own_channels h.plan.film h.plan.parts l.schedule h.planned.1) (own_period h.plan.film h.plan.parts l.schedule h.planned.1))

entry_there : (M : Meaning) (c : ℕ) (e : Closure) → M.channels ≡ c → InTable c M.period e → in_table M e ≡ true
entry_there M c e same h =
    and_from _ _ (le-leb 1 e.channel h.0) (and_from _ _ (le-leb e.channel M.channels (omega (arith, h.1))) (lt-ltb e.slot M.period h.2))

closures_bookable : (M : Meaning) (c : ℕ) (es : List Closure) → M.channels ≡ c → length es ≤ 64 → CloseTo c M.period es (length es) → Bookable M es
closures_bookable M c es same few h = record {
  few = few;
  there = λ j low. entry_there M c _ same (h j low).0;
  apart = λ j low. (h j low).1;
}

pub loaded_bookable : (file : List ℕ) (l : Loaded) → Loads file l → Bookable (meant l.schedule) (vec_items l.closures)
loaded_bookable file l h =
    subst (λ v. Bookable (meant l.schedule) (vec_items v)) (sym h.closures)
    (closures_bookable (meant l.schedule) h.plan.film.channels (vec_items h.plan.closures) (own_channels h.plan.film h.plan.parts l.schedule h.planned.1) h.reads.lawful.few h.close)
