-- The timetable of a list of rows.
use Rattle.std.specs.Prelude.{ℕ, ◌%◌, min, Bool, cond, not, ◌&&◌, List, [], ◌∷◌, Some, None, Option, ◌==◌}
use Rattle.std.specs.Option.{unwrap_or}
use Rattle.records.specs.declared.kinds.Row.{Row}
use Rattle.timetable.specs.Meaning.{Meaning, Lawful, repeating, repeating_lawful}

-- a row fits channel k in slot u: it is the channel's, and u is its start or some periods after it
abbrev pub fitting : ℕ → ℕ → Row → Bool
fitting k u r = r.channel == k && (not (r.period == 0) && u % r.period == r.start)

-- the lower of two pages, where there are any
abbrev pub lower : Option ℕ → Option ℕ → Option ℕ
lower None q = q
lower (Some p) None = Some p
lower (Some p) (Some q) = Some (min p q)

-- the page of a row that fits
abbrev pub offered : ℕ → ℕ → Row → Option ℕ
offered k u r = cond (fitting k u r) (Some r.page) None

-- the lowest page among the rows that fit
abbrev pub lowest : List Row → ℕ → ℕ → Option ℕ
lowest [] k u = None
lowest (r ∷ rs) k u = lower (offered k u r) (lowest rs k u)

-- what channel k carries in slot u
abbrev pub rows_page : List Row → ℕ → ℕ → ℕ
rows_page rs k u = unwrap_or (lowest rs k u) 0

abbrev pub rows_timetable : List Row → ℕ → ℕ → Meaning
rows_timetable rs c p = repeating c p (rows_page rs)

pub rows_timetable_lawful : (rs : List Row) (c p : ℕ) → Lawful (rows_timetable rs c p)
rows_timetable_lawful rs c p = repeating_lawful c p (rows_page rs)
