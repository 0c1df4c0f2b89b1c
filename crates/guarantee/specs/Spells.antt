-- The spells of a run. A spell lasts from when a station is passed until it is next open.
use Rattle.std.specs.Prelude.{ℕ, zero, suc, List, [], ◌∷◌, ◌++◌, Some, None, Option}
use Rattle.std.specs.Option.{option_to_list}
use Rattle.station.specs.States.{Told, slip, reopened, passes, found, surveyed, goes_on_air, ticked, withdrawn, refused}

-- what surveys answered in a spell, and what ticks sent, both in order
pub record Spell : Type 0 where
  pub surveys : List (ℕ × ℕ)
  pub lines : List (List ℕ)

-- a check that passes begins a spell, unless one lasts
abbrev pub begun : Option Spell → Option Spell
begun None = Some (record { surveys = []; lines = [] })
begun (Some w) = Some w

abbrev pub with_line : List ℕ → Option Spell → Option Spell
with_line l None = None
with_line l (Some w) = Some (record { surveys = w.surveys; lines = w.lines ++ l ∷ [] })

abbrev pub with_survey : ℕ → ℕ → Option Spell → Option Spell
with_survey p t None = None
with_survey p t (Some w) = Some (record { surveys = w.surveys ++ (p, t) ∷ []; lines = w.lines })

-- the spells of a run, by its answers, where one may have begun before
abbrev pub spells : Option Spell → List Told → List Spell
spells now [] = option_to_list now
spells now (slip mark e ∷ rest) = option_to_list now ++ spells None rest
spells now (reopened ∷ rest) = option_to_list now ++ spells None rest
spells now (passes ∷ rest) = spells (begun now) rest
spells now (found fs ∷ rest) = spells now rest
spells now (surveyed p t ∷ rest) = spells (with_survey p t now) rest
spells now (goes_on_air ∷ rest) = spells now rest
spells now (ticked c l ∷ rest) = spells (with_line l now) rest
spells now (withdrawn ∷ rest) = option_to_list now ++ spells None rest
spells now (refused t ∷ rest) = spells now rest

-- what is sent until the station is withdrawn
abbrev pub until_withdrawn : List Told → List (List ℕ)
until_withdrawn [] = []
until_withdrawn (slip mark e ∷ rest) = until_withdrawn rest
until_withdrawn (reopened ∷ rest) = until_withdrawn rest
until_withdrawn (passes ∷ rest) = until_withdrawn rest
until_withdrawn (found fs ∷ rest) = until_withdrawn rest
until_withdrawn (surveyed p t ∷ rest) = until_withdrawn rest
until_withdrawn (goes_on_air ∷ rest) = until_withdrawn rest
until_withdrawn (ticked c l ∷ rest) = l ∷ until_withdrawn rest
until_withdrawn (withdrawn ∷ rest) = []
until_withdrawn (refused t ∷ rest) = until_withdrawn rest

-- what a receiver is fed that tunes in at a tick, the ticks that were granted being counted from 0 over the whole run
abbrev pub lines_from : ℕ → List Told → List (List ℕ)
lines_from k [] = []
lines_from k (slip mark e ∷ rest) = lines_from k rest
lines_from k (reopened ∷ rest) = lines_from k rest
lines_from k (passes ∷ rest) = lines_from k rest
lines_from k (found fs ∷ rest) = lines_from k rest
lines_from k (surveyed p t ∷ rest) = lines_from k rest
lines_from k (goes_on_air ∷ rest) = lines_from k rest
lines_from zero (ticked c l ∷ rest) = l ∷ until_withdrawn rest
lines_from (suc k) (ticked c l ∷ rest) = lines_from k rest
lines_from k (withdrawn ∷ rest) = lines_from k rest
lines_from k (refused t ∷ rest) = lines_from k rest
