-- What holds of every run of calls on a station that was just built.
use Rattle.std.specs.Prelude.{◌≡◌, ℕ, ◌+◌, ◌-◌, ◌*◌, ◌%◌, ◌≤◌, false, ◌⊎◌, List, [], map, length, drop, None}
use mathlib.Core.List.{Memᴰ}
use Rattle.timetable.specs.Meaning.{Meaning, Lawful}
use Rattle.timetable.specs.Windows.{InRange, Stray, Starving}
use Rattle.feeding.specs.Feeding.{fed, denied}
use Rattle.feeding.specs.Laws.{Unbroken}
use Rattle.station.specs.declared.call.Call.{Call}
use Rattle.station.specs.Calls.{Replied, Run}
use Rattle.station.specs.States.{State, Told, refused, fresh, on_air, sent_by, Checks}
use Rattle.guarantee.specs.Plans.{PlansPass}
use Rattle.guarantee.specs.Spells.{Spell, spells, lines_from}

-- A spell of a station of delay m, n pages and period p. A receiver that tunes in at its slot t is fed what was sent from there on.
pub record Served (m n p : ℕ) (w : Spell) : Type 0 where
  -- with room for the whole film, nobody is refused, wherever they tune in
  pub unbroken : (t : ℕ) (store : List ℕ) → n ≤ length store
      → Unbroken m n (length (drop t w.lines)) (fed m n n store (drop t w.lines))
  -- the peak that any survey of the spell answered is room enough
  pub enough : (peak slot : ℕ) → Memᴰ (peak, slot) w.surveys → (t : ℕ) (store : List ℕ) → n ≤ length store
      → Unbroken m n (length (drop t w.lines)) (fed m n peak store (drop t w.lines))
  -- and one page less is not, from each slot that has the place in the period of the one that the survey named
  pub least : (peak slot : ℕ) → Memᴰ (peak, slot) w.surveys → (t : ℕ) (store : List ℕ) → n ≤ length store
      → t % p ≡ slot → m + n ≤ length (drop t w.lines)
      → (fed m n (peak - 1) store (drop t w.lines)).ending ≡ denied 34 []

abbrev pub Refuses : Told → Type 0
Refuses a = (t : ℕ × List ℕ) × (a ≡ refused t)

-- an open entry lies beyond the film, or some tune-in starves
abbrev pub Unsound : State → Type 0
Unsound s = Stray (sent_by s) s.pages ⊎ Starving (sent_by s) s.delay s.pages

-- off air, in range and with scratch for two numbers a page, a check refuses exactly where something is unsound
abbrev pub Exact : State → Type 0
Exact s =
    (cells : ℕ) (a : Told) (s' : State)
    → on_air s.phase ≡ false → InRange (sent_by s) s.delay s.pages → 2 * s.pages ≤ cells → Checks s cells a s'
    → (Refuses a → Unsound s) × (Unsound s → Refuses a)

-- a station over a timetable that means M, with delay m, n pages and a mark, met these calls and replied so
pub record Guarantee (M : Meaning) (m n mark : ℕ) (calls : List Call) (replies : List Replied) : Type 0 where
  -- every reply is what the rules give, call by call
  pub run : (s : State) × Run (fresh M m n mark) calls replies s
  -- every spell serves all receivers
  pub served : (w : Spell) → Memᴰ w (spells None (map (λ r. r.answer) replies)) → Served m n M.period w
  -- whoever tunes in at a tick is fed what a spell sent from some slot on
  pub within_spell : (k : ℕ) → (lines_from k (map (λ r. r.answer) replies) ≡ [])
      ⊎ ((w : Spell) × Memᴰ w (spells None (map (λ r. r.answer) replies)) × ((t : ℕ) × (lines_from k (map (λ r. r.answer) replies) ≡ drop t w.lines)))
  -- the check is exact
  pub exact : (s : State) → Exact s
  -- and passes the planners' plans
  pub plans_pass : PlansPass

-- it holds of every run, over every lawful timetable
abbrev pub RunsServe : Type 0
RunsServe =
    (M : Meaning) (m n mark : ℕ) (calls : List Call) (replies : List Replied) (s : State)
    → Lawful M → Run (fresh M m n mark) calls replies s → Guarantee M m n mark calls replies
