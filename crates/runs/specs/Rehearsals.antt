-- What a rehearsal comes to.
use Rattle.std.specs.Prelude.{◌≡◌, ℕ, Bool, true, false, cond, List, ◌++◌, map, Some, None, vec_items, Option}
use Rattle.timetable.specs.Meaning.{Meaning}
use Rattle.feeding.specs.Feeding.{fed, left}
use Rattle.feeding.specs.Viewings.{viewed}
use Rattle.station.specs.declared.call.Call.{Call}
use Rattle.station.specs.declared.call.Reply.{Reply}
use Rattle.station.specs.Calls.{Replied, Run, answered, replied}
use Rattle.station.specs.States.{State, Told, slip, reopened, passes, found, surveyed, goes_on_air, ticked, withdrawn, refused, fresh, passed}
use Rattle.guarantee.specs.Guarantee.{Guarantee}
use Rattle.guarantee.specs.Spells.{lines_from}
use Rattle.runs.specs.declared.rehearsal.Script.{Script}
use Rattle.runs.specs.declared.rehearsal.Viewer.{Viewer}
use Rattle.runs.specs.declared.rehearsal.Rehearsal.{Rehearsal}

-- the answers of some replies
abbrev pub told_of : List Reply → List Told
told_of rs = map (λ r. answered r.answer) rs

-- what was sent, where a tick was granted
abbrev pub line_told : Told → Option (List ℕ)
line_told (slip mark e) = None
line_told reopened = None
line_told passes = None
line_told (found fs) = None
line_told (surveyed p t) = None
line_told goes_on_air = None
line_told (ticked c l) = Some l
line_told withdrawn = None
line_told (refused t) = None

abbrev pub withdrawn_told : Told → Bool
withdrawn_told (slip mark e) = false
withdrawn_told reopened = false
withdrawn_told passes = false
withdrawn_told (found fs) = false
withdrawn_told (surveyed p t) = false
withdrawn_told goes_on_air = false
withdrawn_told (ticked c l) = false
withdrawn_told withdrawn = true
withdrawn_told (refused t) = false

-- the calls were made from state s on and led to s', and their replies stand after those of before
pub record Performs (s : State) (calls : List Call) (before after : List Reply) (s' : State) : Type 0 where
  pub replies : List Reply
  pub noted : after ≡ before ++ replies
  pub run : Run s calls (map replied replies) s'

-- the calls that a script leads to: after the opening one list or the other, by where the station then stands
pub record Chosen (M : Meaning) (m n mark : ℕ) (script : Script) (calls : List Call) (replies : List Replied) : Type 0 where
  pub first : List Replied
  pub then_state : State
  pub rest : List Replied
  pub last_state : State
  pub opened : Run (fresh M m n mark) (vec_items script.opening) first then_state
  pub went_on : Run then_state (cond (passed then_state.phase) (vec_items script.passed) (vec_items script.otherwise)) rest last_state
  pub calls_made : calls ≡ vec_items script.opening ++ cond (passed then_state.phase) (vec_items script.passed) (vec_items script.otherwise)
  pub all_replies : replies ≡ first ++ rest

-- the receiver's answers are those of feeding, from the chosen tick on
pub record Viewed (m n : ℕ) (viewer : Viewer) (store : List ℕ) (v : Rehearsal) (store' : List ℕ) : Type 0 where
  pub shows_as_fed : viewed v.viewing ≡ fed m n viewer.capacity store (lines_from viewer.tick (told_of (vec_items v.replies)))
  pub store_left : store' ≡ left m n viewer.capacity store (lines_from viewer.tick (told_of (vec_items v.replies)))

-- a run of the rules with all that holds of it, and a receiver beside it
pub record Rehearsed (M : Meaning) (m n mark : ℕ) (script : Script) (viewer : Viewer) (store : List ℕ) (v : Rehearsal) (store' : List ℕ) : Type 0 where
  pub calls : List Call
  pub chosen : Chosen M m n mark script calls (map replied (vec_items v.replies))
  pub guarantee : Guarantee M m n mark calls (map replied (vec_items v.replies))
  pub receiver : Viewed m n viewer store v store'
