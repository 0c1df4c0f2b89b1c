-- The station by its state, and what each call answers and leaves.
use Rattle.std.specs.Prelude.{◌≡◌, ℕ, ◌+◌, ◌*◌, ◌<◌, ◌≤◌, Bool, true, false, cond, not, ◌&&◌, List, [], ◌∷◌, ◌++◌, length, take, Ok, Err, Result, ◌==◌, ◌≢◌, nat_le, nat_lt}
use Rattle.std.specs.List.Sorted.{IsPermutation}
use Rattle.records.specs.declared.kinds.Closure.{Closure}
use Rattle.timetable.specs.Meaning.{Meaning}
use Rattle.timetable.specs.Closed.{closed_in, aired, line}
use Rattle.timetable.specs.Windows.{InRange}
use Rattle.bag.specs.Bags.{held, Emptied}
use Rattle.bag.specs.declared.bag.Bag.{Bag}
use Rattle.bag.specs.declared.ranked.Ranked.{Ghosts}
use Rattle.bag.specs.declared.finding.Finding.{Finding}
use Rattle.checker.specs.Judged.{Judged, Verdict}
use Rattle.checker.specs.Judged as judged
use Rattle.checker.specs.Findings.{Findings}
use Rattle.checker.specs.Findings as finding
use Rattle.survey.specs.Refusals as surveying
use Rattle.survey.specs.Surveys.{Airable, PeakOf}
use Rattle.station.specs.declared.phase.Phase.{Phase}
use Rattle.station.specs.declared.phase.Phase.TheVariants.{Open, Passed, OnAir}
use Rattle.station.specs.declared.refusal.Refusal.{Refusal}
use Rattle.station.specs.declared.refusal.Refusal.TheVariants as refusal
use Rattle.station.specs.declared.slip.Slip.{Slip}
use Rattle.station.specs.declared.station.Station.{Station}
use Rattle.station.specs.Tables.{listed, without}

pub record State : Type 0 where
  pub table : Meaning
  pub delay : ℕ
  pub pages : ℕ
  pub mark : ℕ
  pub closures : List Closure
  pub phase : Phase

-- a station whose timetable means M
abbrev pub seen : {T : Type 0} → Meaning → Station T → State
seen M s = record { table = M; delay = s.delay; pages = s.pages; mark = s.mark; closures = listed s.closures; phase = s.phase }

-- a station that was just built
abbrev pub fresh : Meaning → ℕ → ℕ → ℕ → State
fresh M m n mark = record { table = M; delay = m; pages = n; mark = mark; closures = []; phase = Open }

-- the timetable of what a station sends
abbrev pub sent_by : State → Meaning
sent_by s = aired s.table s.closures

abbrev pub on_air : Phase → Bool
on_air Open = false
on_air Passed = false
on_air (OnAir c) = true

abbrev pub passed : Phase → Bool
passed Open = false
passed Passed = true
passed (OnAir c) = false

abbrev pub with_phase : State → Phase → State
with_phase s p = record { table = s.table; delay = s.delay; pages = s.pages; mark = s.mark; closures = s.closures; phase = p }

-- open, with these entries closed
abbrev pub with_closures : State → List Closure → State
with_closures s es = record { table = s.table; delay = s.delay; pages = s.pages; mark = s.mark; closures = es; phase = Open }

-- the number of each refusal, and the values that it tells
abbrev pub told : Refusal → ℕ × List ℕ
told refusal.OnAir = (11, [])
told refusal.NoEntry = (19, [])
told refusal.ClosedAlready = (20, [])
told refusal.TableFull = (21, [])
told refusal.OtherSlip = (22, [])
told (refusal.Checking e) = judged.told e
told (refusal.Finding e) = finding.told e
told refusal.NotPassed = (16, [])
told (refusal.Surveying e) = surveying.told e
told refusal.NotOnAir = (17, [])
told refusal.ShortList = (13, [])
told refusal.ClockFull = (18, [])

-- what a call answers
pub data Told : Type 0 where
  -- a slip with a mark and an entry
  slip : ℕ → Closure → Told
  reopened : Told
  passes : Told
  -- the findings, in their order
  found : List Finding → Told
  -- a peak, and the first tune-in slot that reaches it
  surveyed : ℕ → ℕ → Told
  goes_on_air : Told
  -- the clock, and what was sent, channel by channel
  ticked : ℕ → List ℕ → Told
  withdrawn : Told
  -- a number, and its values
  refused : ℕ × List ℕ → Told

-- a call's answer and the state after it are these
abbrev pub Is : Told × State → Told → State → Type 0
Is r a s' = (a ≡ r.0) × (s' ≡ r.1)

-- an entry of the timetable
abbrev pub in_table : Meaning → Closure → Bool
in_table M e = nat_le 1 e.channel && (nat_le e.channel M.channels && nat_lt e.slot M.period)

abbrev pub closes : State → Closure → Told × State
closes s e =
    cond (on_air s.phase) (refused (11, []), s)
    (cond (not (in_table s.table e)) (refused (19, []), s)
    (cond (closed_in s.closures e.channel e.slot) (refused (20, []), s)
    (cond (nat_le 64 (length s.closures)) (refused (21, []), s)
    (slip s.mark e, with_closures s (s.closures ++ e ∷ [])))))

abbrev pub reopens : State → ℕ → Closure → Told × State
reopens s mark e =
    cond (on_air s.phase) (refused (11, []), s)
    (cond (not (mark == s.mark && closed_in s.closures e.channel e.slot)) (refused (22, []), s)
    (reopened, with_closures s (without s.closures e.channel e.slot)))

abbrev pub verdict_told : Verdict → Told
verdict_told (Ok _) = passes
verdict_told (Err t) = refused t

abbrev pub after_check : State → Verdict → State
after_check s (Ok _) = with_phase s Passed
after_check s (Err t) = s

-- with so many cells of scratch, a check answers a and leaves s'
pub record Checks (s : State) (cells : ℕ) (a : Told) (s' : State) : Type 0 where
  pub while_on_air : on_air s.phase ≡ true → (a ≡ refused (11, [])) × (s' ≡ s)
  pub off_air : on_air s.phase ≡ false → (v : Verdict) × Judged (sent_by s) s.delay s.pages cells v × (a ≡ verdict_told v) × (s' ≡ after_check s v)

-- with so many cells of scratch, a survey answers a. The peak is that of what may be sent.
pub data SurveyTold (s : State) (cells : ℕ) : Told → Type 0 where
  not_passed : s.phase ≡ Open → SurveyTold s cells (refused (16, []))
  short_scratch : (s.phase ≢ Open) → cells < 2 * s.pages → SurveyTold s cells (refused (13, []))
  long_period : (s.phase ≢ Open) → 2 * s.pages ≤ cells → 4096 < s.table.period → SurveyTold s cells (refused (23, []))
  peak : (p t : ℕ) → (s.phase ≢ Open) → 2 * s.pages ≤ cells → s.table.period ≤ 4096
      → (Airable (sent_by s) s.delay s.pages → PeakOf (sent_by s) s.delay s.pages p t) → SurveyTold s cells (surveyed p t)

abbrev pub airs_from : State → Phase → Told × State
airs_from s Open = (refused (16, []), s)
airs_from s Passed = (goes_on_air, with_phase s (OnAir 0))
airs_from s (OnAir c) = (refused (11, []), s)

abbrev pub airs : State → Told × State
airs s = airs_from s s.phase

-- the last slot of the clock is not sent
abbrev pub last_slot : ℕ
last_slot = 4294967295

-- into a list of so many places
abbrev pub ticks_from : State → ℕ → Phase → Told × State
ticks_from s places Open = (refused (17, []), s)
ticks_from s places Passed = (refused (17, []), s)
ticks_from s places (OnAir c) =
    cond (nat_lt places s.table.channels) (refused (13, []), s)
    (cond (nat_le last_slot c) (refused (18, []), s)
    (ticked c (line (sent_by s) c), with_phase s (OnAir (c + 1))))

abbrev pub ticks : State → ℕ → Told × State
ticks s places = ticks_from s places s.phase

abbrev pub withdraws_from : State → Phase → Told × State
withdraws_from s Open = (refused (17, []), s)
withdraws_from s Passed = (refused (17, []), s)
withdraws_from s (OnAir c) = (withdrawn, with_phase s Open)

abbrev pub withdraws : State → Told × State
withdraws s = withdraws_from s s.phase

-- what the calls return, as answers
abbrev pub by_close : Result Slip Refusal → Told
by_close (Ok x) = slip x.mark x.entry
by_close (Err e) = refused (told e)

abbrev pub by_reopen : Result (Unit {0}) (Refusal × Slip) → Told
by_reopen (Ok _) = reopened
by_reopen (Err e) = refused (told e.0)

-- of a call that answers nothing else
abbrev pub by_unit : Told → Result (Unit {0}) Refusal → Told
by_unit a (Ok _) = a
by_unit a (Err e) = refused (told e)

abbrev pub by_check : Result (Unit {0}) Refusal → Told
by_check r = by_unit passes r

abbrev pub by_survey : Result (ℕ × ℕ) Refusal → Told
by_survey (Ok x) = surveyed x.0 x.1
by_survey (Err e) = refused (told e)

-- with c channels, and the list as it is afterwards
abbrev pub by_tick : ℕ → List ℕ → Result ℕ Refusal → Told
by_tick c xs (Ok t) = ticked t (take c xs)
by_tick c xs (Err e) = refused (told e)

-- with so many cells of scratch and places of the bag, the findings are told as a
pub data FindingsTold (s : State) (cells places : ℕ) : Told → Type 0 where
  out_of_range : (InRange (sent_by s) s.delay s.pages → ⊥) → FindingsTold s cells places (refused (12, []))
  few_cells : InRange (sent_by s) s.delay s.pages → cells < 2 * s.pages → FindingsTold s cells places (refused (13, []))
  short_bag : (xs : List Finding) → InRange (sent_by s) s.delay s.pages → 2 * s.pages ≤ cells → Findings (sent_by s) s.delay s.pages xs → places < length xs → FindingsTold s cells places (refused (13, []))
  all_found : (xs : List Finding) → InRange (sent_by s) s.delay s.pages → 2 * s.pages ≤ cells → Findings (sent_by s) s.delay s.pages xs → length xs ≤ places → FindingsTold s cells places (found xs)

-- what the call returns and the bag then holds is what is told
abbrev pub FindingsOf : {o : Ghosts Finding} → State → ℕ → ℕ → Result ℕ Refusal → Bag Finding o → Type 0
FindingsOf s cells places (Ok count) bag = (xs : List Finding) × FindingsTold s cells places (found xs) × IsPermutation xs (held bag) × (count ≡ length xs)
FindingsOf s cells places (Err e) bag = FindingsTold s cells places (refused (told e)) × Emptied bag
