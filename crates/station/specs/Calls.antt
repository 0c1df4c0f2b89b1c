-- Any of the calls: what it answers, what it leaves in the memory that it was lent, and the state after it.
use Rattle.std.specs.Prelude.{◌≡◌, ℕ, ◌≤◌, List, [], ◌∷◌, ◌++◌, length, take, drop, replicate, IfOk, Ok, Err, vec_items, Result}
use Rattle.std.specs.List.Sorted.{IsPermutation}
use Rattle.bag.specs.Bags.{held}
use Rattle.bag.specs.declared.bag.Bag.{Bag}
use Rattle.bag.specs.declared.ranked.Ranked.{Ghosts}
use Rattle.bag.specs.declared.finding.Finding.{Finding}
use Rattle.checker.specs.Findings.{Ascending}
use Rattle.station.specs.declared.refusal.Refusal.{Refusal}
use Rattle.station.specs.declared.call.Answer.{Answer}
use Rattle.station.specs.declared.call.Answer.TheVariants as answer
use Rattle.station.specs.declared.call.Call.{Call}
use Rattle.station.specs.declared.call.Call.TheVariants as call
use Rattle.station.specs.declared.call.Reply.{Reply}
use Rattle.station.specs.States.{State, Told, slip, reopened, passes, found, surveyed, goes_on_air, ticked, withdrawn, refused, told, Is, closes, reopens, Checks, FindingsTold, SurveyTold, airs, ticks, withdraws}

-- one call: what it answers, and the state after it
abbrev pub Step : State → Call → Told → State → Type 0
Step s (call.Close e) a s' = Is (closes s e) a s'
Step s (call.Reopen mark e) a s' = Is (reopens s mark e) a s'
Step s (call.Check scratch) a s' = Checks s (length (vec_items scratch)) a s'
Step s (call.Findings scratch places) a s' = FindingsTold s (length (vec_items scratch)) places a × (s' ≡ s)
Step s (call.Survey scratch) a s' = SurveyTold s (length (vec_items scratch)) a × (s' ≡ s)
Step s call.Air a s' = Is (airs s) a s'
Step s (call.Tick list) a s' = Is (ticks s (length (vec_items list))) a s'
Step s call.Withdraw a s' = Is (withdraws s) a s'

-- an answer, and the scratch and the list that were lent, as they are afterwards
pub record Replied : Type 0 where
  pub answer : Told
  pub scratch : List ℕ
  pub list : List ℕ

-- the answer of a call that is granted
abbrev pub granted : Answer → Told
granted (answer.Closed mark e) = slip mark e
granted answer.Reopened = reopened
granted answer.Passed = passes
granted (answer.Found fs) = found (vec_items fs)
granted (answer.Surveyed p t) = surveyed p t
granted answer.OnAir = goes_on_air
granted (answer.Ticked t l) = ticked t (vec_items l)
granted answer.Withdrawn = withdrawn

-- an answer, or a refusal
abbrev pub answered : Result Answer Refusal → Told
answered (Ok a) = granted a
answered (Err e) = refused (told e)

abbrev pub replied : Reply → Replied
replied r = record { answer = answered r.answer; scratch = vec_items r.scratch; list = vec_items r.list }

-- what the call returned and the bag then held, as an answer: the findings in their order, or the refusal
abbrev pub TellsFindings : {E : Type 0} {o : Ghosts Finding} → Result ℕ Refusal → Bag Finding o → Result (Result Answer Refusal) E → Type 0
TellsFindings (Ok count) bag r = IfOk r (λ a. (xs : List Finding) → Ascending xs → IsPermutation xs (held bag) → answered a ≡ found xs)
TellsFindings (Err e) bag r = IfOk r (λ a. answered a ≡ refused (told e))

-- what a tick returned and the list then holds, as an answer, with c channels
abbrev pub TellsTick : ℕ → List ℕ → Result ℕ Refusal → Result Answer Refusal → Type 0
TellsTick c xs (Ok t) a = c ≤ length xs → answered a ≡ ticked t (take c xs)
TellsTick c xs (Err e) a = answered a ≡ refused (told e)

-- a list once an answer was written into it: what was sent stands in front, and nothing else changes
abbrev pub written : Told → List ℕ → List ℕ
written (slip mark e) xs = xs
written reopened xs = xs
written passes xs = xs
written (found fs) xs = xs
written (surveyed p t) xs = xs
written goes_on_air xs = xs
written (ticked t l) xs = l ++ drop (length l) xs
written withdrawn xs = xs
written (refused t) xs = xs

abbrev pub zeroed : List ℕ → List ℕ
zeroed xs = replicate (length xs) 0

-- what a call leaves in the scratch and in the list that it was lent; a call that was lent none hands none back
abbrev pub Leaves : Call → Replied → Type 0
Leaves (call.Close e) r = (r.scratch ≡ []) × (r.list ≡ [])
Leaves (call.Reopen mark e) r = (r.scratch ≡ []) × (r.list ≡ [])
Leaves (call.Check scratch) r = (r.scratch ≡ zeroed (vec_items scratch)) × (r.list ≡ [])
Leaves (call.Findings scratch places) r = (r.scratch ≡ zeroed (vec_items scratch)) × (r.list ≡ [])
Leaves (call.Survey scratch) r = (r.scratch ≡ zeroed (vec_items scratch)) × (r.list ≡ [])
Leaves call.Air r = (r.scratch ≡ []) × (r.list ≡ [])
Leaves (call.Tick list) r = (r.scratch ≡ []) × (r.list ≡ written r.answer (vec_items list))
Leaves call.Withdraw r = (r.scratch ≡ []) × (r.list ≡ [])

-- one call with its reply, and the state after it
pub record Does (s : State) (c : Call) (r : Replied) (s' : State) : Type 0 where
  pub steps : Step s c r.answer s'
  pub leaves : Leaves c r

-- any list of calls, with what they reply, and the state after them
abbrev pub Run : State → List Call → List Replied → State → Type 0
Run s [] [] s' = s' ≡ s
Run s [] (r ∷ rs) s' = ⊥
Run s (c ∷ cs) [] s' = ⊥
Run s (c ∷ cs) (r ∷ rs) s' = (mid : State) × Does s c r mid × Run mid cs rs s'
