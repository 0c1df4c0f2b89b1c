-- Replies: the memory that a call was lent, afterwards, and what is told.
use Rattle.std.proofs.Common.{◌≡◌, ℕ, ◌≤◌, List, [], length, take, replicate, Ok, Err, vec_items, Result, MatchResult, Vec, sym, ap, ◌∙◌, subst, ⊎_elim, arith}
use lib.ListN.{length-replicate}
use Rattle.std.specs.List.Sorted.{IsPermutation}
use Rattle.std.specs.Vec.{with_items}
use Rattle.std.specs.declared.alloc.Global.{Global}
use Rattle.std.proofs.lemmas.List.{with_items_is}
use Rattle.std.proofs.lemmas.Bool.{cases_lt, cond-true, lt-ltb}
use Rattle.bag.specs.Bags.{held}
use Rattle.bag.specs.declared.bag.Bag.{Bag}
use Rattle.bag.specs.declared.ranked.Ranked.{Ghosts}
use Rattle.bag.specs.declared.finding.Finding.{Finding}
use Rattle.checker.specs.Findings.{Ascending}
use Rattle.station.specs.declared.call.Answer.{Answer}
use Rattle.station.specs.declared.call.Answer.TheVariants as answer
use Rattle.station.specs.declared.call.Call.{Call}
use Rattle.station.specs.declared.phase.Phase.{Phase}
use Rattle.station.specs.declared.phase.Phase.TheVariants.{Open, Passed, OnAir}
use Rattle.station.specs.declared.refusal.Refusal.{Refusal}
use Rattle.station.specs.Calls.{zeroed, Replied, Step, answered, TellsFindings, TellsTick}
use Rattle.station.specs.States.{State, Told, found, ticked, refused, FindingsOf, FindingsTold, all_found, Is, ticks, ticks_from, by_tick}

-- cells that were lent as a slice and zeroed
pub zeroed_cells : {Z : Type 0} (v : Vec ℕ Z) (before after : List ℕ) → before ≡ vec_items v → length before ≡ v.len → after ≡ replicate (length before) 0 → vec_items (with_items v after) ≡ zeroed (vec_items v)
zeroed_cells v before after lent long zero =
    with_items_is v after (ap length zero ∙ length-replicate _ _ ∙ long) ∙ zero ∙ ap (λ xs. replicate (length xs) 0) lent

-- a reply to a call that was lent nothing
pub bare_leaves : (a : Told) (r : Replied) → r ≡ record { answer = a; scratch = []; list = [] } → (r.scratch ≡ []) × (r.list ≡ [])
bare_leaves a r e = (ap (λ (x : Replied). x.scratch) e, ap (λ (x : Replied). x.list) e)

pub bare_steps : (s : State) (call : Call) (s' : State) (a told : Told) (r : Replied) → r ≡ record { answer = a; scratch = []; list = [] } → a ≡ told → Step s call told s' → Step s call r.answer s'
bare_steps s call s' a told r e same h = subst (λ b. Step s call b s') (sym (ap (λ (x : Replied). x.answer) e ∙ same)) h

ascending_of : (s : State) (cells places : ℕ) (xs : List Finding) → FindingsTold s cells places (found xs) → Ascending xs
ascending_of s cells places _ (all_found xs ok room exact fits) = exact.ascending

-- the answer of the findings call, where they were taken out of the bag in order
pub found_as : (E : Type 0) {o : Ghosts Finding} (result : Result ℕ Refusal) (bag : Bag Finding o) (v : Vec Finding Global) (a : Result Answer Refusal) → ((xs : List Finding) → Ascending xs → IsPermutation xs (held bag) → vec_items v ≡ xs)
    → MatchResult result (λ _. a ≡ Ok (answer.Found v)) (λ e. a ≡ Err e) → TellsFindings {E = E} result bag (Ok a)
found_as E (Ok count) bag v a same h = λ xs up out. ap answered h ∙ ap (λ fs. found fs) (same xs up out)
found_as E (Err e) bag v a same h = ap answered h

-- what the findings call returned and the bag held is told
pub findings_told_as : (E : Type 0) {o : Ghosts Finding} (s : State) (cells places : ℕ) (result : Result ℕ Refusal) (bag : Bag Finding o) (a : Result Answer Refusal) → FindingsOf s cells places result bag → TellsFindings {E = E} result bag (Ok a) → FindingsTold s cells places (answered a)
findings_told_as E s cells places (Ok count) bag a h tells =
    subst (λ t. FindingsTold s cells places t) (sym (tells h.0 (ascending_of s cells places h.0 h.1) h.2)) h.1
findings_told_as E s cells places (Err e) bag a h tells = subst (λ t. FindingsTold s cells places t) (sym tells) h.0

never : (c : ℕ) (l : List ℕ) (t : ℕ × List ℕ) → ticked c l ≡ refused t → ⊥
never c l t e = let z : ◌≡◌ {A = ℕ} 0 1 = cc in omega arith

-- where a tick was granted, the list had a place for each channel
tick_room : (s s' : State) (places c : ℕ) (l : List ℕ) (p : Phase) → Is (ticks_from s places p) (ticked c l) s' → s.table.channels ≤ places
tick_room s s' places c l Open h = absurd (never c l (17, []) h.0)
tick_room s s' places c l Passed h = absurd (never c l (17, []) h.0)
tick_room s s' places c l (OnAir clock) h = ⊎_elim
    (λ short. absurd (never c l (13, []) (h.0 ∙ ap (λ (x : Told × State). x.0) (cond-true _ _ _ (lt-ltb places s.table.channels short)))))
    (λ enough. enough)
    (cases_lt places s.table.channels)

-- what a tick returned and the list holds is told
pub tick_told_as : (s s' : State) (places c : ℕ) (xs : List ℕ) (result : Result ℕ Refusal) (a : Result Answer Refusal) → c ≡ s.table.channels → length xs ≡ places
    → Is (ticks s places) (by_tick s.table.channels xs result) s' → TellsTick c xs result a → answered a ≡ by_tick s.table.channels xs result
tick_told_as s s' places c xs (Ok t) a e long h tells =
    tells (omega (arith, tick_room s s' places t (take s.table.channels xs) s.phase h)) ∙ ap (λ k. ticked t (take k xs)) e
tick_told_as s s' places c xs (Err x) a e long h tells = tells
