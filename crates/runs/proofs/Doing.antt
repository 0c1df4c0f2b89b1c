-- Calls that are made one after the other.
use Rattle.std.proofs.Common.{◌≡◌, ℕ, cond, List, [], ◌∷◌, ◌++◌, map, vec_items, sym, refl, ap, ◌∙◌, subst, append_assoc}
use Rattle.std.proofs.lemmas.List.{map-append}
use Rattle.timetable.specs.Meaning.{Meaning}
use Rattle.station.specs.declared.call.Call.{Call}
use Rattle.station.specs.declared.call.Reply.{Reply}
use Rattle.station.specs.Calls.{Replied, Does, Run, replied}
use Rattle.station.specs.States.{State, fresh, passed}
use Rattle.runs.specs.declared.rehearsal.Script.{Script}
use Rattle.runs.specs.Rehearsals.{Performs, Chosen}

-- one run after another
pub run_append : (xs ys : List Call) (us bs : List Replied) (s m s' : State) → Run s xs us m → Run m ys bs s' → Run s (xs ++ ys) (us ++ bs) s'
run_append [] ys [] bs s m s' a b = subst (λ t. Run t ys bs s') a b
run_append [] ys (r ∷ us) bs s m s' a b = absurd a
run_append (x ∷ xs) ys [] bs s m s' a b = absurd a
run_append (x ∷ xs) ys (r ∷ us) bs s m s' a b = (a.0, a.1, run_append xs ys us bs a.0 m s' a.2 b)

-- one call more
pub performs_more : (s : State) (done : List Call) (before after after' : List Reply) (s' s'' : State) (call : Call) (r : Reply)
    → Performs s done before after s' → Does s' call (replied r) s'' → after' ≡ after ++ r ∷ [] → Performs s (done ++ call ∷ []) before after' s''
performs_more s done before after after' s' s'' call r h step noted = record {
  replies = h.replies ++ r ∷ [];
  noted = noted ∙ ap (λ rs. rs ++ r ∷ []) h.noted ∙ append_assoc before h.replies (r ∷ []);
  run = subst (λ rs. Run s (done ++ call ∷ []) rs s'') (sym (map-append replied h.replies (r ∷ [])))
      (run_append done (call ∷ []) (map replied h.replies) (replied r ∷ []) s s' s'' h.run (s'', step, refl));
}

-- two lists of calls, the second after the first
pub performs_append : (s m s' : State) (xs ys : List Call) (before mid after : List Reply) → Performs s xs before mid m → Performs m ys mid after s' → Performs s (xs ++ ys) before after s'
performs_append s m s' xs ys before mid after a b = record {
  replies = a.replies ++ b.replies;
  noted = b.noted ∙ ap (λ rs. rs ++ b.replies) a.noted ∙ append_assoc before a.replies b.replies;
  run = subst (λ rs. Run s (xs ++ ys) rs s') (sym (map-append replied a.replies b.replies))
      (run_append xs ys (map replied a.replies) (map replied b.replies) s m s' a.run b.run);
}

-- the opening of a script, and then what it leads to
module _ (M : Meaning) (m n mark : ℕ) (script : Script) (rest : List Call) (built mid last : State) (none first all : List Reply)
    (begins : built ≡ fresh M m n mark) (empty : none ≡ []) (opening : Performs built (vec_items script.opening) none first mid)
    (choice : rest ≡ cond (passed mid.phase) (vec_items script.passed) (vec_items script.otherwise)) (later : Performs mid rest first all last) where
  noted_first : first ≡ opening.replies
  noted_first = opening.noted ∙ ap (λ rs. rs ++ opening.replies) empty

  noted_all : map replied all ≡ map replied opening.replies ++ map replied later.replies
  noted_all = ap (λ rs. map replied rs) (later.noted ∙ ap (λ rs. rs ++ later.replies) noted_first) ∙ map-append replied opening.replies later.replies

  opened : Run (fresh M m n mark) (vec_items script.opening) (map replied opening.replies) mid
  opened = subst (λ s. Run s (vec_items script.opening) (map replied opening.replies) mid) begins opening.run

  pub script_chosen : Chosen M m n mark script (vec_items script.opening ++ rest) (map replied all)
  script_chosen = record {
    first = map replied opening.replies;
    then_state = mid;
    rest = map replied later.replies;
    last_state = last;
    opened = opened;
    went_on = subst (λ cs. Run mid cs (map replied later.replies) last) choice later.run;
    calls_made = ap (λ cs. vec_items script.opening ++ cs) choice;
    all_replies = noted_all;
  }

  pub script_run : Run (fresh M m n mark) (vec_items script.opening ++ rest) (map replied all) last
  script_run =
      subst (λ rs. Run (fresh M m n mark) (vec_items script.opening ++ rest) rs last) (sym noted_all)
      (run_append (vec_items script.opening) rest (map replied opening.replies) (map replied later.replies) (fresh M m n mark) mid last opened later.run)
