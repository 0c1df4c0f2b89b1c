-- A single record: what a reader of one kind finds, as one of the records of a file.
use Rattle.std.proofs.Common.{◌≡◌, ℕ, List, IsErrAnd, Some, None, Ok, Err, Option, Result, sym, refl, ap, ◌∙◌, subst}
use Rattle.std.proofs.lemmas.Result.{err_from_is_err_and}
use Rattle.records.specs.Places.{Spans, Opens, Cuts}
use Rattle.records.specs.declared.fault.Fault.{Fault}
use Rattle.records.specs.declared.fault.Fault.TheVariants.{CutShort}
use Rattle.format.specs.Items.{Item, kind, size, bytes, Stood}

module _ {X : Type 0} (item : X → Item) (file : List ℕ) (a : ℕ) where
  -- a record that is cut short, handed on by `?`
  pub stood_cut : (x : X) (r : Result (Option (X × ℕ)) Fault) (e : Fault) → IsErrAnd r (λ y. y ≡ e) → (e ≡ CutShort a) × Cuts file a (kind (item x)) (size (item x)) → Stood item file a r
  stood_cut x r e by f =
      let p = err_from_is_err_and r by in
      subst (Stood item file a) (sym (p.1 ∙ ap (λ y. Err y) (p.2 ∙ f.0))) (refl, (x, f.1))

  -- the record that was found
  pub stood_some : (o : Option (X × ℕ)) (x : X) (e : ℕ) → Stood item file a (Ok o) → o ≡ Some (x, e) → Spans file a e (bytes (item x))
  stood_some o x e f is = subst (λ o. Stood item file a (Ok o)) is f

  -- no record was found
  pub stood_none : (o : Option (X × ℕ)) → Stood item file a (Ok o) → o ≡ None → (x : X) → Opens file a (kind (item x)) → ⊥
  stood_none o f is = subst (λ o. Stood item file a (Ok o)) is f
