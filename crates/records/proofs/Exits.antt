-- The exit of a `?` whose error is handed on as it is.
use Rattle.std.proofs.Common.{◌≡◌, IsErrAnd, Err, Result, sym, ap, ◌∙◌, subst, MatchResult}
use Rattle.std.proofs.lemmas.Result.{err_from_is_err_and}

pub exit : {T E : Type 0} (P : T → Type 0) (Q : E → Type 0) (r : Result T E) (e : E) → IsErrAnd r (λ y. y ≡ e) → Q e → MatchResult r P Q
exit P Q r e by q =
    let p = err_from_is_err_and r by in
    subst (λ r. MatchResult r P Q) (sym (p.1 ∙ ap (λ y. Err y) p.2)) q
