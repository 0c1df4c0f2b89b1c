-- Pieces of a file, and records that stand in it.
use Rattle.std.proofs.Common.{◌≡◌, ℕ, ◌≤◌, List, [], ◌∷◌, ◌++◌, length, get_or, drop, Some, None, Ok, Option, sym, refl, ap, ◌∙◌, subst, append_assoc, append-nil, add-zero, arith, length-append, length-drop}
use Rattle.std.proofs.lemmas.List.{drop_all, get_or-drop}
use Rattle.records.specs.Places.{Spans, Opens, Found}

pub spans_none : (file : List ℕ) (a : ℕ) → Spans file a a []
spans_none file a = record { reads = refl; ends = omega arith }

pub spans_join : {file : List ℕ} {a b e : ℕ} {xs ys : List ℕ} → Spans file a b xs → Spans file b e ys → Spans file a e (xs ++ ys)
spans_join {file} {a} {b} {e} {xs} {ys} s t = record {
  reads = s.reads ∙ ap (λ l. xs ++ l) t.reads ∙ sym (append_assoc xs ys (drop e file));
  ends = omega (arith, s.ends, t.ends, length-append xs ys);
}

pub spans_within : {file : List ℕ} {a e : ℕ} {x : ℕ} {xs : List ℕ} → Spans file a e (x ∷ xs) → e ≤ length file
spans_within {file} {a} {e} {x} {xs} s =
    let l : length (drop a file) ≡ length ((x ∷ xs) ++ drop e file) = ap length s.reads in
    omega (arith, s.ends, l, length-append (x ∷ xs) (drop e file), length-drop a file, length-drop e file)

pub spans_opens : {file : List ℕ} {a e k : ℕ} {bs : List ℕ} → Spans file a e (k ∷ bs) → Opens file a k
spans_opens {file} {a} {e} {k} {bs} s = record {
  within = omega (arith, spans_within s, s.ends);
  kind = ap (λ n. get_or file n 0) (sym (add-zero a)) ∙ sym (get_or-drop a file 0 0) ∙ ap (λ l. get_or l 0 0) s.reads;
}

-- a span of all that there is
pub spans_all : (file xs : List ℕ) (e : ℕ) → Spans file 0 e xs → length file ≤ e → file ≡ xs
spans_all file xs e s h = s.reads ∙ ap (λ l. xs ++ l) (drop_all e file h) ∙ append-nil xs

-- what was found, where it was a record
pub found_some : {X : Type 0} (k n : ℕ) (body : X → List ℕ) (file : List ℕ) (a : ℕ) (o : Option (X × ℕ)) (x : X) (e : ℕ) → Found k n body file a (Ok o) → o ≡ Some (x, e) → Spans file a e (k ∷ body x)
found_some k n body file a o x e f is = subst (λ o. Found k n body file a (Ok o)) is f

-- and where it was none
pub found_none : {X : Type 0} (k n : ℕ) (body : X → List ℕ) (file : List ℕ) (a : ℕ) (o : Option (X × ℕ)) → Found k n body file a (Ok o) → o ≡ None → Opens file a k → ⊥
found_none k n body file a o f is = subst (λ o. Found k n body file a (Ok o)) is f
