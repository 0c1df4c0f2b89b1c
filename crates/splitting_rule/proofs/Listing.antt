-- What is computed on lists follows the rule.
use Rattle.std.proofs.Common.{◌≡◌, ℕ, zero, suc, ◌+◌, true, false, leb, List, [], ◌∷◌, ◌++◌, length, Ok, Err, refl, inl, inr, ⊎_elim, arith}
use Rattle.std.specs.List.Sorted.{IsPermutation}
use Rattle.std.proofs.lemmas.List.{length_push}
use Rattle.std.proofs.lemmas.List.Elements.{All-nil, All-cons, All-head, All-tail}
use Rattle.std.proofs.lemmas.List.Sorted.{IsPermutation-refl, IsPermutation-cons, IsPermutation-swap, IsPermutation-trans}
use Rattle.std.proofs.lemmas.Bool.{cases_Bool, cond_both, leb-true, leb-false}
use Rattle.records.specs.declared.kinds.Row.{Row}
use Rattle.splitting_rule.specs.Listed.{Pick, Listed, Follows, pick, left_too, place_picked, place_next, one_page_more, split_list}
use Rattle.splitting_rule.specs.Rule.{Chosen, Splits, Refuses, rest_of, row_of}
use Rattle.sequences.specs.Sequences.{earlier}
use Rattle.sequences.specs.declared.sequence.FreeSequence.{FreeSequence}
use Rattle.sequences.specs.Ordering.{earlier_ranks}
use Rattle.splitting_rule.proofs.Placing.{splits_push, refuses}

swap_two : {X : Type 0} (x y : X) (xs : List X) → IsPermutation (x ∷ (y ∷ xs)) (y ∷ (x ∷ xs))
swap_two x y xs = IsPermutation-swap (x ∷ (y ∷ xs)) (y ∷ (x ∷ xs)) 0 1 (omega arith) (omega arith) refl

module _ (w : ℕ) where
  -- x is left besides where the first of y and ys comes before it
  pick_later : (x y : FreeSequence) (ys : List FreeSequence) (p : Pick) → earlier w y x ≡ true → Chosen w (y ∷ ys) p.0 p.1 → Chosen w (x ∷ (y ∷ ys)) p.0 (x ∷ p.1)
  pick_later x y ys p e h = record {
    out = IsPermutation-trans _ _ _ (IsPermutation-cons x _ _ h.out) (swap_two x p.0 p.1);
    first = All-cons (λ z. earlier w z p.0 ≡ false) x (y ∷ ys)
        ((earlier_ranks w).chain x y p.0 ((earlier_ranks w).one_way y x e) (All-head (λ z. earlier w z p.0 ≡ false) y ys h.first)) h.first;
  }

  -- and y where it does not come before x
  pick_sooner : (x y : FreeSequence) (ys : List FreeSequence) (p : Pick) → earlier w y x ≡ false → Chosen w (x ∷ ys) p.0 p.1 → Chosen w (x ∷ (y ∷ ys)) p.0 (y ∷ p.1)
  pick_sooner x y ys p e h = record {
    out = IsPermutation-trans _ _ _ (swap_two x y ys) (IsPermutation-trans _ _ _ (IsPermutation-cons y _ _ h.out) (swap_two y p.0 p.1));
    first =
        let head : earlier w x p.0 ≡ false = All-head (λ z. earlier w z p.0 ≡ false) x ys h.first in
        All-cons (λ z. earlier w z p.0 ≡ false) x (y ∷ ys) head
        (All-cons (λ z. earlier w z p.0 ≡ false) y ys ((earlier_ranks w).chain y x p.0 e head) (All-tail (λ z. earlier w z p.0 ≡ false) x ys h.first));
  }

  pick_chosen : (x : FreeSequence) (xs : List FreeSequence) → Chosen w (x ∷ xs) (pick w x xs).0 (pick w x xs).1
  pick_chosen x [] = record { out = IsPermutation-refl (x ∷ []); first = All-cons (λ z. earlier w z x ≡ false) x [] (not_before_itself x) (All-nil (λ z. earlier w z x ≡ false)) }
    where
      not_before_itself : (x : FreeSequence) → earlier w x x ≡ false
      not_before_itself x = ⊎_elim (λ e. (earlier_ranks w).one_way x x e) (λ e. e) (cases_Bool (earlier w x x))
  pick_chosen x (y ∷ ys) =
      cond_both (earlier w y x) (left_too x (pick w y ys)) (left_too y (pick w x ys)) (λ p. Chosen w (x ∷ (y ∷ ys)) p.0 p.1)
      (λ e. pick_later x y ys (pick w y ys) e (pick_chosen y ys)) (λ e. pick_sooner x y ys (pick w x ys) e (pick_chosen x ys))

module _ (m most : ℕ) (free : List FreeSequence) where
  -- page n + 1 takes the sequence that was picked
  picked_follows : (n : ℕ) (rows : List Row) (mid : List FreeSequence) (p : Pick) → Splits m most free n rows mid → length rows ≡ n → Chosen (m + n) mid p.0 p.1 → Follows m most free (suc n) (place_picked (m + n) most n rows p)
  picked_follows n rows mid p before long chosen =
      let row : Row = row_of (n + 1) (m + n) p.0 in
      let left : List FreeSequence = rest_of (m + n) p.0 ++ p.1 in
      cond_both (leb (length left) most) (Ok (rows ++ (row ∷ []), left)) (Err (6, [])) (Follows m most free (suc n))
      (λ e. (
        splits_push m most free n rows row mid left long before
            (record { s = p.0; others = p.1; chosen = chosen; is = refl; cut = IsPermutation-refl left; fits = leb-true (length left) most e }),
        omega (arith, length_push rows row),
      ))
      (λ e. refuses m most free (suc n) n rows mid (6, []) (omega arith) before
      (inr (refl, record { s = p.0; others = p.1; chosen = chosen; too_many = leb-false (length left) most e })))

  next_follows : (n : ℕ) (rows : List Row) (mid : List FreeSequence) → Splits m most free n rows mid → length rows ≡ n → Follows m most free (suc n) (place_next (m + n) most n rows mid)
  next_follows n rows [] before long = refuses m most free (suc n) n rows [] (5, n ∷ []) (omega arith) before (inl (refl, refl))
  next_follows n rows (x ∷ xs) before long = picked_follows n rows (x ∷ xs) (pick (m + n) x xs) before long (pick_chosen (m + n) x xs)

  later : (n : ℕ) (t : ℕ × List ℕ) → Refuses m most free n t → Refuses m most free (suc n) t
  later n t (inl h) = inl (h.0, omega (arith, h.1), h.2, h.3)
  later n t (inr h) = inr (h.0, omega (arith, h.1), h.2, h.3)

  more_follows : (n : ℕ) (answer : Listed) → Follows m most free n answer → Follows m most free (suc n) (one_page_more (m + n) most n answer)
  more_follows n (Ok x) h = next_follows n x.0 x.1 h.0 h.1
  more_follows n (Err t) h = later n t h

  pub list_follows : (n : ℕ) → Follows m most free n (split_list m most free n)
  list_follows zero = (IsPermutation-refl free, refl)
  list_follows (suc n) = more_follows n (split_list m most free n) (list_follows n)
