-- One page more, in the rule and in the bag.
use Rattle.std.proofs.Common.{◌≡◌, ℕ, zero, suc, ◌+◌, ◌<◌, ◌⊎◌, List, [], ◌∷◌, ◌++◌, length, get_or, set, All, sym, subst, inl, inr, add-one, arith, get_or-set_other, get_or-set_same}
use Rattle.std.specs.List.Sorted.{IsPermutation}
use Rattle.std.proofs.lemmas.List.{get_or_append_left, get_or_push}
use Rattle.std.proofs.lemmas.List.Elements.{All-head}
use Rattle.std.proofs.lemmas.List.Sorted.{All-permutation, IsPermutation-trans}
use Rattle.records.specs.declared.kinds.Row.{Row}
use Rattle.bag.specs.Bags.{held, Takes}
use Rattle.bag.specs.declared.bag.Bag.{Bag}
use Rattle.bag.specs.declared.ranked.Ranked.{Ghosts}
use Rattle.splitting_rule.specs.Rule.{Placed, Crowded, Splits, Refuses}
use Rattle.sequences.specs.Sequences.{Usable, earlier}
use Rattle.sequences.specs.declared.sequence.FreeSequence.{FreeSequence}

-- a sequence that is taken out of a bag whose sequences are all usable
pub taken_usable : {g : Ghosts FreeSequence} (w : ℕ) (s : FreeSequence) (a b : Bag FreeSequence g) → Takes (earlier w) s a b → All (Usable w) (held a) → Usable w s
taken_usable w s a b taken usable = All-head (Usable w) s (held b) (All-permutation (Usable w) (held a) (s ∷ held b) taken.one_less usable)

-- only the first n rows matter
pub splits_kept : (m most : ℕ) (free : List FreeSequence) (n : ℕ) (rows rows' : List Row) (left : List FreeSequence) → ((k : ℕ) (d : Row) → k < n → get_or rows' k d ≡ get_or rows k d) → Splits m most free n rows left → Splits m most free n rows' left
splits_kept m most free zero rows rows' left same h = h
splits_kept m most free (suc n) rows rows' left same h = (
  h.0,
  splits_kept m most free n rows rows' h.0 (λ k d low. same k d (omega arith)) h.1,
  λ d. subst (λ (r : Row). Placed (n + 1) (m + n) most h.0 r left) (sym (same n d (omega arith))) (h.2 d),
)

pub splits_more : (m most : ℕ) (free : List FreeSequence) (n : ℕ) (rows : List Row) (row : Row) (mid left : List FreeSequence) → n < length rows → Splits m most free n rows mid → Placed (n + 1) (m + n) most mid row left → Splits m most free (n + 1) (set rows n row) left
splits_more m most free n rows row mid left low before here =
    subst (λ (k : ℕ). Splits m most free k (set rows n row) left) (sym (add-one n)) (
      mid,
      splits_kept m most free n rows (set rows n row) mid (λ k d h. get_or-set_other rows n k row d (omega arith)) before,
      λ d. subst (λ (r : Row). Placed (n + 1) (m + n) most mid r left) (sym (get_or-set_same rows n row d low)) here,
    )

-- the same, of rows of which there are n so far
pub splits_push : (m most : ℕ) (free : List FreeSequence) (n : ℕ) (rows : List Row) (row : Row) (mid left : List FreeSequence) → length rows ≡ n → Splits m most free n rows mid → Placed (n + 1) (m + n) most mid row left → Splits m most free (suc n) (rows ++ (row ∷ [])) left
splits_push m most free n rows row mid left long before here = (
  mid,
  splits_kept m most free n rows (rows ++ (row ∷ [])) mid (λ k d h. get_or_append_left rows (row ∷ []) d k (omega arith)) before,
  λ d. subst (λ (r : Row). Placed (n + 1) (m + n) most mid r left) (sym (get_or_push rows row d n long)) here,
)

-- page k + 1 of n gets no row
pub refuses : (m most : ℕ) (free : List FreeSequence) (n k : ℕ) (rows : List Row) (mid : List FreeSequence) (t : ℕ × List ℕ) → k < n → Splits m most free k rows mid → ((t ≡ (5, k ∷ [])) × (mid ≡ [])) ⊎ ((t ≡ (6, [])) × Crowded (m + k) most mid) → Refuses m most free n t
refuses m most free n k rows mid t low before (inl h) =
    inl (k, low, h.0, record { rows = rows; placed = subst (λ (l : List FreeSequence). Splits m most free k rows l) h.1 before })
refuses m most free n k rows mid t low before (inr h) =
    inr (k, low, h.0, record { rows = rows; mid = mid; placed = before; next = h.1 })

-- the order in which the free sequences lie does not matter
pub splits_from : (m most : ℕ) (free free' : List FreeSequence) → IsPermutation free free' → (n : ℕ) (rows : List Row) (left : List FreeSequence) → Splits m most free' n rows left → Splits m most free n rows left
splits_from m most free free' same zero rows left h = IsPermutation-trans free free' left same h
splits_from m most free free' same (suc n) rows left h = (h.0, splits_from m most free free' same n rows h.0 h.1, h.2)

pub refuses_from : (m most : ℕ) (free free' : List FreeSequence) → IsPermutation free free' → (n : ℕ) (t : ℕ × List ℕ) → Refuses m most free' n t → Refuses m most free n t
refuses_from m most free free' same n t (inl h) =
    inl (h.0, h.1, h.2, record { rows = h.3.rows; placed = splits_from m most free free' same h.0 h.3.rows [] h.3.placed })
refuses_from m most free free' same n t (inr h) =
    inr (h.0, h.1, h.2, record { rows = h.3.rows; mid = h.3.mid; placed = splits_from m most free free' same h.0 h.3.rows h.3.mid h.3.placed; next = h.3.next })
