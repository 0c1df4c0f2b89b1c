-- The rule leaves nothing open: the rows, and the refusals, are those that are computed on lists.
use Rattle.std.proofs.Common.{◌≡◌, ℕ, zero, suc, ◌+◌, ◌<◌, ◌≤◌, false, cond, ◌⊎◌, List, [], ◌∷◌, ◌++◌, length, get_or, take, Ok, Err, sum_by, sym, refl, ap, ◌∙◌, subst, inl, inr, ⊎_elim, arith}
use Rattle.std.proofs.lemmas.List.{ext_get_or, length-take-le, get_or-take}
use Rattle.std.proofs.lemmas.List.Elements.{All-head, All-tail}
use Rattle.std.proofs.lemmas.List.Sorted.{length_permutation, sum_by-IsPermutation}
use Rattle.std.proofs.lemmas.List.Sums.{sum_by-cons, sum_by-append}
use Rattle.std.proofs.lemmas.Bool.{cases_Bool, cases_eq, cases_order}
use Rattle.records.specs.declared.kinds.Row.{Row}
use Rattle.bag.specs.Bags.{First}
use Rattle.splitting_rule.specs.Answers.{zero_row}
use Rattle.splitting_rule.specs.Listed.{Listed, Follows, RowsListed, RefusalsListed, split_list}
use Rattle.splitting_rule.specs.Rule.{Chosen, Placed, Crowded, Splits, Refuses, rest_of, row_of}
use Rattle.sequences.specs.Sequences.{earlier}
use Rattle.sequences.specs.declared.sequence.FreeSequence.{FreeSequence}
use Rattle.splitting_rule.proofs.Listing.{list_follows}
use Rattle.sequences.specs.Ordering.{earlier_decides}
use Rattle.splitting_rule.proofs.Placing.{refuses}

-- two lists with the same elements, each as often
abbrev Alike : List FreeSequence → List FreeSequence → Type 0
Alike xs ys = (f : FreeSequence → ℕ) → sum_by f xs ≡ sum_by f ys

length_sum : (xs : List FreeSequence) → length xs ≡ sum_by (λ _. 1) xs
length_sum [] = refl
length_sum (x ∷ xs) = omega (arith, sum_by-cons (λ (_ : FreeSequence). 1) x xs, length_sum xs)

alike_long : (xs ys : List FreeSequence) → Alike xs ys → length xs ≡ length ys
alike_long xs ys h = omega (arith, length_sum xs, length_sum ys, h (λ _. 1))

-- 1 where y comes before s
abbrev sooner : ℕ → FreeSequence → FreeSequence → ℕ
sooner w s y = cond (earlier w y s) 1 0

module _ (w : ℕ) where
  -- none comes before s, counted
  first_none : (s : FreeSequence) (xs : List FreeSequence) → First (earlier w) s xs → sum_by (sooner w s) xs ≡ 0
  first_none s [] h = refl
  first_none s (x ∷ xs) h =
      let here : sooner w s x ≡ 0 = ap (λ b. cond b 1 0) (All-head (λ y. earlier w y s ≡ false) x xs h) in
      omega (arith, sum_by-cons (sooner w s) x xs, here, first_none s xs (All-tail (λ y. earlier w y s ≡ false) x xs h))

  module _ (free free' : List FreeSequence) (s s' : FreeSequence) (others others' : List FreeSequence) (alike : Alike free free') (this : Chosen w free s others) (that : Chosen w free' s' others') where
    not_before : earlier w s' s ≡ false
    not_before =
        let f : FreeSequence → ℕ = sooner w s in
        let none = first_none s free this.first in
        let moved = sum_by-IsPermutation f free' (s' ∷ others') that.out in
        let cons = sum_by-cons f s' others' in
        ⊎_elim
        (λ e. let one : f s' ≡ 1 = ap (λ b. cond b 1 0) e in absurd (omega (arith, alike f)))
        (λ e. e)
        (cases_Bool (earlier w s' s))

  module _ (free free' : List FreeSequence) (s s' : FreeSequence) (others others' : List FreeSequence) (alike : Alike free free') (this : Chosen w free s others) (that : Chosen w free' s' others') where
    chosen_same : s ≡ s'
    chosen_same =
        earlier_decides w s s'
        (not_before free' free s' s others' others (λ f. sym (alike f)) that this)
        (not_before free free' s s' others others' alike this that)

    others_alike : Alike others others'
    others_alike f =
        omega (arith, alike f, sum_by-IsPermutation f free (s ∷ others) this.out, sum_by-IsPermutation f free' (s' ∷ others') that.out, sum_by-cons f s others, sum_by-cons f s' others', ap f chosen_same)

    left_alike : Alike (rest_of w s ++ others) (rest_of w s' ++ others')
    left_alike f =
        omega (arith, sum_by-append f (rest_of w s) others, sum_by-append f (rest_of w s') others', others_alike f, ap (λ (x : FreeSequence). sum_by f (rest_of w x)) chosen_same)

-- one page
module _ (page w most : ℕ) (free free' : List FreeSequence) (row row' : Row) (left left' : List FreeSequence) (alike : Alike free free') (this : Placed page w most free row left) (that : Placed page w most free' row' left') where
  placed_same : row ≡ row'
  placed_same =
      this.is ∙ ap (row_of page w) (chosen_same w free free' this.s that.s this.others that.others alike this.chosen that.chosen) ∙ sym that.is

  placed_alike : Alike left left'
  placed_alike f =
      sum_by-IsPermutation f _ left this.cut
      ∙ left_alike w free free' this.s that.s this.others that.others alike this.chosen that.chosen f
      ∙ sym (sum_by-IsPermutation f _ left' that.cut)

module _ (m most : ℕ) (free : List FreeSequence) where
  splits_alike : (n : ℕ) (rows rows' : List Row) (left left' : List FreeSequence) → Splits m most free n rows left → Splits m most free n rows' left' → Alike left left'
  splits_alike zero rows rows' left left' this that f = sum_by-IsPermutation f free left this ∙ sym (sum_by-IsPermutation f free left' that)
  splits_alike (suc n) rows rows' left left' this that f =
      placed_alike (n + 1) (m + n) most this.0 that.0 (get_or rows n zero_row) (get_or rows' n zero_row) left left'
      (splits_alike n rows rows' this.0 that.0 this.1 that.1) (this.2 zero_row) (that.2 zero_row) f

  splits_same : (n : ℕ) (rows rows' : List Row) (left left' : List FreeSequence) → Splits m most free n rows left → Splits m most free n rows' left' → (i : ℕ) → i < n → get_or rows i zero_row ≡ get_or rows' i zero_row
  splits_same zero rows rows' left left' this that i low = absurd (omega (arith, low))
  splits_same (suc n) rows rows' left left' this that i low =
      ⊎_elim
      (λ e.
      subst (λ (j : ℕ). get_or rows j zero_row ≡ get_or rows' j zero_row) (sym e)
      (placed_same (n + 1) (m + n) most this.0 that.0 (get_or rows n zero_row) (get_or rows' n zero_row) left left'
      (splits_alike n rows rows' this.0 that.0 this.1 that.1) (this.2 zero_row) (that.2 zero_row)))
      (λ ne. splits_same n rows rows' this.0 that.0 this.1 that.1 i (omega arith))
      (cases_eq i n)

  -- page k + 1 of n, and what was free before it
  record Stage (k : ℕ) (rows : List Row) : Type 0 where
    mid : List FreeSequence
    left : List FreeSequence
    before : Splits m most free k rows mid
    here : Placed (k + 1) (m + k) most mid (get_or rows k zero_row) left

  stage : (n : ℕ) (rows : List Row) (left : List FreeSequence) → Splits m most free n rows left → (k : ℕ) → k < n → Stage k rows
  stage zero rows left h k low = absurd (omega (arith, low))
  stage (suc n) rows left h k low =
      ⊎_elim
      (λ e. subst (λ (j : ℕ). Stage j rows) (sym e) (record { mid = h.0; left = left; before = h.1; here = h.2 zero_row }))
      (λ ne. stage n rows h.0 h.1 k (omega arith))
      (cases_eq k n)

  -- a sequence that is chosen was free
  none_chosen : (w : ℕ) (mid : List FreeSequence) (s : FreeSequence) (others : List FreeSequence) → Alike mid [] → Chosen w mid s others → ⊥
  none_chosen w mid s others empty chosen =
      omega (arith, empty (λ _. 1), sum_by-IsPermutation (λ (_ : FreeSequence). 1) mid (s ∷ others) chosen.out, sum_by-cons (λ (_ : FreeSequence). 1) s others)

  -- where n pages have rows, none of them is refused one
  excluded : (n : ℕ) (rows : List Row) (left : List FreeSequence) (t : ℕ × List ℕ) → Splits m most free n rows left → Refuses m most free n t → ⊥
  excluded n rows left t h (inl r) =
      let at : Stage r.0 rows = stage n rows left h r.0 r.1 in
      none_chosen (m + r.0) at.mid at.here.s at.here.others
      (splits_alike r.0 rows r.3.rows at.mid [] at.before r.3.placed) at.here.chosen
  excluded n rows left t h (inr r) =
      let at : Stage r.0 rows = stage n rows left h r.0 r.1 in
      let alike = splits_alike r.0 rows r.3.rows at.mid r.3.mid at.before r.3.placed in
      let next = r.3.next in
      let here = at.here in
      let mine : List FreeSequence = rest_of (m + r.0) here.s ++ here.others in
      let theirs : List FreeSequence = rest_of (m + r.0) next.s ++ next.others in
      let long : length mine ≡ length theirs = alike_long mine theirs (left_alike (m + r.0) at.mid r.3.mid here.s next.s here.others next.others alike here.chosen next.chosen) in
      let cut : length at.left ≡ length mine = length_permutation mine at.left here.cut in
      omega (arith, here.fits, next.too_many)

  -- why page k + 1 gets no row, where `mid` are free
  abbrev Why : ℕ → ℕ × List ℕ → List FreeSequence → Type 0
  Why k t mid = ((t ≡ (5, k ∷ [])) × (mid ≡ [])) ⊎ ((t ≡ (6, [])) × Crowded (m + k) most mid)

  record Halt (n : ℕ) (t : ℕ × List ℕ) : Type 0 where
    k : ℕ
    low : k < n
    rows : List Row
    mid : List FreeSequence
    placed : Splits m most free k rows mid
    why : Why k t mid

  halt : (n : ℕ) (t : ℕ × List ℕ) → Refuses m most free n t → Halt n t
  halt n t (inl r) = record { k = r.0; low = r.1; rows = r.3.rows; mid = []; placed = r.3.placed; why = inl (r.2, refl) }
  halt n t (inr r) = record { k = r.0; low = r.1; rows = r.3.rows; mid = r.3.mid; placed = r.3.placed; why = inr (r.2, r.3.next) }

  -- one that finds nothing free, and one that finds no room, are not at the same page
  not_both : (k : ℕ) (mid mid' : List FreeSequence) → Alike mid mid' → mid ≡ [] → Crowded (m + k) most mid' → ⊥
  not_both k mid mid' alike none next =
      none_chosen (m + k) mid' next.s next.others (λ f. sym (alike f) ∙ ap (sum_by f) none) next.chosen

  same_why : (k : ℕ) (t t' : ℕ × List ℕ) (mid mid' : List FreeSequence) → Alike mid mid' → Why k t mid → Why k t' mid' → t ≡ t'
  same_why k t t' mid mid' alike (inl r) (inl q) = r.0 ∙ sym q.0
  same_why k t t' mid mid' alike (inl r) (inr q) = absurd (not_both k mid mid' alike r.1 q.1)
  same_why k t t' mid mid' alike (inr r) (inl q) = absurd (not_both k mid' mid (λ f. sym (alike f)) q.1 r.1)
  same_why k t t' mid mid' alike (inr r) (inr q) = r.0 ∙ sym q.0

  -- one halt is not before another
  not_sooner : (n : ℕ) (t t' : ℕ × List ℕ) (a : Halt n t) (b : Halt n t') → a.k < b.k → ⊥
  not_sooner n t t' a b low =
      excluded b.k b.rows b.mid t b.placed (refuses m most free b.k a.k a.rows a.mid t low a.placed a.why)

  halts_once : (n : ℕ) (t t' : ℕ × List ℕ) → Halt n t → Halt n t' → t ≡ t'
  halts_once n t t' a b =
      ⊎_elim
      (λ e.
      let placed = subst (λ (k : ℕ). Splits m most free k b.rows b.mid) (sym e) b.placed in
      let why = subst (λ (k : ℕ). Why k t' b.mid) (sym e) b.why in
      same_why a.k t t' a.mid b.mid (splits_alike a.k a.rows b.rows a.mid b.mid a.placed placed) a.why why)
      (λ ne. absurd (⊎_elim (not_sooner n t t' a b) (not_sooner n t' t b a) ne))
      (cases_order a.k b.k)

  -- the rows that the rule gives are those that the list gives
  ok_listed : (n : ℕ) (rows : List Row) (left : List FreeSequence) (answer : Listed) → n ≤ length rows → Splits m most free n rows left → Follows m most free n answer → (rest : List FreeSequence) × (answer ≡ Ok (take n rows, rest))
  ok_listed n rows left (Ok x) long h follows =
      let all : take n rows ≡ x.0 =
      ext_get_or zero_row (take n rows) x.0 (length-take-le n rows long ∙ sym follows.1)
      (λ i low.
      let within : i < n = omega (arith, low, length-take-le n rows long) in
      get_or-take n rows i zero_row within ∙ splits_same n rows x.0 left x.1 h follows.0 i within) in
      (x.1, λ j. Ok (sym all j, x.1))
  ok_listed n rows left (Err t) long h follows = absurd (excluded n rows left t h follows)

  err_listed : (n : ℕ) (t : ℕ × List ℕ) (answer : Listed) → Refuses m most free n t → Follows m most free n answer → answer ≡ Err t
  err_listed n t (Ok x) r follows = absurd (excluded n x.0 x.1 t follows.0 r)
  err_listed n t (Err t') r follows = ap (λ (v : ℕ × List ℕ). Err v) (halts_once n t' t (halt n t' follows) (halt n t r))

pub rows_listed : RowsListed
rows_listed m most free n rows left long h = ok_listed m most free n rows left (split_list m most free n) long h (list_follows m most free n)

pub refusals_listed : RefusalsListed
refusals_listed m most free n t h = err_listed m most free n t (split_list m most free n) h (list_follows m most free n)
