-- The pieces of a sequence have its slots between them, each slot once; so the rows and the free sequences never share one.
use Rattle.std.proofs.Common.{◌≡◌, ℕ, zero, suc, ◌+◌, ◌-◌, ◌*◌, ◌/◌, ◌%◌, ◌<◌, ◌≤◌, Bool, true, false, cond, not, ◌&&◌, eqb, leb, List, ◌∷◌, length, get_or, take, All, sum_by, sym, refl, ap, ◌∙◌, subst, ⊎_elim, add-zero, mod-lt, add_comm, mul-pos, one-mul, zero-mul, div-mul-le_self, add-one, arith}
use lib.Arith.{mod-mul}
use Rattle.std.proofs.lemmas.Nat.{le-div}
use Rattle.std.proofs.lemmas.List.Elements.{All-nil, All-cons, All-head, All-tail, All-append, All-weaker}
use Rattle.std.proofs.lemmas.List.Sorted.{sum_by-IsPermutation, All-permutation}
use Rattle.std.proofs.lemmas.List.Sums.{sum_by-cons, sum_by-append, sum_by_more}
use Rattle.std.proofs.lemmas.Bool.{le-leb, eq-eqb, ne_eqb, cases_eq}
use Rattle.std.proofs.lemmas.Bool.Decides.{nat_tests, eqb_tells, leb_tells}
use Rattle.records.specs.declared.kinds.Row.{Row}
use Rattle.numbers.proofs.Rounds.{place_parts}
use Rattle.splitting_rule.specs.Answers.{zero_row}
use Rattle.splitting_rule.specs.Rule.{Splits, Placed, rest_of, row_of}
use Rattle.sequences.specs.Sequences.{Usable, covers, piece, pieces}
use Rattle.splitting_rule.specs.Sharing.{row_covers, SharedOut}
use Rattle.sequences.specs.declared.sequence.FreeSequence.{FreeSequence}
use Rattle.splitting_rule.proofs.Pieces.{piece_starts}

-- the slots of piece j: those of the sequence whose turn has the number j
back : (t parts q p j : ℕ) → 0 < q → 0 < parts → t % q ≡ p → t / q % parts ≡ j → t % (parts * q) ≡ p + j * q
back t parts q p j hq hp e f =
    mod-mul t hp hq ∙ (add_comm ((t / q % parts) * q) (t % q) ∙ (ap (λ n. n + (t / q % parts) * q) e ∙ ap (λ n. p + n * q) f))

module _ (k t parts : ℕ) (s : FreeSequence) (hq : 0 < s.period) (hp : 0 < parts) (inside : s.start < s.period) where
  -- a piece has the slots of the sequence whose turn has its number
  at_piece : (j : ℕ) → covers k t (piece s parts j) ≡ cond (eqb s.channel k && (eqb (t % s.period) s.start && eqb (t / s.period % parts) j)) 1 0
  at_piece j =
      let test : eqb (t % (parts * s.period)) (s.start + j * s.period) ≡ (eqb (t % s.period) s.start && eqb (t / s.period % parts) j) =
      ⊎_elim
      (λ e.
      let b = place_parts t parts s.period j s.start hp inside (e ∙ add_comm s.start (j * s.period)) in
      let x = eq-eqb _ _ e in
      let y = eq-eqb _ _ b.0 in
      let z = eq-eqb _ _ b.1 in rw (x, y, z))
      (λ ne.
      let x = ne_eqb _ _ ne in
      ⊎_elim
      (λ e.
      let y = eq-eqb _ _ e in
      ⊎_elim (λ f. absurd (ne (back t parts s.period s.start j hq hp e f))) (λ nf. let z = ne_eqb _ _ nf in rw (x, y, z)) (cases_eq (t / s.period % parts) j))
      (λ nf. let y = ne_eqb _ _ nf in rw (x, y)) (cases_eq (t % s.period) s.start))
      (cases_eq (t % (parts * s.period)) (s.start + j * s.period)) in
      ap (λ b. cond (eqb s.channel k && b) 1 0) test

  -- the pieces of the numbers 0 to n
  sum_pieces : (n : ℕ) → covers k t (piece s parts 0) + sum_by (covers k t) (pieces s parts n) ≡ cond (eqb s.channel k && (eqb (t % s.period) s.start && leb (t / s.period % parts) n)) 1 0
  sum_pieces zero = let a = at_piece 0 in grind (arith, nat_tests)
  sum_pieces (suc n) =
      let a = at_piece (suc n) in
      let b = sum_pieces n in
      let e = sum_by-cons (covers k t) (piece s parts (suc n)) (pieces s parts n) in
      let first = covers k t (piece s parts 0) in
      let f : first + sum_by (covers k t) (pieces s parts (suc n)) ≡ covers k t (piece s parts (suc n)) + (first + sum_by (covers k t) (pieces s parts n)) = omega arith in
      f ∙ joined (eqb s.channel k) (eqb (t % s.period) s.start) (t / s.period % parts) n _ _ a b
    where
      joined : (c r : Bool) (x n a b : ℕ) → a ≡ cond (c && (r && eqb x (suc n))) 1 0 → b ≡ cond (c && (r && leb x n)) 1 0 → a + b ≡ cond (c && (r && leb x (suc n))) 1 0
      joined c r x n a b e f =
          let one = eqb_tells x (suc n) in
          let two = leb_tells x n in
          let three = leb_tells x (suc n) in grind (arith, nat_tests)

  -- all pieces together have the slots of the sequence
  cut_covers : covers k t (piece s parts 0) + sum_by (covers k t) (pieces s parts (parts - 1)) ≡ covers k t s
  cut_covers =
      let l : leb (t / s.period % parts) (parts - 1) ≡ true = le-leb _ _ (omega (arith, mod-lt (t / s.period) hp)) in
      sum_pieces (parts - 1)
      ∙ (ap (λ b. cond (eqb s.channel k && (eqb (t % s.period) s.start && b)) 1 0) l
      ∙ ap (λ b. cond (eqb s.channel k && b) 1 0) (and_true (eqb (t % s.period) s.start)))
    where
      and_true : (b : Bool) → (b && true) ≡ b
      and_true true = refl
      and_true false = refl

-- the row that takes piece 0 has the slots of that piece
row_as_piece : (k t page w : ℕ) (s : FreeSequence) → 0 < w / s.period * s.period → row_covers k t (row_of page w s) ≡ covers k t (piece s (w / s.period) 0)
row_as_piece k t page w s some =
    let period = w / s.period * s.period in
    let start : s.start + 0 * s.period ≡ s.start = omega (arith, zero-mul s.period) in
    ap (λ b. cond (eqb s.channel k && (not b && eqb (t % period) s.start)) 1 0) (ne_eqb period 0 (λ e. omega arith))
    ∙ ap (λ n. cond (eqb s.channel k && eqb (t % period) n) 1 0) (sym start)

pub whole_parts : (w : ℕ) (s : FreeSequence) → Usable w s → 0 < w / s.period
whole_parts w s u = le-div 1 w s.period u.some (omega (arith, one-mul s.period, u.within))

-- each piece can be cut in its turn
all_pieces : (w parts n : ℕ) (s : FreeSequence) → parts * s.period ≤ w → n < parts → Usable w s → All (Usable w) (pieces s parts n)
all_pieces w parts zero s fit low h = All-nil (Usable w)
all_pieces w parts (suc n) s fit low h =
    let starts = piece_starts (suc n) parts s.period s.start low h.starts in
    All-cons (Usable w) (piece s parts (suc n)) (pieces s parts n)
    (record { some = omega (arith, h.some); within = fit; starts = starts }) (all_pieces w parts n s fit (omega arith) h)

module _ (page w most : ℕ) (free : List FreeSequence) (row : Row) (left : List FreeSequence) (usable : All (Usable w) free) (p : Placed page w most free row left) where
  split : Usable w p.s × All (Usable w) p.others
  split =
      let all : All (Usable w) (p.s ∷ p.others) = All-permutation (Usable w) free (p.s ∷ p.others) p.chosen.out usable in
      (All-head (Usable w) p.s p.others all, All-tail (Usable w) p.s p.others all)

  -- the row of one page starts in its period, which its window holds
  pub placed_row : (row.page ≡ page) × (row.start < row.period) × (row.period ≤ w)
  placed_row =
      let parts : ℕ = w / p.s.period in
      let some : 0 < parts = whole_parts w p.s split.0 in
      let starts = piece_starts 0 parts p.s.period p.s.start some split.0.starts in
      let fit : parts * p.s.period ≤ w = div-mul-le_self w p.s.period in (
        ap (λ (r : Row). r.page) p.is,
        subst (λ (r : Row). r.start < r.period) (sym p.is) (omega (arith, starts, zero-mul p.s.period)),
        subst (λ (r : Row). r.period ≤ w) (sym p.is) fit,
      )

  placed_usable : All (Usable w) left
  placed_usable =
      let parts : ℕ = w / p.s.period in
      let some : 0 < parts = whole_parts w p.s split.0 in
      All-permutation (Usable w) _ left p.cut
      (All-append (Usable w) (rest_of w p.s) p.others (all_pieces w parts (parts - 1) p.s (div-mul-le_self w p.s.period) (omega arith) split.0) split.1)

  -- the row and what is then free have the slots of what was free
  placed_covers : (k t : ℕ) → row_covers k t row + sum_by (covers k t) left ≡ sum_by (covers k t) free
  placed_covers k t =
      let s = p.s in
      let parts : ℕ = w / s.period in
      let some : 0 < parts = whole_parts w s split.0 in
      let a = sum_by-IsPermutation (covers k t) free (s ∷ p.others) p.chosen.out in
      let b = sum_by-cons (covers k t) s p.others in
      let c = sum_by-IsPermutation (covers k t) _ left p.cut in
      let d = sum_by-append (covers k t) (rest_of w s) p.others in
      let e = cut_covers k t parts s split.0.some some split.0.starts in
      let f : row_covers k t row ≡ covers k t (piece s parts 0) = ap (row_covers k t) p.is ∙ row_as_piece k t page w s (mul-pos some split.0.some) in
      omega arith

module _ (m most : ℕ) (free : List FreeSequence) (usable : All (Usable m) free) where
  -- what is free after n pages can be cut for the next
  pub splits_usable : (n : ℕ) (rows : List Row) (left : List FreeSequence) → Splits m most free n rows left → All (Usable (m + n)) left
  splits_usable zero rows left h = subst (λ (w : ℕ). All (Usable w) left) (sym (add-zero m)) (All-permutation (Usable m) free left h usable)
  splits_usable (suc n) rows left h =
      let same : m + n + 1 ≡ m + suc n = omega arith in
      subst (λ (w : ℕ). All (Usable w) left) same
      (All-weaker (Usable (m + n)) (Usable (m + n + 1)) (λ s u. record { some = u.some; within = omega arith; starts = u.starts }) left
      (placed_usable (n + 1) (m + n) most h.0 (get_or rows n zero_row) left (splits_usable n rows h.0 h.1) (h.2 zero_row)))

  -- the rows and what is left free have the slots of what was free
  pub splits_cover : (n : ℕ) (rows : List Row) (left : List FreeSequence) → n ≤ length rows → Splits m most free n rows left → SharedOut free n rows left
  splits_cover zero rows left long h k t = let a = sum_by-IsPermutation (covers k t) free left h in omega arith
  splits_cover (suc n) rows left long h k t =
      let before = splits_cover n rows h.0 (omega arith) h.1 in
      let row = get_or rows n zero_row in
      let here = placed_covers (n + 1) (m + n) most h.0 row left (splits_usable n rows h.0 h.1) (h.2 zero_row) in
      let a = before k t in
      let b = here k t in
      let c = sum_by_more (row_covers k t) rows n zero_row (omega arith) in
      subst (λ (i : ℕ). sum_by (row_covers k t) (take i rows) + sum_by (covers k t) left ≡ sum_by (covers k t) free) (add-one n) (omega arith)

  -- the row of page i + 1
  pub splits_row : (n : ℕ) (rows : List Row) (left : List FreeSequence) → Splits m most free n rows left → (i : ℕ) → i < n → ((get_or rows i zero_row).page ≡ i + 1) × ((get_or rows i zero_row).start < (get_or rows i zero_row).period) × ((get_or rows i zero_row).period ≤ m + i)
  splits_row zero rows left h i low = absurd (omega (arith, low))
  splits_row (suc n) rows left h i low =
      ⊎_elim
      (λ e.
      subst (λ (j : ℕ). ((get_or rows j zero_row).page ≡ j + 1) × ((get_or rows j zero_row).start < (get_or rows j zero_row).period) × ((get_or rows j zero_row).period ≤ m + j)) (sym e)
      (placed_row (n + 1) (m + n) most h.0 (get_or rows n zero_row) left (splits_usable n rows h.0 h.1) (h.2 zero_row)))
      (λ ne. splits_row n rows h.0 h.1 i (omega arith))
      (cases_eq i n)
