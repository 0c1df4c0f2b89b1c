-- The loops over the scratch, one turn each.
use Rattle.std.proofs.Common.{◌≡◌, ℕ, suc, ◌+◌, ◌-◌, ◌<◌, ◌≤◌, max, eqb, List, length, get_or, drop, set, sym, ap, ◌∙◌, subst, ⊎_elim, arith, get_or-set_other, get_or-set_same}
use Rattle.std.proofs.lemmas.Bool.{cases_eq, eq-eqb, ne_eqb}
use Rattle.std.proofs.lemmas.List.{at_drop_more, at_drop_all}
use Rattle.std.proofs.lemmas.List.FromFn.{get_or-map-range_with_len, length-map-range_with_len}
use Rattle.timetable.specs.Meaning.{Meaning}
use Rattle.receiver.specs.Count.{count, bit}
use Rattle.receiver.proofs.Counts.{count_more}
use Rattle.feeding.specs.Laws.{top}
use Rattle.timetable.specs.Closed.{line}
use Rattle.survey.specs.Cells.{note_one, noted, total}
use Rattle.survey.proofs.Tops.{top_step}

pub note_more : (M : Meaning) (n u j p : ℕ) (xs ys : List ℕ) → 1 ≤ j → j ≤ M.channels → p ≡ M.page j u → ys ≡ note_one n u xs p
    → noted n u ys (drop j (line M u)) ≡ noted n u xs (drop (j - 1) (line M u))
note_more M n u j p xs ys some l e is =
    let c = M.channels in
    let k = j - 1 in
    let next : k + 1 ≡ j = omega arith in
    let at-k : get_or (line M u) k 0 ≡ p = get_or-map-range_with_len (λ k'. M.page k' u) 1 c k j 0 (omega arith) (omega arith) ∙ sym e in
    let long : k < length (line M u) = subst (λ x. k < x) (sym (length-map-range_with_len (λ k'. M.page k' u) 1 c)) (omega arith) in
    ap (λ z. noted n u z (drop j (line M u))) (is ∙ ap (λ x. note_one n u xs x) (sym at-k))
    ∙ ap (λ x. noted n u (note_one n u xs (get_or (line M u) k 0)) (drop x (line M u))) (sym next)
    ∙ sym (at_drop_more (noted n u xs) (line M u) k 0 long)

pub note_all : (M : Meaning) (n u k : ℕ) (xs : List ℕ) → M.channels ≤ k → noted n u xs (drop k (line M u)) ≡ xs
note_all M n u k xs l = at_drop_all (noted n u xs) (line M u) k (subst (λ x. x ≤ k) (sym (length-map-range_with_len (λ k'. M.page k' u) 1 M.channels)) l)

pub spread_more : (n k b : ℕ) (d : ℕ → ℕ) (xs : List ℕ) → n ≤ length xs → b < n → b ≡ d k
    → ((s : ℕ) → s < n → get_or xs s 0 ≡ count k (λ i. eqb (d i) s))
    → (s : ℕ) → s < n → get_or (set xs b (get_or xs b 0 + 1)) s 0 ≡ count (k + 1) (λ i. eqb (d i) s)
spread_more n k b d xs room low is counts s l =
    let more : count (k + 1) (λ i. eqb (d i) s) ≡ count k (λ i. eqb (d i) s) + bit (eqb (d k) s) = count_more k (λ i. eqb (d i) s) in
    ⊎_elim
    (λ (e : s ≡ b).
    let one : bit (eqb (d k) s) ≡ 1 = ap bit (eq-eqb (d k) s (omega arith)) in
    let old : get_or xs b 0 ≡ count k (λ i. eqb (d i) s) = ap (λ x. get_or xs x 0) (sym e) ∙ counts s l in
    let new : get_or (set xs b (get_or xs b 0 + 1)) s 0 ≡ get_or xs b 0 + 1 = ap (λ x. get_or (set xs b (get_or xs b 0 + 1)) x 0) e ∙ get_or-set_same xs b _ 0 (omega arith) in
    omega arith)
    (λ (ne : s ≡ b → ⊥).
    let none : bit (eqb (d k) s) ≡ 0 = ap bit (ne_eqb (d k) s (λ q. ne (omega arith))) in
    let new : get_or (set xs b (get_or xs b 0 + 1)) s 0 ≡ get_or xs s 0 = get_or-set_other xs b s _ 0 (omega arith) in
    let old = counts s l in
    omega arith)
    (cases_eq s b)

pub total_more : (xs : List ℕ) (s : ℕ) → total xs (s + 1) ≡ total xs s + get_or xs s 0
total_more xs s = let e : s + 1 ≡ suc s = omega arith in ap (λ x. total xs x) e

pub crest_more : (n : ℕ) (xs : List ℕ) (s b r : ℕ) → s < n → r ≡ max b ((total xs s + get_or xs s 0) - s)
    → top (λ s'. total xs (suc s') - s') (s + 1) (n - (s + 1)) r ≡ top (λ s'. total xs (suc s') - s') s (n - s) b
crest_more n xs s b r l e =
    ap (λ x. top (λ s'. total xs (suc s') - s') (s + 1) (n - (s + 1)) x) e ∙ sym (top_step (λ s'. total xs (suc s') - s') s n b l)
