-- A surveyed peak is enough, and no less is.
use Rattle.std.proofs.Common.{◌≡◌, ℕ, zero, suc, ◌+◌, ◌-◌, ◌%◌, ◌<◌, ◌≤◌, max, true, ltb, ◌⊎◌, List, replicate, sym, refl, ap, ◌∙◌, subst, inl, inr, ⊎_elim, mod-lt, arith}
use lib.ListN.{length-replicate}
use Rattle.std.proofs.lemmas.Bool.{cases_lt, cases_eq, ltb-true}
use Rattle.receiver.proofs.Counts.{count_mono, count_below}
use Rattle.feeding.specs.Laws.{came, stock_at, Serves, top, Tunable}
use Rattle.feeding.proofs.Marks.{came_by}
use Rattle.feeding.proofs.Story.{enough_room, less_room, stock_le, peak_is_top}
use Rattle.timetable.specs.Closed.{line}
use Rattle.survey.specs.Surveys.{peak_from}
use Rattle.survey.specs.Guarantees.{StockRepeats, Enough, Least}
use Rattle.survey.proofs.Tops.{top_low}
use Rattle.survey.proofs.Serving.{sound_serves}
use Rattle.survey.proofs.Periods.{line_repeats, stock_mod}

top_start_le : (S : ℕ → ℕ) (j k b : ℕ) → b ≤ top S j k b
top_start_le S j zero b = omega arith
top_start_le S j (suc k) b = let a = top_start_le S (suc j) k (max b (S j)) in omega arith

top_ge : (S : ℕ → ℕ) (j k b i : ℕ) → j ≤ i → i < j + k → S i ≤ top S j k b
top_ge S j zero b i lo hi = absurd (omega arith)
top_ge S j (suc k) b i lo hi = ⊎_elim
    (λ (same : i ≡ j). let a = top_start_le S (suc j) k (max b (S j)) in let e = ap S same in omega arith)
    (λ (ne : i ≡ j → ⊥). top_ge S (suc j) k (max b (S j)) i (omega arith) (omega arith))
    (cases_eq i j)

abbrev Reaches : (ℕ → ℕ) → ℕ → ℕ → ℕ → Type 0
Reaches S j k x = (i : ℕ) × (j ≤ i) × (i < j + k) × (S i ≡ x)

top_reached : (S : ℕ → ℕ) (j k b : ℕ) → (top S j k b ≡ b) ⊎ Reaches S j k (top S j k b)
top_reached S j zero b = inl refl
top_reached S j (suc k) b = ⊎_elim
    (λ (e : top S (suc j) k (max b (S j)) ≡ max b (S j)). ⊎_elim
    (λ (lt : b < S j). inr (j, omega arith, omega arith, omega arith))
    (λ (ge : S j ≤ b). inl (omega arith))
    (cases_lt b (S j)))
    (λ (r : Reaches S (suc j) k (top S (suc j) k (max b (S j)))). inr (r.0, omega (arith, r.1), omega (arith, r.2), r.3))
    (top_reached S (suc j) k (max b (S j)))

-- some page is held when the film starts
some_stock : (L : ℕ → List ℕ) (m n t : ℕ) → 1 ≤ m → 1 ≤ n → Serves L m n t (m + n) → 1 ≤ stock_at L m n t m
some_stock L m n t m1 n1 serves =
    let first : came L 1 t m ≡ true = let e : m + 0 ≡ m = omega arith in ap (λ x. came L 1 t x) (sym e) ∙ serves 0 (omega arith) (omega arith) in
    let low = count_mono n (λ i. ltb i 1) (λ i. came L (i + 1) t (suc m)) (λ i l e.
    let z : i ≡ 0 = omega (arith, ltb-true i 1 e) in
    let p : 1 ≡ i + 1 = omega arith in
    ap (λ x. came L x t (suc m)) (sym p) ∙ came_by L 1 t m (suc m) (omega arith) first) in
    let one = count_below n 1 n1 in
    omega arith

pub stock_repeats : StockRepeats
stock_repeats M law m n t j = stock_mod (line M) M.period (line_repeats M law) m n t j

pub enough : Enough
enough M m n peak slot t K store law ranges ok is long =
    let L = line M in
    let P = M.period in
    let serves : (t' : ℕ) (k : ℕ) → Serves L m n t' k = λ t' k i l far. sound_serves M m n ok t' i l in
    let tunes : Tunable m n n (replicate n 0) = record { delay = ranges.delay; pages = ranges.pages; capacity = omega arith; long = simp length-replicate (omega arith) } in
    let tops : (t' : ℕ) → peak_from L m n t' ≡ top (stock_at L m n t') 0 (m + n) 0 = λ t'. peak_is_top L m n t' (replicate n 0) tunes (serves t' (m + n)) in
    let small : peak ≤ n = subst (λ x. x ≤ n) (sym (tops slot) ∙ is.reached) (top_low (stock_at L m n slot) 0 (m + n) 0 n (omega arith) (λ i a b. stock_le L m n slot i)) in
    enough_room L m n peak t K store (record { delay = ranges.delay; pages = ranges.pages; capacity = small; long = long }) (serves t K)
    (λ j a b.
    let r = t % P in
    let below : r < P = mod-lt t ranges.period.0 in
    let here = top_ge (stock_at L m n r) 0 (m + n) 0 j (omega arith) (omega arith) in
    let e = tops r in
    let g = is.greatest r (omega arith) below in
    let s = stock_repeats M law m n t j in
    omega arith)

pub least : Least
least M m n peak slot t K store law ranges ok is long same far =
    let L = line M in
    let P = M.period in
    let serves : (t' : ℕ) (k : ℕ) → Serves L m n t' k = λ t' k i l far'. sound_serves M m n ok t' i l in
    let tunes : Tunable m n n (replicate n 0) = record { delay = ranges.delay; pages = ranges.pages; capacity = omega arith; long = simp length-replicate (omega arith) } in
    let S = stock_at L m n slot in
    let peak-top : top S 0 (m + n) 0 ≡ peak = sym (peak_is_top L m n slot (replicate n 0) tunes (serves slot (m + n))) ∙ is.reached in
    let small : peak ≤ n = subst (λ x. x ≤ n) peak-top (top_low S 0 (m + n) 0 n (omega arith) (λ i a b. stock_le L m n slot i)) in
    let some : 1 ≤ peak = let a = top_ge S 0 (m + n) 0 m (omega arith) (omega (arith, ranges.pages.0)) in let b = some_stock L m n slot ranges.delay.0 ranges.pages.0 (serves slot (m + n)) in omega arith in
    ⊎_elim
    (λ (z : top S 0 (m + n) 0 ≡ 0). absurd (omega arith))
    (λ (r : Reaches S 0 (m + n) (top S 0 (m + n) 0)).
    let j = r.0 in
    let at-t : stock_at L m n t j ≡ S j = stock_repeats M law m n t j ∙ ap (λ x. stock_at L m n x j) same in
    less_room L m n (peak - 1) t K j store (record { delay = ranges.delay; pages = ranges.pages; capacity = omega arith; long = long }) (serves t K)
    (omega (arith, r.2)) (omega (arith, r.2)) (omega (arith, r.3)))
    (top_reached S 0 (m + n) 0)
