-- The peak of a tune-in from the next comings, and the greatest of the peaks so far.
use Rattle.std.proofs.Common.{◌≡◌, ℕ, suc, ◌+◌, ◌-◌, ◌<◌, ◌≤◌, min, true, ltb, leb, List, get_or, replicate, sym, ap, ◌∙◌, ⊎_elim, arith}
use lib.ListN.{length-replicate}
use Rattle.std.proofs.lemmas.Bool.{cases_eq, cases_lt, lt-ltb, le-ltb, le-leb, lt-leb, ltb-true}
use Rattle.receiver.specs.Count.{count}
use Rattle.receiver.proofs.Counts.{count_same, count_mono}
use Rattle.feeding.specs.Laws.{came, arrived, stock_at, Serves}
use Rattle.feeding.specs.Laws.{top}
use Rattle.feeding.proofs.Marks.{came_by}
use Rattle.feeding.proofs.Story.{peak_is_top}
use Rattle.survey.specs.Cells.{Comings, late}
use Rattle.survey.specs.Surveys.{peak_from, Peak}
use Rattle.survey.proofs.Nexts.{came_is}
use Rattle.survey.proofs.Tops.{top_split, top_low, top_start, top_shift, top_same}

late_is : (v t m n s : ℕ) → t ≤ v → v < t + m + n → ltb v (t + suc (m + s)) ≡ leb (min ((v - t) - m) (n - 1)) s
late_is v t m n s lo hi = ⊎_elim
    (λ lt. lt-ltb v (t + suc (m + s)) lt ∙ sym (le-leb (min ((v - t) - m) (n - 1)) s (omega arith)))
    (λ ge. le-ltb v (t + suc (m + s)) ge ∙ sym (lt-leb (min ((v - t) - m) (n - 1)) s (omega arith)))
    (cases_lt v (t + suc (m + s)))

-- until the film starts the stock only grows
stock_grows : (L : ℕ → List ℕ) (m n t i : ℕ) → i < m → stock_at L m n t i ≤ stock_at L m n t m
stock_grows L m n t i l =
    let a = count_mono n (λ x. came L (x + 1) t (suc i)) (λ x. came L (x + 1) t (suc m)) (λ x lt e. came_by L (x + 1) t (suc i) (suc m) (omega arith) e) in
    omega arith

-- every page comes before the film needs it
pub near : (L : ℕ → List ℕ) (m n t end : ℕ) (xs : List ℕ) → Serves L m n t (m + n) → t + m + n ≤ end → Comings L n t end xs
    → (i : ℕ) → i < n → (t ≤ get_or xs i 0) × (get_or xs i 0 < t + m + n)
near L m n t end xs serves far h i l =
    let came-i = serves i l (omega arith) in
    let v = get_or xs i 0 in
    let lt = ltb-true v (t + (m + i)) (sym (came_is L (i + 1) t end v (m + i) (omega arith) (h i l)) ∙ came-i) in
    ((h i l).ahead.0, omega arith)

pub peak_is : (L : ℕ → List ℕ) (m n t end : ℕ) (xs : List ℕ) → 1 ≤ m → m ≤ 1024 → 1 ≤ n → n ≤ 1024 → Serves L m n t (m + n) → t + m + n ≤ end → Comings L n t end xs
    → peak_from L m n t ≡ top (λ s. count n (λ i. leb (late m n t xs i) s) - s) 0 n 0
peak_is L m n t end xs m_some m_few n_some n_few serves far h =
    let S = stock_at L m n t in
    let C : ℕ → ℕ = λ s. count n (λ i. leb (late m n t xs i) s) - s in
    let close = near L m n t end xs serves far h in
    let front : 0 + m ≡ m = omega arith in
    let back : m ≡ m + 0 = omega arith in
    let each : (s : ℕ) → 0 ≤ s → s < 0 + n → S (m + s) ≡ C s = λ s a b.
    let here : arrived L n t (suc (m + s)) ≡ count n (λ i. leb (late m n t xs i) s) =
    count_same n _ _ (λ i l. came_is L (i + 1) t end (get_or xs i 0) (suc (m + s)) (omega arith) (h i l) ∙ late_is (get_or xs i 0) t m n s (close i l).0 (close i l).1) in
    omega arith in
    peak_is_top L m n t (replicate n 0) (record { delay = (m_some, m_few); pages = (n_some, n_few); capacity = omega arith; long = simp length-replicate (omega arith) }) serves
    ∙ top_split S 0 m n 0
    ∙ ap (λ x. top S x n (top S 0 m 0)) front
    ∙ top_start S m n (top S 0 m 0) n_some (top_low S 0 m 0 (S m) (omega arith) (λ i a b. stock_grows L m n t i (omega arith)))
    ∙ ap (λ x. top S x n 0) back
    ∙ top_shift S m 0 n 0
    ∙ top_same (λ s. S (m + s)) C 0 n 0 each

-- one more tune-in, below those that were judged
pub peak_takes : (f : ℕ → ℕ) (T t P best slot p : ℕ) → T ≡ t + 1 → t < P → p ≡ f t → best ≤ p → (T < P → Peak f T P best slot) → Peak f t P p t
peak_takes f T t P best slot p is l e ge h = record {
  reached = sym e;
  within = (omega arith, l);
  greatest = λ u a b. ⊎_elim
      (λ same. let q = ap f same in omega arith)
      (λ (ne : u ≡ t → ⊥). let g = (h (omega arith)).greatest u (omega arith) b in omega arith)
      (cases_eq u t);
  first = λ u a b. absurd (omega arith);
}

pub peak_keeps : (f : ℕ → ℕ) (T t P best slot p : ℕ) → T ≡ t + 1 → t < P → p ≡ f t → p < best → (P ≤ T → best ≡ 0) → (T < P → Peak f T P best slot) → Peak f t P best slot
peak_keeps f T t P best slot p is l e lt none h = ⊎_elim
    (λ below. let k = h below in record {
      reached = k.reached;
      within = (omega (arith, k.within.0), k.within.1);
      greatest = λ u a b. ⊎_elim
          (λ same. let q = ap f same in omega arith)
          (λ (ne : u ≡ t → ⊥). k.greatest u (omega arith) b)
          (cases_eq u t);
      first = λ u a b. ⊎_elim
          (λ same. let q = ap f same in omega arith)
          (λ (ne : u ≡ t → ⊥). k.first u (omega arith) b)
          (cases_eq u t);
    })
    (λ past. absurd (omega (arith, none past)))
    (cases_lt T P)

-- one turn: the slot's pages were noted, and its tune-in was judged
pub turn : (L : ℕ → List ℕ) (m n P T : ℕ) (ys : List ℕ) (p : ℕ) → 1 ≤ m → m ≤ 1024 → 1 ≤ n → n ≤ 1024
    → ((t i : ℕ) → i < n → came L (i + 1) t (m + i) ≡ true) → 0 < T → T ≤ P
    → p ≡ top (λ s. count n (λ i. leb (late m n (T - 1) ys i) s) - s) 0 n 0
    → Comings L n (T - 1) (P + m + n) ys → p ≡ peak_from L m n (T - 1)
turn L m n P T ys p m_some m_few n_some n_few feeds some below e seen =
    e ∙ sym (peak_is L m n (T - 1) (P + m + n) ys m_some m_few n_some n_few (λ i l far. feeds (T - 1) i l) (omega arith) seen)
