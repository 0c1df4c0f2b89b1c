-- What the numbers of the pages tell once the sweep is over, of every slot, however late.
use Rattle.std.proofs.Common.{◌≡◌, ℕ, zero, suc, ◌+◌, ◌-◌, ◌*◌, ◌/◌, ◌%◌, ◌<◌, ◌≤◌, List, get_or, sym, refl, ◌∙◌, subst, ⊎_elim, mod-lt, suc-mul, zero-mul, arith}
use native.Mathlib.Nat.{mod-add-div'}
use Rattle.std.proofs.lemmas.Bool.{cases_lt}
use Rattle.timetable.specs.Meaning.{Meaning, Lawful}
use Rattle.timetable.specs.Windows.{Lacks, Starves, Beyond, Stray, Starving, FirstStray, FirstSlot, FirstStarving}
use Rattle.timetable.proofs.Periods.{page_in_period}
use Rattle.checker.specs.Sweep.{missing, Waits, Heard, Clean, sweep_end, Lowest}
use Rattle.checker.proofs.Steps.{missing_cases}

-- the two numbers of a page at the end
waits_end_clear : (X : Meaning) (w i T W f s : ℕ) → Waits X w i T 1 W f → missing W f w T ≡ 0 → s + w ≤ T → Lacks X w i s → ⊥
waits_end_clear X w i T W f s h z far d = ⊎_elim
    (λ y. omega (arith, y.0, y.1, y.2))
    (λ y. let f0 = sym y.1 ∙ z in let lt = y.0 f0 in h.clear f0 s (omega arith) d)
    (missing_cases W f w T)

waits_end_starves : (X : Meaning) (w i T W f s : ℕ) → Waits X w i T 1 W f → missing W f w T ≡ s + 1 → Lacks X w i s
waits_end_starves X w i T W f s h z = ⊎_elim
    (λ y. λ u a b d. h.quiet u (omega (arith, y.2)) (omega (arith, y.1, y.2)) d)
    (λ y. h.starves s (sym y.1 ∙ z))
    (missing_cases W f w T)

waits_end_first : (X : Meaning) (w i T W f s : ℕ) → Waits X w i T 1 W f → missing W f w T ≡ s + 1 → (s' : ℕ) → s' < s → Lacks X w i s' → ⊥
waits_end_first X w i T W f s h z s' lt d = ⊎_elim
    (λ y. h.clear y.0 s' (omega (arith, y.2)) d)
    (λ y. h.first s (sym y.1 ∙ z) s' lt d)
    (missing_cases W f w T)

window_at : (m j : ℕ) → m + (j + 1) - 1 ≡ m + j
window_at m j = omega arith

module _ (X : Meaning) (L : Lawful X) where
  -- a number beyond the film stands on one of the channels
  pub off_channels : (n k t : ℕ) → Beyond n (X.page k t) → (1 ≤ k) × (k ≤ X.channels)
  off_channels n k t b = (
    ⊎_elim
        (λ lt. let z : k ≡ 0 = omega arith in
        let e : X.page k t ≡ 0 = subst (λ x. X.page x t ≡ 0) (sym z) (L.silent_below t) in absurd (omega arith))
        (λ ge. ge) (cases_lt k 1),
    ⊎_elim (λ lt. let e : X.page k t ≡ 0 = L.silent_above k t lt in absurd (omega arith)) (λ ge. ge) (cases_lt X.channels k),
  )

  -- the first entry beyond the film
  pub clean_stray : (n t k : ℕ) → 1 ≤ X.period → 1 ≤ k → k ≤ X.channels → Clean X n t k → Beyond n (X.page k t) → FirstStray X n t k (X.page k t)
  clean_stray n t k P lo hi h b = record {
    within = (
      ⊎_elim (λ lt. lt)
          (λ ge. let back : (t - X.period) + X.period ≡ t = omega arith in
          let low = h.before (t - X.period) k (omega arith) lo hi in
          let same : X.page k t ≡ X.page k (t - X.period) = subst (λ x. X.page k x ≡ X.page k (t - X.period)) back (L.repeats k (t - X.period)) in
          absurd (omega arith))
          (cases_lt t X.period),
      lo,
      hi,
    );
    carries = refl;
    beyond = b;
    first = λ s' k' w far. let on = off_channels n k' s' far in ⊎_elim
        (λ lt. let low = h.before s' k' lt on.0 on.1 in omega arith)
        (λ eq. let low = subst (λ x. X.page k' x ≤ n) (sym eq.0) (h.here k' on.0 eq.1) in omega arith)
        w;
  }

  -- a later tune-in fares as the one a period before
  lacks_back : (w i t : ℕ) → Lacks X w i (t + X.period) → Lacks X w i t
  lacks_back w i t d u a b come = d (u + X.period) (omega arith) (omega arith) (come.0, come.1, come.2, L.repeats come.0 u ∙ come.3)

  lacks_many : (w i t q : ℕ) → Lacks X w i (t + q * X.period) → Lacks X w i t
  lacks_many w i t zero d = λ u a b. d u (simp zero-mul (omega arith)) (simp zero-mul (omega arith))
  lacks_many w i t (suc q) d =
      let e : t + suc q * X.period ≡ (t + q * X.period) + X.period = omega (arith, suc-mul q X.period) in
      lacks_many w i t q (lacks_back w i (t + q * X.period) (subst (λ x. Lacks X w i x) e d))

  -- where no tune-in of the first period lacks a page, none does
  pub lacks_never : (w i : ℕ) → 1 ≤ X.period → ((s : ℕ) → s < X.period → Lacks X w i s → ⊥) → (t : ℕ) → Lacks X w i t → ⊥
  lacks_never w i pos none t d =
      let low : t % X.period < X.period = mod-lt t {m = X.period} pos in
      let e : t ≡ t % X.period + (t / X.period) * X.period = sym (mod-add-div' t X.period) in
      none (t % X.period) low (lacks_many w i (t % X.period) (t / X.period) (subst (λ x. Lacks X w i x) e d))

  module _ (m n : ℕ) (xs : List ℕ) (pos : 1 ≤ X.period) (one : 1 ≤ m) (h : Heard X m n (sweep_end X m n) 1 xs) where
    -- nothing was missed
    pub never_starves : (j : ℕ) → j < n → missing (get_or xs j 0) (get_or xs (n + j) 0) (m + j) (sweep_end X m n) ≡ 0 → (t : ℕ) → Starves X m (j + 1) t → ⊥
    never_starves j lt z =
        simp window_at (lacks_never (m + j) (j + 1) pos
        (λ s low d. waits_end_clear X (m + j) (j + 1) _ (get_or xs j 0) (get_or xs (n + j) 0) s (h j lt) z (omega arith) d))

    -- something was missed, first at slot s
    pub starves_first : (j s : ℕ) → j < n → missing (get_or xs j 0) (get_or xs (n + j) 0) (m + j) (sweep_end X m n) ≡ s + 1 → FirstSlot X m n (j + 1) s
    starves_first j s lt z =
        let lacks = waits_end_starves X (m + j) (j + 1) _ (get_or xs j 0) (get_or xs (n + j) 0) s (h j lt) z in
        let none = waits_end_first X (m + j) (j + 1) _ (get_or xs j 0) (get_or xs (n + j) 0) s (h j lt) z in
        record {
          page = (omega arith, omega arith);
          slot = ⊎_elim (λ low. low)
              (λ ge. let back : s ≡ (s - X.period) + X.period = omega arith in
              absurd (none (s - X.period) (omega arith) (lacks_back (m + j) (j + 1) (s - X.period) (subst (λ x. Lacks X (m + j) (j + 1) x) back lacks))))
              (cases_lt s X.period);
          starves = simp window_at lacks;
          first = simp window_at none;
        }

    pub no_starving : ((j : ℕ) → j < n → missing (get_or xs j 0) (get_or xs (n + j) 0) (m + j) (sweep_end X m n) ≡ 0) → Starving X m n → ⊥
    no_starving z s =
        let i = s.0 in let lo = s.2 in let hi = s.3 in
        let e : i ≡ (i - 1) + 1 = omega arith in
        let lt : i - 1 < n = omega arith in
        never_starves (i - 1) lt (z (i - 1) lt) s.1 (subst (λ x. Starves X m x s.1) e s.4)

    pub lowest_starves : (i t : ℕ) → Lowest m n (sweep_end X m n) xs i t → FirstStarving X m n i t
    lowest_starves i t w =
        let lo = w.page.0 in let hi = w.page.1 in
        let e : (i - 1) + 1 ≡ i = omega arith in
        record {
          here = subst (λ x. FirstSlot X m n x t) e (starves_first (i - 1) t (omega arith) w.slot);
          lowest = λ i' t' a b d.
              let e' : i' ≡ (i' - 1) + 1 = omega arith in
              never_starves (i' - 1) (omega arith) (w.others (i' - 1) (omega arith)) t' (subst (λ x. Starves X m x t') e' d);
        }

  pub no_stray : (m n : ℕ) → 1 ≤ X.period → 1 ≤ m → 1 ≤ n → Clean X n (sweep_end X m n) 1 → Stray X n → ⊥
  no_stray m n pos one some h stray =
      let k = stray.0 in let t = stray.1 in let far = stray.2 in
      let on = off_channels n k t far in
      let low : t % X.period < X.period = mod-lt t {m = X.period} pos in
      let same = page_in_period X L k t in
      let fits = h.before (t % X.period) k (omega arith) on.0 on.1 in
      omega arith
