-- One entry more of the sweep.
use Rattle.std.proofs.Common.{◌≡◌, ℕ, ◌+◌, ◌-◌, ◌*◌, ◌<◌, ◌≤◌, ◌&&◌, leb, ◌≢◌, ◌⊎◌, List, length, get_or, sym, ap, ◌∙◌, subst, ⊎_elim, arith, length-set, get_or-set_other, get_or-set_same}
use Rattle.std.proofs.lemmas.Bool.{cases_eq, cases_lt, and_parts, and_cases, leb-true, leb-false, cond_both}
use Rattle.std.proofs.lemmas.Bool.Decides.{nat_tests}
use Rattle.timetable.specs.Meaning.{Meaning}
use Rattle.checker.specs.Sweep.{missing, settled, heard, Waits, Heard, Clean}

-- what `missing` is, by cases
pub missing_cases : (W f w t : ℕ) → ((f ≡ 0) × (W + w ≤ t) × (missing W f w t ≡ W + 1)) ⊎ ((f ≡ 0 → t < W + w) × (missing W f w t ≡ f))
missing_cases W f w t = grind (arith, nat_tests)

-- nothing asked yet
waits_none : (X : Meaning) (w i : ℕ) → Waits X w i 0 1 0 0
waits_none X w i = record {
  ahead = omega arith;
  quiet = λ u a b d. omega arith;
  here = λ a k' b d e. omega arith;
  clear = λ z s b d. omega arith;
  starves = λ s e. absurd (omega arith);
  first = λ s e s' b d. omega arith;
}

-- the page came
waits_came : (X : Meaning) (w i t k W f : ℕ) → 1 ≤ k → k ≤ X.channels → X.page k t ≡ i → Waits X w i t k W f → Waits X w i t (k + 1) (t + 1) (missing W f w t)
waits_came X w i t k W f lo hi e h = record {
  ahead = omega arith;
  quiet = λ u a b d. omega arith;
  here = λ a k' b d e'. omega arith;
  clear = λ z s b d. ⊎_elim
      (λ y. omega (arith, y.0, y.1, y.2))
      (λ y. ⊎_elim
      (λ lt. h.clear (sym y.1 ∙ z) s lt d)
      (λ ge. let far = y.0 (sym y.1 ∙ z) in d t (omega arith) (omega arith) (k, lo, hi, e))
      (cases_lt s W))
      (missing_cases W f w t);
  starves = λ s z. ⊎_elim
      (λ y. let same : s ≡ W = omega (arith, y.2) in λ u a b d. h.quiet u (omega arith) (omega (arith, y.1)) d)
      (λ y. h.starves s (sym y.1 ∙ z))
      (missing_cases W f w t);
  first = λ s z s' b d. ⊎_elim
      (λ y. h.clear y.0 s' (omega (arith, y.2)) d)
      (λ y. h.first s (sym y.1 ∙ z) s' b d)
      (missing_cases W f w t);
}

-- another page came
waits_other : (X : Meaning) (w i t k W f : ℕ) → (X.page k t ≡ i → ⊥) → Waits X w i t k W f → Waits X w i t (k + 1) W f
waits_other X w i t k W f ne h = record {
  ahead = h.ahead;
  quiet = h.quiet;
  here = λ a k' b d e. ⊎_elim
      (λ lt. h.here a k' b lt e)
      (λ ge. let same : k' ≡ k = omega arith in ne (ap (λ x. X.page x t) (sym same) ∙ e))
      (cases_lt k' k);
  clear = h.clear;
  starves = h.starves;
  first = h.first;
}

-- the slot is over
waits_next : (X : Meaning) (w i t W f : ℕ) → Waits X w i t (X.channels + 1) W f → Waits X w i (t + 1) 1 W f
waits_next X w i t W f h = record {
  ahead = omega (arith, h.ahead);
  quiet = λ u a b d. ⊎_elim
      (λ lt. h.quiet u a lt d)
      (λ ge. let same : u ≡ t = omega arith in
      h.here (omega arith) d.0 d.1 (omega (arith, d.2)) (ap (λ x. X.page d.0 x) (sym same) ∙ d.3))
      (cases_lt u t);
  here = λ a k' b d e. omega arith;
  clear = h.clear;
  starves = h.starves;
  first = h.first;
}

pub heard_none : (X : Meaning) (m n : ℕ) (xs : List ℕ) → ((j : ℕ) → j < 2 * n → get_or xs j 0 ≡ 0) → Heard X m n 0 1 xs
heard_none X m n xs z j h = simp (z j (omega arith), z (n + j) (omega arith)) (waits_none X (m + j) (j + 1))

pub clean_none : (X : Meaning) (n : ℕ) → Clean X n 0 1
clean_none X n = record { before = λ u k' a b d. absurd (omega arith); here = λ k' a b. absurd (omega arith) }

pub clean_more : (X : Meaning) (n t k p : ℕ) → p ≡ X.page k t → p ≤ n → Clean X n t k → Clean X n t (k + 1)
clean_more X n t k p e top h = record {
  before = h.before;
  here = λ k' a b. ⊎_elim
      (λ lt. h.here k' a lt)
      (λ ge. let same : k ≡ k' = omega arith in subst (λ x. X.page x t ≤ n) same (omega arith))
      (cases_lt k' k);
}

pub clean_next : (X : Meaning) (n t : ℕ) → Clean X n t (X.channels + 1) → Clean X n (t + 1) 1
clean_next X n t h = record {
  before = λ u k' a b d. ⊎_elim
      (λ lt. h.before u k' lt b d)
      (λ ge. let same : t ≡ u = omega arith in subst (λ x. X.page k' x ≤ n) same (h.here k' b (omega arith)))
      (cases_lt u t);
  here = λ k' a b. absurd (omega arith);
}

-- the scratch after a page came: at its own two places, and at another page's
settled_waits : (m n j t : ℕ) (xs : List ℕ) → j < n → 2 * n ≤ length xs → get_or (settled m n j t xs) j 0 ≡ t + 1
settled_waits m n j t xs a b = get_or-set_same _ j _ 0 (simp length-set (omega arith))

settled_found : (m n j t : ℕ) (xs : List ℕ) → j < n → 2 * n ≤ length xs → get_or (settled m n j t xs) (n + j) 0 ≡ missing (get_or xs j 0) (get_or xs (n + j) 0) (m + j) t
settled_found m n j t xs a b = get_or-set_other _ j (n + j) _ 0 (omega arith) ∙ get_or-set_same _ (n + j) _ 0 (omega arith)

settled_other : (m n j t p : ℕ) (xs : List ℕ) → p ≢ j → p ≢ n + j → get_or (settled m n j t xs) p 0 ≡ get_or xs p 0
settled_other m n j t p xs a b = get_or-set_other _ j p _ 0 a ∙ get_or-set_other _ (n + j) p _ 0 b

-- no page of the film
heard_else : (X : Meaning) (m n t k : ℕ) (xs : List ℕ) → ((1 ≤ X.page k t) × (X.page k t ≤ n) → ⊥) → Heard X m n t k xs → Heard X m n t (k + 1) xs
heard_else X m n t k xs e h j l =
    waits_other X (m + j) (j + 1) t k (get_or xs j 0) (get_or xs (n + j) 0) (λ x. e (omega arith, omega arith)) (h j l)

-- a page of the film came
heard_page : (X : Meaning) (m n t k p : ℕ) (xs : List ℕ) → 1 ≤ k → k ≤ X.channels → X.page k t ≡ p → 1 ≤ p → p ≤ n → 2 * n ≤ length xs → Heard X m n t k xs → Heard X m n t (k + 1) (settled m n (p - 1) t xs)
heard_page X m n t k p xs lo hi e one top room h j l = ⊎_elim
    (λ same. let en : X.page k t ≡ j + 1 = omega arith in
    subst (λ a. Waits X (m + j) (j + 1) t (k + 1) (get_or (settled m n a t xs) j 0) (get_or (settled m n a t xs) (n + j) 0)) same
    (simp (settled_waits m n j t xs l room, settled_found m n j t xs l room)
    (waits_came X (m + j) (j + 1) t k (get_or xs j 0) (get_or xs (n + j) 0) lo hi en (h j l))))
    (λ ne. simp (settled_other m n (p - 1) t j xs (omega arith) (omega arith), settled_other m n (p - 1) t (n + j) xs (omega arith) (omega arith))
    (waits_other X (m + j) (j + 1) t k (get_or xs j 0) (get_or xs (n + j) 0) (λ x. omega arith) (h j l)))
    (cases_eq j (p - 1))

-- one entry, whatever it carries
pub heard_more : (X : Meaning) (m n t k p : ℕ) (xs ys : List ℕ) → 1 ≤ k → k ≤ X.channels → p ≡ X.page k t → 2 * n ≤ length xs → ys ≡ heard m n p t xs → Heard X m n t k xs → Heard X m n t (k + 1) ys
heard_more X m n t k p xs ys lo hi e room is h =
    subst (λ zs. Heard X m n t (k + 1) zs) (sym is)
    (cond_both (leb 1 p && leb p n) (settled m n (p - 1) t xs) xs (λ zs. Heard X m n t (k + 1) zs)
    (λ in-film. let parts = and_parts (leb 1 p) (leb p n) in-film in
    heard_page X m n t k p xs lo hi (sym e) (leb-true 1 p parts.0) (leb-true p n parts.1) room h)
    (λ outside. heard_else X m n t k xs
    (λ film. ⊎_elim (λ x. omega (arith, leb-false 1 p x, film.0)) (λ x. omega (arith, leb-false p n x, film.1)) (and_cases (leb 1 p) (leb p n) outside)) h))

-- the slot is over
pub heard_next : (X : Meaning) (m n t : ℕ) (xs : List ℕ) → Heard X m n t (X.channels + 1) xs → Heard X m n (t + 1) 1 xs
heard_next X m n t xs h j l = waits_next X (m + j) (j + 1) t (get_or xs j 0) (get_or xs (n + j) 0) (h j l)
