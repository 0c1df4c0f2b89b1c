-- The computed survey is right, and a survey has one answer.
use Rattle.std.proofs.Common.{◌≡◌, ℕ, zero, suc, ◌-◌, ◌<◌, ◌≤◌, ltb, sym, refl, subst, ⊎_elim, arith}
use Rattle.std.proofs.lemmas.Bool.{cases_eq, cases_order, cond_both, ltb-true, ltb-false}
use Rattle.timetable.specs.Closed.{line}
use Rattle.survey.specs.Surveys.{peak_from, Peak}
use Rattle.worked_all.specs.Surveyed.{greatest_of, greatest, SurveyComputed, SurveyHasOneAnswer}

module _ (f : ℕ → ℕ) where
  -- one place more that is not greater
  lower : (k peak slot : ℕ) → f (suc k) ≤ peak → Peak f 0 (suc k) peak slot → Peak f 0 (suc (suc k)) peak slot
  lower k peak slot le h = record {
    reached = h.reached;
    within = (omega arith, omega (arith, h.within.1));
    greatest = λ t a b. ⊎_elim
        (λ same. subst (λ x. f x ≤ peak) (sym same) le)
        (λ other. h.greatest t a (omega arith))
        (cases_eq t (suc k));
    first = h.first;
  }

  -- one place more that is greater
  higher : (k peak slot : ℕ) → peak < f (suc k) → Peak f 0 (suc k) peak slot → Peak f 0 (suc (suc k)) (f (suc k)) (suc k)
  higher k peak slot lt h = record {
    reached = refl;
    within = (omega arith, omega arith);
    greatest = λ t a b. ⊎_elim
        (λ same. subst (λ x. f x ≤ f (suc k)) (sym same) (omega arith))
        (λ other. omega (arith, h.greatest t a (omega arith)))
        (cases_eq t (suc k));
    first = λ t a b. omega (arith, h.greatest t a b);
  }

  greatest_is : (k : ℕ) → Peak f 0 (suc k) (greatest_of f k).0 (greatest_of f k).1
  greatest_is zero = record {
    reached = refl;
    within = (omega arith, omega arith);
    greatest = λ t a b. let e : t ≡ 0 = omega arith in subst (λ x. f x ≤ f 0) (sym e) (omega arith);
    first = λ t a b. absurd (omega arith);
  }
  greatest_is (suc k) =
      let h = greatest_is k in
      cond_both (ltb (greatest_of f k).0 (f (suc k))) (f (suc k), suc k) (greatest_of f k) (λ b. Peak f 0 (suc (suc k)) b.0 b.1)
      (λ lt. higher k _ _ (ltb-true _ _ lt) h)
      (λ ge. lower k _ _ (ltb-false _ _ ge) h)

  peak_once : (low P peak slot peak' slot' : ℕ) → Peak f low P peak slot → Peak f low P peak' slot' → (peak ≡ peak') × (slot ≡ slot')
  peak_once low P peak slot peak' slot' a b =
      let up = b.greatest slot a.within.0 a.within.1 in
      let down = a.greatest slot' b.within.0 b.within.1 in
      let at = a.reached in
      let at' = b.reached in
      let same : peak ≡ peak' = omega arith in (
        same,
        ⊎_elim (λ e. e) (⊎_elim
            (λ lt. let early = b.first slot a.within.0 lt in absurd (omega arith))
            (λ gt. let early = a.first slot' b.within.0 gt in absurd (omega arith))) (cases_order slot slot'),
      )

pub survey_computed : SurveyComputed
survey_computed X m n pos =
    let e : suc (X.period - 1) ≡ X.period = omega arith in
    subst (λ p. Peak (peak_from (line X) m n) 0 p (greatest X m n).0 (greatest X m n).1) e
    (greatest_is (peak_from (line X) m n) (X.period - 1))

pub survey_once : SurveyHasOneAnswer
survey_once X m n peak slot peak' slot' = peak_once (peak_from (line X) m n) 0 X.period peak slot peak' slot'
