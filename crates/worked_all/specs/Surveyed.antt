-- The survey's answer, computed: every tune-in of the period is tried.
use Rattle.std.specs.Prelude.{◌≡◌, ℕ, zero, suc, ◌-◌, ◌≤◌, cond, nat_lt}
use Rattle.timetable.specs.Meaning.{Meaning}
use Rattle.timetable.specs.Closed.{line}
use Rattle.survey.specs.Surveys.{peak_from, PeakOf}

-- the greater of the best so far, a value and its place, and what stands at place k; the best so far where they are equal
abbrev pub better : (ℕ → ℕ) → ℕ × ℕ → ℕ → ℕ × ℕ
better f best k = cond (nat_lt best.0 (f k)) (f k, k) best

-- the greatest f of the places 0 to k, and the first of them that reaches it
abbrev pub greatest_of : (ℕ → ℕ) → ℕ → ℕ × ℕ
greatest_of f zero = (f 0, 0)
greatest_of f (suc k) = better f (greatest_of f k) (suc k)

-- the greatest peak of the tune-ins of a period, and the first slot that reaches it
abbrev pub greatest : Meaning → ℕ → ℕ → ℕ × ℕ
greatest X m n = greatest_of (peak_from (line X) m n) (X.period - 1)

-- the computed answer is right
abbrev pub SurveyComputed : Type 0
SurveyComputed = (X : Meaning) (m n : ℕ) → 1 ≤ X.period → PeakOf X m n (greatest X m n).0 (greatest X m n).1

-- and no other is
abbrev pub SurveyHasOneAnswer : Type 0
SurveyHasOneAnswer =
    (X : Meaning) (m n peak slot peak' slot' : ℕ) → PeakOf X m n peak slot → PeakOf X m n peak' slot'
    → (peak ≡ peak') × (slot ≡ slot')
