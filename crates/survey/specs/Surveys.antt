-- What a survey answers.
use Rattle.std.specs.Prelude.{◌≡◌, ℕ, ◌+◌, ◌*◌, ◌<◌, ◌≤◌, ◌⊎◌, List, [], map, replicate, Ok, Err, Result}
use Rattle.std.specs.List.{range_with_len}
use Rattle.timetable.specs.Meaning.{Meaning}
use Rattle.timetable.specs.Closed.{line}
use Rattle.timetable.specs.Windows.{Sound, InRange}
use Rattle.feeding.specs.Feeding.{fed}
use Rattle.survey.specs.Refusals.{told}
use Rattle.survey.specs.declared.refusal.SurveyRefusal.{SurveyRefusal}

-- the peak of a receiver with room for all n pages that tunes in at slot t and is fed the lines L to the end of the film
abbrev pub peak_from : (ℕ → List ℕ) → ℕ → ℕ → ℕ → ℕ
peak_from L m n t = (fed m n n (replicate n 0) (map L (range_with_len t (m + n)))).peak

-- the greatest f of the slots from `low` on and below P, and the first of them that reaches it
pub record Peak (f : ℕ → ℕ) (low P peak slot : ℕ) : Type 0 where
  pub reached : f slot ≡ peak
  pub within : (low ≤ slot) × (slot < P)
  pub greatest : (t : ℕ) → low ≤ t → t < P → f t ≤ peak
  pub first : (t : ℕ) → low ≤ t → t < slot → f t < peak

-- the greatest peak of the tune-ins of a period of what is sent, and the first slot that reaches it
abbrev pub PeakOf : Meaning → ℕ → ℕ → ℕ → ℕ → Type 0
PeakOf X m n = Peak (peak_from (line X) m n) 0 X.period

-- what is sent is in range, nothing of it is stray and nobody starves
pub record Airable (X : Meaning) (m n : ℕ) : Type 0 where
  pub in_range : InRange X m n
  pub sound : Sound X m n

-- The refusals, in this order: the scratch has fewer than 2n cells; the period is above 4,096. Else the pair of the peak and its
-- slot, which is promised for what a station may air.
abbrev pub Surveys : Meaning → ℕ → ℕ → ℕ → Result (ℕ × ℕ) SurveyRefusal → Type 0
Surveys X m n size (Ok r) = (2 * n ≤ size) × (X.period ≤ 4096) × (Airable X m n → PeakOf X m n r.0 r.1)
Surveys X m n size (Err e) = ((told e ≡ (13, [])) × (size < 2 * n)) ⊎ ((told e ≡ (23, [])) × (2 * n ≤ size) × (4096 < X.period))
