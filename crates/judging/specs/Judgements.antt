-- What is to be said of a plan.
use Rattle.std.specs.Prelude.{◌≡◌, ℕ, ◌<◌, ◌≤◌, true, false, List, [], ◌∷◌, map, length, take}
use Rattle.records.specs.declared.kinds.Closure.{Closure}
use Rattle.timetable.specs.Closed.{closed_in}
use Rattle.timetable.specs.Meaning.{Meaning}
use Rattle.timetable.specs.Windows.{Stray, Sound, FirstStray, FirstStarving}
use Rattle.bag.specs.declared.finding.Finding.{Finding}
use Rattle.checker.specs.Findings.{Findings}
use Rattle.station.specs.States.{in_table}
use Rattle.station.specs.Tables.{entry_at}
use Rattle.survey.specs.Surveys.{PeakOf}
use Rattle.line.specs.declared.Line.{Line}
use Rattle.line.specs.declared.Line.TheVariants as line

abbrev pub miss : Finding → Line
miss f = line.Miss f.page f.slot

-- the lines on what is sent, X, for a film of delay m and n pages
pub data Judgement (X : Meaning) (m n : ℕ) : List Line → Type 0 where
  passes : (p t : ℕ) → Sound X m n → X.period ≤ 4096 → PeakOf X m n p t → Judgement X m n (line.Pass ∷ (line.Stock p t ∷ []))
  passes_long : Sound X m n → 4096 < X.period → Judgement X m n (line.Pass ∷ (line.LongStock ∷ []))
  stray : (s k p : ℕ) (fs : List Finding) → FirstStray X n s k p → Findings X m n fs → Judgement X m n (line.Stray s k p ∷ map miss fs)
  starved : (i t : ℕ) (fs : List Finding) → (Stray X n → ⊥) → FirstStarving X m n i t → Findings X m n fs → Judgement X m n (line.Starved i t ∷ map miss fs)

-- entries of a timetable that a station can close one after the other
pub record Bookable (M : Meaning) (es : List Closure) : Type 0 where
  pub few : length es ≤ 64
  pub there : (j : ℕ) → j < length es → in_table M (entry_at es j) ≡ true
  pub apart : (j : ℕ) → j < length es → closed_in (take j es) (entry_at es j).channel (entry_at es j).slot ≡ false
