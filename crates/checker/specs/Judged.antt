-- What the check answers, for all inputs.
use Rattle.std.specs.Prelude.{ℕ, ◌*◌, ◌<◌, ◌≤◌, List, [], ◌∷◌, Ok, Err, Result}
use Rattle.timetable.specs.Meaning.{Meaning}
use Rattle.timetable.specs.Windows.{InRange, FirstStray, FirstStarving, Sound, Stray as AnyStray}
use Rattle.checker.specs.declared.refusal.CheckRefusal.{CheckRefusal}
use Rattle.checker.specs.declared.refusal.CheckRefusal.TheVariants.{OutOfRange, ShortScratch, Strays, Starves}

-- the number of each refusal, and the values that it tells
abbrev pub told : CheckRefusal → ℕ × List ℕ
told OutOfRange = (12, [])
told ShortScratch = (13, [])
told (Strays e) = (14, e.slot ∷ (e.channel ∷ (e.page ∷ [])))
told (Starves f) = (15, f.page ∷ (f.slot ∷ []))

-- passed, or refused with a number and values
abbrev pub Verdict : Type 0
Verdict = Result (Unit {0}) (ℕ × List ℕ)

abbrev pub verdict_of : Result (Unit {0}) CheckRefusal → Verdict
verdict_of (Ok x) = Ok x
verdict_of (Err e) = Err (told e)

-- what is said of the timetable X for a film of delay m and n pages, with so many cells of scratch
pub data Judged (X : Meaning) (m n cells : ℕ) : Verdict → Type 0 where
  out_of_range : (InRange X m n → ⊥) → Judged X m n cells (Err (12, []))
  short_scratch : InRange X m n → cells < 2 * n → Judged X m n cells (Err (13, []))
  stray : (s k p : ℕ) → InRange X m n → 2 * n ≤ cells → FirstStray X n s k p → Judged X m n cells (Err (14, s ∷ (k ∷ (p ∷ []))))
  starving : (i t : ℕ) → InRange X m n → 2 * n ≤ cells → (AnyStray X n → ⊥) → FirstStarving X m n i t → Judged X m n cells (Err (15, i ∷ (t ∷ [])))
  passed : InRange X m n → 2 * n ≤ cells → Sound X m n → Judged X m n cells (Ok tt)
