-- How the check ends where it does not begin, and what a sweep tells that no page can stop.
use Rattle.std.proofs.Common.{ℕ, Ok, Err, Result, MatchResult, arith}
use Rattle.timetable.specs.Meaning.{Meaning, Lawful}
use Rattle.timetable.specs.Windows.{FirstStray}
use Rattle.checker.specs.Judged.{Judged, told, out_of_range, short_scratch}
use Rattle.checker.specs.Ready.{NotReady}
use Rattle.checker.specs.Unready.{check_unready}
use Rattle.checker.specs.declared.refusal.Stray.{Stray}
use Rattle.checker.specs.declared.refusal.Unready.{Unready}
use Rattle.checker.specs.declared.refusal.Unready.TheVariants.{OutOfRange, ShortScratch}

pub judged_unready : (X : Meaning) (m n cells : ℕ) (e : Unready) → NotReady X m n cells e → Judged X m n cells (Err (told (check_unready e)))
judged_unready X m n cells OutOfRange h = out_of_range h
judged_unready X m n cells ShortScratch h = short_scratch h.0 h.1

-- a page has 16 bits, so none is above the highest such number
pub never_stray : (X : Meaning) → Lawful X → (C H : Type 0) (r : Result (Unit {0}) Stray) → MatchResult r (λ _. C × H) (λ e. FirstStray X 65535 e.slot e.channel e.page) → H
never_stray X L C H (Ok x) h = h.1
never_stray X L C H (Err e) h = absurd (omega (arith, h.beyond, h.carries, L.fits e.channel e.slot))
