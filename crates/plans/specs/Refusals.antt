-- The number of each refusal, and the values that it tells.
use Rattle.std.specs.Prelude.{ℕ, List, [], ◌∷◌}
use Rattle.plans.specs.declared.refusal.Refusal.{Refusal}
use Rattle.plans.specs.declared.refusal.Refusal.TheVariants.{OutOfRange, WrongSubchannels, TooManyPages, PeriodTooLong, NoFreeSequence, NoRoom, WrongNode, OutOfMemory}

abbrev pub told : Refusal → ℕ × List ℕ
told OutOfRange = (1, [])
told WrongSubchannels = (2, [])
told TooManyPages = (3, [])
told PeriodTooLong = (4, [])
told (NoFreeSequence placed) = (5, placed ∷ [])
told NoRoom = (6, [])
told (WrongNode x) = (7, x ∷ [])
-- want of memory is no judgement on a plan, and has the number that no judgement has
told OutOfMemory = (0, [])
