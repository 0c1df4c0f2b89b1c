-- The number of each refusal of a receiver, and the values that it tells.
use Rattle.std.specs.Prelude.{ℕ, List, [], ◌∷◌}
use Rattle.receiver.specs.declared.refusal.Refusal.{Refusal}
use Rattle.receiver.specs.declared.refusal.Refusal.TheVariants.{OutOfRange, TooEarly, HeardAll, Full, NotHeld, AllShown}

abbrev pub told : Refusal → ℕ × List ℕ
told OutOfRange = (31, [])
told TooEarly = (32, [])
told HeardAll = (33, [])
told Full = (34, [])
told (NotHeld page) = (35, page ∷ [])
told AllShown = (36, [])
