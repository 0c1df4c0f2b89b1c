-- The faults of a plan file, by their numbers.
use Rattle.std.specs.Prelude.{ℕ, List, [], ◌∷◌}
use Rattle.records.specs.declared.fault.Fault.{Fault}
use Rattle.records.specs.declared.fault.Fault.TheVariants.{CutShort, UnknownKind, OutOfPlace, AfterEnd, TooLong, Memory}

-- a fault's number, and the values that go with it: the byte where the record at fault begins.
-- Want of memory is no fault of the file, and has the number 0 and no value.
abbrev pub told : Fault → ℕ × List ℕ
told (CutShort b) = (41, b ∷ [])
told (UnknownKind b) = (42, b ∷ [])
told (OutOfPlace b) = (43, b ∷ [])
told (AfterEnd b) = (44, b ∷ [])
told TooLong = (46, 0 ∷ [])
told Memory = (0, [])
