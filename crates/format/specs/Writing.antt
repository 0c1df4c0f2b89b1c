-- What writing a plan answers, and that reading and writing undo each other.
use Rattle.std.specs.Prelude.{◌≡◌, ℕ, ◌<◌, ◌≤◌, ◌⊎◌, List, [], ◌++◌, length, take, drop, IfOk, Some, None, Option, Result, MatchResult}
use Rattle.records.specs.Faults.{told}
use Rattle.records.specs.declared.fault.Fault.{Fault}
use Rattle.records.specs.declared.fault.Fault.TheVariants.{Memory}
use Rattle.format.specs.declared.fault.WriteFault.{WriteFault}
use Rattle.format.specs.declared.fault.WriteFault.TheVariants.{Unfit, NoRoom}
use Rattle.format.specs.declared.plan.Plan.{Plan}
use Rattle.format.specs.Format.{Lawful, Refused}
use Rattle.format.specs.Answers.{sheet, file_of, Reads, Answers}

-- the bytes stand at the beginning of the list and the rest is as it was, or the list is too short and as it was
abbrev pub PutAll : List ℕ → List ℕ → List ℕ → Option ℕ → Type 0
PutAll xs was now (Some n) = (n ≡ length xs) × (n ≤ length was) × (now ≡ xs ++ drop n was)
PutAll xs was now None = (length was < length xs) × (now ≡ was)

-- a fault's number and values
abbrev pub told_write : WriteFault → ℕ × List ℕ
told_write (Unfit f) = told f
told_write NoRoom = (13, [])

-- why a plan is not written into a list of `room` bytes, by number and values: its bytes would be refused, the list is too short, or there is no memory
pub data Unwritten (p : Plan) (room : ℕ) : ℕ → List ℕ → Type 0 where
  unfit : (k : ℕ) (vs : List ℕ) → Refused (file_of p) k vs → Unwritten p room k vs
  no_room : Lawful (sheet p) → room < length (file_of p) → Unwritten p room 13 []
  no_memory : Unwritten p room 0 []

-- the plan stands at the beginning of the list, in n bytes, and the rest is as it was
pub record Wrote (p : Plan) (was now : List ℕ) (n : ℕ) : Type 0 where
  pub lawful : Lawful (sheet p)
  pub count : n ≡ length (file_of p)
  pub room : n ≤ length was
  pub after : now ≡ file_of p ++ drop n was

-- the answer to a plan and a list; where the plan is not written the list is as it was
abbrev pub Written : Plan → List ℕ → List ℕ → Result ℕ WriteFault → Type 0
Written p was now r = MatchResult r (Wrote p was now) (λ f. Unwritten p (length was) (told_write f).0 (told_write f).1 × (now ≡ was))

-- what was written reads back as the same plan
abbrev pub ReadsBack : Plan → List ℕ → Result ℕ WriteFault → Type 0
ReadsBack p now r =
    IfOk r (λ n. (s : Result Plan Fault) → Answers (take n now) s → MatchResult s (λ q. sheet q ≡ sheet p) (λ f. f ≡ Memory))

-- a plan that was read from a file is written back byte for byte, unless the list is too short or there is no memory
abbrev pub WritesBack : Plan → List ℕ → List ℕ → Result ℕ WriteFault → Type 0
WritesBack p was now r =
    (file : List ℕ) → Reads file p → MatchResult r (λ n. (n ≡ length file) × (now ≡ file ++ drop n was)) (λ f. ((f ≡ NoRoom) × (length was < length file)) ⊎ (f ≡ Unfit Memory))
