-- What reading and writing a plan answer.
use Rattle.std.specs.Prelude.{◌≡◌, ℕ, ◌⊎◌, List, map, Ok, Err, vec_items, Result, MatchResult}
use Rattle.records.specs.Faults.{told}
use Rattle.records.specs.declared.fault.Fault.{Fault}
use Rattle.records.specs.declared.fault.Fault.TheVariants.{Memory}
use Rattle.format.specs.declared.plan.Parts.{Parts}
use Rattle.format.specs.declared.plan.Parts.TheVariants.{Pagoda, Rows, Tree}
use Rattle.format.specs.declared.plan.Plan.{Plan}
use Rattle.format.specs.Items.{Part, channel, row, node}
use Rattle.format.specs.Format.{Sheet, Lawful, records, encoded, Refused}

abbrev pub listed : Parts → List Part
listed (Pagoda v) = map channel (vec_items v)
listed (Rows v) = map row (vec_items v)
listed (Tree v) = map node (vec_items v)

-- a plan in memory, by its records
abbrev pub sheet : Plan → Sheet
sheet p = record { opening = p.film; parts = listed p.parts; closed = vec_items p.closures }

-- the bytes of a plan
abbrev pub file_of : Plan → List ℕ
file_of p = encoded (records (sheet p))

-- the file is that plan's
pub record Reads (file : List ℕ) (p : Plan) : Type 0 where
  pub lawful : Lawful (sheet p)
  pub whole : file ≡ file_of p

-- the answer to a file
abbrev pub Answers : List ℕ → Result Plan Fault → Type 0
Answers file r = MatchResult r (Reads file) (λ f. Refused file (told f).0 (told f).1)

-- two answers to one file differ at most in that one of them wants memory
abbrev pub Agree : Result Plan Fault → Result Plan Fault → Type 0
Agree (Ok p) (Ok q) = sheet p ≡ sheet q
Agree (Ok p) (Err g) = g ≡ Memory
Agree (Err f) (Ok q) = f ≡ Memory
Agree (Err f) (Err g) = (f ≡ g) ⊎ ((f ≡ Memory) ⊎ (g ≡ Memory))

-- no other answer is right
abbrev pub OnlyAnswer : List ℕ → Result Plan Fault → Type 0
OnlyAnswer file r = (s : Result Plan Fault) → Answers file s → Agree r s
