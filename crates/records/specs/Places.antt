-- Where records stand in a file, which is a list of bytes counted from 0.
use Rattle.std.specs.Prelude.{◌≡◌, ℕ, ◌+◌, ◌<◌, List, ◌∷◌, ◌++◌, length, drop, Some, None, Ok, Err, Option, Result, slice_index_or}
use Rattle.records.specs.declared.fault.Fault.{Fault}
use Rattle.records.specs.declared.fault.Fault.TheVariants.{CutShort}

-- the bytes from a up to e are xs
pub record Spans (file : List ℕ) (a e : ℕ) (xs : List ℕ) : Type 0 where
  pub reads : drop a file ≡ xs ++ drop e file
  pub ends : e ≡ a + length xs

-- a record of kind k begins at a
pub record Opens (file : List ℕ) (a k : ℕ) : Type 0 where
  pub within : a < length file
  pub kind : slice_index_or file a 0 ≡ k

-- a record of kind k begins at a, and the file ends within its body of n bytes
pub record Cuts (file : List ℕ) (a k n : ℕ) : Type 0 where
  pub opens : Opens file a k
  pub short : length file < a + 1 + n

-- what is found at a, looking for a record of kind k whose body has n bytes: the record and where the next one begins, no such record, or one that is cut short
abbrev pub Found : {X : Type 0} → ℕ → ℕ → (X → List ℕ) → List ℕ → ℕ → Result (Option (X × ℕ)) Fault → Type 0
Found k n body file a (Ok (Some p)) = Spans file a p.1 (k ∷ body p.0)
Found k n body file a (Ok None) = Opens file a k → ⊥
Found k n body file a (Err f) = (f ≡ CutShort a) × Cuts file a k n
