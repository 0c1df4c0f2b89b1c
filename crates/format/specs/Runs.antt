-- A list of records that stands in a file.
use Rattle.std.specs.Prelude.{◌≡◌, ℕ, ◌<◌, ◌≤◌, ◌⊎◌, List, map, length}
use Rattle.records.specs.Places.{Spans, Opens, Cuts}
use Rattle.records.specs.declared.fault.Fault.{Fault}
use Rattle.records.specs.declared.fault.Fault.TheVariants.{CutShort, UnknownKind, OutOfPlace, AfterEnd, TooLong, Memory}
use Rattle.format.specs.Items.{Item, kind, size}
use Rattle.format.specs.Format.{encoded, Stands}

module _ {X : Type 0} (item : X → Item) (file : List ℕ) (a most : ℕ) where
  -- all such records from a on, up to e
  pub record Run (e : ℕ) (xs : List X) : Type 0 where
    pub spans : Spans file a e (encoded (map item xs))
    pub within : length xs ≤ most
    pub stops : (x : X) → Opens file e (kind (item x)) → ⊥

  -- the records xs stand from a up to b, and x after them
  pub record Goes (b : ℕ) (xs : List X) (x : X) : Type 0 where
    pub spans : Spans file a b (encoded (map item xs))
    pub stands : Stands file b (item x)

  -- the records xs stand from a up to b, and one like x after them is cut short
  pub record Breaks (b : ℕ) (xs : List X) (x : X) : Type 0 where
    pub spans : Spans file a b (encoded (map item xs))
    pub within : length xs ≤ most
    pub cuts : Cuts file b (kind (item x)) (size (item x))

  -- why there is no such list
  abbrev pub RunFault : Fault → Type 0
  RunFault (CutShort b) = (xs : List X) × (x : X) × Breaks b xs x
  RunFault (OutOfPlace b) = (xs : List X) × (x : X) × Goes b xs x × (length xs ≡ most)
  RunFault Memory = (b : ℕ) × (xs : List X) × (x : X) × Goes b xs x × (length xs < most)
  RunFault (UnknownKind b) = ⊥
  RunFault (AfterEnd b) = ⊥
  RunFault TooLong = ⊥

-- why bytes are not made: there is no memory, or they are more than any file has
abbrev pub Unappended : List ℕ → Fault → Type 0
Unappended all f = (f ≡ Memory) ⊎ ((f ≡ TooLong) × (32768 < length all))
