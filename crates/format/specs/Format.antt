-- What a plan file is: the records of a plan, one after the other. And why a file is none.
use Rattle.std.specs.Prelude.{◌≡◌, ℕ, ◌+◌, ◌<◌, ◌≤◌, ◌⊎◌, List, [], ◌∷◌, ◌++◌, map, length}
use Rattle.std.specs.List.{flat_map}
use Rattle.records.specs.Places.{Spans, Opens, Cuts}
use Rattle.records.specs.declared.kinds.Film.{Film}
use Rattle.records.specs.declared.kinds.Closure.{Closure}
use Rattle.format.specs.Items.{Part, channel, row, node, Item, film, part, closure, end, kind, size, bytes}

-- the three sorts of plan
pub data Sort : Type 0 where
  pagoda : Sort
  rows : Sort
  tree : Sort

abbrev pub sort : Part → Sort
sort (channel x) = pagoda
sort (row x) = rows
sort (node x) = tree

-- the most plan records of a sort
abbrev pub most : Sort → ℕ
most pagoda = 8
most rows = 1024
most tree = 2048

abbrev pub Alike : Sort → List Part → Type 0
Alike s [] = Unit {0}
Alike s (p ∷ ps) = (sort p ≡ s) × Alike s ps

-- a plan, by its records
pub record Sheet : Type 0 where
  pub opening : Film
  pub parts : List Part
  pub closed : List Closure

-- the plan records are of one sort, at least one and not past the sort's maximum, and there are at most 64 closures
pub record Lawful (s : Sheet) : Type 0 where
  pub of : Sort
  pub alike : Alike of s.parts
  pub some : 0 < length s.parts
  pub within : length s.parts ≤ most of
  pub few : length s.closed ≤ 64

-- the records of a plan in their order: film, plan records, closures, end
abbrev pub records : Sheet → List Item
records s = film s.opening ∷ (map part s.parts ++ (map closure s.closed ++ (end ∷ [])))

abbrev pub encoded : List Item → List ℕ
encoded = flat_map bytes

-- some lawful plan begins with the records rs and goes on with x
pub record Follows (rs : List Item) (x : Item) : Type 0 where
  pub sheet : Sheet
  pub lawful : Lawful sheet
  pub more : List Item
  pub same : records sheet ≡ rs ++ (x ∷ more)

-- up to b the file is the records rs, and some lawful plan begins with these and goes on
pub record Reached (file : List ℕ) (rs : List Item) (b : ℕ) : Type 0 where
  pub spans : Spans file 0 b (encoded rs)
  pub next : Item
  pub follows : Follows rs next

-- the file ends at b, or within the record that begins there
abbrev pub Ends : List ℕ → ℕ → Type 0
Ends file b = (length file ≤ b) ⊎ ((x : Item) × Cuts file b (kind x) (size x))

-- the byte at b is no record's kind
pub record NoKind (file : List ℕ) (b : ℕ) : Type 0 where
  pub within : b < length file
  pub none : (x : Item) → Opens file b (kind x) → ⊥

-- at b stands a whole record with the kind and the length of x
pub record Whole (file : List ℕ) (b : ℕ) (x : Item) : Type 0 where
  pub opens : Opens file b (kind x)
  pub within : b + 1 + size x ≤ length file

-- at b stands a whole record of a kind that no lawful plan has after the records rs
pub record Misplaced (file : List ℕ) (rs : List Item) (b : ℕ) : Type 0 where
  pub like : Item
  pub whole : Whole file b like
  pub unfit : (x : Item) → kind x ≡ kind like → Follows rs x → ⊥

-- the record x stands at b
abbrev pub Stands : List ℕ → ℕ → Item → Type 0
Stands file b x = Spans file b (b + length (bytes x)) (bytes x)

-- the record x is in its place at b
pub record Fits (file : List ℕ) (rs : List Item) (b : ℕ) (x : Item) : Type 0 where
  pub spans : Spans file 0 b (encoded rs)
  pub stands : Stands file b x
  pub follows : Follows rs x

-- why a file is refused, by the number of the fault and its values; 0 is want of memory for a record that is in its place
pub data Refused (file : List ℕ) : ℕ → List ℕ → Type 0 where
  too_long : 32768 < length file → Refused file 46 (0 ∷ [])
  cut_short : (b : ℕ) (rs : List Item) → length file ≤ 32768 → Reached file rs b → Ends file b → Refused file 41 (b ∷ [])
  unknown_kind : (b : ℕ) (rs : List Item) → length file ≤ 32768 → Reached file rs b → NoKind file b → Refused file 42 (b ∷ [])
  out_of_place : (b : ℕ) (rs : List Item) → length file ≤ 32768 → Reached file rs b → Misplaced file rs b → Refused file 43 (b ∷ [])
  after_end : (b : ℕ) (s : Sheet) → length file ≤ 32768 → Lawful s → Spans file 0 b (encoded (records s)) → b < length file → Refused file 44 (b ∷ [])
  no_memory : (b : ℕ) (rs : List Item) (x : Item) → length file ≤ 32768 → Fits file rs b x → Refused file 0 []
