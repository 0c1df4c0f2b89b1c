-- The records of a plan file, and their bytes.
use Rattle.std.specs.Prelude.{◌≡◌, ℕ, List, [], ◌∷◌, Some, None, Ok, Err, Option, Result}
use Rattle.records.specs.Bytes.{film_body, channel_body, row_body, leaf_body, inner_body, closure_body}
use Rattle.records.specs.Places.{Spans, Opens, Cuts}
use Rattle.records.specs.declared.fault.Fault.{Fault}
use Rattle.records.specs.declared.fault.Fault.TheVariants.{CutShort}
use Rattle.records.specs.declared.kinds.Film.{Film}
use Rattle.records.specs.declared.kinds.Channel.{Channel}
use Rattle.records.specs.declared.kinds.Row.{Row}
use Rattle.records.specs.declared.kinds.Node.{Node}
use Rattle.records.specs.declared.kinds.Node.TheVariants.{Leaf, Inner}
use Rattle.records.specs.declared.kinds.Closure.{Closure}

-- a record that says how pages circle
pub data Part : Type 0 where
  channel : Channel → Part
  row : Row → Part
  node : Node → Part

-- a record of a plan file
pub data Item : Type 0 where
  film : Film → Item
  part : Part → Item
  closure : Closure → Item
  end : Item

-- the kind byte of a record
abbrev pub kind : Item → ℕ
kind (film x) = 1
kind (part (channel x)) = 2
kind (part (row x)) = 3
kind (part (node (Leaf x))) = 4
kind (part (node (Inner x))) = 5
kind (closure x) = 6
kind end = 0

-- the length of its body
abbrev pub size : Item → ℕ
size (film x) = 5
size (part (channel x)) = 1
size (part (row x)) = 11
size (part (node (Leaf x))) = 2
size (part (node (Inner x))) = 4
size (closure x) = 5
size end = 0

-- its body
abbrev pub body : Item → List ℕ
body (film x) = film_body x
body (part (channel x)) = channel_body x
body (part (row x)) = row_body x
body (part (node (Leaf x))) = leaf_body x
body (part (node (Inner x))) = inner_body x
body (closure x) = closure_body x
body end = []

abbrev pub bytes : Item → List ℕ
bytes x = kind x ∷ body x

-- what stands at a, looking for one of the records that `item` gives: one of them and where the next record begins, none of them, or one that is cut short
abbrev pub Stood : {X : Type 0} → (X → Item) → List ℕ → ℕ → Result (Option (X × ℕ)) Fault → Type 0
Stood item file a (Ok (Some p)) = Spans file a p.1 (bytes (item p.0))
Stood {X} item file a (Ok None) = (x : X) → Opens file a (kind (item x)) → ⊥
Stood {X} item file a (Err f) = (f ≡ CutShort a) × ((x : X) × Cuts file a (kind (item x)) (size (item x)))
