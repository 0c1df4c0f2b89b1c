-- What a bag holds, and what its calls make of it. The order in which the held records lie is of no account: the promises
-- speak of them up to `IsPermutation`.
use Rattle.std.specs.Prelude.{◌≡◌, ℕ, ◌<◌, Bool, false, List, [], ◌∷◌, length, take, Some, None, Ok, Err, All, Option, Result}
use Rattle.std.specs.List.Sorted.{IsPermutation}
use Rattle.bag.specs.Places.{FreeFrom}
use Rattle.bag.specs.declared.bag.Bag.{Bag}
use Rattle.bag.specs.declared.bag.Full.{Full}
use Rattle.bag.specs.declared.ranked.Ranked.{Ghosts}

-- the number of the refusal, and the values that it tells
abbrev pub told : Full → ℕ × List ℕ
told e = (6, [])

-- the records that are held
abbrev pub held : {X : Type 0} {g : Ghosts X} → Bag X g → List X
held b = take b.count b.places.now

-- the number of places
abbrev pub room : {X : Type 0} {g : Ghosts X} → Bag X g → ℕ
room b = length b.places.now

-- each place that no held record has holds the zero record
abbrev pub FreeAreZero : {X : Type 0} {g : Ghosts X} → Bag X g → Type 0
FreeAreZero {X} {g} b = FreeFrom b.count b.places.now g.blank

-- nothing is held, and every place holds the zero record
pub record Emptied {X : Type 0} {g : Ghosts X} (b : Bag X g) : Type 0 where
  pub none_held : held b ≡ []
  pub all_zero : FreeFrom 0 b.places.now g.blank

-- b lies over the places that a lay over
pub record SameMemory {X : Type 0} {g : Ghosts X} (a b : Bag X g) : Type 0 where
  pub same_room : room b ≡ room a
  pub same_lender : b.places.ghost_name ≡ a.places.ghost_name

-- every place, in use and free, is as it was
pub record Same {X : Type 0} {g : Ghosts X} (a b : Bag X g) : Type 0 where
  pub same_count : b.count ≡ a.count
  pub same_places : b.places.now ≡ a.places.now

-- after x was put, it is held with the others, and every other place stays free
pub record Holds {X : Type 0} {g : Ghosts X} (x : X) (a b : Bag X g) : Type 0 where
  pub had_room : length (held a) < room a
  pub one_more : IsPermutation (x ∷ held a) (held b)
  pub free_zero : FreeAreZero b

-- no record of the list comes before x
abbrev pub First : {X : Type 0} → (X → X → Bool) → X → List X → Type 0
First before x xs = All (λ y. before y x ≡ false) xs

-- x was taken: it was held, none comes before it, the others are still held, and its place is free
pub record Takes {X : Type 0} {g : Ghosts X} (before : X → X → Bool) (x : X) (a b : Bag X g) : Type 0 where
  pub one_less : IsPermutation (held a) (x ∷ held b)
  pub first : First before x (held a)
  pub free_zero : FreeAreZero b

-- one record more, or the refusal of a full bag, which is left as it was
abbrev pub AfterPut : {X : Type 0} {g : Ghosts X} → X → Bag X g → Bag X g → Result Unit Full → Type 0
AfterPut x a b (Ok _) = Holds x a b
AfterPut x a b (Err e) = (told e ≡ (6, [])) × (length (held a) ≡ room a) × Same a b

-- a record that no other comes before is taken, or the bag was empty and stays so
abbrev pub AfterTake : {X : Type 0} {g : Ghosts X} → (X → X → Bool) → Bag X g → Bag X g → Option X → Type 0
AfterTake before a b None = (held a ≡ []) × Same a b
AfterTake before a b (Some x) = Takes before x a b
