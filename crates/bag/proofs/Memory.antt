-- Bags over the same places.
use Rattle.std.proofs.Common.{◌≤◌, length, ◌∙◌, arith}
use Rattle.std.proofs.lemmas.List.{length-take}
use Rattle.bag.specs.Bags.{held, room, SameMemory}
use Rattle.bag.specs.declared.bag.Bag.{Bag}
use Rattle.bag.specs.declared.ranked.Ranked.{Ghosts}

pub same_memory_trans : {X : Type 0} {g : Ghosts X} (a b c : Bag X g) → SameMemory a b → SameMemory b c → SameMemory a c
same_memory_trans a b c h i = record {
  same_room = i.same_room ∙ h.same_room;
  same_lender = i.same_lender ∙ h.same_lender;
}

-- no more records are held than there are places
pub held_within : {X : Type 0} {g : Ghosts X} (b : Bag X g) → length (held b) ≤ room b
held_within b = omega (arith, length-take b.count b.places.now)
