-- What the steps of the planner make of the bag and the rows.
use Rattle.std.specs.Prelude.{◌≡◌, ℕ, ◌+◌, ◌-◌, ◌<◌, ◌⊎◌, List, [], ◌∷◌, ◌++◌, length, Result, MatchResult}
use Rattle.std.specs.List.Sorted.{IsPermutation}
use Rattle.records.specs.declared.kinds.Row.{Row}
use Rattle.plans.specs.Refusals.{told}
use Rattle.plans.specs.declared.refusal.Refusal.{Refusal}
use Rattle.bag.specs.Bags.{held, room}
use Rattle.bag.specs.declared.bag.Bag.{Bag}
use Rattle.bag.specs.declared.ranked.Ranked.{Ghosts}
use Rattle.bag.specs.declared.bag.Full.{Full}
use Rattle.splitting_rule.specs.Rule.{Placed, Crowded, Splits, Refuses}
use Rattle.sequences.specs.Sequences.{pieces, whole_channels}
use Rattle.sequences.specs.declared.sequence.FreeSequence.{FreeSequence}

-- every slot of c channels is free, or the bag has not a place for each
abbrev pub AfterChannels : {g : Ghosts FreeSequence} → ℕ → Bag FreeSequence g → Bag FreeSequence g → Result Unit Full → Type 0
AfterChannels c a b answer = MatchResult answer (λ _. IsPermutation (whole_channels c) (held b)) (λ _. room a < c)

-- all pieces but the first are in the bag, or it has too few places for them
abbrev pub AfterRest : {g : Ghosts FreeSequence} → FreeSequence → ℕ → Bag FreeSequence g → Bag FreeSequence g → Result Unit Full → Type 0
AfterRest s parts a b answer =
    MatchResult answer (λ _. IsPermutation (pieces s parts (parts - 1) ++ held a) (held b))
    (λ _. room a < length (pieces s parts (parts - 1) ++ held a))

-- page n + 1 with the window w has its row; or no sequence is free, told by 5, or the bag is too small, told by 6
abbrev pub AfterPage : {g : Ghosts FreeSequence} → ℕ → ℕ → Bag FreeSequence g → Bag FreeSequence g → Result Row Refusal → Type 0
AfterPage n w a b answer =
    MatchResult answer (λ row. Placed (n + 1) w (room a) (held a) row (held b))
    (λ e. ((told e ≡ (5, n ∷ [])) × (held a ≡ [])) ⊎ ((told e ≡ (6, [])) × Crowded w (room a) (held a)))

-- pages 1 to n have the first n rows, or one gets none
abbrev pub AfterPages : {g : Ghosts FreeSequence} → ℕ → ℕ → Bag FreeSequence g → Bag FreeSequence g → List Row → Result Unit Refusal → Type 0
AfterPages m n a b rows answer =
    MatchResult answer (λ _. Splits m (room a) (held a) n rows (held b)) (λ e. Refuses m (room a) (held a) n (told e))
