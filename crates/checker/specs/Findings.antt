-- The findings of a timetable: each page that starves, with the first tune-in slot at which it does.
use Rattle.std.specs.Prelude.{◌≡◌, ℕ, ◌*◌, ◌<◌, ◌≤◌, List, [], ◌∷◌, length, Ok, Err, All, Contains, Result}
use Rattle.std.specs.List.Sorted.{IsPermutation}
use Rattle.timetable.specs.Meaning.{Meaning}
use Rattle.timetable.specs.Windows.{InRange, FirstSlot}
use Rattle.bag.specs.declared.bag.Bag.{Bag}
use Rattle.bag.specs.declared.ranked.Ranked.{Ghosts}
use Rattle.bag.specs.Bags.{held, room, Emptied}
use Rattle.bag.specs.declared.finding.Finding.{Finding}
use Rattle.checker.specs.declared.refusal.FindingsRefusal.{FindingsRefusal}
use Rattle.checker.specs.declared.refusal.FindingsRefusal.TheVariants.{OutOfRange, ShortScratch, ShortBag}

-- the number of each refusal, and the values that it tells
abbrev pub told : FindingsRefusal → ℕ × List ℕ
told OutOfRange = (12, [])
told ShortScratch = (13, [])
told ShortBag = (13, [])

-- page after page, each once
abbrev pub Ascending : List Finding → Type 0
Ascending [] = Unit {0}
Ascending (f ∷ fs) = All (λ g. f.page < g.page) fs × Ascending fs

-- xs are the findings, in their order
pub record Findings (X : Meaning) (m n : ℕ) (xs : List Finding) : Type 0 where
  pub each : All (λ f. FirstSlot X m n f.page f.slot) xs
  pub all : (i t : ℕ) → FirstSlot X m n i t → Contains xs (record { page = i; slot = t })
  pub ascending : Ascending xs

-- a bag of so many places takes the findings, or is too small for them
pub record Gathers (X : Meaning) (m n : ℕ) (count : ℕ) {o : Ghosts Finding} (bag : Bag Finding o) : Type 0 where
  pub findings : List Finding
  pub exact : Findings X m n findings
  pub gathered : IsPermutation findings (held bag)
  pub counted : count ≡ length findings

-- what is answered of the timetable X, with so many cells of scratch, and what the bag then holds
abbrev pub Finds : {o : Ghosts Finding} → Meaning → ℕ → ℕ → ℕ → Result ℕ FindingsRefusal → Bag Finding o → Type 0
Finds X m n cells (Ok count) bag = InRange X m n × (2 * n ≤ cells) × Gathers X m n count bag
Finds X m n cells (Err OutOfRange) bag = (InRange X m n → ⊥) × Emptied bag
Finds X m n cells (Err ShortScratch) bag = InRange X m n × (cells < 2 * n) × Emptied bag
Finds X m n cells (Err ShortBag) bag = InRange X m n × (2 * n ≤ cells) × ((xs : List Finding) × Findings X m n xs × (room bag < length xs)) × Emptied bag
