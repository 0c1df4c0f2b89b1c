-- What writing a plan that can be loaded again answers.
use Rattle.std.specs.Prelude.{◌≡◌, ℕ, ◌<◌, ◌≤◌, List, [], ◌++◌, length, drop, Result, MatchResult}
use Rattle.format.specs.declared.plan.Plan.{Plan}
use Rattle.format.specs.Answers.{file_of}
use Rattle.load.specs.declared.fault.SaveFault.{SaveFault}
use Rattle.load.specs.declared.fault.SaveFault.TheVariants.{Unfit, NoRoom}
use Rattle.load.specs.declared.loading.Loaded.{Loaded}
use Rattle.load.specs.Loading.{Loads, LoadRefused}
use Rattle.load.specs.Told.{told_load}

-- the number and the values of each fault
abbrev pub told_save : SaveFault → ℕ × List ℕ
told_save (Unfit f) = told_load f
told_save NoRoom = (13, [])

-- why a plan is not written into a list of `room` bytes, by number and values: its bytes would not be loaded, the list is too short, or there is no memory
pub data Unsaved (p : Plan) (room : ℕ) : ℕ → List ℕ → Type 0 where
  unfit : (k : ℕ) (vs : List ℕ) → LoadRefused (file_of p) k vs → Unsaved p room k vs
  no_room : (l : Loaded) → Loads (file_of p) l → room < length (file_of p) → Unsaved p room 13 []
  no_memory : Unsaved p room 0 []

-- the plan's bytes, which load, stand at the beginning of the list, and the rest is as it was
pub record Saves (p : Plan) (was now : List ℕ) (n : ℕ) : Type 0 where
  pub loaded : Loaded
  pub loads : Loads (file_of p) loaded
  pub count : n ≡ length (file_of p)
  pub room : n ≤ length was
  pub after : now ≡ file_of p ++ drop n was

-- where the plan is not written the list is as it was
abbrev pub Saved : Plan → List ℕ → List ℕ → Result ℕ SaveFault → Type 0
Saved p was now r = MatchResult r (Saves p was now) (λ f. Unsaved p (length was) (told_save f).0 (told_save f).1 × (now ≡ was))
