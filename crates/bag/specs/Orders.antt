-- Orders by numbers, as tests: `before x y` says that x comes before y.
use Rattle.std.specs.Prelude.{ℕ, Bool, not, ◌&&◌, ◌||◌, nat_lt}

-- the lesser number first
abbrev pub ascending : {X : Type 0} → (X → ℕ) → X → X → Bool
ascending key x y = nat_lt (key x) (key y)

-- the greater number first
abbrev pub descending : {X : Type 0} → (X → ℕ) → X → X → Bool
descending key x y = nat_lt (key y) (key x)

-- by one order, and where that has neither first, by another
abbrev pub by_then : {X : Type 0} → (X → X → Bool) → (X → X → Bool) → X → X → Bool
by_then one other x y = one x y || (not (one y x) && other x y)
