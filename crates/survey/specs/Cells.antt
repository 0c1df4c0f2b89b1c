-- What the cells of a survey hold: the next comings of n pages, and the counts of arrivals in n slots.
use Rattle.std.specs.Prelude.{◌≡◌, ℕ, zero, suc, ◌+◌, ◌-◌, ◌<◌, ◌≤◌, min, true, false, cond, ◌&&◌, List, [], ◌∷◌, nat_le, slice_index, slice_set}
use Rattle.receiver.specs.Stores.{member}

-- page p comes next in slot v, from slot t on; where v is the end, it does not come before it
pub record Coming (L : ℕ → List ℕ) (p t end v : ℕ) : Type 0 where
  pub ahead : (t ≤ v) × (v ≤ end)
  pub quiet : (u : ℕ) → t ≤ u → u < v → member p (L u) ≡ false
  pub comes : v < end → member p (L v) ≡ true

-- the next coming of each page
abbrev pub Comings : (ℕ → List ℕ) → ℕ → ℕ → ℕ → List ℕ → Type 0
Comings L n t end xs = (i : ℕ) → i < n → Coming L (i + 1) t end (slice_index xs i)

-- the next comings once page p was seen in slot u
abbrev pub note_one : ℕ → ℕ → List ℕ → ℕ → List ℕ
note_one n u xs p = cond (nat_le 1 p && nat_le p n) (slice_set xs (p - 1) u) xs

-- the next comings once the pages of slot u were seen
abbrev pub noted : ℕ → ℕ → List ℕ → List ℕ → List ℕ
noted n u xs [] = xs
noted n u xs (p ∷ ps) = noted n u (note_one n u xs p) ps

-- the slots from the end of the delay of a tune-in at t until page i + 1 comes, at most n - 1
abbrev pub late : ℕ → ℕ → ℕ → List ℕ → ℕ → ℕ
late m n t xs i = min ((slice_index xs i - t) - m) (n - 1)

-- the arrivals that are counted in the first s slots of the film
abbrev pub total : List ℕ → ℕ → ℕ
total xs zero = 0
total xs (suc s) = total xs s + slice_index xs s
