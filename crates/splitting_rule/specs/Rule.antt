-- The rule of splitting: page after page takes the first of the free sequences and cuts it; the first piece is the page's
-- row, and the others are free again. The free sequences lie in a bag of so many places.
use Rattle.std.specs.Prelude.{◌≡◌, ℕ, zero, suc, ◌+◌, ◌-◌, ◌*◌, ◌/◌, ◌<◌, ◌≤◌, ◌⊎◌, List, [], ◌∷◌, ◌++◌, length, slice_index_or}
use Rattle.std.specs.List.Sorted.{IsPermutation}
use Rattle.records.specs.declared.kinds.Row.{Row}
use Rattle.bag.specs.Bags.{First}
use Rattle.sequences.specs.Sequences.{earlier, pieces}
use Rattle.sequences.specs.declared.sequence.FreeSequence.{FreeSequence}

-- of the free sequences s is one that no other comes before at the window w, and the others are left
pub record Chosen (w : ℕ) (free : List FreeSequence) (s : FreeSequence) (others : List FreeSequence) : Type 0 where
  pub out : IsPermutation free (s ∷ others)
  pub first : First (earlier w) s free

-- into how many parts a sequence is cut: as many as keep the period of a part within the window
abbrev pub parts_of : ℕ → FreeSequence → ℕ
parts_of w s = w / s.period

-- the pieces that are free again: all but the one of number 0
abbrev pub rest_of : ℕ → FreeSequence → List FreeSequence
rest_of w s = pieces s (parts_of w s) (parts_of w s - 1)

-- the row of a page with the window w that takes the sequence s
abbrev pub row_of : ℕ → ℕ → FreeSequence → Row
row_of page w s = record { page = page; channel = s.channel; start = s.start; period = parts_of w s * s.period }

-- a page with the window w gets its row, where `free` were free, and then `left` are, in a bag of `most` places
pub record Placed (page w most : ℕ) (free : List FreeSequence) (row : Row) (left : List FreeSequence) : Type 0 where
  pub s : FreeSequence
  pub others : List FreeSequence
  pub chosen : Chosen w free s others
  pub is : row ≡ row_of page w s
  pub cut : IsPermutation (rest_of w s ++ others) left
  pub fits : length left ≤ most

-- pages 1 to n have the first n of the rows, and `left` are then free; at the delay m page i has the window m + i - 1
abbrev pub Splits : ℕ → ℕ → List FreeSequence → ℕ → List Row → List FreeSequence → Type 0
Splits m most free zero rows left = IsPermutation free left
Splits m most free (suc n) rows left =
    (mid : List FreeSequence) × Splits m most free n rows mid × ((d : Row) → Placed (n + 1) (m + n) most mid (slice_index_or rows n d) left)

-- pages 1 to k have rows, and for the next there is no free sequence
pub record NoneFree (m most : ℕ) (free : List FreeSequence) (k : ℕ) : Type 0 where
  pub rows : List Row
  pub placed : Splits m most free k rows []

-- the bag has no room for the pieces of the sequence that a page with the window w takes
pub record Crowded (w most : ℕ) (free : List FreeSequence) : Type 0 where
  pub s : FreeSequence
  pub others : List FreeSequence
  pub chosen : Chosen w free s others
  pub too_many : most < length (rest_of w s ++ others)

-- pages 1 to k have rows, and for the pieces of the next there is no room
pub record NoRoomFor (m most : ℕ) (free : List FreeSequence) (k : ℕ) : Type 0 where
  pub rows : List Row
  pub mid : List FreeSequence
  pub placed : Splits m most free k rows mid
  pub next : Crowded (m + k) most mid

-- some page of n gets no row: told by 5, with how many have one, or by 6
abbrev pub Refuses : ℕ → ℕ → List FreeSequence → ℕ → ℕ × List ℕ → Type 0
Refuses m most free n t =
    ((k : ℕ) × (k < n) × (t ≡ (5, k ∷ [])) × NoneFree m most free k)
    ⊎ ((k : ℕ) × (k < n) × (t ≡ (6, [])) × NoRoomFor m most free k)
