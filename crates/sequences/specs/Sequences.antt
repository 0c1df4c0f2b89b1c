-- Free sequences of slots: in which order they are taken, which slots they have, and how they are cut.
use Rattle.std.specs.Prelude.{ℕ, zero, suc, ◌+◌, ◌*◌, ◌%◌, ◌<◌, ◌≤◌, Bool, cond, ◌&&◌, List, [], ◌∷◌, ◌==◌}
use Rattle.bag.specs.Orders.{ascending, descending, by_then}
use Rattle.sequences.specs.declared.sequence.FreeSequence.{FreeSequence}

-- at the window w: the least rest of w by the period, then the greatest period, the lowest channel, the lowest start
abbrev pub earlier : ℕ → FreeSequence → FreeSequence → Bool
earlier w =
    by_then (ascending (λ s. w % s.period))
    (by_then (descending (λ s. s.period)) (by_then (ascending (λ s. s.channel)) (ascending (λ s. s.start))))

-- a sequence that can be cut for a page with a window of w slots
pub record Usable (w : ℕ) (s : FreeSequence) : Type 0 where
  pub some : 0 < s.period
  pub within : s.period ≤ w
  pub starts : s.start < s.period

-- 1 where the sequence has slot t of channel k, else 0
abbrev pub covers : ℕ → ℕ → FreeSequence → ℕ
covers k t s = cond (s.channel == k && t % s.period == s.start) 1 0

-- every slot of a channel
abbrev pub whole : ℕ → FreeSequence
whole k = record { channel = k; start = 0; period = 1 }

-- every slot of the channels 1 to c
abbrev pub whole_channels : ℕ → List FreeSequence
whole_channels zero = []
whole_channels (suc c) = whole (suc c) ∷ whole_channels c

-- the piece of number j, from 0, of a sequence that is cut into some parts: every so manieth of its slots
abbrev pub piece : FreeSequence → ℕ → ℕ → FreeSequence
piece s parts j = record { channel = s.channel; start = s.start + j * s.period; period = parts * s.period }

-- the pieces of the numbers 1 to n
abbrev pub pieces : FreeSequence → ℕ → ℕ → List FreeSequence
pieces s parts zero = []
pieces s parts (suc n) = piece s parts (suc n) ∷ pieces s parts n
