-- What each call of a receiver answers and leaves, on its numbers and its store.
use Rattle.std.specs.Prelude.{ℕ, ◌+◌, max, Bool, cond, not, ◌&&◌, List, [], ◌∷◌, ◌++◌, length, drop, replicate, ◌==◌, nat_le, nat_lt, slice_index, slice_set}
use Rattle.receiver.specs.Stores.{taken, stock}
use Rattle.receiver.specs.declared.numbers.Numbers.{Numbers}

-- a call is granted, with what it gives, or refused, with the refusal's number and the values that it tells
pub data Outcome (A : Type 0) : Type 0 where
  granted : A → Outcome A
  refused : ℕ × List ℕ → Outcome A

-- what a delay and a number of pages may be
abbrev pub in_range : ℕ → Bool
in_range x = nat_le 1 x && nat_le x 1024

-- a receiver of delay m, n pages and some capacity that heard and showed nothing
abbrev pub tuned : ℕ → ℕ → ℕ → Numbers
tuned m n capacity = record { delay = m; pages = n; capacity = capacity; heard = 0; shown = 0; peak = 0 }

-- tuned in, with the n bytes zeroed
abbrev pub tune : ℕ → ℕ → ℕ → List ℕ → Outcome (Numbers × List ℕ)
tune m n capacity store =
    cond (in_range m && (in_range n && (nat_le capacity n && nat_le n (length store))))
    (granted (tuned m n capacity, replicate n 0 ++ drop n store))
    (refused (31, []))

-- the stock that a slot's pages would make
abbrev pub weigh : ℕ → List ℕ → List ℕ → Outcome ℕ
weigh n store ps = cond (nat_lt (length store) n) (refused (31, [])) (granted (stock n store ps))

-- a slot had this stock
abbrev pub peaked : Numbers → ℕ → Numbers
peaked r s = record { delay = r.delay; pages = r.pages; capacity = r.capacity; heard = r.heard; shown = r.shown; peak = max r.peak s }

-- one slot more was heard, with this stock
abbrev pub heard_more : Numbers → ℕ → Numbers
heard_more r s = record { delay = r.delay; pages = r.pages; capacity = r.capacity; heard = r.heard + 1; shown = r.shown; peak = max r.peak s }

-- a slot of the delay
abbrev pub hear : Numbers → List ℕ → List ℕ → Outcome (Numbers × List ℕ)
hear r store ps =
    cond (nat_lt (length store) r.pages) (refused (31, []))
    (cond (nat_le r.delay r.heard) (refused (33, []))
    (cond (nat_lt r.capacity (stock r.pages store ps)) (refused (34, []))
    (granted (heard_more r (stock r.pages store ps), taken r.pages store ps))))

-- the film starts once the delay was heard
abbrev pub start : Numbers → Outcome Numbers
start r = cond (nat_lt r.heard r.delay) (refused (32, [])) (granted r)

-- one page more was shown, in a slot with this stock
abbrev pub shown_more : Numbers → ℕ → Numbers
shown_more r s = record { delay = r.delay; pages = r.pages; capacity = r.capacity; heard = r.heard; shown = r.shown + 1; peak = max r.peak s }

-- A slot of the film: the next page, which is held before the slot, is shown; it still counts as stock of the slot. Granted, it
-- gives the page, and the numbers and the store afterwards.
abbrev pub show : Numbers → List ℕ → List ℕ → Outcome (ℕ × Numbers × List ℕ)
show r store ps =
    cond (nat_lt (length store) r.pages) (refused (31, []))
    (cond (nat_le r.pages r.shown) (refused (36, []))
    (cond (not (slice_index store r.shown == 1)) (refused (35, (r.shown + 1) ∷ []))
    (cond (nat_lt r.capacity (stock r.pages store ps)) (refused (34, []))
    (granted (r.shown + 1, shown_more r (stock r.pages store ps), slice_set (taken r.pages store ps) r.shown 2)))))

-- the pages that were shown and the peak
abbrev pub finish : Numbers → ℕ × ℕ
finish r = (r.shown, r.peak)
