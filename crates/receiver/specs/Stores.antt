-- A store has one byte for each page of a film of n pages: page p's lies at place p - 1. 1 marks a page that is held,
-- 2 one that was shown, and any other byte one that was not heard.
use Rattle.std.specs.Prelude.{ℕ, ◌+◌, ◌-◌, Bool, false, cond, not, ◌&&◌, ◌||◌, List, [], ◌∷◌, ◌==◌, nat_eq, nat_le, slice_index, slice_set}
use Rattle.receiver.specs.Count.{count, bit}

-- whether a number is in a list
abbrev pub member : ℕ → List ℕ → Bool
member p [] = false
member p (x ∷ xs) = p == x || member p xs

-- whether a byte marks a page that is neither held nor shown
abbrev pub unheard : ℕ → Bool
unheard b = not (b == 1 || b == 2)

-- whether a number is a page of the film that is neither held nor shown
abbrev pub wanted : ℕ → List ℕ → ℕ → Bool
wanted n store p = (nat_le 1 p && nat_le p n) && unheard (slice_index store (p - 1))

-- the store once a page came: it is held if it was wanted
abbrev pub put : ℕ → List ℕ → ℕ → List ℕ
put n store p = cond (wanted n store p) (slice_set store (p - 1) 1) store

-- the store once a slot's pages came, one after the other
abbrev pub taken : ℕ → List ℕ → List ℕ → List ℕ
taken n store [] = store
taken n store (p ∷ ps) = taken n (put n store p) ps

-- how many pages are held
abbrev pub held : ℕ → List ℕ → ℕ
held n store = count n (λ j. nat_eq (slice_index store j) 1)

-- the stock in a slot: what is held when it begins and what its pages add
abbrev pub stock : ℕ → List ℕ → List ℕ → ℕ
stock n store ps = held n (taken n store ps)

-- how many pages of a list are wanted, a repeated one counted once, where it comes last
abbrev pub fresh : ℕ → List ℕ → List ℕ → ℕ
fresh n store [] = 0
fresh n store (p ∷ ps) = bit (wanted n store p && not (member p ps)) + fresh n store ps
