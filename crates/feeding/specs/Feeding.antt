-- A receiver that is fed: it is tuned and then given one line a slot, the pages of that slot.
use Rattle.std.specs.Prelude.{ℕ, cond, List, [], ◌∷◌, ◌==◌, nat_lt}
use Rattle.receiver.specs.Stores.{stock}
use Rattle.receiver.specs.Calls.{Outcome, granted, refused, tune, hear, start, show}
use Rattle.receiver.specs.declared.numbers.Numbers.{Numbers}

-- how a feeding ended
pub data Ending : Type 0 where
  -- there were no more lines
  cut : Ending
  -- the last page of the film was shown
  whole : Ending
  -- a call was refused, with this number and these values
  denied : ℕ → List ℕ → Ending

-- what a feeding tells
pub record Fed : Type 0 where
  -- the pages that were shown, in order
  pub shows : List ℕ
  -- the stock in each slot that was granted, in order
  pub stocks : List ℕ
  pub peak : ℕ
  pub ending : Ending

-- no slot was granted after this
abbrev pub ended : ℕ → Ending → Fed
ended peak e = record { shows = []; stocks = []; peak = peak; ending = e }

-- before all that, a slot was heard, with this stock
abbrev pub heard_first : ℕ → Fed → Fed
heard_first s f = record { shows = f.shows; stocks = s ∷ f.stocks; peak = f.peak; ending = f.ending }

-- before all that, a page was shown, in a slot with this stock
abbrev pub shown_first : ℕ → ℕ → Fed → Fed
shown_first p s f = record { shows = p ∷ f.shows; stocks = s ∷ f.stocks; peak = f.peak; ending = f.ending }

-- the same of what is told, with the store that is left
abbrev pub before : (Fed → Fed) → Fed × List ℕ → Fed × List ℕ
before first x = (first x.0, x.1)

abbrev pub stop : ℕ → List ℕ → Ending → Fed × List ℕ
stop peak store e = (ended peak e, store)

-- it goes on where a call was granted, and ends where it was refused
abbrev pub going : {A : Type 0} → ℕ → List ℕ → Outcome A → (A → Fed × List ℕ) → Fed × List ℕ
going peak store (granted x) on = on x
going peak store (refused d) on = stop peak store (denied d.0 d.1)

-- a receiver that shows: one line a slot, until the film is whole, the lines end or a call is refused
abbrev pub showing : List (List ℕ) → Numbers → List ℕ → Fed × List ℕ
showing [] r store = stop r.peak store cut
showing (l ∷ ls) r store =
    going r.peak store (show r store l) (λ x.
    before (shown_first x.0 (stock r.pages store l))
    (cond (x.0 == r.pages) (stop x.1.peak x.2 whole) (showing ls x.1 x.2)))

-- a receiver that waits: it hears one line a slot for its delay, and is then started and goes on with the next line
abbrev pub waiting : List (List ℕ) → Numbers → List ℕ → Fed × List ℕ
waiting [] r store = stop r.peak store cut
waiting (l ∷ ls) r store =
    cond (nat_lt r.heard r.delay)
    (going r.peak store (hear r store l) (λ x. before (heard_first (stock r.pages store l)) (waiting ls x.0 x.1)))
    (going r.peak store (start r) (λ r'. showing (l ∷ ls) r' store))

-- tuned to a film of n pages and delay m, with some capacity, and fed: what is told, and the store that is left
abbrev pub feeding : ℕ → ℕ → ℕ → List ℕ → List (List ℕ) → Fed × List ℕ
feeding m n capacity store ls = going 0 store (tune m n capacity store) (λ x. waiting ls x.0 x.1)

abbrev pub fed : ℕ → ℕ → ℕ → List ℕ → List (List ℕ) → Fed
fed m n capacity store ls = (feeding m n capacity store ls).0

abbrev pub left : ℕ → ℕ → ℕ → List ℕ → List (List ℕ) → List ℕ
left m n capacity store ls = (feeding m n capacity store ls).1
