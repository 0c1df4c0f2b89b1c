-- What every feeding keeps in which no page starves. The lines are a function of the slot, and a run of k of them from
-- slot t on is `map L (counting t k)`; slots of a feeding are counted from the tune-in at t.
use Rattle.std.specs.Prelude.{◌≡◌, ℕ, zero, suc, ◌+◌, ◌-◌, ◌<◌, ◌≤◌, min, max, Bool, true, false, cond, ◌||◌, List, [], map, length, ◌==◌, ◌≢◌, nat_lt, slice_index_or}
use Rattle.std.specs.List.{range_with_len}
use Rattle.receiver.specs.Count.{count}
use Rattle.receiver.specs.Stores.{member}
use Rattle.feeding.specs.Feeding.{Fed, cut, whole, denied, ended, heard_first, shown_first, fed}

-- page p comes in one of the j slots from t on
abbrev pub came : (ℕ → List ℕ) → ℕ → ℕ → ℕ → Bool
came L p t zero = false
came L p t (suc j) = came L p t j || member p (L (t + j))

-- how many of the n pages come in the j slots from t on
abbrev pub arrived : (ℕ → List ℕ) → ℕ → ℕ → ℕ → ℕ
arrived L n t j = count n (λ i. came L (i + 1) t j)

-- the stock in slot j: the pages that came so far, less those that were shown before the slot
abbrev pub stock_at : (ℕ → List ℕ) → ℕ → ℕ → ℕ → ℕ → ℕ
stock_at L m n t j = arrived L n t (suc j) - (j - m)

-- No page starves that is due in the K slots from t on. Page i + 1 is due in slot m + i, and has to come before.
abbrev pub Serves : (ℕ → List ℕ) → ℕ → ℕ → ℕ → ℕ → Type 0
Serves L m n t K = (i : ℕ) → i < n → m + i < K → came L (i + 1) t (m + i) ≡ true

-- a receiver can be tuned so
pub record Tunable (m n room : ℕ) (store : List ℕ) : Type 0 where
  pub delay : (1 ≤ m) × (m ≤ 1024)
  pub pages : (1 ≤ n) × (n ≤ 1024)
  pub capacity : room ≤ n
  pub long : n ≤ length store

-- What a feeding tells of the k slots from slot j on if the stock S in each slot alone decides: a stock above the room is
-- refused, a slot of the delay is heard, and in slot j of the film page j + 1 - m is shown.
abbrev pub story : (ℕ → ℕ) → ℕ → ℕ → ℕ → ℕ → ℕ → ℕ → Fed
story S m n room zero j peak = ended peak cut
story S m n room (suc k) j peak =
    cond (nat_lt room (S j)) (ended peak (denied 34 []))
    (cond (nat_lt j m) (heard_first (S j) (story S m n room k (suc j) (max peak (S j))))
    (shown_first (suc j - m) (S j) (cond (suc j - m == n) (ended (max peak (S j)) whole) (story S m n room k (suc j) (max peak (S j))))))

-- where no page starves, the stock alone decides
abbrev pub ToldByStock : Type 0
ToldByStock =
    (L : ℕ → List ℕ) (m n room t K : ℕ) (store : List ℕ) → Tunable m n room store → Serves L m n t K
    → fed m n room store (map L (range_with_len t K)) ≡ story (stock_at L m n t) m n room K 0 0

-- no call was refused, and the shows answered 1, 2, 3 and so on, one a slot, for as long as there were lines and pages
pub record Unbroken (m n slots : ℕ) (f : Fed) : Type 0 where
  pub granted : (d : ℕ) (vs : List ℕ) → f.ending ≢ denied d vs
  pub in_order : f.shows ≡ range_with_len 1 (min n (slots - m))

-- room for the stock in every slot is enough
abbrev pub EnoughRoom : Type 0
EnoughRoom =
    (L : ℕ → List ℕ) (m n room t K : ℕ) (store : List ℕ) → Tunable m n room store → Serves L m n t K
    → ((j : ℕ) → j < K → j < m + n → stock_at L m n t j ≤ room)
    → Unbroken m n K (fed m n room store (map L (range_with_len t K)))

-- and the stock in each slot is then the pages that came so far, less those already shown
abbrev pub StocksAreArrivals : Type 0
StocksAreArrivals =
    (L : ℕ → List ℕ) (m n room t K : ℕ) (store : List ℕ) → Tunable m n room store → Serves L m n t K
    → ((j : ℕ) → j < K → j < m + n → stock_at L m n t j ≤ room)
    → (fed m n room store (map L (range_with_len t K))).stocks ≡ map (stock_at L m n t) (range_with_len 0 (min K (m + n)))

-- less room than the stock in some slot is refused
abbrev pub LessRoom : Type 0
LessRoom =
    (L : ℕ → List ℕ) (m n room t K j : ℕ) (store : List ℕ) → Tunable m n room store → Serves L m n t K
    → j < K → j < m + n → room < stock_at L m n t j
    → (fed m n room store (map L (range_with_len t K))).ending ≡ denied 34 []

-- the lines of a list, slot by slot
abbrev pub lines_of : List (List ℕ) → ℕ → List ℕ
lines_of ls u = slice_index_or ls u []

-- room for the whole film is enough, whatever the lines in which no page starves
abbrev pub WholeRoom : Type 0
WholeRoom =
    (ls : List (List ℕ)) (m n : ℕ) (store : List ℕ) → Tunable m n n store → Serves (lines_of ls) m n 0 (length ls)
    → Unbroken m n (length ls) (fed m n n store ls)

-- the greatest of `peak` and of S in the k slots from j on
abbrev pub top : (ℕ → ℕ) → ℕ → ℕ → ℕ → ℕ
top S j zero peak = peak
top S j (suc k) peak = top S (suc j) k (max peak (S j))

-- the peak of a whole film is the greatest stock
abbrev pub PeakIsTop : Type 0
PeakIsTop =
    (L : ℕ → List ℕ) (m n t : ℕ) (store : List ℕ) → Tunable m n n store → Serves L m n t (m + n)
    → (fed m n n store (map L (range_with_len t (m + n)))).peak ≡ top (stock_at L m n t) 0 (m + n) 0
