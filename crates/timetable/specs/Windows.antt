-- The windows condition. A film has pages 1 to n and starts m slots after a receiver tunes in; so page i is shown
-- m + i - 1 slots after the tune-in, and has to come before. Each notion speaks of a timetable of what is sent.
use Rattle.std.specs.Prelude.{◌≡◌, ℕ, ◌+◌, ◌-◌, ◌<◌, ◌≤◌, ◌⊎◌}
use Rattle.timetable.specs.Meaning.{Meaning}

-- the slots, counted from the tune-in, in which page i has to come
abbrev pub window : ℕ → ℕ → ℕ
window m i = m + i - 1

-- page i comes in slot t: some channel carries it
abbrev pub Comes : Meaning → ℕ → ℕ → Type 0
Comes X i t = (k : ℕ) × (1 ≤ k) × (k ≤ X.channels) × (X.page k t ≡ i)

-- page i does not come in the w slots from t on
abbrev pub Lacks : Meaning → ℕ → ℕ → ℕ → Type 0
Lacks X w i t = (u : ℕ) → t ≤ u → u < t + w → Comes X i u → ⊥

-- tuned in at slot t, a receiver does not get page i in its window
abbrev pub Starves : Meaning → ℕ → ℕ → ℕ → Type 0
Starves X m i t = Lacks X (window m i) i t

-- a number that is no page of the film
abbrev pub Beyond : ℕ → ℕ → Type 0
Beyond n p = n < p

-- some entry carries a number beyond the film
abbrev pub Stray : Meaning → ℕ → Type 0
Stray X n = (k : ℕ) × (t : ℕ) × Beyond n (X.page k t)

-- some page of the film starves at some tune-in, however late
abbrev pub Starving : Meaning → ℕ → ℕ → Type 0
Starving X m n = (i : ℕ) × (t : ℕ) × (1 ≤ i) × (i ≤ n) × Starves X m i t

-- nothing is stray and nobody starves
pub record Sound (X : Meaning) (m n : ℕ) : Type 0 where
  pub none_stray : Stray X n → ⊥
  pub none_starving : Starving X m n → ⊥

-- the numbers that a film and its timetable may have
pub record InRange (X : Meaning) (m n : ℕ) : Type 0 where
  pub delay : (1 ≤ m) × (m ≤ 1024)
  pub pages : (1 ≤ n) × (n ≤ 1024)
  pub channels : (1 ≤ X.channels) × (X.channels ≤ 8)
  pub period : (1 ≤ X.period) × (X.period ≤ 65536)

-- the entry of channel k in slot s carries p and is stray, and none before it is, by slot and then by channel
pub record FirstStray (X : Meaning) (n s k p : ℕ) : Type 0 where
  pub within : (s < X.period) × (1 ≤ k) × (k ≤ X.channels)
  pub carries : X.page k s ≡ p
  pub beyond : Beyond n p
  pub first : (s' k' : ℕ) → (s' < s) ⊎ ((s' ≡ s) × (k' < k)) → Beyond n (X.page k' s') → ⊥

-- page i starves, and t is the first tune-in slot at which it does
pub record FirstSlot (X : Meaning) (m n i t : ℕ) : Type 0 where
  pub page : (1 ≤ i) × (i ≤ n)
  pub slot : t < X.period
  pub starves : Starves X m i t
  pub first : (t' : ℕ) → t' < t → Starves X m i t' → ⊥

-- i is the lowest page that starves at all, and t the first tune-in slot at which it does
pub record FirstStarving (X : Meaning) (m n i t : ℕ) : Type 0 where
  pub here : FirstSlot X m n i t
  pub lowest : (i' t' : ℕ) → 1 ≤ i' → i' < i → Starves X m i' t' → ⊥
