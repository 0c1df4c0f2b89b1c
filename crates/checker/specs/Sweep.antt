-- What the sweep keeps: two numbers for each page, once the slots below t, and in slot t the channels below k, were asked.
use Rattle.std.specs.Prelude.{◌≡◌, ℕ, zero, suc, ◌+◌, ◌-◌, ◌<◌, ◌≤◌, cond, ◌&&◌, List, [], ◌∷◌, ◌++◌, length, Option, MatchOption, Result, MatchResult, ◌==◌, ◌≢◌, nat_le, slice_index, slice_set}
use Rattle.std.specs.List.Sorted.{IsPermutation}
use Rattle.bag.specs.Bags.{held, room}
use Rattle.bag.specs.declared.bag.Bag.{Bag}
use Rattle.bag.specs.declared.ranked.Ranked.{Ghosts}
use Rattle.bag.specs.declared.bag.Full.{Full}
use Rattle.bag.specs.declared.finding.Finding.{Finding}
use Rattle.timetable.specs.Meaning.{Meaning}
use Rattle.timetable.specs.Windows.{Comes, Lacks}

-- one more than the first starving tune-in slot known, where a page that slot `waiting` waits for has not come before slot t
abbrev pub missing : ℕ → ℕ → ℕ → ℕ → ℕ
missing waiting found w t = cond (found == 0 && nat_le (waiting + w) t) (waiting + 1) found

-- the scratch after the page of place j came in slot t
abbrev pub settled : ℕ → ℕ → ℕ → ℕ → List ℕ → List ℕ
settled m n j t xs = slice_set (slice_set xs (n + j) (missing (slice_index xs j) (slice_index xs (n + j)) (m + j) t)) j (t + 1)

-- the scratch after an entry of page p in slot t: what is no page of the film changes nothing
abbrev pub heard : ℕ → ℕ → ℕ → ℕ → List ℕ → List ℕ
heard m n p t xs = cond (nat_le 1 p && nat_le p n) (settled m n (p - 1) t xs) xs

-- the two numbers of page i, whose window is w: since slot `waiting` the page has not come, and every tune-in before it is
-- decided; `found` is one more than the first of those that starves, or 0
pub record Waits (X : Meaning) (w i t k waiting found : ℕ) : Type 0 where
  pub ahead : waiting ≤ t + 1
  pub quiet : (u : ℕ) → waiting ≤ u → u < t → Comes X i u → ⊥
  pub here : waiting ≤ t → (k' : ℕ) → 1 ≤ k' → k' < k → X.page k' t ≢ i
  pub clear : found ≡ 0 → (s : ℕ) → s < waiting → Lacks X w i s → ⊥
  pub starves : (s : ℕ) → found ≡ s + 1 → Lacks X w i s
  pub first : (s : ℕ) → found ≡ s + 1 → (s' : ℕ) → s' < s → Lacks X w i s' → ⊥

-- the numbers of every page
abbrev pub Heard : Meaning → ℕ → ℕ → ℕ → ℕ → List ℕ → Type 0
Heard X m n t k xs = (j : ℕ) → j < n → Waits X (m + j) (j + 1) t k (slice_index xs j) (slice_index xs (n + j))

-- no entry so far is beyond the film
pub record Clean (X : Meaning) (n t k : ℕ) : Type 0 where
  pub before : (u k' : ℕ) → u < t → 1 ≤ k' → k' ≤ X.channels → X.page k' u ≤ n
  pub here : (k' : ℕ) → 1 ≤ k' → k' < k → X.page k' t ≤ n

-- the slot after the last one of the windows that begin in the first period
abbrev pub sweep_end : Meaning → ℕ → ℕ → ℕ
sweep_end X m n = X.period + m + n - 2

-- one more than the first starving slot known of the page of place j, once the slots below `end` were asked, or 0
abbrev pub known : ℕ → ℕ → ℕ → List ℕ → ℕ → ℕ
known m n end xs j = missing (slice_index xs j) (slice_index xs (n + j)) (m + j) end

-- what is told of page p by such a number: a finding, or none where it is 0
abbrev pub Tells : ℕ → ℕ → Option Finding → Type 0
Tells p v o = MatchOption o (v ≡ 0) (λ f. (f.page ≡ p) × (v ≡ f.slot + 1))

-- page i is the lowest of which a starving slot is known at the end, and t is that slot
pub record Lowest (m n end : ℕ) (xs : List ℕ) (i t : ℕ) : Type 0 where
  pub page : (1 ≤ i) × (i ≤ n)
  pub slot : known m n end xs (i - 1) ≡ t + 1
  pub others : (j : ℕ) → j < i - 1 → known m n end xs j ≡ 0

-- a finding, where the number is one more than its slot, and none where it is 0
abbrev pub finding : ℕ → ℕ → List Finding
finding page zero = []
finding page (suc slot) = record { page = page; slot = slot } ∷ []

-- the findings among the first j pages, by their numbers at the end
abbrev pub gathered : ℕ → ℕ → ℕ → List ℕ → ℕ → List Finding
gathered m n end xs zero = []
gathered m n end xs (suc j) = gathered m n end xs j ++ finding (j + 1) (known m n end xs j)

-- a bag that was empty after all findings, or one that is too small for them
abbrev pub Filled : {o : Ghosts Finding} → List Finding → Bag Finding o → Result (Unit {0}) Full → Type 0
Filled xs b r = MatchResult r (λ _. IsPermutation xs (held b)) (λ _. room b < length xs)
