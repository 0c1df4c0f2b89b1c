-- The pages of one channel that begins with page f, of s subchannels, at the delay m.
use Rattle.std.proofs.Common.{ℕ, zero, suc, ◌*◌, ◌<◌, ◌≤◌, inl, inr, arith}
use native.Mathlib.Nat.{mul-div-le}
use native.Mathlib.Decide.{le_ind}
use Rattle.std.proofs.lemmas.Nat.{le-div}
use Rattle.std.proofs.lemmas.Bool.{cases_lt}
use Rattle.timetable.specs.Windows.{window}
use Rattle.planner.specs.Pagoda.{Takes, first_of, share_of}

module _ (m s f : ℕ) where
  -- later subchannels begin with later pages
  pub first_of_grows : (i j : ℕ) → i ≤ j → first_of m s f i ≤ first_of m s f j
  first_of_grows i j h =
      le_ind {n = i} (λ (x : ℕ). first_of m s f i ≤ first_of m s f x) (omega arith) (λ x _ p. omega (arith, p)) j h

  pub first_of_low : (j : ℕ) → f ≤ first_of m s f j
  first_of_low j = first_of_grows 0 j (omega arith)

  -- a subchannel has a page at least
  pub share_some : Takes m s f → (j : ℕ) → 0 < share_of m s f j
  share_some takes j =
      le-div 1 (window m (first_of m s f j)) s (omega (arith, takes.0)) (omega (arith, takes.2, first_of_low j))

  -- the cycle of a subchannel fits into the window of its first page
  pub cycle_fits : (j : ℕ) → s * share_of m s f j ≤ window m (first_of m s f j)
  cycle_fits j = mul-div-le (window m (first_of m s f j)) s

  -- the subchannel that carries page i
  pub record SubchannelOf (n i : ℕ) : Type 0 where
    pub turn : ℕ
    pub within : turn < n
    pub first : first_of m s f turn ≤ i
    pub last : i < first_of m s f (suc turn)

  pub subchannel_of : (n i : ℕ) → f ≤ i → i < first_of m s f n → SubchannelOf n i
  subchannel_of zero i low high = absurd (omega (arith, low, high))
  subchannel_of (suc n) i low high =
      elim (cases_lt i (first_of m s f n)) [
        | inl less ↦
            let here = subchannel_of n i low less in
            record { turn = here.turn; within = omega (arith, here.within); first = here.first; last = here.last }
        | inr more ↦ record { turn = n; within = omega arith; first = more; last = high }
      ]
