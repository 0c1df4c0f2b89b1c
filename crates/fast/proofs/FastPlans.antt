-- A fast plan starves nobody.
use Rattle.std.proofs.Common.{◌≡◌, ℕ, zero, suc, ◌+◌, ◌-◌, ◌%◌, ◌^◌, ◌<◌, ◌≤◌, [], ap, ◌∙◌, inl, inr, mod-lt, arith, pow_pos, pow_mono, pow-add}
use Rattle.std.proofs.lemmas.Bool.{cases_lt}
use Rattle.numbers.specs.Divisors.{Divides}
use Rattle.numbers.proofs.Dividing.{mod_of_multiple}
use Rattle.timetable.specs.Closed.{aired}
use Rattle.timetable.specs.Windows.{Sound, Starves}
use Rattle.timetable.proofs.Repeating.{page_of_at, page_of_below}
use Rattle.fast.specs.Fast.{fast, fast_page, fast_delay, fast_pages}
use Rattle.numbers.proofs.Rounds.{comes_round, ComesInTurn}

-- a smaller power of two divides a larger one
power_divides : (i j : ℕ) → i ≤ j → Divides (2 ^ i) (2 ^ j)
power_divides i j h =
    let e : j ≡ (j - i) + i = omega arith in (2 ^ (j - i), ap (λ (x : ℕ). 2 ^ x) e ∙ pow-add 2 (j - i) i)

-- the two powers of a channel in one
doubles : (k : ℕ) → 1 ≤ k → 2 ^ k ≡ 2 ^ (k - 1) + 2 ^ (k - 1)
doubles k h =
    let e : k ≡ (k - 1) + 1 = omega arith in ap (λ (x : ℕ). 2 ^ x) e ∙ pow-add 2 (k - 1) 1 ∙ omega arith

module _ (c k : ℕ) (low : 1 ≤ k) (high : k ≤ c) (few : c ≤ 8) where
  -- a channel's pages, whatever the slot
  below : (u : ℕ) → fast_page k u < 2 ^ c
  below u =
      omega (arith, mod-lt u {m = 2 ^ (k - 1)} (pow_pos (k - 1)), doubles k low, pow_mono high)

  pub fast_page_at : (t : ℕ) → (fast c).page k t ≡ 2 ^ (k - 1) + t % 2 ^ (k - 1)
  fast_page_at t =
      page_of_at c (2 ^ (c - 1)) fast_page k t (pow_pos (c - 1)) low high (omega (arith, below (t % 2 ^ (c - 1)), pow_mono few))
      ∙ ap (λ (x : ℕ). 2 ^ (k - 1) + x) (mod_of_multiple (2 ^ (k - 1)) (2 ^ (c - 1)) t (power_divides (k - 1) (c - 1) (omega arith)))

-- the channel that carries page i
record ChannelOf (c i : ℕ) : Type 0 where
  channel : ℕ
  low : 1 ≤ channel
  high : channel ≤ c
  first : 2 ^ (channel - 1) ≤ i
  last : i < 2 ^ (channel - 1) + 2 ^ (channel - 1)

channel_of : (c i : ℕ) → 1 ≤ i → i < 2 ^ c → ChannelOf c i
channel_of zero i low high = absurd (omega (arith, low, high))
channel_of (suc c) i low high =
    elim (cases_lt i (2 ^ c)) [
      | inl less ↦
          let here = channel_of c i low less in
          record { channel = here.channel; low = here.low; high = omega arith; first = here.first; last = here.last }
      | inr more ↦
          let e : suc c - 1 ≡ c = omega arith in
          record { channel = suc c; low = omega arith; high = omega arith; first = rw e more; last = omega (arith, high, doubles (suc c) (omega arith)) }
    ]

module _ (c : ℕ) (few : c ≤ 8) where
  carries : (i t k : ℕ) → 1 ≤ k → k ≤ c → 2 ^ (k - 1) ≤ i → (r : ComesInTurn (i - 2 ^ (k - 1)) (2 ^ (k - 1)) t) → (fast c).page k r.slot ≡ i
  carries i t k low high first r =
      let e = fast_page_at c k low high few r.slot in omega (arith, e, r.place)

  stray_none : (k t : ℕ) → (fast c).page k t ≤ 2 ^ c - 1
  stray_none k t =
      page_of_below c (2 ^ (c - 1)) fast_page (2 ^ c - 1) k t (λ _ low high. let b = below c k low high few (t % 2 ^ (c - 1)) in omega arith)

  starves_not : (i t : ℕ) → ChannelOf c i → Starves (aired (fast c) []) fast_delay i t → ⊥
  starves_not i t on starves =
      let first : ℕ = 2 ^ (on.channel - 1) in
      let round : ComesInTurn (i - first) first t = comes_round (i - first) first t (omega (arith, on.last, on.first)) in
      starves round.slot round.from (omega (arith, round.before, on.first))
      (on.channel, on.low, on.high, carries i t on.channel on.low on.high on.first round)

  pub fast_sound : Sound (aired (fast c) []) fast_delay (fast_pages c)
  fast_sound = record {
    none_stray = λ s. omega (arith, stray_none s.0 s.1, s.2);
    none_starving = λ s. starves_not s.0 s.1 (channel_of c s.0 s.2 (omega (arith, s.3, pow_pos c))) s.4;
  }
