-- A pagoda plan starves nobody.
use Rattle.std.proofs.Common.{◌≡◌, ℕ, zero, suc, ◌+◌, ◌-◌, ◌*◌, ◌/◌, ◌%◌, ◌<◌, ◌≤◌, List, [], length, sym, ap, ◌∙◌, subst, inl, inr, mod-lt, mul_comm, arith}
use native.Mathlib.Decide.{le_ind}
use lib.Arith.{digits_lt}
use Rattle.std.proofs.lemmas.Bool.{cases_lt}
use Rattle.records.specs.declared.kinds.Channel.{Channel}
use Rattle.numbers.specs.Divisors.{Divides, MultipleOfAll}
use Rattle.numbers.proofs.All.{multiple_front, multiple_back}
use Rattle.numbers.proofs.Dividing.{mod_of_multiple}
use Rattle.timetable.specs.Closed.{aired}
use Rattle.timetable.specs.Windows.{Sound, Starves}
use Rattle.timetable.proofs.Repeating.{page_of_at, page_of_below}
use Rattle.planner.specs.Pagoda.{Deals, count_at, begins, share_of, first_of, round, channel_cycles, cycles, pagoda, pagoda_page, pagoda_pages}
use Rattle.planner.proofs.Channels.{first_of_grows, first_of_low, share_some, cycle_fits, SubchannelOf, subchannel_of}
use Rattle.numbers.proofs.Rounds.{comes_round, ComesInTurn, place_parts}

-- the cycle of each subchannel divides what all of a channel's divide
channel_cycle_divides : (m s f p n : ℕ) → MultipleOfAll (channel_cycles m s f n) p → (j : ℕ) → j < n → Divides (s * share_of m s f j) p
channel_cycle_divides m s f p zero h j low = absurd (omega (arith, low))
channel_cycle_divides m s f p (suc n) h j low =
    elim (cases_lt j n) [
      | inl less ↦ channel_cycle_divides m s f p n (multiple_front (channel_cycles m s f n) _ p h) j less
      | inr more ↦
          let e : n ≡ j = omega arith in
          subst (λ (x : ℕ). Divides (s * share_of m s f x) p) e (multiple_back (channel_cycles m s f n) _ p h).0
    ]

module _ (m : ℕ) (cs : List Channel) where
  -- later channels begin with later pages
  pub begins_grows : (i j : ℕ) → i ≤ j → begins m cs i ≤ begins m cs j
  begins_grows i j h =
      le_ind {n = i} (λ (x : ℕ). begins m cs i ≤ begins m cs x) (omega arith)
      (λ x _ p. omega (arith, p, first_of_low m (count_at cs x) (begins m cs x) (count_at cs x))) j h

  pub begins_low : (k : ℕ) → 1 ≤ begins m cs k
  begins_low k = begins_grows 0 k (omega arith)

  cycle_divides : (p n : ℕ) → MultipleOfAll (cycles m cs n) p → (k j : ℕ) → k < n → j < count_at cs k → Divides (count_at cs k * share_of m (count_at cs k) (begins m cs k) j) p
  cycle_divides p zero h k j low high = absurd (omega (arith, low))
  cycle_divides p (suc n) h k j low high =
      elim (cases_lt k n) [
        | inl less ↦ cycle_divides p n (multiple_front (cycles m cs n) _ p h) k j less high
        | inr more ↦
            let e : k ≡ n = omega arith in
            channel_cycle_divides m (count_at cs k) (begins m cs k) p (count_at cs k)
            (subst (λ (x : ℕ). MultipleOfAll (channel_cycles m (count_at cs x) (begins m cs x) (count_at cs x)) p) (sym e) (multiple_back (cycles m cs n) _ p h)) j high
      ]

  -- the channel that carries page i
  record ChannelOf (n i : ℕ) : Type 0 where
    channel : ℕ
    within : channel < n
    first : begins m cs channel ≤ i
    last : i < begins m cs (suc channel)

  channel_of : (n i : ℕ) → 1 ≤ i → i < begins m cs n → ChannelOf n i
  channel_of zero i low high = absurd (omega (arith, low, high))
  channel_of (suc n) i low high =
      elim (cases_lt i (begins m cs n)) [
        | inl less ↦
            let here = channel_of n i low less in
            record { channel = here.channel; within = omega (arith, here.within); first = here.first; last = here.last }
        | inr more ↦ record { channel = n; within = omega arith; first = more; last = high }
      ]

  -- what a channel carries is a page of its own
  module _ (deals : Deals m cs (length cs)) where
    pub page_within : (k u : ℕ) → 1 ≤ k → k ≤ length cs → pagoda_page m cs k u < begins m cs k
    page_within k u low high =
        let i : ℕ = k - 1 in
        let s : ℕ = count_at cs (k - 1) in
        let f : ℕ = begins m cs (k - 1) in
        let lt : k - 1 < length cs = omega arith in
        let takes = (deals (k - 1) lt).0 in
        let turn : u % s < s = mod-lt u {m = s} (omega (arith, takes.0)) in
        let some = share_some m s f takes (u % s) in
        let less : u / s % share_of m s f (u % s) < share_of m s f (u % s) = mod-lt (u / s) {m = share_of m s f (u % s)} some in
        let upto = first_of_grows m s f (suc (u % s)) s turn in
        let e : suc (k - 1) ≡ k = omega arith in
        subst (λ (x : ℕ). pagoda_page m cs k u < begins m cs x) e (omega (arith, less, upto))

    -- a channel's pages are at most 1,024
    pub begins_high : (k : ℕ) → 1 ≤ k → k ≤ length cs → begins m cs k ≤ 1025
    begins_high k low high =
        let e : suc (k - 1) ≡ k = omega arith in
        subst (λ (x : ℕ). begins m cs x ≤ 1025) e (omega (arith, (deals (k - 1) (omega arith)).1))

    module _ (p : ℕ) (some : 0 < p) where
      pub pagoda_at : (k t : ℕ) → 1 ≤ k → k ≤ length cs → (pagoda m cs p).page k t ≡ pagoda_page m cs k (t % p)
      pagoda_at k t low high =
          page_of_at (length cs) p (pagoda_page m cs) k t some low high
          (omega (arith, page_within k (t % p) low high, begins_high k low high))

      none_beyond : (k t : ℕ) → (pagoda m cs p).page k t ≤ pagoda_pages m cs
      none_beyond k t =
          page_of_below (length cs) p (pagoda_page m cs) (pagoda_pages m cs) k t
          (λ _ low high. omega (arith, page_within k (t % p) low high, begins_grows k (length cs) high))

      -- where the turn is the subchannel's and its round is at the page's, the page comes
      carries : (k v j r : ℕ) → k < length cs → v % count_at cs k ≡ j → v / count_at cs k % share_of m (count_at cs k) (begins m cs k) j ≡ r → pagoda_page m cs (suc k) v ≡ first_of m (count_at cs k) (begins m cs k) j + r
      carries k v j r on e d =
          let same : suc k - 1 ≡ k = omega arith in
          ap (λ (x : ℕ). round m (count_at cs x) (first_of m (count_at cs x) (begins m cs x) (v % count_at cs x)) v) same
          ∙ ap (λ (x : ℕ). round m (count_at cs k) (first_of m (count_at cs k) (begins m cs k) x) v) e
          ∙ ap (λ (x : ℕ). first_of m (count_at cs k) (begins m cs k) j + x) d

      -- so it does where the slot has the right place in the subchannel's cycle
      comes_in : (k j r u : ℕ) → k < length cs → j < count_at cs k → Divides (count_at cs k * share_of m (count_at cs k) (begins m cs k) j) p → u % (share_of m (count_at cs k) (begins m cs k) j * count_at cs k) ≡ r * count_at cs k + j → (pagoda m cs p).page (suc k) u ≡ first_of m (count_at cs k) (begins m cs k) j + r
      comes_in k j r u on turn divides place =
          let s : ℕ = count_at cs k in
          let q : ℕ = share_of m (count_at cs k) (begins m cs k) j in
          let cycle = subst (λ (x : ℕ). Divides x p) (mul_comm s q) divides in
          let parts = place_parts (u % p) q s r j (share_some m s (begins m cs k) (deals k on).0 j) turn (mod_of_multiple (q * s) p u cycle ∙ place) in
          pagoda_at (suc k) u (omega arith) on ∙ carries k (u % p) j r on parts.0 parts.1

      module _ (multiple : MultipleOfAll (cycles m cs (length cs)) p) where
        -- in the cycle of its subchannel each page comes once, and that is no longer than its window
        starves_not : (i t : ℕ) (on : ChannelOf (length cs) i) → SubchannelOf m (count_at cs on.channel) (begins m cs on.channel) (count_at cs on.channel) i → Starves (aired (pagoda m cs p) []) m i t → ⊥
        starves_not i t on sub starves =
            let k : ℕ = on.channel in
            let s : ℕ = count_at cs k in
            let f : ℕ = begins m cs k in
            let q : ℕ = share_of m s f sub.turn in
            let r : ℕ = i - first_of m s f sub.turn in
            let below : r < q = omega (arith, sub.first, sub.last) in
            let back : ComesInTurn (r * s + sub.turn) (q * s) t = comes_round (r * s + sub.turn) (q * s) t (digits_lt below sub.within) in
            let divides = cycle_divides p (length cs) multiple k sub.turn on.within sub.within in
            let page = comes_in k sub.turn r back.slot on.within sub.within divides back.place in
            let here : (pagoda m cs p).page (suc k) back.slot ≡ i = omega (arith, page, sub.first) in
            starves back.slot back.from
            (omega (arith, back.before, cycle_fits m s f sub.turn, mul_comm s q, sub.first))
            (suc k, omega arith, on.within, here)

        sub_of : (i : ℕ) (on : ChannelOf (length cs) i) → SubchannelOf m (count_at cs on.channel) (begins m cs on.channel) (count_at cs on.channel) i
        sub_of i on = subchannel_of m (count_at cs on.channel) (begins m cs on.channel) (count_at cs on.channel) i on.first on.last

        pub pagoda_sound : Sound (aired (pagoda m cs p) []) m (pagoda_pages m cs)
        pagoda_sound = record {
          none_stray = λ x. omega (arith, none_beyond x.0 x.1, x.2);
          none_starving = λ x.
              let on : ChannelOf (length cs) x.0 = channel_of (length cs) x.0 x.2 (omega (arith, x.3, begins_low (length cs))) in
              starves_not x.0 x.1 on (sub_of x.0 on) x.4;
        }
