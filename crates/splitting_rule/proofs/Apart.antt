-- No slot of a channel is in two rows, and every row lies on one of the channels.
use Rattle.std.proofs.Common.{◌≡◌, ℕ, zero, suc, ◌%◌, ◌<◌, ◌≤◌, cond, ◌&&◌, eqb, List, length, get_or, take, All, sum_by, refl, ap, ⊎_elim, arith}
use Rattle.std.proofs.lemmas.List.Elements.{All-nil, All-cons}
use Rattle.std.proofs.lemmas.List.Sums.{sum_by-cons, get_or-le-sum_by}
use Rattle.std.proofs.lemmas.Bool.{ne_eqb, cases_eq, cases_lt, cond_both}
use Rattle.records.specs.declared.kinds.Row.{Row}
use Rattle.sequences.specs.Sequences.{Usable, covers, whole, whole_channels}
use Rattle.splitting_rule.specs.Sharing.{row_covers, SharedOut, Apart}
use Rattle.sequences.specs.declared.sequence.FreeSequence.{FreeSequence}

pub channels_usable : (m c : ℕ) → 1 ≤ m → All (Usable m) (whole_channels c)
channels_usable m zero h = All-nil (Usable m)
channels_usable m (suc c) h =
    All-cons (Usable m) (whole (suc c)) (whole_channels c) (record { some = omega arith; within = h; starts = omega arith }) (channels_usable m c h)

-- another channel's slots are not those of channel k
other_channel : (j k t : ℕ) → (j ≡ k → ⊥) → covers k t (whole j) ≡ 0
other_channel j k t ne = ap (λ b. cond (b && eqb (t % 1) 0) 1 0) (ne_eqb j k ne)

-- beyond the channels there are no slots
none_past : (c k t : ℕ) → c < k → sum_by (covers k t) (whole_channels c) ≡ 0
none_past zero k t h = refl
none_past (suc c) k t h =
    omega (arith, sum_by-cons (covers k t) (whole (suc c)) (whole_channels c), other_channel (suc c) k t (λ e. omega arith), none_past c k t (omega arith))

none_below : (c t : ℕ) → sum_by (covers 0 t) (whole_channels c) ≡ 0
none_below zero t = refl
none_below (suc c) t =
    omega (arith, sum_by-cons (covers 0 t) (whole (suc c)) (whole_channels c), other_channel (suc c) 0 t (λ e. omega arith), none_below c t)

covers_one : (k t : ℕ) (s : FreeSequence) → covers k t s ≤ 1
covers_one k t s = cond_both (eqb s.channel k && eqb (t % s.period) s.start) 1 0 (λ x. x ≤ 1) (λ _. omega arith) (λ _. omega arith)

-- each slot of a channel is there once
channels_once : (c k t : ℕ) → sum_by (covers k t) (whole_channels c) ≤ 1
channels_once zero k t = omega arith
channels_once (suc c) k t =
    let sum = sum_by-cons (covers k t) (whole (suc c)) (whole_channels c) in
    ⊎_elim
    (λ e. omega (arith, sum, covers_one k t (whole (suc c)), none_past c k t (omega arith)))
    (λ ne. omega (arith, sum, other_channel (suc c) k t ne, channels_once c k t))
    (cases_eq (suc c) k)

channel_there : (c k t : ℕ) → 0 < sum_by (covers k t) (whole_channels c) → (1 ≤ k) × (k ≤ c)
channel_there c zero t h = absurd (omega (arith, none_below c t))
channel_there c (suc k) t h =
    (omega arith, ⊎_elim (λ past. absurd (omega (arith, none_past c (suc k) t past))) (λ within. within) (cases_lt c (suc k)))

module _ (c n : ℕ) (rows : List Row) (left : List FreeSequence) (shared : SharedOut (whole_channels c) n rows left) where
  pub rows_apart : Apart (take n rows)
  rows_apart k t = omega (arith, shared k t, channels_once c k t)

  -- a row that has some slot of channel k
  pub row_channel : (i k t : ℕ) (d : Row) → i < length (take n rows) → row_covers k t (get_or (take n rows) i d) ≡ 1 → (1 ≤ k) × (k ≤ c)
  row_channel i k t d low here =
      channel_there c k t (omega (arith, shared k t, here, get_or-le-sum_by (row_covers k t) (take n rows) i d low))
