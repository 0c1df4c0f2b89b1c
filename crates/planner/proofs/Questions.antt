-- What a pagoda plan keeps answers its questions.
use Rattle.std.proofs.Common.{◌≡◌, ℕ, suc, ◌+◌, ◌<◌, ◌≤◌, List, length, get_or, ap, arith}
use Rattle.std.proofs.lemmas.List.{get_or_read}
use Rattle.records.specs.declared.kinds.Channel.{Channel}
use Rattle.planner.specs.Pagoda.{Deals, count_at, begins, share_of, first_of}
use Rattle.planner.proofs.Channels.{first_of_grows}

pub count_read : (cs : List Channel) (i : ℕ) (x : Channel) → i < length cs → x ≡ get_or cs i x → x.subchannels ≡ count_at cs i
count_read cs i x h e = ap (λ (c : Channel). c.subchannels) (get_or_read cs i x h e (record { subchannels = 0 }))

-- a fact of some channels holds of equal ones
pub moved : (P : List Channel → ℕ → Type 0) (cs cs' : List Channel) (n n' : ℕ) → cs' ≡ cs → n' ≡ n → P cs n → P cs' n'
moved P cs cs' n n' e d h = rw (e, d) h

module _ (m : ℕ) (cs : List Channel) (n : ℕ) (deals : Deals m cs n) where
  -- the pages of a subchannel are pages of the film
  pub subchannel_high : (k j : ℕ) → k < n → j < count_at cs k → first_of m (count_at cs k) (begins m cs k) j + share_of m (count_at cs k) (begins m cs k) j ≤ 1025
  subchannel_high k j on turn =
      omega (arith, (deals k on).1, first_of_grows m (count_at cs k) (begins m cs k) (suc j) (count_at cs k) turn)
