-- What the steps of dealing pages leave.
use Rattle.std.specs.Prelude.{◌≡◌, ℕ, ◌+◌, ◌<◌, ◌≤◌, ◌⊎◌, List, [], ◌++◌, length, map, take, drop, vec_items, Option, Result, MatchResult}
use Rattle.std.specs.Global.{Vec}
use Rattle.records.specs.declared.kinds.Channel.{Channel}
use Rattle.planner.specs.Pagoda.{Deals, BadChannel, laid, filled, Laid, subchannels_of, first_of, begins, channel_cycles, cycles}
use Rattle.plans.specs.Periods.{PeriodOf}
use Rattle.plans.specs.Refusals.{told}
use Rattle.planner.specs.declared.pagoda.progress.Progress.{Progress}
use Rattle.plans.specs.declared.refusal.Refusal.{Refusal}
use Rattle.planner.specs.declared.subchannel.Subchannel.{Subchannel}

-- one channel is dealt its pages, xs in its subchannels, and p is what comes after
pub record OneDealt (m s f : ℕ) (period : Option ℕ) (xs : List Subchannel) (p : Progress) : Type 0 where
  pub subchannels : xs ≡ subchannels_of m s f s
  pub delay : p.delay ≡ m
  pub next : p.first ≡ first_of m s f s
  pub together : (ns : List ℕ) → PeriodOf ns period → PeriodOf (ns ++ channel_cycles m s f s) p.period

-- the list xs of one channel begins with its subchannels; or its pages pass 1,024, told by 3
abbrev pub ChannelDealt : ℕ → ℕ → ℕ → Option ℕ → List Subchannel → Result Progress Refusal → Type 0
ChannelDealt m s f period xs answer =
    MatchResult answer (OneDealt m s f period (take s xs))
    (λ e. (told e ≡ (3, [])) × (1025 < first_of m s f s))

-- the pages of a channel pass 1,024 at its subchannel n, counted from 0: a list, `before` until then, begins with the
-- subchannels before that one, and the rest is as it was
pub record StoppedAt (m s f : ℕ) (before xs : List Subchannel) : Type 0 where
  pub n : ℕ
  pub within : n < s
  pub fits : first_of m s f n ≤ 1025
  pub passes : 1025 < first_of m s f (n + 1)
  pub front : take n xs ≡ subchannels_of m s f n
  pub rest : drop n xs ≡ drop n before

-- the first k channels are dealt their pages
pub record DealtTo (m : ℕ) (cs : List Channel) (k : ℕ) (all : List (List Subchannel)) (first : ℕ) (period : Option ℕ) : Type 0 where
  pub next : first ≡ begins m cs k
  pub deals : Deals m cs k
  pub many : length all ≡ k
  pub lists : Laid m cs k all
  pub together : PeriodOf (cycles m cs k) period

-- all channels are, and each has a list with its subchannels and no others; or one gets no pages, or there is no memory
abbrev pub AllDealt : ℕ → List Channel → Result (Vec (List Subchannel) × Progress) Refusal → Type 0
AllDealt m cs answer =
    MatchResult answer
    (λ r. DealtTo m cs (length cs) (vec_items r.0) r.1.first r.1.period × (vec_items r.0 ≡ map filled (laid m cs (length cs))))
    (λ e. BadChannel m cs (told e) ⊎ (told e ≡ (0, [])))
