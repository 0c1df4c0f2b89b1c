-- The plan and its period, or why there is none.
use Rattle.std.proofs.Common.{◌≡◌, ℕ, false, ◌⊎◌, List, length, take, drop, is_err, None, Ok, Err, Result, sym, ◌∙◌, inl, inr, arith}
use Rattle.std.proofs.lemmas.List.{get_or-map}
use Rattle.std.proofs.lemmas.Bool.{true≢false}
use Rattle.records.specs.declared.kinds.Row.{Row}
use Rattle.plans.specs.Periods.{PeriodOf}
use Rattle.plans.specs.declared.refusal.Refusal.{Refusal}
use Rattle.bag.specs.Bags.{room, Emptied}
use Rattle.bag.specs.declared.bag.Bag.{Bag}
use Rattle.bag.specs.declared.ranked.Ranked.{Ghosts}
use Rattle.rows.specs.Period.{row_periods, Idle, RowsPeriod}
use Rattle.splitting_rule.specs.Answers.{Askable, Enough, FillAnswer, SplittingAnswer, SplittingApart, SplittingListed, SplittingSound, zero_row}
use Rattle.splitting_rule.specs.Rule.{Splits}
use Rattle.sequences.specs.Sequences.{whole_channels}
use Rattle.sequences.specs.declared.sequence.FreeSequence.{FreeSequence}
use Rattle.splitting_rule.proofs.Settling.{rows_listed}
use Rattle.splitting_rule.proofs.Sounds.{splits_own, splits_apart, splits_sound}

module _ (m c n most : ℕ) (before after : List Row) (left : List FreeSequence) (askable : Askable m c n) (enough : Enough c n (length before) most) (same : length after ≡ length before) (splits : Splits m most (whole_channels c) n after left) (others : drop n after ≡ drop n before) where
  -- no row has the period 0
  none_idle : Idle (take n after) → ⊥
  none_idle h =
      let own = splits_own m c n most after left askable.delay.0 (omega (arith, enough.rows)) splits h.0 h.1 in
      let none = sym (get_or-map (λ r. r.period) (take n after) h.0 zero_row 1 h.1) ∙ h.2 in
      omega (arith, own.1, none)

  why_none : Idle (take n after) ⊎ PeriodOf (row_periods (take n after)) None → PeriodOf (row_periods (take n after)) None
  why_none (inl h) = absurd (none_idle h)
  why_none (inr h) = h

  pub filled : (answer : Result ℕ Refusal) → RowsPeriod (take n after) answer → FillAnswer m c n most before after answer
  filled (Ok p) h = record { askable = askable; enough = enough; left = left; splits = splits; others = others; period = h }
  filled (Err e) h =
      inr (inr (h.0, enough, record { rows = after; left = left; splits = splits; period = why_none h.1 }))

module _ {g : Ghosts FreeSequence} (m c n : ℕ) (before after : List Row) (was is : Bag FreeSequence g) (same : length after ≡ length before) where
  pub answer_apart : (answer : Result ℕ Refusal) → SplittingAnswer m c n before after was is answer → SplittingApart n after answer
  answer_apart (Ok p) h =
      let plan = h.0 in
      splits_apart m c n (room was) after plan.left plan.askable.delay.0 (omega (arith, plan.enough.rows)) plan.splits
  answer_apart (Err e) h = tt

  pub answer_listed : (answer : Result ℕ Refusal) → SplittingAnswer m c n before after was is answer → SplittingListed m c n (room was) after answer
  answer_listed (Ok p) h =
      let plan = h.0 in
      rows_listed m (room was) (whole_channels c) n after plan.left (omega (arith, plan.enough.rows)) plan.splits
  answer_listed (Err e) h = tt

  pub answer_sound : (answer : Result ℕ Refusal) → SplittingAnswer m c n before after was is answer → SplittingSound m c n after answer
  answer_sound (Ok p) h =
      let plan = h.0 in
      splits_sound m c n (room was) after plan.left plan.askable.delay.0 (omega (arith, plan.enough.rows)) plan.splits p plan.askable.pages.1 plan.period
  answer_sound (Err e) h = tt

  -- where there is a plan, it is left as it is
  pub answer_kept : (answer : Result ℕ Refusal) → is_err answer ≡ false → FillAnswer m c n (room was) before after answer → Emptied is → SplittingAnswer m c n before after was is answer
  answer_kept (Ok p) e h empty = (h, empty)
  answer_kept (Err r) e h empty = absurd (true≢false e)
