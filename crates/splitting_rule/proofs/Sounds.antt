-- A plan by splitting starves nobody.
use Rattle.std.proofs.Common.{◌≡◌, ℕ, ◌+◌, ◌-◌, ◌%◌, ◌<◌, ◌≤◌, true, cond, List, [], length, get_or, take, Some, All, unwrap_or, sym, refl, ap, ◌∙◌, subst, arith}
use Rattle.std.proofs.lemmas.List.Elements.{All-from_get_or}
use Rattle.std.proofs.lemmas.List.{length-take-le, get_or-take, get_or-map, length-map}
use Rattle.std.proofs.lemmas.Bool.{eq-eqb, ne_eqb}
use Rattle.records.specs.declared.kinds.Row.{Row}
use Rattle.numbers.specs.Divisors.{Divides, MultipleOfAll}
use Rattle.numbers.proofs.All.{multiple_at}
use Rattle.numbers.proofs.Dividing.{mod_of_multiple}
use Rattle.numbers.proofs.Rounds.{ComesInTurn, comes_round}
use Rattle.timetable.specs.Closed.{aired}
use Rattle.timetable.specs.Windows.{Sound, Starves}
use Rattle.timetable.proofs.Repeating.{page_of_at, page_of_below}
use Rattle.plans.specs.Periods.{PeriodOf}
use Rattle.rows.specs.Period.{row_periods}
use Rattle.rows.specs.Rows.{fitting, rows_page, rows_timetable}
use Rattle.splitting_rule.specs.Answers.{zero_row}
use Rattle.splitting_rule.specs.Rule.{Splits}
use Rattle.sequences.specs.Sequences.{whole_channels}
use Rattle.splitting_rule.specs.Sharing.{row_covers, SharedOut, Apart}
use Rattle.sequences.specs.declared.sequence.FreeSequence.{FreeSequence}
use Rattle.splitting_rule.proofs.Airing.{page_below, one_fits}
use Rattle.splitting_rule.proofs.Apart.{channels_usable, rows_apart, row_channel}
use Rattle.splitting_rule.proofs.Covering.{splits_cover, splits_row}

-- a row fits its channel where the slot is at its start
row_fits : (r : Row) (u : ℕ) → 0 < r.period → u % r.period ≡ r.start → fitting r.channel u r ≡ true
row_fits r u some e =
    let a = eq-eqb r.channel r.channel refl in
    let b = ne_eqb r.period 0 (λ z. omega arith) in
    let d = eq-eqb (u % r.period) r.start e in rw (a, b, d)

-- the row of page i + 1, at the delay m
abbrev Own : ℕ → ℕ → Row → Type 0
Own m i r = (r.page ≡ i + 1) × (r.start < r.period) × (r.period ≤ m + i)

module _ (m c p : ℕ) (rs : List Row) (few : length rs ≤ 1024) (own : (i : ℕ) → i < length rs → Own m i (get_or rs i zero_row)) (apart : Apart rs) (on : (i k t : ℕ) → i < length rs → row_covers k t (get_or rs i zero_row) ≡ 1 → (1 ≤ k) × (k ≤ c)) (some : 0 < p) (multiple : MultipleOfAll (row_periods rs) p) where
  all_below : All (λ r. r.page ≤ length rs) rs
  all_below = All-from_get_or (λ r. r.page ≤ length rs) rs zero_row (λ i low. omega (arith, (own i low).0, low))

  none_beyond : (k t : ℕ) → (rows_timetable rs c p).page k t ≤ length rs
  none_beyond k t = page_of_below c p (rows_page rs) (length rs) k t (λ _ _ _. page_below (length rs) k (t % p) rs all_below)

  divides : (i : ℕ) → i < length rs → Divides (get_or rs i zero_row).period p
  divides i low =
      subst (λ (q : ℕ). Divides q p) (get_or-map (λ r. r.period) rs i zero_row 0 low)
      (multiple_at (row_periods rs) p i 0 (omega (arith, length-map rs (λ (r : Row). r.period))) multiple)

  -- where a row fits, the channel carries its page
  carries : (i u : ℕ) → i < length rs → u % (get_or rs i zero_row).period ≡ (get_or rs i zero_row).start → (1 ≤ (get_or rs i zero_row).channel) × ((get_or rs i zero_row).channel ≤ c) × ((rows_timetable rs c p).page (get_or rs i zero_row).channel u ≡ i + 1)
  carries i u low e =
      let r : Row = get_or rs i zero_row in
      let k : ℕ = r.channel in
      let place : (u % p) % r.period ≡ r.start = mod_of_multiple r.period p u (divides i low) ∙ e in
      let fits : fitting k (u % p) r ≡ true = row_fits r (u % p) (omega (arith, (own i low).1)) place in
      let channel = on i k (u % p) low (ap (λ b. cond b 1 0) fits) in
      let page : rows_page rs k (u % p) ≡ i + 1 = ap (λ o. unwrap_or o 0) (one_fits k (u % p) rs i zero_row low (apart k (u % p)) fits) ∙ (own i low).0 in
      (channel.0, channel.1, page_of_at c p (rows_page rs) k u some channel.0 channel.1 (omega (arith, page, low)) ∙ page)

  starves_not : (i t : ℕ) → i < length rs → Starves (aired (rows_timetable rs c p) []) m (i + 1) t → ⊥
  starves_not i t low starves =
      let r : Row = get_or rs i zero_row in
      let o = own i low in
      let round : ComesInTurn r.start r.period t = comes_round r.start r.period t o.1 in
      let here = carries i round.slot low round.place in
      starves round.slot round.from (omega (arith, round.before, o.2)) (r.channel, here.0, here.1, here.2)

  pub rows_sound : Sound (aired (rows_timetable rs c p) []) m (length rs)
  rows_sound = record {
    none_stray = λ x. omega (arith, none_beyond x.0 x.1, x.2);
    none_starving = λ x.
        let e : x.0 ≡ (x.0 - 1) + 1 = omega (arith, x.2) in
        starves_not (x.0 - 1) x.1 (omega (arith, x.2, x.3))
        (subst (λ (i : ℕ). Starves (aired (rows_timetable rs c p) []) m i x.1) e x.4);
  }

module _ (m c n most : ℕ) (rows : List Row) (left : List FreeSequence) (delay : 1 ≤ m) (long : n ≤ length rows) (splits : Splits m most (whole_channels c) n rows left) where
  cover : SharedOut (whole_channels c) n rows left
  cover = splits_cover m most (whole_channels c) (channels_usable m c delay) n rows left long splits

  pub splits_own : (i : ℕ) → i < length (take n rows) → Own m i (get_or (take n rows) i zero_row)
  splits_own i low =
      let within : i < n = omega (arith, low, length-take-le n rows long) in
      subst (Own m i) (sym (get_or-take n rows i zero_row within)) (splits_row m most (whole_channels c) (channels_usable m c delay) n rows left splits i within)

  pub splits_apart : Apart (take n rows)
  splits_apart = rows_apart c n rows left cover

  pub splits_sound : (p : ℕ) → n ≤ 1024 → PeriodOf (row_periods (take n rows)) (Some p) → Sound (aired (rows_timetable (take n rows) c p) []) m n
  splits_sound p few period =
      let e : length (take n rows) ≡ n = length-take-le n rows long in
      subst (λ (k : ℕ). Sound (aired (rows_timetable (take n rows) c p) []) m k) e
      (rows_sound m c p (take n rows) (omega arith) splits_own splits_apart
      (λ i k t low here. row_channel c n rows left cover i k t zero_row low here) period.2 period.0.of_all)
