-- The plans of the three planners pass a check.
use Rattle.std.proofs.Common.{◌≡◌, ℕ, zero, suc, ◌+◌, ◌-◌, ◌%◌, ◌<◌, ◌≤◌, List, [], length, take, sym, ap, ◌∙◌, ⊎_elim, arith, pow_pos, pow_mono}
use Rattle.std.proofs.lemmas.List.{get_or_past}
use Rattle.std.proofs.lemmas.Bool.{cases_lt}
use Rattle.records.specs.declared.kinds.Channel.{Channel}
use Rattle.records.specs.declared.kinds.Row.{Row}
use Rattle.timetable.specs.Meaning.{Meaning}
use Rattle.timetable.specs.Closed.{aired}
use Rattle.timetable.specs.Windows.{InRange, Sound}
use Rattle.station.specs.States.{sent_by}
use Rattle.fast.specs.Fast.{fast, fast_delay, fast_pages}
use Rattle.fast.proofs.FastPlans.{fast_sound}
use Rattle.planner.specs.Pagoda.{Deals, count_at, begins, pagoda_pages}
use Rattle.planner.specs.PagodaAnswers.{Planned, meant}
use Rattle.planner.specs.declared.pagoda.Pagoda.{Pagoda}
use Rattle.planner.proofs.Channels.{first_of_low}
use Rattle.planner.proofs.PagodaPlans.{begins_low, begins_high, page_within}
use Rattle.planner.proofs.PagodaSounds.{planned_sound}
use Rattle.rows.specs.Rows.{rows_timetable}
use Rattle.splitting_rule.specs.Answers.{Plan, zero_row}
use Rattle.splitting_rule.proofs.Sounds.{splits_sound}
use Rattle.guarantee.specs.Plans.{Passes, PlansPass}
use Rattle.guarantee.proofs.Exactness.{sound_passes}

-- with nothing closed, what is in range and sound passes
sound_plan : (M : Meaning) (m n : ℕ) → InRange (aired M []) m n → Sound (aired M []) m n → Passes M m n
sound_plan M m n range sound s cells a s' table delay pages closures off enough h =
    let v = h.off_air off in
    v.2
    ∙ sound_passes (sent_by s) s.delay s.pages cells (rw (table, closures, delay, pages) range) (omega arith) v.0
    (rw (table, closures, delay, pages) sound) v.1

-- a pagoda plan has a page
some_pages : (m : ℕ) (cs : List Channel) → Deals m cs (length cs) → 1 ≤ length cs → 1 ≤ pagoda_pages m cs
some_pages m cs deals some =
    let k = length cs in
    let s = count_at cs (k - 1) in
    omega (arith, page_within m cs deals k 0 some (omega arith), first_of_low m s (begins m cs (k - 1)) (0 % s), begins_low m cs (k - 1))

planned_range : (m : ℕ) (cs : List Channel) (plan : Pagoda) → Planned m cs plan → InRange (aired (meant plan) []) plan.delay plan.pages
planned_range m cs plan h = record {
  delay = rw h.delay h.askable.delay;
  pages = rw h.pages (
    some_pages m cs h.deals h.askable.channels.0,
    omega (arith, begins_high m cs h.deals (length cs) h.askable.channels.0 (omega arith)),
  );
  channels = rw h.channels h.askable.channels;
  period = (plan.positive, h.short);
}

fast_range : (c : ℕ) → 1 ≤ c → c ≤ 8 → InRange (aired (fast c) []) fast_delay (fast_pages c)
fast_range c some few = record {
  delay = (omega arith, omega arith);
  pages = (omega (arith, pow_mono some), omega (arith, pow_mono few));
  channels = (some, few);
  period = (pow_pos (c - 1), let low : c - 1 ≤ 7 = omega arith in omega (arith, pow_mono low));
}

splitting_range : (m c n most p : ℕ) (before after : List Row) → Plan m c n most before after p → InRange (aired (rows_timetable (take n after) c p) []) m n
splitting_range m c n most p before after h = record {
  delay = h.askable.delay;
  pages = h.askable.pages;
  channels = h.askable.channels;
  period = (h.period.2, h.period.1);
}

-- The rows of a plan are there: whatever stood in place of a missing row, one of no page too, would be the row of its page.
rows_there : (m c n most p : ℕ) (before after : List Row) → Plan m c n most before after p → n ≤ length after
rows_there m c zero most p before after h = omega arith
rows_there m c (suc n) most p before after h =
    ⊎_elim
    (λ (there : n < length after). omega arith)
    (λ (missing : length after ≤ n).
    let own : 0 ≡ n + 1 = ap (λ (r : Row). r.page) (sym (get_or_past after n zero_row missing) ∙ (h.splits.2 zero_row).is) in
    absurd (omega arith))
    (cases_lt n (length after))

splitting_sound : (m c n most p : ℕ) (before after : List Row) → Plan m c n most before after p → Sound (aired (rows_timetable (take n after) c p) []) m n
splitting_sound m c n most p before after h =
    splits_sound m c n most after h.left h.askable.delay.0 (rows_there m c n most p before after h) h.splits p h.askable.pages.1 h.period

pub plans_pass : PlansPass
plans_pass = record {
  pagoda_plans = λ m cs plan h. sound_plan (meant plan) plan.delay plan.pages (planned_range m cs plan h) (planned_sound m cs plan h);
  fast_plans = λ c some few. sound_plan (fast c) fast_delay (fast_pages c) (fast_range c some few) (fast_sound c few);
  splitting_plans = λ m c n most p before after h.
      sound_plan (rows_timetable (take n after) c p) m n (splitting_range m c n most p before after h) (splitting_sound m c n most p before after h);
}
