use Rattle.std.proofs.Common.{◌≡◌, ℕ, ◌+◌, ◌-◌, ◌%◌, ◌^◌, ◌≤◌, sym, ap, ◌∙◌, arith}
use Rattle.fast.proofs.FastPlans.{fast_page_at}
use Rattle.fast.proofs.fast.calls.FastTimetable.page_at.Goals as goal

pub returns : goal.returns
returns c =
    let within : (1 ≤ c.args.channel) × (c.args.channel ≤ c.args.self.now.channels) = grind (arith, c.if-not-contains.ensures) in
    let first : c.doubled-first.result ≡ 2 ^ (c.args.channel - 1) = omega arith in
    record {
      answers_page =
          ap (λ (x : ℕ). x + c.args.slot % x) first
          ∙ sym (fast_page_at c.args.self.now.channels c.args.channel within.0 within.1 (omega arith) c.args.slot);
    }
