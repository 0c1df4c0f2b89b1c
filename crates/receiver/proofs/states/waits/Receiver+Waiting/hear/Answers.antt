use Rattle.std.proofs.Common.{◌≡◌, ◌++◌, length, sym, ap, ◌∙◌, rules, arith}
use Rattle.receiver.specs.Calls.{refused, hear}
use Rattle.receiver.specs.Refusals.{told}
use Rattle.receiver.proofs.Films.{hears, hears_full}
use Rattle.receiver.proofs.states.waits.Receiver+Waiting.hear.Goals as goal

pub returns-in_err-take_in : goal.returns-in_err-take_in
returns-in_err-take_in c =
    let split : c.args.store.now ≡ c.in_ok-store.film.now ++ c.in_ok-store.field-0-1.now = search rules in
    let whole : length c.in_ok-store.film.now ≡ c.args.self.now.numbers.pages = search rules in
    let t = c.in_err-take_in.ensures.takes_or_refuses in
    let same : c.take_in.new.film ++ c.in_ok-store.field-0-1.now ≡ c.args.store.now = ap (λ s. s ++ c.in_ok-store.field-0-1.now) t.3 ∙ sym split in
    let full : hear c.args.self.now.numbers c.args.store.now c.args.pages.now ≡ refused (told c.in_err-take_in.field-0.0) =
    hears_full c.args.self.now.numbers c.args.store.now c.in_ok-store.film.now c.in_ok-store.field-0-1.now c.args.pages.now split whole (omega arith) t.0 ∙ ap (λ x. refused x) (sym t.1) in
    record { hears_or_refuses = grind (arith, full, same, t) }

pub returns : goal.returns
returns c =
    let split : c.args.store.now ≡ c.in_ok-store.film.now ++ c.in_ok-store.field-0-1.now = search rules in
    let whole : length c.in_ok-store.film.now ≡ c.args.self.now.numbers.pages = search rules in
    let t = c.in_ok-take_in.ensures.takes_or_refuses in
    record {
      hears_or_refuses =
          hears c.args.self.now.numbers c.args.store.now c.in_ok-store.film.now c.in_ok-store.field-0-1.now c.args.pages.now split whole (omega arith)
          c.take_in.new.self c.take_in.new.film t.0 t.1 t.2;
    }
