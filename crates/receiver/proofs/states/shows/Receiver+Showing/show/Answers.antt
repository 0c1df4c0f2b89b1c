use Rattle.std.proofs.Common.{◌≡◌, ◌<◌, ◌++◌, length, get_or, sym, ap, ◌∙◌, rules, arith}
use Rattle.receiver.specs.Calls.{refused, show}
use Rattle.receiver.specs.Refusals.{told}
use Rattle.receiver.proofs.Films.{shows, shows_full}
use Rattle.receiver.proofs.states.shows.Receiver+Showing.show.Goals as goal

pub returns-in_err-take_in : goal.returns-in_err-take_in
returns-in_err-take_in c =
    let split : c.args.store.now ≡ c.in_ok-store.film.now ++ c.in_ok-store.field-0-1.now = search rules in
    let whole : length c.in_ok-store.film.now ≡ c.args.self.now.numbers.pages = search rules in
    let left : c.args.self.now.numbers.shown < c.args.self.now.numbers.pages = search rules in
    let held : get_or c.in_ok-store.film.now c.args.self.now.numbers.shown 0 ≡ 1 = search rules in
    let t = c.in_err-take_in.ensures.takes_or_refuses in
    let same : c.take_in.new.film ++ c.in_ok-store.field-0-1.now ≡ c.args.store.now = ap (λ s. s ++ c.in_ok-store.field-0-1.now) t.3 ∙ sym split in
    let full : show c.args.self.now.numbers c.args.store.now c.args.pages.now ≡ refused (told c.in_err-take_in.field-0.0) =
    shows_full c.args.self.now.numbers c.args.store.now c.in_ok-store.film.now c.in_ok-store.field-0-1.now c.args.pages.now split whole left held t.0 ∙ ap (λ x. refused x) (sym t.1) in
    record { shows_or_refuses = grind (arith, full, same, t) }

pub returns : goal.returns
returns c =
    let split : c.args.store.now ≡ c.in_ok-store.film.now ++ c.in_ok-store.field-0-1.now = search rules in
    let whole : length c.in_ok-store.film.now ≡ c.args.self.now.numbers.pages = search rules in
    let left : c.args.self.now.numbers.shown < c.args.self.now.numbers.pages = search rules in
    let held : get_or c.in_ok-store.film.now c.args.self.now.numbers.shown 0 ≡ 1 = search rules in
    let place : c.args.self.now.numbers.shown ≡ c.from-3.result = search rules in
    let t = c.in_ok-take_in.ensures.takes_or_refuses in
    record {
      shows_or_refuses =
          rw (← place)
          (shows c.args.self.now.numbers c.args.store.now c.in_ok-store.film.now c.in_ok-store.field-0-1.now c.args.pages.now split whole left held
          c.take_in.new.self c.take_in.new.film t.0 t.1 t.2);
    }
