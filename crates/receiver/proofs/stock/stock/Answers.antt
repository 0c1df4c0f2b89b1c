use Rattle.std.proofs.Common.{◌≡◌, ◌++◌, length, sym, rules, arith}
use Rattle.std.proofs.lemmas.List.{take-append-drop}
use Rattle.receiver.proofs.Films.{weighs}
use Rattle.receiver.proofs.stock.stock.Goals as goal

pub returns : goal.returns
returns c =
    let split : c.args.store.now ≡ c.in_ok-bytes.bytes.now ++ c.in_ok-bytes.field-0-1.now = search (rules, sym (take-append-drop c.args.film c.args.store.now)) in
    let whole : length c.in_ok-bytes.bytes.now ≡ c.args.film = search rules in
    let e = weighs c.args.film c.args.store.now c.in_ok-bytes.bytes.now c.in_ok-bytes.field-0-1.now c.args.pages.now split whole in
    record { weighs_or_refuses = grind (arith, e) }
