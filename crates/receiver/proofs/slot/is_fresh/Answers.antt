use Rattle.std.proofs.Common.{arith}
use Rattle.receiver.proofs.Stores.{member_any}
use Rattle.receiver.proofs.slot.is_fresh.Goals as goal

pub returns-then-is_wanted : goal.returns-then-is_wanted
returns-then-is_wanted c =
    let any = member_any c.args.page c.args.after.now in
    let is = c.contains.ensures.value in
    record { wanted_last = grind (arith, any, is) }
