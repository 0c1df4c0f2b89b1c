use Rattle.std.proofs.Common.{◌≡◌, ◌<◌, length, vec_items, ◌∙◌, arith}
use Rattle.planner.specs.Pagoda.{count_at}
use Rattle.planner.proofs.Questions.{count_read}
use Rattle.planner.proofs.pagoda.Pagoda.count.Goals as goal

pub returns : goal.returns
returns c =
    let within : c.args.index < length (vec_items c.args.self.now.channels) = omega (arith, c.args.self.now.channels.ok.0) in
    let read : c.from.result ≡ count_at (vec_items c.args.self.now.channels) c.args.index =
    c.from.ensures ∙ count_read (vec_items c.args.self.now.channels) c.args.index c.index.result.now within c.index.ensures in
    let takes = (c.args.self.now.deals c.args.index c.requires.within).0 in
    record { counted = read; some = (omega (arith, read, takes.0), omega (arith, read, takes.1)) }
