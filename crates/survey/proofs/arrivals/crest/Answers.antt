use Rattle.std.proofs.Common.{◌≡◌, ◌+◌, ◌-◌, max, length, get_or, ◌∙◌, arith}
use Rattle.survey.specs.Cells.{total}
use Rattle.survey.proofs.Turns.{total_more, crest_more}
use Rattle.survey.proofs.arrivals.crest.Goals as goal

pub loop-shown-preserved : goal.loop-shown-preserved
loop-shown-preserved c =
    let xs = c.args.arrivals.now in
    let s = c.loop-shown.shown in
    let item = c.type_inv.arrivals s in
    let more = total_more xs s in
    let counted = c.loop-shown.invariant.counted in
    let before = c.loop-shown.invariant.few in
    let is : c.max-best.result ≡ max c.loop-shown.best ((total xs s + get_or xs s 0) - s) = omega (arith, c.max-best.ensures, c.saturating_sub.ensures, counted) in
    record {
      counted = omega arith;
      few = omega (arith, item, before);
      greatest = crest_more (length xs) xs s c.loop-shown.best c.max-best.result (omega arith) is ∙ c.loop-shown.invariant.greatest;
    }
