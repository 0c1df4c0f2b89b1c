use Rattle.std.proofs.Common.{◌+◌, ◌++◌, map, length, vec_items, refl, ap, ◌∙◌, inr, arith}
use Rattle.std.proofs.lemmas.List.{take_all}
use Rattle.format.specs.Format.{encoded}
use Rattle.format.proofs.Lists.{encoded_more, encoded_front}
use Rattle.planfile.proofs.runs.append_run.Goals as goal

pub returns-then-len-gt-MOST_BYTES : goal.returns-then-len-gt-MOST_BYTES
returns-then-len-gt-MOST_BYTES g c =
    let item = g.L.Listed.item in
    let start = vec_items c.args.out.now in
    let xs = c.args.items.now in
    let i = c.loop-item.item-index in
    let last = c.append_to.new.out in
    let all = encoded_more item start (vec_items c.loop-item.out) (vec_items last) xs i c.item-item.result c.loop-item-test.true c.item-item.is c.loop-item.invariant c.in_ok-append_to.ensures.appends_all_or_nothing in
    record { appends_all = inr (refl, omega (arith, ap length all, encoded_front item start xs (i + 1), last.ok.0)) }

pub loop-item-preserved : goal.loop-item-preserved
loop-item-preserved g c =
    encoded_more g.L.Listed.item (vec_items c.args.out.now) (vec_items c.loop-item.out) (vec_items c.append_to.new.out) c.args.items.now c.loop-item.item-index c.item-item.result c.loop-item-test.true c.item-item.is c.loop-item.invariant c.in_ok-append_to.ensures.appends_all_or_nothing

pub returns : goal.returns
returns g c =
    record { appends_all = c.loop-item.invariant ∙ ap (λ l. vec_items c.args.out.now ++ encoded (map g.L.Listed.item l)) (take_all _ _ c.loop-item-test.false) }
