use Rattle.std.proofs.Common.{map, is_ok, vec_items, sym, ap, subst, arith, rules}
use Rattle.std.proofs.ResultArms.{chosen}
use Rattle.records.specs.Places.{Spans}
use Rattle.records.proofs.Spanning.{spans_within}
use Rattle.format.specs.Items.{bytes}
use Rattle.format.specs.Format.{encoded}
use Rattle.format.proofs.Lists.{spans_push}
use Rattle.format.proofs.Standing.{stood_some}
use Rattle.planfile.proofs.runs.read_run.Given as given
use Rattle.planfile.proofs.runs.read_run.Goals as goal

-- the record that was found at the place reached
found : (g : given.Over) (c : goal.In_ok-push g) → Spans c.args.bytes.now c.loop-all.at c.in-Some.next (bytes (g.L.Listed.item c.in-Some.one))
found g c = stood_some g.L.Listed.item c.args.bytes.now c.loop-all.at c.in_ok-one.field-0 c.in-Some.one c.in-Some.next c.in_ok-one.ensures.finds c.in-Some.is

pub loop-all-smaller : goal.loop-all-smaller
loop-all-smaller g c =
    let s = found g c in
    let h = spans_within s in
    omega (arith, s.ends)

pub loop-all-preserved : goal.loop-all-preserved
loop-all-preserved g c =
    let item = g.L.Listed.item in
    let was = chosen _ _ _ _ c.push.ensures.items (ap is_ok c.in_ok-push.was) in (
      subst (λ l. Spans c.args.bytes.now c.args.start c.in-Some.next (encoded (map item l))) (sym was) (spans_push item (vec_items c.loop-all.all) c.in-Some.one c.loop-all.invariant.0 (found g c)),
      search rules,
    )
