use Rattle.std.proofs.Common.{ℕ, ◌+◌, subst, arith}
use Rattle.bag.specs.Bags.{held, room}
use Rattle.bag.proofs.Memory.{same_memory_trans}
use Rattle.splitting_rule.specs.Rule.{Placed}
use Rattle.splitting_rule.proofs.Covering.{splits_usable}
use Rattle.splitting_rule.proofs.Placing.{splits_more}
use Rattle.splitting.proofs.planner.place_pages.Goals as goal

pub place_page-requires-clause-all_usable : goal.place_page-requires-clause-all_usable
place_page-requires-clause-all_usable c =
    splits_usable c.args.delay (room c.args.bag.now) (held c.args.bag.now) c.requires.all_usable c.loop-placed.placed c.loop-placed.rows (held c.loop-placed.bag) c.loop-placed.invariant.0

pub loop-placed-preserved : goal.loop-placed-preserved
loop-placed-preserved c =
    let row = c.in_ok-row.field-0 in
    let here = subst (λ (most : ℕ). Placed (c.loop-placed.placed + 1) (c.args.delay + c.loop-placed.placed) most (held c.loop-placed.bag) row (held c.place_page.new.bag)) c.loop-placed.invariant.1.same_room c.in_ok-row.ensures.row_or_refusal in (
      splits_more c.args.delay (room c.args.bag.now) (held c.args.bag.now) c.loop-placed.placed c.loop-placed.rows row (held c.loop-placed.bag) (held c.place_page.new.bag) (omega arith) c.loop-placed.invariant.0 here,
      same_memory_trans c.args.bag.now c.loop-placed.bag c.place_page.new.bag c.loop-placed.invariant.1 c.place_page.ensures.same_memory,
    )
