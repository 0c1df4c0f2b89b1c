use Rattle.bag.specs.Bags.{held, room, SameMemory}
use Rattle.splitting_rule.specs.Rule.{Splits}
use Rattle.splitting.proofs.planner.place_pages.Given as goal

abbrev pub invariant-loop-placed : goal.invariant-loop-placed
invariant-loop-placed l =
    Splits l.delay (room l.initial.bag) (held l.initial.bag) l.placed l.rows (held l.bag)
    × SameMemory l.initial.bag l.bag
