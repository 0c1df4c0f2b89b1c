use Rattle.std.proofs.Common.{◌-◌, ◌≤◌, ◌++◌}
use Rattle.std.specs.List.Sorted.{IsPermutation}
use Rattle.bag.specs.Bags.{held, SameMemory}
use Rattle.sequences.specs.Sequences.{pieces}
use Rattle.splitting.proofs.planner.put_rest.Given as goal

abbrev pub invariant-loop-j : goal.invariant-loop-j
invariant-loop-j l =
    IsPermutation (pieces l.sequence l.parts (l.j - 1) ++ held l.initial.bag) (held l.bag)
    × SameMemory l.initial.bag l.bag
    × (l.j - 1 ≤ l.parts - 1)
