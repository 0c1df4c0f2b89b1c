use Rattle.std.proofs.Common.{◌-◌, ◌≤◌}
use Rattle.std.specs.List.Sorted.{IsPermutation}
use Rattle.bag.specs.Bags.{held, SameMemory}
use Rattle.sequences.specs.Sequences.{whole_channels}
use Rattle.splitting.proofs.planner.put_channels.Given as goal

abbrev pub invariant-loop-channel : goal.invariant-loop-channel
invariant-loop-channel l =
    IsPermutation (whole_channels (l.channel - 1)) (held l.bag)
    × (l.channel - 1 ≤ l.channels)
    × SameMemory l.initial.bag l.bag
