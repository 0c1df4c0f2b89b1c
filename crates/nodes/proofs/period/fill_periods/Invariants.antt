use Rattle.std.proofs.Common.{◌≡◌, ◌≤◌, length, take}
use Rattle.nodes.specs.Finding.{KnownFrom}
use Rattle.nodes.proofs.period.fill_periods.Given as goal

abbrev pub invariant-loop-number : goal.invariant-loop-number
invariant-loop-number l =
    record {
      from_first : l.number-iterator.iter.count ≡ 0;
      within : length l.number-iterator.iter.iter.rest.now ≤ length l.nodes;
      left : l.number-iterator.iter.iter.rest.now ≡ take (length l.number-iterator.iter.iter.rest.now) l.nodes;
      known : KnownFrom l.nodes l.periods (length l.number-iterator.iter.iter.rest.now);
    }
