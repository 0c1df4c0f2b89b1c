use Rattle.std.proofs.Common.{◌≡◌, ◌≤◌, length, map, vec_items, vec_len}
use Rattle.std.specs.Vec.{vec_capacity}
use Rattle.planner.specs.Dealing.{DealtTo}
use Rattle.planner.specs.Pagoda.{filled, laid}
use Rattle.planner.proofs.pagoda.deal.deal.Given as goal

abbrev pub invariant-loop-channel : goal.invariant-loop-channel
invariant-loop-channel l =
    record {
      places : vec_capacity l.all ≡ length l.channels;
      many : vec_len l.all ≡ l.channel-index;
      so_far : DealtTo l.delay l.channels l.channel-index (vec_items l.all) l.progress.1.0 l.progress.1.1.0;
      whole : vec_items l.all ≡ map filled (laid l.delay l.channels l.channel-index);
      delay : l.progress.0 ≡ l.delay;
      in_range : (1 ≤ l.progress.1.0) × (l.progress.1.0 ≤ 1025);
    }
