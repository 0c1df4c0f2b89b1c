use Rattle.std.proofs.Common.{◌≡◌, ◌≤◌}
use Rattle.receiver.specs.Stores.{held}
use Rattle.receiver.proofs.slot.held_count.Given as goal

abbrev pub invariant-loop-byte : goal.invariant-loop-byte
invariant-loop-byte l = (l.count ≡ held l.byte-index l.film) × (l.count ≤ l.byte-index)
