use Rattle.std.proofs.Common.{◌≡◌, ◌+◌, ◌≤◌, length}
use Rattle.receiver.specs.Stores.{fresh}
use Rattle.receiver.proofs.slot.fresh_count.Given as goal

abbrev pub invariant-loop-page : goal.invariant-loop-page
invariant-loop-page l = record {
  told : l.count + fresh (length l.film) l.film l.rest ≡ fresh (length l.film) l.film l.pages;
  few : l.count + length l.rest ≤ length l.pages;
}

abbrev pub decreases-loop-page : goal.decreases-loop-page
decreases-loop-page l = length l.rest
