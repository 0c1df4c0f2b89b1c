use Rattle.std.specs.List.Sorted.{IsPermutation}
use Rattle.bag.specs.Bags.{held, SameMemory}
use Rattle.checker.proofs.findings.gather.Given as goal

abbrev pub invariant-loop-finding : goal.invariant-loop-finding
invariant-loop-finding l = IsPermutation l.yielded (held l.bag) × SameMemory l.initial.bag l.bag
