use Rattle.load.specs.Closures.{CloseTo}
use Rattle.load.proofs.closing.judge_all.Given as goal

abbrev pub invariant-loop-index : goal.invariant-loop-index
invariant-loop-index l = CloseTo l.channels l.period l.closures l.index-counter
