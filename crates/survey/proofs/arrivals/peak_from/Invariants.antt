use Rattle.std.proofs.Common.{◌≡◌, ℕ, ◌<◌, eqb, length, get_or}
use Rattle.receiver.specs.Count.{count}
use Rattle.survey.specs.Cells.{late}
use Rattle.survey.proofs.arrivals.peak_from.Given as goal

abbrev pub invariant-loop-next : goal.invariant-loop-next
invariant-loop-next l = (s : ℕ) → s < length l.nexts → get_or l.arrivals s 0 ≡ count l.next-index (λ i. eqb (late l.delay (length l.nexts) l.slot l.nexts i) s)
