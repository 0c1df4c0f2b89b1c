use Rattle.std.proofs.Common.{◌≡◌, suc, ◌-◌, ◌*◌, ◌≤◌, length}
use Rattle.feeding.specs.Laws.{top}
use Rattle.survey.specs.Cells.{total}
use Rattle.survey.proofs.arrivals.crest.Given as goal

abbrev pub invariant-loop-shown : goal.invariant-loop-shown
invariant-loop-shown l = record {
  counted : l.arrived ≡ total l.arrivals l.shown;
  few : l.arrived ≤ 4294967295 * l.shown;
  greatest : top (λ s. total l.arrivals (suc s) - s) l.shown (length l.arrivals - l.shown) l.best ≡ top (λ s. total l.arrivals (suc s) - s) 0 (length l.arrivals) 0;
}
