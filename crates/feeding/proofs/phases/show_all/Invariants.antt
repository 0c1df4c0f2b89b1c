use Rattle.std.proofs.Common.{◌≡◌, map, vec_items}
use Rattle.feeding.specs.Feeding.{showing}
use Rattle.feeding.specs.Phases.{rows, so_far, GrowsBy}
use Rattle.feeding.proofs.phases.show_all.Given as goal

-- what was told and is to be told stays the same
abbrev pub invariant-loop-line : goal.invariant-loop-line
invariant-loop-line l = record {
  told : so_far l.initial.viewing (showing (map vec_items l.lines) l.initial.showing.numbers l.initial.store) ≡ so_far l.viewing (showing (rows l.lines l.line-index) l.showing.numbers l.store);
  peak : l.viewing.peak ≡ l.showing.numbers.peak;
  grown : GrowsBy l.line-index l.initial.viewing l.viewing;
}
