use Rattle.std.proofs.Common.{◌≡◌, ℕ, ◌+◌, List, ◌++◌, map, vec_items}
use Rattle.feeding.specs.Feeding.{waiting}
use Rattle.feeding.specs.Phases.{rows, so_far, GrowsBy}
use Rattle.feeding.proofs.phases.hear_all.Given as goal

-- what was told and is to be told stays the same
abbrev pub invariant-loop-line : goal.invariant-loop-line
invariant-loop-line l = record {
  told : (rest : List (List ℕ)) → so_far l.initial.viewing (waiting (map vec_items l.lines ++ rest) l.initial.waiting.numbers l.initial.store) ≡ so_far l.viewing (waiting (rows l.lines l.line-index ++ rest) l.waiting.numbers l.store);
  delay : l.waiting.numbers.delay ≡ l.initial.waiting.numbers.delay;
  heard : l.waiting.numbers.heard ≡ l.initial.waiting.numbers.heard + l.line-index;
  peak : l.viewing.peak ≡ l.waiting.numbers.peak;
  grown : GrowsBy l.line-index l.initial.viewing l.viewing;
}
