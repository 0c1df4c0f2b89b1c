-- In which order findings are taken: by page, then by slot, whatever the window.
use Rattle.std.specs.Prelude.{ℕ, Bool}
use Rattle.bag.specs.Orders.{ascending, by_then}
use Rattle.bag.specs.declared.finding.Finding.{Finding}

abbrev pub lower : ℕ → Finding → Finding → Bool
lower w = by_then (ascending (λ f. f.page)) (ascending (λ f. f.slot))
