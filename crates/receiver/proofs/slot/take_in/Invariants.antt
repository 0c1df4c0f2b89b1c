use Rattle.std.proofs.Common.{◌≡◌, length, drop}
use Rattle.receiver.specs.Stores.{taken}
use Rattle.receiver.proofs.slot.take_in.Given as goal

abbrev pub invariant-loop-page : goal.invariant-loop-page
invariant-loop-page l = taken (length l.film) l.film (drop l.page-index l.pages) ≡ taken (length l.initial.film) l.initial.film l.pages
