use Rattle.std.proofs.Common.{true, sym, refl, ◌∙◌}
use Rattle.std.proofs.lemmas.Bool.{both_ways}
use Rattle.station.specs.Tables.{listed}
use Rattle.station.proofs.Places.{at_place, at_no_place}
use Rattle.station.proofs.table.ClosureTable.remove.Goals as goal

pub returns-in-Some : goal.returns-in-Some
returns-in-Some c =
    let taken = at_place (listed c.args.self.now) c.args.entry.channel c.args.entry.slot c.in-Some.place (sym c.in-Some.ensures.first_place) in
    record {
      was_closed = sym taken.0;
      stays_unless_closed = λ e. absurd (both_ways true e refl);
      without_entry = c.remove.ensures.items ∙ taken.1;
    }

pub returns-in-None : goal.returns-in-None
returns-in-None c =
    let left = at_no_place (listed c.args.self.now) c.args.entry.channel c.args.entry.slot (sym c.in-None.ensures.first_place) in
    record {
      was_closed = sym left.0;
      stays_unless_closed = λ e. refl;
      without_entry = left.1;
    }
