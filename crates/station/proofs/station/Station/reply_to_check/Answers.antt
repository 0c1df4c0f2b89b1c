use Rattle.std.proofs.Common.{length, vec_items, sym, subst}
use Rattle.station.specs.States.{seen, Checks, by_check}
use Rattle.station.proofs.Replies.{zeroed_cells}
use Rattle.station.proofs.station.Station.reply_to_check.Goals as goal

pub returns : goal.returns
returns g c =
    let s = seen (g.T.Timetable.meaning c.args.self.now.table) c.args.self.now in
    let s' = seen (g.T.Timetable.meaning c.check-result.new.self.table) c.check-result.new.self in
    let v = c.args.scratch in
    record {
      does = record {
        steps = subst (λ a. Checks s (length (vec_items v)) a s') (sym c.unit_answer.ensures.tells_result)
            (subst (λ xs. Checks s (length xs) (by_check c.check-result.result) s') c.as_mut_slice.ensures.value c.check-result.ensures.checks_or_refuses);
        leaves = (zeroed_cells v c.as_mut_slice.result.now c.check-result.new.scratch c.as_mut_slice.ensures.value c.as_mut_slice.ensures.len c.check-result.ensures.scratch_zeroed, c.new.ensures.items);
      };
    }
