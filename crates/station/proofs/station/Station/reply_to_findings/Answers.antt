use Rattle.std.proofs.Common.{◌≡◌, length, vec_items, refl, ◌∙◌, subst}
use Rattle.std.specs.declared.alloc.AllocError.{AllocError}
use Rattle.bag.specs.Bags.{room}
use Rattle.station.specs.States.{seen, FindingsOf}
use Rattle.station.proofs.Replies.{zeroed_cells, findings_told_as}
use Rattle.station.proofs.station.Station.reply_to_findings.Goals as goal

pub returns : goal.returns
returns g c =
    let s = seen (g.T.Timetable.meaning c.args.self.now.table) c.args.self.now in
    let v = c.args.scratch in
    let bag = c.findings-result.new.bag in
    let places : room c.over-bag.result ≡ c.args.places = c.over-bag.ensures.room_of_places ∙ c.as_mut_slice.ensures.len ∙ c.in_ok-records.ensures.len in
    let found = subst (λ k. FindingsOf s (length (vec_items v)) k c.findings-result.result bag) places
    (subst (λ xs. FindingsOf s (length xs) (room c.over-bag.result) c.findings-result.result bag) c.as_mut_slice-2.ensures.value c.findings-result.ensures.finds_or_refuses) in
    record {
      does = record {
        steps = (findings_told_as AllocError s (length (vec_items v)) c.args.places c.findings-result.result bag c.in_ok-findings_answer.field-0 found c.in_ok-findings_answer.ensures.tells_result, refl);
        leaves = (zeroed_cells v c.as_mut_slice-2.result.now c.findings-result.new.scratch c.as_mut_slice-2.ensures.value c.as_mut_slice-2.ensures.len c.findings-result.ensures.scratch_zeroed, c.new.ensures.items);
      };
    }
