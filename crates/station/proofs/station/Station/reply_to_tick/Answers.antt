use Rattle.std.proofs.Common.{◌≡◌, length, vec_items, sym, ap, ◌∙◌, subst, arith}
use Rattle.std.specs.Vec.{with_items}
use Rattle.std.proofs.lemmas.List.{with_items_is}
use Rattle.station.specs.States.{seen, Is, ticks, by_tick}
use Rattle.station.specs.Calls.{written, TellsTick}
use Rattle.station.proofs.Replies.{tick_told_as}
use Rattle.station.proofs.station.Station.reply_to_tick.Goals as goal

pub returns : goal.returns
returns g c =
    let M = g.T.Timetable.meaning c.args.self.now.table in
    let s = seen M c.args.self.now in
    let s' = seen (g.T.Timetable.meaning c.tick-result.new.self.table) c.tick-result.new.self in
    let v = c.args.list in
    let xs = c.tick-result.new.list in
    let r = c.tick-result.result in
    let items : vec_items (with_items v xs) ≡ xs = with_items_is v xs (c.tick-result.auto.list ∙ c.as_mut_slice.ensures.len) in
    let ticks-it = subst (λ ys. Is (ticks s (length ys)) (by_tick M.channels xs r) s') c.as_mut_slice.ensures.value c.tick-result.ensures.ticks_or_refuses in
    let line : c.in_ok-line.line.len ≡ M.channels = omega (arith, c.in_ok-line.ensures.len, c.channels.ensures.answers_channels) in
    let long : length xs ≡ length (vec_items v) = c.tick-result.auto.list ∙ ap length c.as_mut_slice.ensures.value in
    let tells = subst (λ ys. TellsTick c.in_ok-line.line.len ys r c.tick_answer.result) (c.as_slice.ensures.value ∙ items) c.tick_answer.ensures.tells_result in
    let told = tick_told_as s s' (length (vec_items v)) c.in_ok-line.line.len xs r c.tick_answer.result line long ticks-it tells in
    record {
      does = record {
        steps = subst (λ a. Is (ticks s (length (vec_items v))) a s') (sym told) ticks-it;
        leaves = (
          c.new.ensures.items,
          items ∙ subst (λ ys. xs ≡ written (by_tick M.channels xs r) ys) c.as_mut_slice.ensures.value c.tick-result.ensures.list_after ∙ ap (λ a. written a (vec_items v)) (sym told),
        );
      };
    }
