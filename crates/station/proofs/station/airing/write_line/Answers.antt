use Rattle.std.proofs.Common.{◌≡◌, ◌++◌, drop, ap, ap₂, ◌∙◌, arith}
use Rattle.station.proofs.Lines.{line_set, line_whole}
use Rattle.station.proofs.station.airing.write_line.Goals as goal

pub loop-place-preserved : goal.loop-place-preserved
loop-place-preserved g c =
    line_set (g.T.Timetable.meaning c.args.table.now) c.args.slot c.loop-place.front c.split_at_mut-front.result.0.now c.loop-place.place c.page_at.result c.loop-place-test.true c.page_at.ensures.answers_page c.loop-place.invariant

pub returns : goal.returns
returns g c =
    let X = g.T.Timetable.meaning c.args.table.now in
    let many : c.from.result ≡ X.channels = c.from.ensures ∙ c.channels.ensures.answers_channels in
    let all : c.loop-place.place ≡ X.channels = omega (arith, many, c.loop-place-test.false, c.loop-place.auto.place-end, c.split_at_mut-front.ensures.front_len) in
    record {
      line_in_front = ap₂ (λ xs ys. xs ++ ys) (line_whole X c.args.slot c.loop-place.front c.split_at_mut-front.result.0.now c.loop-place.place all c.loop-place-test.false c.loop-place.invariant)
          (c.split_at_mut-front.ensures.back ∙ ap (λ n. drop n c.args.list.now) many);
    }
