use Rattle.std.proofs.Common.{◌≡◌, ◌+◌, ◌-◌, length, drop, sym, ap, ◌∙◌, arith}
use Rattle.timetable.specs.Closed.{line}
use Rattle.survey.specs.Cells.{note_one, noted}
use Rattle.survey.proofs.Turns.{note_more, note_all}
use Rattle.survey.proofs.comings.note_slot.Goals as goal

pub loop-channel-preserved : goal.loop-channel-preserved
loop-channel-preserved g c =
    let M = g.T.Timetable.meaning c.args.table.now in
    let u = c.args.slot in
    let n = length c.args.nexts.now in
    let j = c.loop-channel.channel in
    let xs = c.loop-channel.nexts in
    let ys = c.note_page.new.nexts in
    let same : length xs ≡ n = omega arith in
    let back : j + 1 - 1 ≡ j = omega arith in
    ap (λ k. noted n u ys (drop k (line M u))) back
    ∙ note_more M n u j c.page_at.result xs ys (omega arith) (omega arith) c.page_at.ensures.answers_page (c.note_page.ensures.notes_page ∙ ap (λ k. note_one k u xs c.page_at.result) same)
    ∙ c.loop-channel.invariant

pub returns-2 : goal.returns-2
returns-2 g c =
    let M = g.T.Timetable.meaning c.args.table.now in
    let u = c.args.slot in
    let n = length c.args.nexts.now in
    let j = c.loop-channel.channel in
    let xs = c.loop-channel.nexts in
    let ys = c.note_page.new.nexts in
    let same : length xs ≡ n = omega arith in
    record {
      notes_line =
          sym (note_all M n u j ys (omega arith))
          ∙ note_more M n u j c.page_at.result xs ys (omega arith) (omega arith) c.page_at.ensures.answers_page (c.note_page.ensures.notes_page ∙ ap (λ k. note_one k u xs c.page_at.result) same)
          ∙ c.loop-channel.invariant;
    }
