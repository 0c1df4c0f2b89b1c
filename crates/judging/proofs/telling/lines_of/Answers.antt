use Rattle.std.proofs.Common.{◌+◌, ◌++◌, drop, vec_items, sym, ap, ◌∙◌, append_assoc, append-nil, arith}
use Rattle.std.proofs.lemmas.List.{drop_all}
use Rattle.station.specs.Calls.{answered}
use Rattle.runs.specs.Rehearsals.{told_of}
use Rattle.judging.specs.Telling.{told_lines, all_lines}
use Rattle.judging.proofs.Saying.{lines_more}
use Rattle.judging.proofs.telling.lines_of.Goals as goal

pub loop-reply-preserved : goal.loop-reply-preserved
loop-reply-preserved c =
    let rs = c.args.replies.now in
    let i = c.loop-reply.reply-index in
    let before = vec_items c.loop-reply.lines in
    c.loop-reply.invariant
    ∙ ap (λ ls. before ++ ls) (lines_more rs i c.reply-item.result c.loop-reply-test.true c.reply-item.is)
    ∙ sym (append_assoc before (told_lines (answered c.reply-item.result.answer)) (all_lines (told_of (drop (i + 1) rs))))
    ∙ ap (λ ls. ls ++ all_lines (told_of (drop (i + 1) rs))) (sym c.in_ok-note_answer.ensures.says_answer)

pub returns : goal.returns
returns c = record {
  says_all = sym (c.loop-reply.invariant ∙ ap (λ rs. vec_items c.loop-reply.lines ++ all_lines (told_of rs)) (drop_all c.loop-reply.reply-index c.args.replies.now (omega arith)) ∙ append-nil _);
}
