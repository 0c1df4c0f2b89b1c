use Rattle.std.proofs.Common.{◌+◌, ◌++◌, map, drop, vec_items, sym, refl, ap, ◌∙◌, append-nil, arith}
use Rattle.guarantee.specs.Spells.{until_withdrawn}
use Rattle.runs.specs.Rehearsals.{told_of}
use Rattle.runs.proofs.Sending.{sent_end, sent_on, told_end}
use Rattle.runs.proofs.lines.sent_in.Goals as goal

pub returns-then-is_withdrawn : goal.returns-then-is_withdrawn
returns-then-is_withdrawn c = record {
  until_withdrawn = sent_end c.args.replies.now c.loop-reply.reply-index c.reply-item.result c.loop-reply-test.true c.reply-item.is _ _ c.loop-reply.invariant c.if-is_withdrawn.ensures.of_withdrawal;
}

pub loop-reply-preserved : goal.loop-reply-preserved
loop-reply-preserved c =
    let rs = c.args.replies.now in
    let i = c.loop-reply.reply-index in
    sent_on rs i c.reply-item.result c.loop-reply-test.true c.reply-item.is _ (map vec_items (vec_items c.loop-reply.lines)) c.loop-reply.invariant _ c.if-is_withdrawn.ensures.of_withdrawal refl
    ∙ ap (λ ls. ls ++ until_withdrawn (told_of (drop (i + 1) rs))) (sym c.in_ok-note_line.ensures.notes_line)

pub returns : goal.returns
returns c = record {
  until_withdrawn =
      sym (c.loop-reply.invariant ∙ ap (λ ts. map vec_items (vec_items c.loop-reply.lines) ++ until_withdrawn ts) (told_end c.args.replies.now c.loop-reply.reply-index (omega arith)) ∙ append-nil _);
}
