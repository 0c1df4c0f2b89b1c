use Rattle.std.proofs.Common.{◌≡◌, suc, ◌+◌, drop, sym, ap, ◌∙◌, arith}
use Rattle.guarantee.specs.Spells.{lines_from, until_withdrawn}
use Rattle.runs.specs.Rehearsals.{told_of}
use Rattle.runs.proofs.Sending.{place_other, place_later, place_here, told_end}
use Rattle.runs.proofs.lines.place_of_tick.Goals as goal
use Rattle.runs.proofs.lines.place_of_tick.Goals.{then-is_tick+else-left-eq0, else-is_tick}

pub returns-then-left-eq0-clause-feeds_from : goal.returns-then-left-eq0-clause-feeds_from
returns-then-left-eq0-clause-feeds_from c =
    place_here c.args.replies.now c.loop-place.place c.index-replies-place.result c.loop-place-test.true c.index-replies-place.is c.args.tick c.loop-place.left c.loop-place.invariant c.if-left-eq0.true c.if-is_tick.ensures.of_tick

pub loop-place-preserved : goal.loop-place-preserved
loop-place-preserved c = elim c.if-is_tick.branch [
  | then-is_tick+else-left-eq0 w ↦
      let more : c.loop-place.left ≡ suc c.if-is_tick.left = omega (arith, w.left-is, w.if-left-eq0.false) in
      place_later c.args.replies.now c.loop-place.place c.index-replies-place.result c.loop-place-test.true c.index-replies-place.is c.args.tick c.loop-place.left c.loop-place.invariant c.if-is_tick.left more w.if-is_tick.ensures.of_tick
  | else-is_tick w ↦
      place_other c.args.replies.now c.loop-place.place c.index-replies-place.result c.loop-place-test.true c.index-replies-place.is c.args.tick c.loop-place.left c.loop-place.invariant w.if-is_tick.ensures.of_tick
      ∙ ap (λ k. lines_from k (told_of (drop (c.loop-place.place + 1) c.args.replies.now))) (sym w.left-is)
]

pub returns-clause-feeds_from : goal.returns-clause-feeds_from
returns-clause-feeds_from c =
    c.loop-place.invariant
    ∙ ap (λ ts. lines_from c.loop-place.left ts) (told_end c.args.replies.now c.loop-place.place (omega arith))
    ∙ sym (ap (λ ts. until_withdrawn ts) (told_end c.args.replies.now _ (omega arith)))
