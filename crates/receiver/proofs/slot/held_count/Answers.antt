use Rattle.std.proofs.Common.{◌≡◌, eqb, get_or, ap, arith}
use Rattle.std.proofs.lemmas.Bool.{eq-eqb, ne_eqb}
use Rattle.receiver.specs.Count.{bit}
use Rattle.receiver.proofs.Counts.{count_more}
use Rattle.receiver.proofs.slot.held_count.Goals as goal
use Rattle.receiver.proofs.slot.held_count.Goals.{then-byte-eq-HELD, else-byte-eq-HELD}

pub loop-byte-preserved : goal.loop-byte-preserved
loop-byte-preserved c =
    let e = count_more c.loop-byte.byte-index (λ j. eqb (get_or c.args.film.now j 0) 1) in
    elim c.if-byte-eq-HELD.branch [
      | then-byte-eq-HELD w ↦ let b : bit (eqb (get_or c.args.film.now c.loop-byte.byte-index 0) 1) ≡ 1 = ap bit (eq-eqb _ _ w.if-byte-eq-HELD.true) in (omega (arith, w.count-is), omega (arith, w.count-is))
      | else-byte-eq-HELD w ↦ let b : bit (eqb (get_or c.args.film.now c.loop-byte.byte-index 0) 1) ≡ 0 = ap bit (ne_eqb _ _ w.if-byte-eq-HELD.false) in (omega (arith, w.count-is), omega (arith, w.count-is))
    ]
