use Rattle.std.proofs.Common.{◌≡◌, ℕ, suc, ◌-◌, ◌<◌, ◌≤◌, eqb, leb, length, get_or, ap, ◌∙◌, arith}
use Rattle.receiver.specs.Count.{count}
use Rattle.receiver.proofs.Counts.{count_le}
use Rattle.feeding.specs.Laws.{top}
use Rattle.survey.specs.Cells.{late, total}
use Rattle.survey.proofs.Tops.{top_same, top_low, total_is}
use Rattle.survey.proofs.Turns.{spread_more}
use Rattle.survey.proofs.arrivals.peak_from.Goals as goal

pub overflow_add-arrivals : goal.overflow_add-arrivals
overflow_add-arrivals c =
    let xs = c.args.nexts.now in
    let is = c.loop-next.invariant c.min.result (omega arith) in
    let few = count_le c.loop-next.next-index (λ i. eqb (late c.args.delay (length xs) c.args.slot xs i) c.min.result) in
    omega arith

pub loop-next-preserved : goal.loop-next-preserved
loop-next-preserved c =
    let xs = c.args.nexts.now in
    spread_more (length xs) c.loop-next.next-index c.min.result (late c.args.delay (length xs) c.args.slot xs) c.loop-next.arrivals
    (omega arith) (omega arith) (omega arith) c.loop-next.invariant

-- the crest is the greatest stock by the next comings
by_comings : (c : goal.After-crest) → c.crest.result ≡ top (λ s. count (length c.args.nexts.now) (λ i. leb (late c.args.delay (length c.args.nexts.now) c.args.slot c.args.nexts.now i) s) - s) 0 (length c.args.nexts.now) 0
by_comings c =
    let xs = c.loop-next.arrivals in
    let zs = c.args.nexts.now in
    let n = length zs in
    let d = late c.args.delay n c.args.slot zs in
    let same : length xs ≡ n = omega arith in
    let all : c.loop-next.next-index ≡ n = omega arith in
    let counted : (s : ℕ) → s < n → get_or xs s 0 ≡ count n (λ i. eqb (d i) s) = λ s l. c.loop-next.invariant s l ∙ ap (λ k. count k (λ i. eqb (d i) s)) all in
    c.crest.ensures.greatest_stock
    ∙ ap (λ k. top (λ s. total xs (suc s) - s) 0 k 0) same
    ∙ top_same (λ s. total xs (suc s) - s) (λ s. count n (λ i. leb (d i) s) - s) 0 n 0
    (λ s a b. ap (λ x. x - s) (total_is n xs d counted s (omega arith)))

-- which is at most the film
pub overflow_cast-result : goal.overflow_cast-result
overflow_cast-result c =
    let n = length c.args.nexts.now in
    let C : ℕ → ℕ = λ s. count n (λ i. leb (late c.args.delay n c.args.slot c.args.nexts.now i) s) - s in
    let few : top C 0 n 0 ≤ n =
    top_low C 0 n 0 n (omega arith) (λ s a b. let k = count_le n (λ i. leb (late c.args.delay n c.args.slot c.args.nexts.now i) s) in omega arith) in
    let is : c.crest.result ≡ top C 0 n 0 = by_comings c in
    omega arith

pub returns : goal.returns
returns c = record { by_comings = by_comings c }
