use Rattle.std.proofs.Common.{◌≡◌, ℕ, ◌+◌, All, subst, div-mul-le_self, arith}
use Rattle.bag.specs.Bags.{held, AfterTake}
use Rattle.sequences.specs.Sequences.{Usable, earlier}
use Rattle.splitting_rule.proofs.Placing.{taken_usable}
use Rattle.splitting.proofs.planner.place_page.Goals as goal

pub nonzero_div-parts : goal.nonzero_div-parts
nonzero_div-parts c =
    let w : ℕ = c.from.result + c.args.placed in
    let same : c.args.delay + c.args.placed ≡ w = omega (arith, c.from.ensures) in
    let takes = subst (λ r. AfterTake (earlier w) c.args.bag.now c.take_first.new.self r) c.in_ok-sequence.ensures.ok_part c.take_first.ensures.first_or_empty in
    let all = subst (λ (w : ℕ). All (Usable w) (held c.args.bag.now)) same c.requires.all_usable in
    (taken_usable w c.in_ok-sequence.sequence c.args.bag.now c.take_first.new.self takes all).some

pub put_rest-requires : goal.put_rest-requires
put_rest-requires c =
    let w : ℕ = c.from.result + c.args.placed in
    let same : c.args.delay + c.args.placed ≡ w = omega (arith, c.from.ensures) in
    let takes = subst (λ r. AfterTake (earlier w) c.args.bag.now c.take_first.new.self r) c.in_ok-sequence.ensures.ok_part c.take_first.ensures.first_or_empty in
    let all = subst (λ (w : ℕ). All (Usable w) (held c.args.bag.now)) same c.requires.all_usable in
    let usable = taken_usable w c.in_ok-sequence.sequence c.args.bag.now c.take_first.new.self takes all in
    record { small = omega (arith, div-mul-le_self w c.in_ok-sequence.sequence.period); starts = usable.starts }
