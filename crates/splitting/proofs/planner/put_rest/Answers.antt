use Rattle.std.proofs.Common.{◌≡◌, ℕ, ◌-◌, ◌++◌, ◌∙◌, subst, arith}
use Rattle.std.specs.List.Sorted.{IsPermutation}
use Rattle.records.proofs.Exits.{exit}
use Rattle.bag.specs.Bags.{held, room}
use Rattle.bag.proofs.Memory.{same_memory_trans}
use Rattle.sequences.specs.Sequences.{pieces}
use Rattle.splitting_rule.proofs.Pieces.{piece_starts, pieces_more, too_many}
use Rattle.splitting.proofs.planner.put_rest.Goals as goal

pub overflow_mul-j : goal.overflow_mul-j
overflow_mul-j c = omega (arith, piece_starts c.loop-j.j c.args.parts c.args.sequence.period c.args.sequence.start c.loop-j-test.true c.requires.starts)

pub overflow_add-sequence : goal.overflow_add-sequence
overflow_add-sequence c = omega (arith, piece_starts c.loop-j.j c.args.parts c.args.sequence.period c.args.sequence.start c.loop-j-test.true c.requires.starts)

pub loop-j-preserved : goal.loop-j-preserved
loop-j-preserved c =
    let put = c.in_ok-put.ensures.held_or_full.one_more in (
      pieces_more c.args.sequence c.args.parts c.loop-j.j (held c.args.bag.now) (held c.loop-j.bag) (held c.put.new.self) c.loop-j.auto.j c.loop-j.invariant.0 put,
      same_memory_trans c.args.bag.now c.loop-j.bag c.put.new.self c.loop-j.invariant.1 c.put.ensures.same_memory,
      omega arith,
    )

pub returns-in_err-put : goal.returns-in_err-put
returns-in_err-put c =
    let full = c.in_err-put.ensures.held_or_full in
    record {
      rest_or_full = exit _ _ c.from_residual.result c.in_err-put.field-0.0 c.from_residual.ensures.1
          (too_many c.args.sequence c.args.parts c.loop-j.j (held c.args.bag.now) (held c.loop-j.bag) (room c.args.bag.now) c.loop-j.auto.j c.loop-j-test.true c.loop-j.invariant.0 (full.1 ∙ c.loop-j.invariant.1.same_room));
      same_memory = same_memory_trans c.args.bag.now c.loop-j.bag c.put.new.self c.loop-j.invariant.1 c.put.ensures.same_memory;
    }

pub returns : goal.returns
returns c =
    let all : c.loop-j.j - 1 ≡ c.args.parts - 1 = omega arith in
    record {
      rest_or_full = subst (λ (n : ℕ). IsPermutation (pieces c.args.sequence c.args.parts n ++ held c.args.bag.now) (held c.loop-j.bag)) all c.loop-j.invariant.0;
      same_memory = c.loop-j.invariant.1;
    }
