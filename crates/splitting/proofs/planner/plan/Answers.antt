use Rattle.std.proofs.Common.{sym, ◌∙◌, arith}
use Rattle.bag.proofs.Memory.{same_memory_trans}
use Rattle.splitting_rule.proofs.Planning.{answer_kept, answer_listed, answer_apart, answer_sound}
use Rattle.splitting.proofs.planner.plan.Goals as goal

pub returns-else-is_err : goal.returns-else-is_err
returns-else-is_err c =
    let answer = answer_kept c.args.delay c.args.channels c.args.pages c.args.rows.now c.fill-filled.new.rows c.args.bag.now c.clear.new.self (omega arith) c.fill-filled.result (sym c.is_err.ensures.value ∙ c.if-is_err.false) c.fill-filled.ensures.plan_or_none c.clear.ensures.empty in
    record {
      plan_or_refusal = answer;
      same_memory = same_memory_trans c.args.bag.now c.fill-filled.new.bag c.clear.new.self c.fill-filled.ensures.same_memory c.clear.ensures.same_memory;
      rows_as_computed = answer_listed c.args.delay c.args.channels c.args.pages c.args.rows.now c.fill-filled.new.rows c.args.bag.now c.clear.new.self (omega arith) c.fill-filled.result answer;
      no_shared_slot = answer_apart c.args.delay c.args.channels c.args.pages c.args.rows.now c.fill-filled.new.rows c.args.bag.now c.clear.new.self (omega arith) c.fill-filled.result answer;
      starves_nobody = answer_sound c.args.delay c.args.channels c.args.pages c.args.rows.now c.fill-filled.new.rows c.args.bag.now c.clear.new.self (omega arith) c.fill-filled.result answer;
    }
