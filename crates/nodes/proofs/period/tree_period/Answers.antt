use Rattle.std.proofs.Common.{rules}
use Rattle.nodes.specs.Answers.{PeriodAnswer}
use Rattle.nodes.proofs.Least.{answer_least}
use Rattle.nodes.proofs.period.tree_period.Goals as goal

pub returns-clause-least_common_multiple : goal.returns-clause-least_common_multiple
returns-clause-least_common_multiple c =
    let answer : PeriodAnswer c.args.nodes.now c.args.channels c.ok_or.result = search rules in
    answer_least c.args.nodes.now c.args.channels c.ok_or.result answer
