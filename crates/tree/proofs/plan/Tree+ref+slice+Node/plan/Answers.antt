use Rattle.tree.proofs.Rounds.{planned_round}
use Rattle.tree.proofs.Steps.{hands_turns_on}
use Rattle.tree.proofs.plan.Tree+ref+slice+Node.plan.Goals as goal

pub returns-in_err-period-clause-hands_turns_on : goal.returns-in_err-period-clause-hands_turns_on
returns-in_err-period-clause-hands_turns_on c = hands_turns_on c.args.nodes.now

pub returns-clause-hands_turns_on : goal.returns-clause-hands_turns_on
returns-clause-hands_turns_on c = hands_turns_on c.args.nodes.now

pub returns-clause-comes_round : goal.returns-clause-comes_round
returns-clause-comes_round c = planned_round c.args.nodes.now c.args.channels c.in_ok-period.period c.in_ok-period.ensures.period_or_refusal
