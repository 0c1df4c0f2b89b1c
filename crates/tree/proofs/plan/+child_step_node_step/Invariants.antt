use Rattle.std.proofs.Common.{◌+◌, ◌-◌, ◌*◌, length}
use Rattle.tree.proofs.plan.+child_step_node_step.Given as goal

-- children have higher numbers, so that fewer nodes are left
abbrev pub decreases-child_step : goal.decreases-child_step
decreases-child_step l = 2 * (length l.nodes.now - l.parent.first_child) + 1

abbrev pub decreases-node_step : goal.decreases-node_step
decreases-node_step l = 2 * (length l.nodes.now - l.node)
