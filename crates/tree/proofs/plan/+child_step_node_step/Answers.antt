use Rattle.std.proofs.Common.{length, sym, ◌∙◌, arith}
use Rattle.tree.proofs.Steps.{carried_past, carried_at, no_children, not_before, hands_on}
use Rattle.tree.proofs.plan.+child_step_node_step.Goals as goal
use Rattle.tree.proofs.plan.+child_step_node_step.Goals.{node_step-then-inner-eq0-via-then-inner-eq0, node_step-then-inner-eq0-via-else-inner-eq0+then-from-node}

pub node_step-returns-then-node-nodes : goal.node_step-returns-then-node-nodes
node_step-returns-then-node-nodes t c =
    record { carries = sym (carried_past c.args.nodes.now (length c.args.nodes.now) c.args.node c.args.turn (omega arith)) }

pub node_step-returns-then-inner-eq0 : goal.node_step-returns-then-inner-eq0
node_step-returns-then-inner-eq0 t c =
    elim c.then-inner-eq0.branch [
      | node_step-then-inner-eq0-via-then-inner-eq0 w ↦ record { carries = sym (no_children c.args.nodes.now c.args.node c.args.turn c.in-Inner.inner c.in-Inner.is (omega arith)) }
      | node_step-then-inner-eq0-via-else-inner-eq0+then-from-node w ↦
          record { carries = sym (not_before c.args.nodes.now c.args.node c.args.turn c.in-Inner.inner c.in-Inner.is (omega arith)) }
    ]

pub node_step-returns-in-Leaf : goal.node_step-returns-in-Leaf
node_step-returns-in-Leaf t c = record { carries = sym (carried_at c.args.nodes.now c.args.node c.args.turn _ c.in-Leaf.is) }

pub node_step-returns-else-from-node : goal.node_step-returns-else-from-node
node_step-returns-else-from-node t c =
    record {
      carries =
          c.child_step.ensures.hands_on
          ∙ sym (hands_on c.args.nodes.now c.args.node c.args.turn c.in-Inner.inner c.in-Inner.is (omega arith) (omega arith));
    }
