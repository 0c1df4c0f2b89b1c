-- What is answered when a tree is planned.
use Rattle.std.specs.Prelude.{◌≡◌, ℕ, ◌-◌, ◌%◌, ◌^◌, ◌≤◌, List, IfOk, Result, MatchResult}
use Rattle.std.proofs.Common.{Bor}
use Rattle.records.specs.declared.kinds.Node.{Node}
use Rattle.plans.specs.Refusals.{told}
use Rattle.plans.specs.declared.refusal.Refusal.{Refusal}
use Rattle.nodes.specs.Answers.{Planned, TreeRefused}
use Rattle.nodes.specs.Turns.{carried, tree}
use Rattle.tree.specs.declared.plan.Tree.{Tree}

-- a tree over lent nodes
abbrev pub LentTree : Type 0
LentTree = Tree (Bor (List Node))

-- the tree of some nodes and c channels, with its period
pub record TreeOf (nodes : List Node) (c : ℕ) (plan : LentTree) : Type 0 where
  pub nodes_kept : plan.nodes.now ≡ nodes
  pub channels_kept : plan.channels ≡ c
  pub planned : Planned nodes c plan.period

abbrev pub PlanAnswer : List Node → ℕ → Result LentTree Refusal → Type 0
PlanAnswer nodes c answer = MatchResult answer (TreeOf nodes c) (λ e. TreeRefused nodes c (told e))

-- beginning again after the period changes nothing: in every slot, however late, channel k carries what node k - 1 does
-- in the turn of that number
abbrev pub ComesRound : LentTree → Type 0
ComesRound plan =
    (k t : ℕ) → 1 ≤ k → k ≤ plan.channels →
    (tree plan.nodes.now plan.channels plan.period).page k t ≡ carried plan.nodes.now (k - 1) t % 2 ^ 16

abbrev pub PlanComesRound : Result LentTree Refusal → Type 0
PlanComesRound answer = IfOk answer ComesRound
