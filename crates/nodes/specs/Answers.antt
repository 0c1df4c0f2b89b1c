-- What is answered when a tree is asked for its period.
use Rattle.std.specs.Prelude.{◌≡◌, ℕ, ◌+◌, ◌<◌, ◌≤◌, ◌⊎◌, List, [], ◌∷◌, length, IfOk, Result, MatchResult, slice_index}
use Rattle.records.specs.declared.kinds.Node.{Node}
use Rattle.records.specs.declared.kinds.Node.TheVariants as node
use Rattle.plans.specs.Periods.{longest_period}
use Rattle.plans.specs.Refusals.{told}
use Rattle.plans.specs.declared.refusal.Refusal.{Refusal}
use Rattle.nodes.specs.Periods.{node_periods, tree_period, LeastPeriod}
use Rattle.nodes.specs.Turns.{node_at}

-- the numbers of nodes and of channels that a tree may have: each channel has a node to begin at
abbrev pub Askable : ℕ → ℕ → Type 0
Askable n c = (1 ≤ n) × (n ≤ 2048) × (1 ≤ c) × (c ≤ 8) × (c ≤ n)

-- one of n nodes, with the number x, is a leaf, or has children, which all come after it and are there
abbrev pub Right : ℕ → ℕ → Node → Type 0
Right n x (node.Leaf l) = Unit {0}
Right n x (node.Inner i) = (0 < i.degree) × (x < i.first_child) × (i.first_child + i.degree ≤ n)

-- the nodes with lower numbers than x are right
abbrev pub RightBelow : List Node → ℕ → Type 0
RightBelow nodes x = (y : ℕ) → y < x → Right (length nodes) y (node_at nodes y)

abbrev pub AllRight : List Node → Type 0
AllRight nodes = RightBelow nodes (length nodes)

-- x is the lowest node that is not right
pub record FirstWrong (nodes : List Node) (x : ℕ) : Type 0 where
  pub there : x < length nodes
  pub wrong : Right (length nodes) x (node_at nodes x) → ⊥
  pub lowest : RightBelow nodes x

-- no node has a period that is too long
abbrev pub NodesShort : List Node → Type 0
NodesShort nodes = (x : ℕ) → x < length nodes → slice_index (node_periods nodes) x ≤ longest_period

-- some node has one, whether or not it is a root or below one
abbrev pub NodeLong : List Node → Type 0
NodeLong nodes = (x : ℕ) × (x < length nodes) × (longest_period < slice_index (node_periods nodes) x)

-- p is the period of the tree of which the first c nodes are the roots
pub record Planned (nodes : List Node) (c p : ℕ) : Type 0 where
  pub askable : Askable (length nodes) c
  pub right : AllRight nodes
  pub nodes_short : NodesShort nodes
  pub period : p ≡ tree_period nodes c
  pub short : p ≤ longest_period
  pub some : 0 < p

-- 1: a number is out of range; 7: the lowest node that is not right; 4: a period is too long; 0: there is no memory
abbrev pub TreeRefused : List Node → ℕ → ℕ × List ℕ → Type 0
TreeRefused nodes c t =
    ((t ≡ (1, [])) × (Askable (length nodes) c → ⊥))
    ⊎ (((x : ℕ) × (t ≡ (7, x ∷ [])) × Askable (length nodes) c × FirstWrong nodes x)
    ⊎ (((t ≡ (4, [])) × Askable (length nodes) c × AllRight nodes × (NodeLong nodes ⊎ (longest_period < tree_period nodes c)))
    ⊎ ((t ≡ (0, [])) × Askable (length nodes) c × AllRight nodes)))

abbrev pub PeriodAnswer : List Node → ℕ → Result ℕ Refusal → Type 0
PeriodAnswer nodes c answer = MatchResult answer (Planned nodes c) (λ e. TreeRefused nodes c (told e))

-- what is answered is the least common multiple of the roots' periods, and so down the tree
abbrev pub PeriodLeast : List Node → ℕ → Result ℕ Refusal → Type 0
PeriodLeast nodes c answer = IfOk answer (LeastPeriod nodes c)
