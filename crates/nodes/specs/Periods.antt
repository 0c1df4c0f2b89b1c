-- The period of a tree: a leaf has 1, an inner node of degree d has d times the least common multiple of its children's,
-- and the tree has the least common multiple of those of its roots.
use Rattle.std.specs.Prelude.{◌≡◌, ℕ, suc, ◌-◌, ◌*◌, ◌<◌, List, [], ◌∷◌, length, take, drop, slice_index}
use Rattle.records.specs.declared.kinds.Inner.{Inner}
use Rattle.records.specs.declared.kinds.Leaf.{Leaf}
use Rattle.records.specs.declared.kinds.Node.{Node}
use Rattle.records.specs.declared.kinds.Node.TheVariants as node
use Rattle.numbers.specs.Computed.{lcm_of_all}
use Rattle.numbers.specs.Divisors.{LeastCommonMultipleOfAll}
use Rattle.nodes.specs.Turns.{node_at}

-- the period of node x, from the periods of the nodes after it, of which the first is that of node x + 1
abbrev pub period_of : ℕ → Node → List ℕ → ℕ
period_of x (node.Leaf l) later = 1
period_of x (node.Inner i) later = i.degree * lcm_of_all (take i.degree (drop (i.first_child - suc x) later))

abbrev pub with_period : ℕ → Node → List ℕ → List ℕ
with_period x n later = period_of x n later ∷ later

-- the periods of some nodes, of which the first is node x
abbrev pub periods_from : ℕ → List Node → List ℕ
periods_from x [] = []
periods_from x (n ∷ ns) = with_period x n (periods_from (suc x) ns)

-- the period of each node
abbrev pub node_periods : List Node → List ℕ
node_periods nodes = periods_from 0 nodes

-- the period of the tree whose roots are the first c nodes
abbrev pub tree_period : List Node → ℕ → ℕ
tree_period nodes c = lcm_of_all (take c (node_periods nodes))

-- ps are the periods of the nodes, each by what it is to those of its children
pub record PeriodsOf (nodes : List Node) (ps : List ℕ) : Type 0 where
  pub one_each : length ps ≡ length nodes
  pub of_leaf : (x : ℕ) (l : Leaf) → x < length nodes → node_at nodes x ≡ node.Leaf l → slice_index ps x ≡ 1
  pub of_inner : (x : ℕ) (i : Inner) → x < length nodes → node_at nodes x ≡ node.Inner i →
      (l : ℕ) × LeastCommonMultipleOfAll (take i.degree (drop i.first_child ps)) l × (slice_index ps x ≡ i.degree * l)

-- p is the period of the tree whose roots are the first c nodes
abbrev pub LeastPeriod : List Node → ℕ → ℕ → Type 0
LeastPeriod nodes c p = (ps : List ℕ) × PeriodsOf nodes ps × LeastCommonMultipleOfAll (take c ps) p
