-- What a tree of nodes carries. The nodes are numbered from 0, and each has turns, counted from 0. A leaf carries its
-- page in all of them. An inner node of degree d hands its turns round to d nodes, its children: to the first the turns
-- 0, d, 2 * d and so on, which are the child's turns 0, 1, 2 and so on, and to the others those after.
use Rattle.std.specs.Prelude.{◌≡◌, ℕ, zero, suc, ◌+◌, ◌-◌, ◌/◌, ◌%◌, ◌<◌, ◌≤◌, cond, List, length, ◌==◌, nat_le, slice_index_or}
use Rattle.records.specs.declared.kinds.Inner.{Inner}
use Rattle.records.specs.declared.kinds.Leaf.{Leaf}
use Rattle.records.specs.declared.kinds.Node.{Node}
use Rattle.records.specs.declared.kinds.Node.TheVariants as node
use Rattle.timetable.specs.Meaning.{Meaning, Lawful, repeating, repeating_lawful}

-- the node with a number; one that is not there carries silence
abbrev pub node_at : List Node → ℕ → Node
node_at nodes x = slice_index_or nodes x (node.Leaf (record { page = 0 }))

-- what the child that has turn v of an inner node carries, where carries tells it of each node and turn
abbrev pub handed : (ℕ → ℕ → ℕ) → Inner → ℕ → ℕ
handed carries i v = carries (i.first_child + v % i.degree) (v / i.degree)

-- what node x carries in turn v: silence where it has no children or does not come before them
abbrev pub carried_by : (ℕ → ℕ → ℕ) → ℕ → ℕ → Node → ℕ
carried_by carries x v (node.Leaf l) = l.page
carried_by carries x v (node.Inner i) = cond (i.degree == 0) 0 (cond (nat_le i.first_child x) 0 (handed carries i v))

-- the same, with at most so many nodes on the way
abbrev pub carried_in : ℕ → List Node → ℕ → ℕ → ℕ
carried_in zero nodes x v = 0
carried_in (suc steps) nodes x v = carried_by (carried_in steps nodes) x v (node_at nodes x)

-- a turn goes to nodes with higher and higher numbers, so that there are enough of them
abbrev pub carried : List Node → ℕ → ℕ → ℕ
carried nodes x v = carried_in (length nodes) nodes x v

-- channel k begins at node k - 1, whose turns are the slots of the period
abbrev pub tree_page : List Node → ℕ → ℕ → ℕ
tree_page nodes k u = carried nodes (k - 1) u

-- the timetable of c channels and period p
abbrev pub tree : List Node → ℕ → ℕ → Meaning
tree nodes c p = repeating c p (tree_page nodes)

pub tree_lawful : (nodes : List Node) (c p : ℕ) → Lawful (tree nodes c p)
tree_lawful nodes c p = repeating_lawful c p (tree_page nodes)

-- the same without a number of steps: each node answers or hands on
pub record HandsTurnsOn (nodes : List Node) (carries : ℕ → ℕ → ℕ) : Type 0 where
  pub absent_silent : (x v : ℕ) → length nodes ≤ x → carries x v ≡ 0
  pub leaf_answers : (x v : ℕ) (l : Leaf) → node_at nodes x ≡ node.Leaf l → carries x v ≡ l.page
  pub childless_silent : (x v : ℕ) (i : Inner) → node_at nodes x ≡ node.Inner i → i.degree ≡ 0 → carries x v ≡ 0
  pub backward_silent : (x v : ℕ) (i : Inner) → node_at nodes x ≡ node.Inner i → i.first_child ≤ x → carries x v ≡ 0
  pub child_answers : (x v : ℕ) (i : Inner) → node_at nodes x ≡ node.Inner i → 0 < i.degree → x < i.first_child →
      carries x v ≡ carries (i.first_child + v % i.degree) (v / i.degree)
