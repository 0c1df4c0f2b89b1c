-- Trees worked through.
use Rattle.std.proofs.Common.{◌≡◌, ℕ, List, [], ◌∷◌, map, refl}
use Rattle.std.specs.List.{range_with_len}
use Rattle.records.specs.declared.kinds.Node.{Node}
use Rattle.records.specs.declared.kinds.Node.TheVariants as node
use Rattle.nodes.specs.Periods.{node_periods, tree_period}
use Rattle.nodes.specs.Turns.{tree}

abbrev leaf : ℕ → Node
leaf p = node.Leaf (record { page = p })

abbrev inner : ℕ → ℕ → Node
inner a d = node.Inner (record { first_child = a; degree = d })

-- a root whose second child is an inner node
abbrev twice : List Node
twice = inner 1 2 ∷ leaf 1 ∷ inner 3 2 ∷ leaf 2 ∷ leaf 3 ∷ []

twice_periods : node_periods twice ≡ 4 ∷ 1 ∷ 2 ∷ 1 ∷ 1 ∷ []
twice_periods = refl

twice_pages : map ((tree twice 1 4).page 1) (range_with_len 0 8) ≡ 1 ∷ 2 ∷ 1 ∷ 3 ∷ 1 ∷ 2 ∷ 1 ∷ 3 ∷ []
twice_pages = refl

-- two roots of which both have the last node for a child
abbrev shared : List Node
shared = inner 2 3 ∷ inner 4 2 ∷ leaf 5 ∷ leaf 6 ∷ leaf 7 ∷ leaf 8 ∷ []

shared_period : tree_period shared 2 ≡ 6
shared_period = refl

shared_pages : map ((tree shared 2 6).page 2) (range_with_len 0 6) ≡ 7 ∷ 8 ∷ 7 ∷ 8 ∷ 7 ∷ 8 ∷ []
shared_pages = refl

-- a node that comes after its children carries silence, and so does one that is not there
abbrev backwards : List Node
backwards = inner 1 3 ∷ inner 0 1 ∷ leaf 9 ∷ []

backwards_pages : map ((tree backwards 1 3).page 1) (range_with_len 0 3) ≡ 0 ∷ 9 ∷ 0 ∷ []
backwards_pages = refl
