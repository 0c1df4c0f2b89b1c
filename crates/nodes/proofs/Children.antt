-- The period of a node, from those of its children.
use Rattle.std.proofs.Common.{◌≡◌, ℕ, ◌+◌, ◌-◌, ◌*◌, ◌<◌, ◌≤◌, List, take, drop, subst, mul-le-mul_right, arith}
use Rattle.records.specs.declared.kinds.Inner.{Inner}
use Rattle.records.specs.declared.kinds.Node.{Node}
use Rattle.records.specs.declared.kinds.Node.TheVariants as node
use Rattle.numbers.specs.Computed.{lcm_of_all}
use Rattle.plans.specs.Periods.{longest_period}
use Rattle.nodes.specs.Finding.{ChildrenKnown, period_in}

pub some_children : (n : Node) (i : Inner) (ps : List ℕ) → n ≡ node.Inner i → ChildrenKnown n ps → 0 < i.degree
some_children n i ps is known = (subst (λ (x : Node). ChildrenKnown x ps) is known).0

-- a and b are the first child and the degree as the code has them
module _ (n : Node) (i : Inner) (ps : List ℕ) (is : n ≡ node.Inner i) (a b : ℕ) (first : a ≡ i.first_child) (degree : b ≡ i.degree) where
  cut : lcm_of_all (take (a + b - a) (drop a ps)) ≡ lcm_of_all (take i.degree (drop i.first_child ps))
  cut = let e : a + b - a ≡ i.degree = omega arith in rw (e, first)

  pub inner_period : (l d : ℕ) → l ≡ lcm_of_all (take (a + b - a) (drop a ps)) → d ≡ i.degree → d * l ≡ period_in n ps
  inner_period l d e f = rw (is, f, e, cut)

  pub inner_long : ChildrenKnown n ps → longest_period < lcm_of_all (take (a + b - a) (drop a ps)) → longest_period < period_in n ps
  inner_long known long =
      let l : ℕ = lcm_of_all (take i.degree (drop i.first_child ps)) in
      let more : 1 * l ≤ i.degree * l = mul-le-mul_right l (some_children n i ps is known) in
      rw is (omega (arith, more, long, cut))
