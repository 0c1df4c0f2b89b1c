use Rattle.std.proofs.Common.{◌≡◌, ℕ, ◌+◌, ◌<◌, ◌≤◌, List, [], ◌∷◌, ◌++◌, length, take, set, Some, sym, ap, ◌∙◌, subst, rules, arith}
use Rattle.std.proofs.lemmas.List.{length_push, same_from_push, take_all, take_more}
use Rattle.records.specs.declared.kinds.Node.{Node}
use Rattle.plans.specs.Periods.{longest_period}
use Rattle.nodes.specs.Finding.{ChildrenKnown, KnownFrom, Within, period_in}
use Rattle.nodes.specs.Turns.{node_at}
use Rattle.nodes.proofs.Known.{known_none, children_there, period_here, known_more}
use Rattle.nodes.proofs.period.fill_periods.Goals as goal

-- the node that comes next, from the end, is the last of those that are left
module _ (nodes left rest : List Node) (n : Node) (x : ℕ) (last : left ≡ rest ++ (n ∷ [])) (front : left ≡ take (length left) nodes)
    (within : length left ≤ length nodes) (number : x ≡ length rest) where
  one_less : length left ≡ length rest + 1
  one_less = ap length last ∙ length_push rest n

  split : (rest ≡ take (length rest) nodes) × (n ≡ node_at nodes (length rest))
  split =
      same_from_push rest (take (length rest) nodes) n (node_at nodes (length rest))
      (sym last ∙ front ∙ ap (λ (i : ℕ). take i nodes) one_less ∙ take_more nodes (length rest) _ (omega (arith, within, one_less)))

  is_node : node_at nodes x ≡ n
  is_node = ap (node_at nodes) number ∙ sym split.1

pub loop-number-init : goal.loop-number-init
loop-number-init c =
    let it = c.into_iter-number-iterator.result.iter in
    let same : it ≡ c.enumerate.result = search rules in
    let all : it.iter.rest.now ≡ c.args.nodes.now = search rules in
    let many : length it.iter.rest.now ≡ length c.args.nodes.now = ap length all in
    record {
      from_first = search rules;
      within = omega (arith, many);
      left = all ∙ sym (take_all (length it.iter.rest.now) c.args.nodes.now (omega (arith, many)));
      known = known_none _ _ _ (omega (arith, many)) (omega (arith, many));
    }

pub period_of-requires : goal.period_of-requires
period_of-requires c =
    let nodes = c.args.nodes.now in
    let ps = c.loop-number.periods in
    let i = c.loop-number.invariant in
    let s = c.in-Some.ensures.steps in
    let x : ℕ = c.in-Some.number in
    let left = c.loop-number.number-iterator.iter.iter.rest.now in
    let less = one_less nodes left c.next.new.self.iter.iter.rest.now c.in-Some.node.now x s.1.0 i.left i.within (omega (arith, s.1.1, i.from_first)) in
    record {
      children_known =
          subst (λ (n : Node). ChildrenKnown n ps) (is_node nodes left c.next.new.self.iter.iter.rest.now c.in-Some.node.now x s.1.0 i.left i.within (omega (arith, s.1.1, i.from_first)))
          (children_there nodes ps x (length left) (omega arith) (omega (arith, less, s.1.1, i.from_first, i.within)) (c.requires.all_right x (omega (arith, less, s.1.1, i.from_first, i.within))) (omega (arith, less, s.1.1, i.from_first)) i.known);
    }

pub returns-in_err-periods : goal.returns-in_err-periods
returns-in_err-periods c =
    let nodes = c.args.nodes.now in
    let ps = c.loop-number.periods in
    let i = c.loop-number.invariant in
    let s = c.in-Some.ensures.steps in
    let x : ℕ = c.in-Some.number in
    let left = c.loop-number.number-iterator.iter.iter.rest.now in
    let less = one_less nodes left c.next.new.self.iter.iter.rest.now c.in-Some.node.now x s.1.0 i.left i.within (omega (arith, s.1.1, i.from_first)) in
    let is = is_node nodes left c.next.new.self.iter.iter.rest.now c.in-Some.node.now x s.1.0 i.left i.within (omega (arith, s.1.1, i.from_first)) in
    let inside : x < length nodes = omega (arith, less, s.1.1, i.from_first, i.within) in
    let here = period_here nodes ps x (length left) (omega arith) inside (c.requires.all_right x inside) (omega (arith, less, s.1.1, i.from_first)) i.known in
    record {
      filled = rw c.from_residual.ensures (x, inside, subst (λ (p : ℕ). longest_period < p) (ap (λ (n : Node). period_in n ps) (sym is) ∙ here) c.in_err-periods.ensures.own_period);
    }

pub loop-number-preserved : goal.loop-number-preserved
loop-number-preserved c =
    let nodes = c.args.nodes.now in
    let ps = c.loop-number.periods in
    let i = c.loop-number.invariant in
    let s = c.in-Some.ensures.steps in
    let x : ℕ = c.in-Some.number in
    let p : ℕ = c.in_ok-periods.field-0 in
    let left = c.loop-number.number-iterator.iter.iter.rest.now in
    let rest = c.next.new.self.iter.iter.rest.now in
    let number : x ≡ length rest = omega (arith, s.1.1, i.from_first) in
    let less = one_less nodes left rest c.in-Some.node.now x s.1.0 i.left i.within number in
    let is = is_node nodes left rest c.in-Some.node.now x s.1.0 i.left i.within number in
    let inside : x < length nodes = omega (arith, less, number, i.within) in
    record {
      from_first = s.0 ∙ i.from_first;
      within = omega (arith, less, i.within);
      left = (split nodes left rest c.in-Some.node.now x s.1.0 i.left i.within number).0;
      known =
          subst (λ (y : ℕ). KnownFrom nodes (set ps x p) y) number
          (known_more nodes ps x (length left) (omega arith) inside (c.requires.all_right x inside) (omega (arith, less, number)) i.known p
          (subst (λ (n : Node). Within (period_in n ps) (Some p)) (sym is) c.in_ok-periods.ensures.own_period));
    }
