-- What a node carries, from what the nodes after it do.
use Rattle.std.proofs.Common.{◌≡◌, ℕ, zero, suc, ◌+◌, ◌/◌, ◌%◌, ◌<◌, ◌≤◌, Bool, true, false, cond, eqb, leb, List, length, sym, refl, ap, ◌∙◌, arith, eq-eqb, ne_eqb}
use Rattle.std.proofs.lemmas.List.{get_or_past}
use Rattle.std.proofs.lemmas.Bool.{cond_both, leb-false, le-leb, lt-leb}
use Rattle.records.specs.declared.kinds.Inner.{Inner}
use Rattle.records.specs.declared.kinds.Node.{Node}
use Rattle.records.specs.declared.kinds.Node.TheVariants as node
use Rattle.nodes.specs.Turns.{HandsTurnsOn, node_at, handed, carried_by, carried_in, carried}

same_cond : (b : Bool) (x y z : ℕ) → (b ≡ false → y ≡ z) → cond b x y ≡ cond b x z
same_cond true x y z h = refl
same_cond false x y z h = h refl

-- only the nodes after x matter to it
pub carried_by_same : (f g : ℕ → ℕ → ℕ) (x v : ℕ) (n : Node) → ((y w : ℕ) → x < y → f y w ≡ g y w) → carried_by f x v n ≡ carried_by g x v n
carried_by_same f g x v (node.Leaf l) h = refl
carried_by_same f g x v (node.Inner i) h =
    same_cond (eqb i.degree 0) 0 _ _ (λ _.
    same_cond (leb i.first_child x) 0 _ _ (λ after.
    h (i.first_child + v % i.degree) (v / i.degree) (omega (arith, leb-false i.first_child x after))))

-- a node that is not there carries silence
pub carried_past : (nodes : List Node) (s x v : ℕ) → length nodes ≤ x → carried_in s nodes x v ≡ 0
carried_past nodes zero x v h = refl
carried_past nodes (suc s) x v h = ap (λ (n : Node). carried_by (carried_in s nodes) x v n) (get_or_past nodes x _ h)

-- where there are steps enough, their number does not matter
pub steps_enough : (nodes : List Node) (s t x v : ℕ) → length nodes ≤ x + s → length nodes ≤ x + t → carried_in s nodes x v ≡ carried_in t nodes x v
steps_enough nodes zero t x v h i = sym (carried_past nodes t x v (omega arith))
steps_enough nodes (suc s) zero x v h i = carried_past nodes (suc s) x v (omega arith)
steps_enough nodes (suc s) (suc t) x v h i =
    carried_by_same _ _ x v (node_at nodes x) (λ y w after. steps_enough nodes s t y w (omega arith) (omega arith))

-- so each node carries what those after it hand back
pub carried_step : (nodes : List Node) (x v : ℕ) → carried nodes x v ≡ carried_by (carried nodes) x v (node_at nodes x)
carried_step nodes x v = steps_enough nodes (length nodes) (suc (length nodes)) x v (omega arith) (omega arith)

pub carried_at : (nodes : List Node) (x v : ℕ) (n : Node) → node_at nodes x ≡ n → carried nodes x v ≡ carried_by (carried nodes) x v n
carried_at nodes x v n e = carried_step nodes x v ∙ ap (λ (y : Node). carried_by (carried nodes) x v y) e

module _ (nodes : List Node) (x v : ℕ) (i : Inner) (is : node_at nodes x ≡ node.Inner i) where
  pub no_children : i.degree ≡ 0 → carried nodes x v ≡ 0
  no_children none = carried_at nodes x v _ is ∙ rw (eq-eqb i.degree 0 none)

  pub not_before : i.first_child ≤ x → carried nodes x v ≡ 0
  not_before low =
      carried_at nodes x v _ is
      ∙ rw (le-leb i.first_child x low) (cond_both (eqb i.degree 0) 0 0 (λ y. y ≡ 0) (λ _. refl) (λ _. refl))

  pub hands_on : 0 < i.degree → x < i.first_child → carried nodes x v ≡ handed (carried nodes) i v
  hands_on some after =
      carried_at nodes x v _ is ∙ rw (ne_eqb i.degree 0 (λ e. omega arith), lt-leb i.first_child x after)

pub hands_turns_on : (nodes : List Node) → HandsTurnsOn nodes (carried nodes)
hands_turns_on nodes = record {
  absent_silent = λ x v h. carried_past nodes (length nodes) x v h;
  leaf_answers = λ x v l is. carried_at nodes x v (node.Leaf l) is;
  childless_silent = λ x v i is none. no_children nodes x v i is none;
  backward_silent = λ x v i is low. not_before nodes x v i is low;
  child_answers = λ x v i is some after. hands_on nodes x v i is some after;
}
