-- The periods of the nodes, from the last to the first.
use Rattle.std.proofs.Common.{◌≡◌, ℕ, zero, suc, ◌+◌, ◌-◌, ◌*◌, ◌<◌, ◌≤◌, List, [], ◌∷◌, length, get_or, take, drop, set, sym, refl, ap, ◌∙◌, subst, add-zero, add-one, arith}
use Rattle.std.proofs.lemmas.List.Elements.{All-nil, All-cons, All-take, All-drop}
use Rattle.std.proofs.lemmas.List.{drop_all, drop-drop, drop_more, drop-set, get_or-drop}
use Rattle.records.specs.declared.kinds.Node.{Node}
use Rattle.records.specs.declared.kinds.Node.TheVariants as node
use Rattle.numbers.specs.Computed.{lcm_of_all}
use Rattle.plans.specs.Periods.{longest_period}
use Rattle.nodes.specs.Answers.{Right}
use Rattle.nodes.specs.Finding.{AllPeriods, ChildrenKnown, KnownFrom, period_in}
use Rattle.nodes.specs.Periods.{period_of, periods_from, node_periods}
use Rattle.nodes.specs.Turns.{node_at}
use Rattle.nodes.proofs.Together.{IsPeriod}

-- the periods from a later node on
pub periods_later : (x y : ℕ) (nodes : List Node) → drop x (periods_from y nodes) ≡ periods_from (y + x) (drop x nodes)
periods_later zero y nodes = ap (λ (z : ℕ). periods_from z nodes) (sym (add-zero y))
periods_later (suc x) y [] = refl
periods_later (suc x) y (n ∷ ns) =
    periods_later x (suc y) ns ∙ ap (λ (z : ℕ). periods_from z (drop x ns)) (omega arith)

pub length_periods : (y : ℕ) (nodes : List Node) → length (periods_from y nodes) ≡ length nodes
length_periods y [] = refl
length_periods y (n ∷ ns) = ap suc (length_periods (suc y) ns)

-- the periods from node x on begin with its own
periods_here : (nodes : List Node) (x : ℕ) → x < length nodes → periods_from x (drop x nodes) ≡ period_of x (node_at nodes x) (periods_from (x + 1) (drop (x + 1) nodes)) ∷ periods_from (x + 1) (drop (x + 1) nodes)
periods_here nodes x h =
    ap (λ (ns : List Node). periods_from x ns) (drop_more nodes x _ h)
    ∙ ap (λ (z : ℕ). period_of x (node_at nodes x) (periods_from z (drop (x + 1) nodes)) ∷ periods_from z (drop (x + 1) nodes)) (sym (add-one x))

pub period_at : (nodes : List Node) (x : ℕ) → x < length nodes → get_or (node_periods nodes) x 0 ≡ period_of x (node_at nodes x) (periods_from (x + 1) (drop (x + 1) nodes))
period_at nodes x h =
    ap (λ (z : ℕ). get_or (node_periods nodes) z 0) (sym (add-zero x))
    ∙ sym (get_or-drop x (node_periods nodes) 0 0)
    ∙ ap (λ (ps : List ℕ). get_or ps 0 0) (periods_later x 0 nodes ∙ ap (λ (z : ℕ). periods_from z (drop x nodes)) (omega arith) ∙ periods_here nodes x h)

-- the children of a right node stand in the list where they stand among the later nodes
later : (ps : List ℕ) (a x : ℕ) → x < a → drop (a - suc x) (drop (x + 1) ps) ≡ drop a ps
later ps a x h = drop-drop (a - suc x) (x + 1) ps ∙ ap (λ (z : ℕ). drop z ps) (omega arith)

pub period_in_is : (count x : ℕ) (n : Node) (ps : List ℕ) → Right count x n → period_in n ps ≡ period_of x n (drop (x + 1) ps)
period_in_is count x (node.Leaf l) ps right = refl
period_in_is count x (node.Inner i) ps right =
    ap (λ (cs : List ℕ). i.degree * lcm_of_all (take i.degree cs)) (sym (later ps i.first_child x right.1))

children_known : (x : ℕ) (n : Node) (ps : List ℕ) → Right (length ps) x n → AllPeriods (drop (x + 1) ps) → ChildrenKnown n ps
children_known x (node.Leaf l) ps right all = tt
children_known x (node.Inner i) ps right all = (
  right.0,
  right.2,
  All-take IsPeriod i.degree (drop i.first_child ps)
      (subst AllPeriods (later ps i.first_child x right.1) (All-drop IsPeriod (i.first_child - suc x) (drop (x + 1) ps) all)),
)

-- past the last node
pub known_none : (nodes : List Node) (ps : List ℕ) (x : ℕ) → length nodes ≤ x → length ps ≤ x → KnownFrom nodes ps x
known_none nodes ps x h i = record {
  known = rw (drop_all x nodes h, drop_all x ps i);
  periods = rw (drop_all x ps i) (All-nil IsPeriod);
}

-- node x, where the periods are known from the next node on
module _ (nodes : List Node) (ps : List ℕ) (x next : ℕ) (one_each : length ps ≡ length nodes) (inside : x < length nodes)
    (right : Right (length nodes) x (node_at nodes x)) (after : next ≡ x + 1) (from_next : KnownFrom nodes ps next) where
  known : KnownFrom nodes ps (x + 1)
  known = subst (λ (y : ℕ). KnownFrom nodes ps y) after from_next

  pub children_there : ChildrenKnown (node_at nodes x) ps
  children_there =
      children_known x (node_at nodes x) ps (subst (λ (n : ℕ). Right n x (node_at nodes x)) (sym one_each) right) known.periods

  pub period_here : period_in (node_at nodes x) ps ≡ get_or (node_periods nodes) x 0
  period_here =
      period_in_is (length nodes) x (node_at nodes x) ps right
      ∙ ap (λ (qs : List ℕ). period_of x (node_at nodes x) qs) known.known
      ∙ sym (period_at nodes x inside)

  -- one node more
  pub known_more : (p : ℕ) → (p ≡ period_in (node_at nodes x) ps) × (p ≤ longest_period) × (0 < p) → KnownFrom nodes (set ps x p) x
  known_more p h =
      let written : drop x (set ps x p) ≡ p ∷ drop (x + 1) ps = drop-set ps x p (omega (arith, one_each, inside)) in
      let own : p ≡ period_of x (node_at nodes x) (drop (x + 1) ps) = h.0 ∙ period_in_is (length nodes) x (node_at nodes x) ps right in
      record {
        known =
            written ∙ ap (λ (q : ℕ). q ∷ drop (x + 1) ps) own
            ∙ ap (λ (qs : List ℕ). period_of x (node_at nodes x) qs ∷ qs) known.known
            ∙ sym (periods_here nodes x inside);
        periods = rw written (All-cons IsPeriod p (drop (x + 1) ps) (h.2, h.1) known.periods);
      }
