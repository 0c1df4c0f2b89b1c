-- What the steps on the way to the period of a tree answer.
use Rattle.std.specs.Prelude.{◌≡◌, ℕ, ◌+◌, ◌*◌, ◌<◌, ◌≤◌, ◌⊎◌, List, [], length, take, drop, vec_items, vec_len, All, Option, Result, MatchResult}
use Rattle.std.specs.Option as options
use Rattle.std.specs.Global.{Vec}
use Rattle.records.specs.declared.kinds.Node.{Node}
use Rattle.records.specs.declared.kinds.Node.TheVariants as node
use Rattle.numbers.specs.Computed.{lcm_of_all}
use Rattle.plans.specs.Periods.{longest_period}
use Rattle.plans.specs.Refusals.{told}
use Rattle.plans.specs.declared.refusal.Refusal.{Refusal}
use Rattle.nodes.specs.Answers.{AllRight, FirstWrong, NodeLong}
use Rattle.nodes.specs.Periods.{periods_from, node_periods}

-- a number, or none where it is too long for a period
abbrev pub Within : ℕ → Option ℕ → Type 0
Within n answer = options.MatchOption answer (longest_period < n) (λ p. (p ≡ n) × (p ≤ longest_period) × (0 < p))

-- the lowest node that is not right, or none where all are
abbrev pub WrongAnswer : List Node → Option ℕ → Type 0
WrongAnswer nodes answer = options.MatchOption answer (AllRight nodes) (FirstWrong nodes)

-- numbers that are periods
abbrev pub AllPeriods : List ℕ → Type 0
AllPeriods ps = All (λ p. (0 < p) × (p ≤ longest_period)) ps

-- the periods of a node's children stand in a list that has a place for each node
abbrev pub ChildrenKnown : Node → List ℕ → Type 0
ChildrenKnown (node.Leaf l) ps = Unit {0}
ChildrenKnown (node.Inner i) ps =
    (0 < i.degree) × (i.first_child + i.degree ≤ length ps) × AllPeriods (take i.degree (drop i.first_child ps))

-- the period of a node, from such a list
abbrev pub period_in : Node → List ℕ → ℕ
period_in (node.Leaf l) ps = 1
period_in (node.Inner i) ps = i.degree * lcm_of_all (take i.degree (drop i.first_child ps))

-- from node x on, the list has the nodes' periods
pub record KnownFrom (nodes : List Node) (ps : List ℕ) (x : ℕ) : Type 0 where
  pub known : drop x ps ≡ periods_from x (drop x nodes)
  pub periods : AllPeriods (drop x ps)

-- the period of each node, or that one is too long, or that there is no memory
abbrev pub PeriodsAnswer : List Node → Result (Vec ℕ) Refusal → Type 0
PeriodsAnswer nodes answer =
    MatchResult answer (λ ps. (vec_items ps ≡ node_periods nodes) × (vec_len ps ≡ length nodes) × AllPeriods (vec_items ps))
    (λ e. ((told e ≡ (4, [])) × NodeLong nodes) ⊎ (told e ≡ (0, [])))
