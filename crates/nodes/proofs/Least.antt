-- What is computed as the period of a tree is what its name says.
use Rattle.std.proofs.Common.{◌≡◌, ℕ, ◌+◌, ◌<◌, List, length, get_or, take, drop, Ok, Err, Result, sym, ap, ◌∙◌, subst, arith}
use Rattle.records.specs.declared.kinds.Node.{Node}
use Rattle.numbers.specs.Computed.{lcm_of_all}
use Rattle.numbers.specs.Divisors.{LeastCommonMultipleOfAll}
use Rattle.numbers.proofs.All.{lcm_of_all_is}
use Rattle.plans.specs.declared.refusal.Refusal.{Refusal}
use Rattle.nodes.specs.Answers.{AllRight, Planned, PeriodAnswer, PeriodLeast}
use Rattle.nodes.specs.Finding.{period_in}
use Rattle.nodes.specs.Periods.{PeriodsOf, LeastPeriod, period_of, periods_from, node_periods}
use Rattle.nodes.specs.Turns.{node_at}
use Rattle.nodes.proofs.Known.{periods_later, length_periods, period_at, period_in_is}

module _ (nodes : List Node) (right : AllRight nodes) where
  -- a node's period, from those of all nodes
  pub period_among : (x : ℕ) → x < length nodes → get_or (node_periods nodes) x 0 ≡ period_in (node_at nodes x) (node_periods nodes)
  period_among x h =
      period_at nodes x h
      ∙ ap (λ (qs : List ℕ). period_of x (node_at nodes x) qs) (sym (periods_later (x + 1) 0 nodes ∙ ap (λ (z : ℕ). periods_from z (drop (x + 1) nodes)) (omega arith)))
      ∙ sym (period_in_is (length nodes) x (node_at nodes x) (node_periods nodes) (right x h))

  pub periods_of : PeriodsOf nodes (node_periods nodes)
  periods_of = record {
    one_each = length_periods 0 nodes;
    of_leaf = λ x l h e. period_among x h ∙ ap (λ (n : Node). period_in n (node_periods nodes)) e;
    of_inner = λ x i h e. (
      lcm_of_all (take i.degree (drop i.first_child (node_periods nodes))),
      lcm_of_all_is _,
      period_among x h ∙ ap (λ (n : Node). period_in n (node_periods nodes)) e,
    );
  }

least_period : (nodes : List Node) (c p : ℕ) → Planned nodes c p → LeastPeriod nodes c p
least_period nodes c p h = (
  node_periods nodes,
  periods_of nodes h.right,
  subst (λ (l : ℕ). LeastCommonMultipleOfAll (take c (node_periods nodes)) l) (sym h.period) (lcm_of_all_is (take c (node_periods nodes))),
)

pub answer_least : (nodes : List Node) (c : ℕ) (answer : Result ℕ Refusal) → PeriodAnswer nodes c answer → PeriodLeast nodes c answer
answer_least nodes c (Ok p) h = least_period nodes c p h
answer_least nodes c (Err e) h = tt
