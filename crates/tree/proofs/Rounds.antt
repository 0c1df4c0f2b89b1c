-- After its period a node carries the same again.
use Rattle.std.proofs.Common.{◌≡◌, ℕ, zero, suc, ◌+◌, ◌-◌, ◌*◌, ◌/◌, ◌%◌, ◌^◌, ◌<◌, ◌≤◌, List, length, get_or, take, drop, sym, refl, ap, ◌∙◌, subst, inl, inr, mod-lt, mul_assoc, mul_comm, arith, le-ltb, ne_eqb}
use native.Mathlib.Nat.{add-mul-div_right, add-mul-mod_self_right, mod-add-div'}
use Rattle.std.proofs.lemmas.List.{get_or-take, get_or-drop, length-take-le, length-drop}
use Rattle.std.proofs.lemmas.Bool.{cases_lt}
use Rattle.records.specs.declared.kinds.Inner.{Inner}
use Rattle.records.specs.declared.kinds.Node.{Node}
use Rattle.records.specs.declared.kinds.Node.TheVariants as node
use Rattle.numbers.specs.Computed.{lcm_of_all}
use Rattle.numbers.specs.Divisors.{Divides, MultipleOfAll}
use Rattle.numbers.proofs.All.{multiple_at, lcm_of_all_is}
use Rattle.numbers.proofs.Dividing.{divides_times}
use Rattle.nodes.specs.Answers.{AllRight, Right, Planned}
use Rattle.nodes.specs.Finding.{period_in}
use Rattle.nodes.specs.Periods.{node_periods}
use Rattle.nodes.specs.Turns.{node_at, handed, carried, tree}
use Rattle.nodes.proofs.Known.{length_periods}
use Rattle.nodes.proofs.Least.{period_among}
use Rattle.tree.proofs.Steps.{carried_past, carried_at, hands_on}

-- a multiple of all of a part of a list is one of each, by the places in the whole
multiple_part : (xs : List ℕ) (a d m j : ℕ) → a + d ≤ length xs → j < d → MultipleOfAll (take d (drop a xs)) m → Divides (get_or xs (a + j) 0) m
multiple_part xs a d m j there low all =
    let room : d ≤ length (drop a xs) = simp length-drop (omega arith) in
    subst (λ (p : ℕ). Divides p m) (get_or-take d (drop a xs) j 0 low ∙ get_or-drop a xs j 0)
    (multiple_at (take d (drop a xs)) m j 0 (omega (arith, low, length-take-le d (drop a xs) room)) all)

module _ (nodes : List Node) (right : AllRight nodes) where
  abbrev pub period : ℕ → ℕ
  period x = get_or (node_periods nodes) x 0

  -- that a node carries the same after a multiple of its period
  abbrev Round : ℕ → Type 0
  Round x = (v q : ℕ) → Divides (period x) q → carried nodes x (v + q) ≡ carried nodes x v

  -- a turn so many turns of a child later goes to the same child
  handed_later : (i : Inner) (v m : ℕ) → 0 < i.degree → handed (carried nodes) i (v + m * i.degree) ≡ carried nodes (i.first_child + v % i.degree) (v / i.degree + m)
  handed_later i v m some =
      rw (add-mul-mod_self_right v m i.degree, add-mul-div_right v m some)

  -- a node does where those after it do
  round_at : (x : ℕ) → x < length nodes → ((y : ℕ) → x < y → Round y) → (n : Node) → node_at nodes x ≡ n → Right (length nodes) x n → Round x
  round_at x inside later (node.Leaf l) is r v q div = carried_at nodes x (v + q) _ is ∙ sym (carried_at nodes x v _ is)
  round_at x inside later (node.Inner i) is r v q div =
      let d : ℕ = i.degree in
      let l : ℕ = lcm_of_all (take i.degree (drop i.first_child (node_periods nodes))) in
      let m : ℕ = div.0 * l in
      let own : period x ≡ d * l = period_among nodes right x inside ∙ ap (λ (n : Node). period_in n (node_periods nodes)) is in
      let turns : q ≡ m * d = div.1 ∙ ap (λ (p : ℕ). div.0 * p) (own ∙ mul_comm d l) ∙ sym (mul_assoc div.0 l d) in
      let child : Divides (period (i.first_child + v % d)) l =
      multiple_part (node_periods nodes) i.first_child d l (v % d) (omega (arith, r.2, length_periods 0 nodes)) (mod-lt v {m = d} r.0) (lcm_of_all_is _).of_all in
      ap (λ (w : ℕ). carried nodes x (v + w)) turns
      ∙ hands_on nodes x (v + m * d) i is r.0 r.1
      ∙ handed_later i v m r.0
      ∙ later (i.first_child + v % d) (omega (arith, r.1)) (v / d) m (divides_times _ div.0 l child)
      ∙ sym (hands_on nodes x v i is r.0 r.1)

  round_past : (x : ℕ) → length nodes ≤ x → Round x
  round_past x h v q div = carried_past nodes (length nodes) x (v + q) h ∙ sym (carried_past nodes (length nodes) x v h)

  round_in : (steps x : ℕ) → length nodes ≤ x + steps → Round x
  round_in zero x h = round_past x (omega arith)
  round_in (suc steps) x h =
      elim (cases_lt x (length nodes)) [
        | inl inside ↦ round_at x inside (λ y after. round_in steps y (omega arith)) (node_at nodes x) refl (right x inside)
        | inr past ↦ round_past x past
      ]

  pub comes_round : (x v q : ℕ) → Divides (period x) q → carried nodes x (v + q) ≡ carried nodes x v
  comes_round x = round_in (length nodes) x (omega arith)

pub planned_round : (nodes : List Node) (c p : ℕ) → Planned nodes c p → (k t : ℕ) → 1 ≤ k → k ≤ c → (tree nodes c p).page k t ≡ carried nodes (k - 1) t % 2 ^ 16
planned_round nodes c p h k t low high =
    let roots = subst (λ (l : ℕ). MultipleOfAll (take c (node_periods nodes)) l) (sym h.period) (lcm_of_all_is (take c (node_periods nodes))).of_all in
    let own = multiple_part (node_periods nodes) 0 c p (k - 1) (omega (arith, h.askable.4, length_periods 0 nodes)) (omega arith) roots in
    let same : carried nodes (k - 1) (t % p + t / p * p) ≡ carried nodes (k - 1) (t % p) =
    comes_round nodes h.right (k - 1) (t % p) (t / p * p) (divides_times _ (t / p) p (subst (λ (x : ℕ). Divides (get_or (node_periods nodes) x 0) p) (omega arith) own)) in
    rw (ne_eqb p 0 (λ e. omega (arith, h.some)), ne_eqb k 0 (λ e. omega arith), le-ltb c k high)
    (ap (λ (x : ℕ). x % 2 ^ 16) (sym same ∙ ap (λ (w : ℕ). carried nodes (k - 1) w) (mod-add-div' t p)))
