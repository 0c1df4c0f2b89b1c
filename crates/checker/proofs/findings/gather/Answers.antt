use Rattle.std.proofs.Common.{◌≡◌, length, sym, ap, subst, ◌∙◌, arith, rules}
use Rattle.std.specs.List.Sorted.{IsPermutation}
use Rattle.std.specs.Iterator.Adapters.{filter_map_source, filter_map_callee}
use Rattle.std.proofs.lemmas.Iterator.{YieldsList-from_range}
use Rattle.std.proofs.lemmas.Iterator.Consumers.{YieldsList-from_filter_map, YieldsList-turn, YieldsList-end}
use Rattle.std.proofs.lemmas.List.{map-id}
use Rattle.std.proofs.lemmas.List.Sorted.{IsPermutation-cons, IsPermutation-trans, IsPermutation-to_front, length_permutation}
use Rattle.records.proofs.Exits.{exit}
use Rattle.bag.specs.Bags.{held}
use Rattle.bag.proofs.Memory.{same_memory_trans}
use Rattle.checker.specs.Sweep.{gathered}
use Rattle.checker.proofs.Gathering.{told_at, telling_is, told_gathered}
use Rattle.checker.proofs.findings.gather.Goals as goal

pub loop-finding-preserved : goal.loop-finding-preserved
loop-finding-preserved c = (
  IsPermutation-trans _ _ _ (IsPermutation-to_front c.loop-finding.yielded c.in-Some.finding) (IsPermutation-trans _ _ _ (IsPermutation-cons c.in-Some.finding _ _ c.loop-finding.invariant.0) c.in_ok-put.ensures.held_or_full.one_more),
  same_memory_trans c.args.bag.now c.loop-finding.bag c.put.new.self c.loop-finding.invariant.1 c.put.ensures.same_memory,
)

pub returns-in_err-put-clause-all_or_full : goal.returns-in_err-put-clause-all_or_full
returns-in_err-put-clause-all_or_full c =
    let m = c.args.swept.now.film.delay in
    let n = c.args.swept.now.film.pages in
    let xs = c.args.swept.now.cells.now in
    let source = ap filter_map_source c.into_iter-finding-iterator.ensures.into_iter_gives ∙ c.filter_map-finding-items.ensures.source in
    let closure = ap filter_map_callee c.into_iter-finding-iterator.ensures.into_iter_gives ∙ c.filter_map-finding-items.ensures.closure in
    let t = YieldsList-turn (YieldsList-from_filter_map _ (told_at m n c.args.swept.now.end xs) (YieldsList-from_range 0 n n source (omega arith)) closure
    (λ x r q k. (search rules, telling_is _ _ _ (search rules)))) c.loop-finding.yielded _ c.loop-finding.yielded_by _ _ c.in-Some.finding c.in-Some.is c.next.ensures.steps in
    exit _ _ c.from_residual.result c.in_err-put.field-0.0 c.from_residual.ensures.1
    (omega (arith, t.0, length_permutation _ _ c.loop-finding.invariant.0, ap length (told_gathered m n c.args.swept.now.end xs n), c.in_err-put.ensures.held_or_full.1, c.put.ensures.same_memory.same_room))

pub returns-clause-all_or_full : goal.returns-clause-all_or_full
returns-clause-all_or_full c =
    let m = c.args.swept.now.film.delay in
    let n = c.args.swept.now.film.pages in
    let xs = c.args.swept.now.cells.now in
    let source = ap filter_map_source c.into_iter-finding-iterator.ensures.into_iter_gives ∙ c.filter_map-finding-items.ensures.source in
    let closure = ap filter_map_callee c.into_iter-finding-iterator.ensures.into_iter_gives ∙ c.filter_map-finding-items.ensures.closure in
    let t = YieldsList-end (YieldsList-from_filter_map _ (told_at m n c.args.swept.now.end xs) (YieldsList-from_range 0 n n source (omega arith)) closure
    (λ x r q k. (search rules, telling_is _ _ _ (search rules)))) c.loop-finding.yielded _ c.loop-finding.yielded_by _ _ c.in-None.is c.next.ensures.steps in
    let all : c.loop-finding.yielded ≡ gathered m n c.args.swept.now.end xs n = sym (map-id c.loop-finding.yielded) ∙ t.0 ∙ told_gathered m n c.args.swept.now.end xs n in
    subst (λ fs. IsPermutation fs (held c.loop-finding.bag)) all c.loop-finding.invariant.0
