use Rattle.std.proofs.Common.{vec_items, rules}
use Rattle.std.proofs.lemmas.Result.{MatchResult-weaker}
use Rattle.std.specs.declared.alloc.AllocError.{AllocError}
use Rattle.bag.specs.Bags.{held}
use Rattle.checker.proofs.Sorting.{taken_in_order}
use Rattle.station.proofs.Replies.{found_as}
use Rattle.station.proofs.station.performing.findings_answer.Goals as goal

pub returns : goal.returns
returns c =
    let v = c.in_ok-findings.findings in
    let drained = c.in_ok-findings.ensures.all_in_order in
    record {
      tells_result = found_as AllocError c.args.res c.args.bag.now v c.map.result (λ xs up out. taken_in_order 0 xs (held c.args.bag.now) (vec_items v) up out drained.0 drained.1)
          (MatchResult-weaker c.args.res c.map.ensures.cases (λ x p. search (rules, p)) (λ e q. q));
    }
