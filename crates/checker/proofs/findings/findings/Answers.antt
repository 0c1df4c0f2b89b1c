use Rattle.std.proofs.Common.{◌<◌, length, sym, ◌∙◌, subst, arith}
use Rattle.std.specs.List.Sorted.{IsPermutation}
use Rattle.std.proofs.lemmas.List.Sorted.{length_permutation}
use Rattle.bag.specs.Bags.{held, room}
use Rattle.checker.specs.Sweep.{sweep_end, Heard, gathered}
use Rattle.checker.proofs.Beginning.{never_stray}
use Rattle.checker.proofs.Gathering.{gathered_findings}
use Rattle.checker.proofs.findings.findings.Goals as goal

pub returns-in-Ok-clause-finds : goal.returns-in-Ok-clause-finds
returns-in-Ok-clause-finds g c =
    let X = g.T.Timetable.meaning c.args.table.now in
    let L = g.T.Timetable.lawful c.args.table.now in
    let m = c.args.delay in let n = c.args.pages in
    let xs = c.sweep.new.scratch in
    let ready = c.in_ok-end.ensures.ready_or_not in
    let ok = ready.in_range in
    let all = subst (λ p. Heard X m n p 1 xs) ready.ends (never_stray X L _ _ c.sweep.result c.sweep.ensures.clean_or_stray) in
    let put = subst (λ p. IsPermutation (gathered m n p xs n) (held c.gather.new.bag)) ready.ends c.in-Ok.ensures.all_or_full in (
      ok,
      omega arith,
      record {
        findings = gathered m n (sweep_end X m n) xs n;
        exact = gathered_findings X L m n xs ok.period.0 ok.delay.0 all;
        gathered = put;
        counted = c.len.ensures.counts_held ∙ length_permutation _ _ put;
      },
    )

pub returns-clause-finds : goal.returns-clause-finds
returns-clause-finds g c =
    let X = g.T.Timetable.meaning c.args.table.now in
    let L = g.T.Timetable.lawful c.args.table.now in
    let m = c.args.delay in let n = c.args.pages in
    let xs = c.sweep.new.scratch in
    let ready = c.in_ok-end.ensures.ready_or_not in
    let ok = ready.in_range in
    let all = subst (λ p. Heard X m n p 1 xs) ready.ends (never_stray X L _ _ c.sweep.result c.sweep.ensures.clean_or_stray) in
    let few = subst (λ p. room c.gather.new.bag < length (gathered m n p xs n)) ready.ends c.in-Err.ensures.all_or_full in (
      ok,
      omega arith,
      (
        _,
        gathered_findings X L m n xs ok.period.0 ok.delay.0 all,
        subst (λ r. r < length (gathered m n (sweep_end X m n) xs n)) (sym c.clear-in-Err.ensures.same_memory.same_room) few,
      ),
      c.clear-in-Err.ensures.empty,
    )
