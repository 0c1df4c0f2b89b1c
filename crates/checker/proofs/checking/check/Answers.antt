use Rattle.std.proofs.Common.{◌≡◌, ℕ, ◌<◌, subst, arith}
use Rattle.std.proofs.lemmas.Result.{err_from_is_err_and}
use Rattle.checker.specs.Sweep.{known, Clean, Heard, Lowest}
use Rattle.checker.specs.Judged.{stray, starving, passed}
use Rattle.checker.proofs.Beginning.{judged_unready}
use Rattle.checker.proofs.Ending.{no_stray, no_starving, lowest_starves}
use Rattle.checker.proofs.checking.check.Goals as goal

pub returns-in_err-end-clause-judges : goal.returns-in_err-end-clause-judges
returns-in_err-end-clause-judges g c =
    let p = err_from_is_err_and c.from_residual.result c.from_residual.ensures.1 in
    rw (p.1, p.2) (judged_unready _ _ _ _ c.in_err-end.field-0.0 c.in_err-end.ensures.ready_or_not)

pub returns-in_err-sweep-clause-judges : goal.returns-in_err-sweep-clause-judges
returns-in_err-sweep-clause-judges g c =
    let ready = c.in_ok-end.ensures.ready_or_not in
    let p = err_from_is_err_and c.from_residual-in_err-sweep.result c.from_residual-in_err-sweep.ensures.1 in
    rw (p.1, p.2) (stray _ _ _ ready.in_range (omega arith) c.in_err-sweep.ensures.clean_or_stray)

pub returns-in-Some-clause-judges : goal.returns-in-Some-clause-judges
returns-in-Some-clause-judges g c =
    let X = g.T.Timetable.meaning c.args.table.now in
    let L = g.T.Timetable.lawful c.args.table.now in
    let m = c.args.delay in let n = c.args.pages in
    let xs = c.sweep.new.scratch in
    let f = c.in-Some.finding in
    let ready = c.in_ok-end.ensures.ready_or_not in
    let swept = c.in_ok-sweep.ensures.clean_or_stray in
    let ok = ready.in_range in
    starving _ _ ok (omega arith)
    (no_stray X L m n ok.period.0 ok.delay.0 ok.pages.0 (subst (λ p. Clean X n p 1) ready.ends swept.0))
    (lowest_starves X L m n xs ok.period.0 ok.delay.0 (subst (λ p. Heard X m n p 1 xs) ready.ends swept.1) _ _
    (subst (λ p. Lowest m n p xs f.page f.slot) ready.ends c.in-Some.ensures.lowest_or_none))

pub returns-clause-judges : goal.returns-clause-judges
returns-clause-judges g c =
    let X = g.T.Timetable.meaning c.args.table.now in
    let L = g.T.Timetable.lawful c.args.table.now in
    let m = c.args.delay in let n = c.args.pages in
    let xs = c.sweep.new.scratch in
    let ready = c.in_ok-end.ensures.ready_or_not in
    let swept = c.in_ok-sweep.ensures.clean_or_stray in
    let ok = ready.in_range in
    passed ok (omega arith) record {
      none_stray = no_stray X L m n ok.period.0 ok.delay.0 ok.pages.0 (subst (λ p. Clean X n p 1) ready.ends swept.0);
      none_starving = no_starving X L m n xs ok.period.0 ok.delay.0 (subst (λ p. Heard X m n p 1 xs) ready.ends swept.1)
          (subst (λ p. (j : ℕ) → j < n → known m n p xs j ≡ 0) ready.ends c.in-None.ensures.lowest_or_none);
    }
