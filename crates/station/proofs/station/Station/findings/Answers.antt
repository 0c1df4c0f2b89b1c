use Rattle.std.proofs.Common.{length, Ok, Err, subst}
use Rattle.std.proofs.lemmas.Result.{err_from_is_err_and}
use Rattle.checker.specs.Findings.{Finds}
use Rattle.station.specs.States.{seen}
use Rattle.station.proofs.Telling.{findings_told, findings_refused}
use Rattle.station.proofs.station.Station.findings.Goals as goal

pub returns-in_err-findings : goal.returns-in_err-findings
returns-in_err-findings g c =
    let M = g.T.Timetable.meaning c.args.self.now.table in
    let s = seen M c.args.self.now in
    let cells = length c.args.scratch.now in
    let e = c.in_err-findings.field-0.0 in
    let h = subst (λ X. Finds X s.delay s.pages cells (Err e) c.findings.new.bag) c.sent.ensures.airs_open_entries c.in_err-findings.ensures.finds in
    let p = err_from_is_err_and c.from_residual.result c.from_residual.ensures.1 in
    record {
      finds_or_refuses = rw (p.1, p.2) (findings_refused s cells c.args.bag.now c.findings.new.bag c.findings.ensures.same_memory e h);
      same_memory = c.findings.ensures.same_memory;
      scratch_zeroed = c.findings.ensures.scratch_zeroed;
    }

pub returns : goal.returns
returns g c =
    let M = g.T.Timetable.meaning c.args.self.now.table in
    let s = seen M c.args.self.now in
    let cells = length c.args.scratch.now in
    let count = c.in_ok-findings.field-0 in
    let h = subst (λ X. Finds X s.delay s.pages cells (Ok count) c.findings.new.bag) c.sent.ensures.airs_open_entries c.in_ok-findings.ensures.finds in
    record {
      finds_or_refuses = findings_told s cells c.args.bag.now c.findings.new.bag c.findings.ensures.same_memory count h;
      same_memory = c.findings.ensures.same_memory;
      scratch_zeroed = c.findings.ensures.scratch_zeroed;
    }
