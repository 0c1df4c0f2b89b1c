use Rattle.report.specs.Reports.{Plain}
use Rattle.report.proofs.Faulty.{reported}
use Rattle.report.proofs.lines.report.Goals as goal

pub returns : goal.returns
returns c = record {
  reports = reported Plain c.args.bytes.now c.plan_lines.result c.or_fault_line.result c.plan_lines.ensures.tells_the_plan c.or_fault_line.ensures.lines_or_fault;
}
