use Rattle.std.proofs.Common.{rules}
use Rattle.judged.specs.Reports.{WithJudgement}
use Rattle.report.proofs.Faulty.{reported}
use Rattle.judged.proofs.lines.report.Goals as goal

pub returns : goal.returns
returns c = record {
  reports = reported WithJudgement c.args.bytes.now c.plan_lines.result c.or_else.result c.plan_lines.ensures.tells_the_plan (search rules);
}
