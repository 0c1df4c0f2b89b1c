use Rattle.format.proofs.Unique.{only}
use Rattle.planfile.proofs.reader.read_plan.Goals as goal

pub returns : goal.returns
returns c = record {
  answers = c.parse_plan.ensures.answers;
  no_other_answer = λ s a. only c.args.bytes.now c.parse_plan.result s c.parse_plan.ensures.answers a;
}
