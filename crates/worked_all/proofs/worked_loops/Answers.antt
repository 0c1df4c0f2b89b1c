use Rattle.std.proofs.Common.{refl}
use Rattle.numbers.proofs.All.{lcm_of_all_is}
use Rattle.worked_all.proofs.Once.{judged_once}
use Rattle.worked_all.proofs.Seek.{verdict_judged}
use Rattle.worked_all.proofs.Surveying.{survey_computed, survey_once}
use Rattle.worked_all.proofs.worked_loops.Goals as goal

pub returns : goal.returns
returns c = record {
  loops_as_worked = refl;
  period_computed = lcm_of_all_is;
  check_computed = verdict_judged;
  check_has_one_answer = judged_once;
  survey_computed = survey_computed;
  survey_has_one_answer = survey_once;
  how_many = refl;
}
