use Rattle.survey.proofs.Guarantee.{enough}
use Rattle.survey.proofs.survey.Goals as goal

pub returns-then-guard-from-clause-peak_is_enough : goal.returns-then-guard-from-clause-peak_is_enough
returns-then-guard-from-clause-peak_is_enough g c = enough

pub returns-then-period-gt-LONGEST-clause-peak_is_enough : goal.returns-then-period-gt-LONGEST-clause-peak_is_enough
returns-then-period-gt-LONGEST-clause-peak_is_enough g c = enough

pub returns-clause-peak_is_enough : goal.returns-clause-peak_is_enough
returns-clause-peak_is_enough g c = enough
