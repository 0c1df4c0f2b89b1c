-- The number of each refusal of a survey, and the values that it tells.
use Rattle.std.specs.Prelude.{ℕ, List, []}
use Rattle.survey.specs.declared.refusal.SurveyRefusal.{SurveyRefusal}
use Rattle.survey.specs.declared.refusal.SurveyRefusal.TheVariants.{ShortScratch, LongPeriod}

abbrev pub told : SurveyRefusal → ℕ × List ℕ
told ShortScratch = (13, [])
told LongPeriod = (23, [])
