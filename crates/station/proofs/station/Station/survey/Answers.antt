use Rattle.std.proofs.Common.{length, Ok, Err, subst, rules}
use Rattle.std.proofs.lemmas.Result.{err_from_is_err_and}
use Rattle.survey.specs.Surveys.{Surveys}
use Rattle.station.specs.States.{seen, not_passed}
use Rattle.station.proofs.Telling.{survey_told, survey_refused}
use Rattle.station.proofs.station.Station.survey.Goals as goal

pub returns-in-Open : goal.returns-in-Open
returns-in-Open g c = record { surveys_or_refuses = not_passed c.in-Open.is; scratch_zeroed = search rules }

pub returns-in_err-survey : goal.returns-in_err-survey
returns-in_err-survey g c =
    let M = g.T.Timetable.meaning c.args.self.now.table in
    let s = seen M c.args.self.now in
    let cells = length c.args.scratch.now in
    let e = c.in_err-survey.field-0.0 in
    let h = subst (λ X. Surveys X s.delay s.pages cells (Err e)) c.sent.ensures.airs_open_entries c.in_err-survey.ensures.surveys_or_refuses in
    let p = err_from_is_err_and c.from_residual.result c.from_residual.ensures.1 in
    record {
      surveys_or_refuses = rw (p.1, p.2) (survey_refused s cells c.in_default.not-Open e h);
      scratch_zeroed = search rules;
    }

pub returns : goal.returns
returns g c =
    let M = g.T.Timetable.meaning c.args.self.now.table in
    let s = seen M c.args.self.now in
    let cells = length c.args.scratch.now in
    let x = c.in_ok-survey.field-0 in
    let h = subst (λ X. Surveys X s.delay s.pages cells (Ok x)) c.sent.ensures.airs_open_entries c.in_ok-survey.ensures.surveys_or_refuses in
    record {
      surveys_or_refuses = survey_told s cells c.in_default.not-Open x.0 x.1 h;
      scratch_zeroed = search rules;
    }
