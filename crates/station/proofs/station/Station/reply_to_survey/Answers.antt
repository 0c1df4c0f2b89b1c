use Rattle.std.proofs.Common.{length, vec_items, sym, refl, subst}
use Rattle.station.specs.States.{seen, SurveyTold, by_survey}
use Rattle.station.proofs.Replies.{zeroed_cells}
use Rattle.station.proofs.station.Station.reply_to_survey.Goals as goal

pub returns : goal.returns
returns g c =
    let s = seen (g.T.Timetable.meaning c.args.self.now.table) c.args.self.now in
    let v = c.args.scratch in
    record {
      does = record {
        steps = (
          subst (λ a. SurveyTold s (length (vec_items v)) a) (sym c.survey_answer.ensures.tells_result)
              (subst (λ xs. SurveyTold s (length xs) (by_survey c.survey-result.result)) c.as_mut_slice.ensures.value c.survey-result.ensures.surveys_or_refuses),
          refl,
        );
        leaves = (zeroed_cells v c.as_mut_slice.result.now c.survey-result.new.scratch c.as_mut_slice.ensures.value c.as_mut_slice.ensures.len c.survey-result.ensures.scratch_zeroed, c.new.ensures.items);
      };
    }
