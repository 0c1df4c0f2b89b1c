use Rattle.std.proofs.Common.{IfOk, vec_items, ap, ◌∙◌}
use Rattle.std.proofs.lemmas.Result.{IfOk-weaker}
use Rattle.runs.specs.Rehearsals.{told_of}
use Rattle.judging.specs.Telling.{Tells, all_lines}
use Rattle.judging.proofs.Deciding.{tells_judges}
use Rattle.judging.proofs.judge.judge.Goals as goal

pub returns : goal.returns
returns g c =
    let M = g.T.Timetable.meaning c.args.table in
    let m = c.args.delay in let n = c.args.pages in let es = c.args.closures.now in
    let tells : IfOk c.lines_of.result (λ v. Tells M m n es (vec_items v)) =
    IfOk-weaker c.lines_of.result _ (λ v. Tells M m n es (vec_items v)) (λ v e. record {
      script = c.in_ok-script.script;
      viewer = record { tick = 0; capacity = n };
      store = c.as_mut_slice.result.now;
      store_after = c.rehearse.new.store;
      rehearsal = c.in_ok-rehearsal.rehearsal;
      scripted = c.in_ok-script.ensures.judging_calls;
      rehearsed = c.in_ok-rehearsal.ensures.guarantee;
      lines = e ∙ ap (λ rs. all_lines (told_of rs)) c.as_slice.ensures.value;
    }) c.lines_of.ensures.says_all in
    record {
      tells_the_run = tells;
      judges = IfOk-weaker c.lines_of.result _ _ (λ v h. tells_judges M m n es (vec_items v) h) tells;
    }
