use Rattle.std.proofs.Common.{◌≡◌, cond, ◌++◌, map, vec_items, ap, ◌∙◌}
use Rattle.feeding.specs.Feeding.{fed, left}
use Rattle.guarantee.proofs.Theorem.{runs_serve}
use Rattle.guarantee.specs.Spells.{lines_from}
use Rattle.station.specs.States.{seen}
use Rattle.runs.specs.Rehearsals.{told_of}
use Rattle.runs.proofs.Doing.{script_chosen, script_run}
use Rattle.runs.proofs.rehearse.rehearse.Goals as goal

pub returns : goal.returns
returns g c =
    let M = g.T.Timetable.meaning c.args.table in
    let m = c.args.delay in let n = c.args.pages in
    let script = c.args.script in let viewer = c.args.viewer in
    let built = seen (g.T.Timetable.meaning c.new-station.result.table) c.new-station.result in
    let mid = seen (g.T.Timetable.meaning c.perform_all.new.station.table) c.perform_all.new.station in
    let last = seen (g.T.Timetable.meaning c.perform_all-2.new.station.table) c.perform_all-2.new.station in
    let rest = vec_items c.chosen-rest.result in
    let all = vec_items c.perform_all-2.new.replies in
    let choice = c.chosen-rest.ensures.one_or_other ∙ ap (λ b. cond b (vec_items script.passed) (vec_items script.otherwise)) c.is_passed.ensures.by_phase in
    let begins = c.new-station.ensures.is_fresh in
    let empty = c.new-replies.ensures.items in
    let opening = c.in_ok-perform_all.ensures.performs_all in
    let later = c.in_ok-perform_all-2.ensures.performs_all in
    let run = script_run M m n c.args.mark script rest built mid last _ _ all begins empty opening choice later in
    let lines : map vec_items c.as_slice-2.result.now ≡ lines_from viewer.tick (told_of all) =
    ap (λ vs. map vec_items vs) c.as_slice-2.ensures.value ∙ c.in_ok-lines.ensures.lines_from_tick ∙ ap (λ rs. lines_from viewer.tick (told_of rs)) c.as_slice.ensures.value in
    let feeds = c.in_ok-viewing.ensures.feeds in
    let store = c.args.store.now in
    record {
      guarantee = record {
        calls = vec_items script.opening ++ rest;
        chosen = script_chosen M m n c.args.mark script rest built mid last _ _ all begins empty opening choice later;
        guarantee = runs_serve M m n c.args.mark (vec_items script.opening ++ rest) _ last (g.T.Timetable.lawful c.args.table) run;
        receiver = record {
          shows_as_fed = feeds.0 ∙ ap (λ ls. fed m n viewer.capacity store ls) lines;
          store_left = feeds.1 ∙ ap (λ ls. left m n viewer.capacity store ls) lines;
        };
      };
    }
