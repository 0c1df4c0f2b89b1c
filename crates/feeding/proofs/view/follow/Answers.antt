use Rattle.std.proofs.Common.{ap, map, vec_items, length, ◌∙◌}
use Rattle.feeding.specs.Feeding.{waiting}
use Rattle.feeding.specs.Phases.{so_far}
use Rattle.feeding.proofs.Steps.{tunes_in, rows_split, started}
use Rattle.feeding.proofs.view.follow.Goals as goal

-- the film was started
pub returns : goal.returns
returns c =
    let lines = c.args.lines.now in
    let early = c.split_at.result.0.now in
    let late = c.split_at.result.1.now in
    let v = c.args.viewing.now in
    let r = c.in_ok-waiting.waiting.numbers in
    record {
      tells =
          tunes_in c.args.delay c.args.pages c.args.capacity c.args.store.now (map vec_items lines) v (length lines) c.requires.untold r c.tune.new.store c.in_ok-waiting.ensures.tunes_or_refuses
          ∙ ap (λ x. so_far v (waiting x r c.tune.new.store)) (rows_split lines early late c.min.result c.split_at.ensures.front c.split_at.ensures.back)
          ∙ c.in_ok-hear_all.ensures.told_so_far (map vec_items late)
          ∙ ap (λ x. so_far c.hear_all.new.viewing x) (started (map vec_items late) c.hear_all.new.waiting.numbers c.in-Ok.showing.numbers c.hear_all.new.store c.in-Ok.ensures.starts_or_refuses)
          ∙ c.show_all.ensures.all_told;
    }
