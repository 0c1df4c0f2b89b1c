use Rattle.std.proofs.Common.{◌≡◌, [], ◌∷◌, vec_items, ap, ◌∙◌}
use Rattle.line.specs.declared.Line.TheVariants.{Film, Period, Wait}
use Rattle.report.proofs.lines.plan_lines.Goals as goal

pub returns : goal.returns
returns c =
    let l = c.in_ok-loaded.loaded in
    let f = l.film in
    let all : vec_items c.in_ok-vec.field-0 ≡ Film f.delay f.pages f.channels ∷ Period c.period.result ∷ Wait f.delay ∷ [] = c.in_ok-vec.ensures.items in
    record {
      tells_the_plan = (l, c.in_ok-loaded.ensures.loads_or_refuses, all ∙ ap (λ p. Film f.delay f.pages f.channels ∷ Period p ∷ Wait f.delay ∷ []) c.period.ensures.answers_period);
    }
