use Rattle.std.proofs.Common.{List, [], ◌∷◌, ◌++◌, vec_items, ap, ◌∙◌, subst}
use Rattle.records.specs.declared.kinds.Closure.{Closure}
use Rattle.timetable.specs.Closed.{aired}
use Rattle.timetable.specs.Windows.{InRange}
use Rattle.judging.specs.Judgements.{Bookable, Judgement}
use Rattle.line.specs.declared.Line.TheVariants.{Film, Period, Wait}
use Rattle.schedule.specs.Schedules.{meant}
use Rattle.judged.proofs.Ranges.{loaded_in_range, loaded_bookable}
use Rattle.judged.proofs.lines.plan_lines.Goals as goal

pub returns : goal.returns
returns c =
    let file = c.args.bytes.now in
    let l = c.in_ok-film.field-0 in
    let m = l.film.delay in let n = l.film.pages in
    let judged = vec_items c.in_ok-judged.judged in
    let loads = c.in_ok-film.ensures.loads_or_refuses in
    let Judges : List Closure → Type 0 = λ es. Bookable (meant l.schedule) es → InRange (meant l.schedule) m n → Judgement (aired (meant l.schedule) es) m n judged in
    let judges : Judges (vec_items l.closures) = subst Judges c.as_slice.ensures.value c.in_ok-judged.ensures.judges in
    record {
      tells_the_plan = (
        l,
        loads,
        (
          judged,
          judges (loaded_bookable file l loads) (loaded_in_range file l loads),
          c.in_ok-push.ensures.items
              ∙ ap (λ xs. xs ++ Wait m ∷ []) c.in_ok-extend_from_slice.ensures.items
              ∙ ap (λ xs. (xs ++ c.as_slice-2.result.now) ++ Wait m ∷ []) c.in_ok-lines.ensures.items
              ∙ ap (λ xs. ((Film m n l.film.channels ∷ (Period c.period.result ∷ [])) ++ xs) ++ Wait m ∷ []) c.as_slice-2.ensures.value
              ∙ ap (λ p. Film m n l.film.channels ∷ (Period p ∷ (judged ++ Wait m ∷ []))) c.period.ensures.answers_period,
        ),
      );
    }
