use Rattle.std.proofs.Common.{sym, subst, inr, refl}
use Rattle.records.proofs.Exits.{exit}
use Rattle.records.specs.Ranges.{FilmInRange}
use Rattle.plans.specs.Refusals.{told}
use Rattle.schedule.specs.Planning.{PagodaUnfit, Schedules, Unplanned, Refuses}
use Rattle.schedule.proofs.planning.schedule_of.Goals as goal

pub returns-in_err-pagoda_of-in-Pagoda : goal.returns-in_err-pagoda_of-in-Pagoda
returns-in_err-pagoda_of-in-Pagoda c =
    let f = c.args.film in
    let p = c.args.parts in
    let e = c.in_err-pagoda_of-in-Pagoda.field-0.0 in
    let unfit = subst (λ cs. PagodaUnfit f cs (told e)) c.as_slice.ensures.value c.in_err-pagoda_of-in-Pagoda.ensures.plans_or_refuses in
    record {
      plans_or_refuses = exit (λ s. FilmInRange f × Schedules f p s) (λ e. Refuses f p (told e)) c.from_residual.result e c.from_residual.ensures.1
          (inr (c.if-not-is_in_range.ensures.decides.0 refl, subst (λ p. Unplanned f p (told e)) (sym c.in-Pagoda.is) unfit));
    }
