use Rattle.std.proofs.Common.{refl, ◌∙◌, inr, arith}
use Rattle.schedule.proofs.planning.pagoda_of.Goals as goal

pub returns-then-pages-film : goal.returns-then-pages-film
returns-then-pages-film c =
    record {
      plans_or_refuses = inr (omega arith, inr (refl, (c.in_ok-plan.plan, c.in_ok-plan.ensures.plan_or_refusal, λ e. c.if-pages-film.true (c.pages.ensures.own_pages ∙ e))));
    }
