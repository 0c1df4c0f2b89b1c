use Rattle.std.proofs.Common.{ℕ, ◌≡◌, ◌-◌, List, length, map, vec_items, vec_len, Option, subst, arith}
use Rattle.records.specs.declared.kinds.Channel.{Channel}
use Rattle.planner.specs.Pagoda.{Deals, filled, laid, cycles, pagoda_pages}
use Rattle.plans.specs.Periods.{PeriodOf}
use Rattle.planner.proofs.PagodaPlans.{pagoda_sound}
use Rattle.planner.proofs.Questions.{moved}
use Rattle.planner.proofs.Table.{filled_begins}
use Rattle.planner.proofs.pagoda.Pagoda.plan.Goals as goal

pub invariant_of-result : goal.invariant_of-result
invariant_of-result c =
    let dealt = c.in_ok-dealt.ensures.all_dealt.0 in
    let made = c.in_ok-channels.ensures in
    let m : ℕ = c.args.delay in
    let cs = c.args.channels.now in
    let period = subst (λ (o : Option ℕ). PeriodOf (cycles m cs (length cs)) o) c.in_ok-period.ensures.ok_part dealt.together in
    let laid_all =
    moved (λ (cs : List Channel) (n : ℕ). vec_items c.in_ok-dealt.dealt ≡ map filled (laid m cs n)) cs (vec_items c.in_ok-channels.channels) (length cs) (vec_len c.in_ok-channels.channels) made.items made.len c.in_ok-dealt.ensures.all_dealt.1 in
    record {
      few = omega (arith, made.len, c.if-not-askable.ensures.decides.channels);
      positive = period.2;
      lists = omega (arith, dealt.many, c.in_ok-dealt.dealt.ok.0, made.len);
      deals =
          moved (λ (cs : List Channel) (n : ℕ). Deals m cs n) cs (vec_items c.in_ok-channels.channels) (length cs) (vec_len c.in_ok-channels.channels) made.items made.len dealt.deals;
      laid = laid_all;
      begun = filled_begins m _ _ _ laid_all;
    }

pub returns-clause-starves_nobody : goal.returns-clause-starves_nobody
returns-clause-starves_nobody c =
    let dealt = c.in_ok-dealt.ensures.all_dealt.0 in
    let m : ℕ = c.args.delay in
    let cs = c.args.channels.now in
    let period = subst (λ (o : Option ℕ). PeriodOf (cycles m cs (length cs)) o) c.in_ok-period.ensures.ok_part dealt.together in
    let pages : c.in_ok-dealt.last.first - 1 ≡ pagoda_pages m cs = omega (arith, dealt.next) in
    rw (c.in_ok-channels.ensures.items, pages) (pagoda_sound m cs dealt.deals c.in_ok-period.period period.2 period.0.of_all)
