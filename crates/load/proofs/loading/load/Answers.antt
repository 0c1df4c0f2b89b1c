use Rattle.std.proofs.Common.{◌≡◌, ◌≤◌, [], ◌∷◌, length, vec_items, refl, ap, subst, arith}
use Rattle.records.proofs.Exits.{exit}
use Rattle.plans.specs.Refusals as refusals
use Rattle.load.specs.declared.fault.LoadFault.TheVariants.{Reading, Planning}
use Rattle.load.specs.Closures.{told_closure, CloseTo, FirstIdle}
use Rattle.load.specs.Loading.{Loads, LoadRefused, reading, planning, closing}
use Rattle.load.specs.Told.{told_load}
use Rattle.load.proofs.Places.{file_long}
use Rattle.load.proofs.loading.load.Goals as goal

pub returns-in_err-film : goal.returns-in_err-film
returns-in_err-film c =
    let file = c.args.bytes.now in
    let f = c.in_err-film.field-0.0 in
    record {
      loads_or_refuses = exit (Loads file) (λ f. LoadRefused file (told_load f).0 (told_load f).1) c.from_residual.result (Reading f) c.from_residual.ensures.1
          (reading _ _ c.in_err-film.ensures.answers);
    }

pub returns-in_err-schedule : goal.returns-in_err-schedule
returns-in_err-schedule c =
    let file = c.args.bytes.now in
    let e = c.in_err-schedule.field-0.0 in
    record {
      loads_or_refuses = exit (Loads file) (λ f. LoadRefused file (told_load f).0 (told_load f).1) c.from_residual-in_err-schedule.result (Planning e) c.from_residual-in_err-schedule.ensures.1
          (planning c.in_ok-film.field-0 (refusals.told e) c.in_ok-film.ensures.answers c.in_err-schedule.ensures.plans_or_refuses);
    }

pub overflow_sub-byte-in-Err-2 : goal.overflow_sub-byte-in-Err-2
overflow_sub-byte-in-Err-2 c =
    let p = c.in_ok-film.field-0 in
    let i = c.in-Err.index in
    let there = c.in-Err.ensures.judges_in_order.there in
    let within : i ≤ length (vec_items p.closures) = omega (arith, there, ap length c.as_slice.ensures.value) in
    omega (arith, file_long c.args.bytes.now p i c.in_ok-film.ensures.answers within, p.closures.ok.0)

pub returns-in-Err : goal.returns-in-Err
returns-in-Err c =
    let file = c.args.bytes.now in
    let p = c.in_ok-film.field-0 in
    let s = c.in_ok-schedule.schedule in
    let i = c.in-Err.index in
    let f = c.in-Err.fault in
    let reads = c.in_ok-film.ensures.answers in
    let found = subst (λ l. FirstIdle p.film.channels c.period.result l i f) c.as_slice.ensures.value c.in-Err.ensures.judges_in_order in
    let idle = subst (λ q. FirstIdle p.film.channels q (vec_items p.closures) i f) c.period.ensures.answers_period found in
    let within : i ≤ length (vec_items p.closures) = omega (arith, idle.there) in
    let byte : _ ≡ _ = omega (arith, file_long file p i reads within, p.closures.ok.0) in
    record {
      loads_or_refuses = subst (λ b. LoadRefused file 45 (b ∷ told_closure f ∷ [])) byte (closing p s i f reads c.in_ok-schedule.ensures.plans_or_refuses idle);
    }

pub returns : goal.returns
returns c =
    let p = c.in_ok-film.field-0 in
    let s = c.in_ok-schedule.schedule in
    let all = subst (λ l. CloseTo p.film.channels c.period.result l (length l)) c.as_slice.ensures.value c.in_default.ensures.judges_in_order in
    record {
      loads_or_refuses = record {
        plan = p;
        reads = c.in_ok-film.ensures.answers;
        film = refl;
        planned = c.in_ok-schedule.ensures.plans_or_refuses;
        closures = refl;
        close = subst (λ q. CloseTo p.film.channels q (vec_items p.closures) (length (vec_items p.closures))) c.period.ensures.answers_period all;
      };
    }
