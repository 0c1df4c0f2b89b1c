use Rattle.std.proofs.Common.{◌++◌, map, vec_items, ap, ◌∙◌, subst}
use Rattle.records.proofs.Exits.{exit}
use Rattle.format.specs.Answers.{listed, file_of}
use Rattle.format.specs.Format.{encoded}
use Rattle.format.specs.Items.{film, closure, bytes}
use Rattle.format.specs.Runs.{Unappended}
use Rattle.format.proofs.Lists.{assembled, parts_fit, closures_fit, unappended_more}
use Rattle.planwriter.proofs.writer.plan_bytes.Goals as goal

pub returns-in_err-append_parts : goal.returns-in_err-append_parts
returns-in_err-append_parts c =
    let p = c.args.plan.now in
    let a = vec_items c.append_record.new.out in
    let ea = c.in_ok-append_record.ensures.appends_all_or_nothing ∙ ap (λ l. l ++ bytes (film p.film)) c.new-out.ensures.items in
    record {
      makes_the_bytes = exit _ (Unappended (file_of p)) _ _ c.from_residual-in_err-append_parts.ensures.1
          (unappended_more _ (file_of p) _ (parts_fit p.film (listed p.parts) (vec_items p.closures) a ea) c.in_err-append_parts.ensures.appends_all);
    }

pub returns-in_err-append_run : goal.returns-in_err-append_run
returns-in_err-append_run c =
    let p = c.args.plan.now in
    let a = vec_items c.append_record.new.out in
    let b = vec_items c.append_parts.new.out in
    let ea = c.in_ok-append_record.ensures.appends_all_or_nothing ∙ ap (λ l. l ++ bytes (film p.film)) c.new-out.ensures.items in
    let eb = c.in_ok-append_parts.ensures.appends_all in
    record {
      makes_the_bytes = exit _ (Unappended (file_of p)) _ _ c.from_residual-in_err-append_run.ensures.1
          (unappended_more _ (file_of p) _ (closures_fit p.film (listed p.parts) (vec_items p.closures) a b ea eb)
          (subst (λ l. Unappended (b ++ encoded (map closure l)) c.in_err-append_run.field-0.0) c.as_slice.ensures.value c.in_err-append_run.ensures.appends_all));
    }

pub returns : goal.returns
returns c =
    let p = c.args.plan.now in
    let a = vec_items c.append_record.new.out in
    let b = vec_items c.append_parts.new.out in
    let ea = c.in_ok-append_record.ensures.appends_all_or_nothing ∙ ap (λ l. l ++ bytes (film p.film)) c.new-out.ensures.items in
    let eb = c.in_ok-append_parts.ensures.appends_all in
    let ec = c.in_ok-append_run.ensures.appends_all ∙ ap (λ l. b ++ encoded (map closure l)) c.as_slice.ensures.value in
    let ed = c.in_ok-append_record-2.ensures.appends_all_or_nothing in
    record { makes_the_bytes = assembled p.film (listed p.parts) (vec_items p.closures) a b _ _ ea eb ec ed }
