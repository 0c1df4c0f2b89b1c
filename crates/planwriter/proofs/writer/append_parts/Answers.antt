use Rattle.std.proofs.Common.{◌≡◌, ◌++◌, vec_items, sym, refl, ap, subst, MatchResult}
use Rattle.format.specs.Answers.{listed}
use Rattle.format.specs.Items.{channel, row, node}
use Rattle.format.specs.Runs.{Unappended}
use Rattle.format.proofs.Lists.{parts_encoded}
use Rattle.planwriter.proofs.writer.append_parts.Goals as goal

pub returns-in-Pagoda : goal.returns-in-Pagoda
returns-in-Pagoda c =
    let out = vec_items c.args.out.now in
    let last = vec_items c.append_run.new.out in
    let e = parts_encoded channel c.as_slice.result.now (vec_items c.in-Pagoda.channels) _ (listed c.args.parts.now) c.as_slice.ensures.value refl (ap listed (sym c.in-Pagoda.is)) in
    record { appends_all = subst (λ l. MatchResult c.append_run.result (λ _. last ≡ out ++ l) (Unappended (out ++ l))) e c.append_run.ensures.appends_all }

pub returns-in-Rows : goal.returns-in-Rows
returns-in-Rows c =
    let out = vec_items c.args.out.now in
    let last = vec_items c.append_run-in-Rows.new.out in
    let e = parts_encoded row c.as_slice-in-Rows.result.now (vec_items c.in-Rows.rows) _ (listed c.args.parts.now) c.as_slice-in-Rows.ensures.value refl (ap listed (sym c.in-Rows.is)) in
    record { appends_all = subst (λ l. MatchResult c.append_run-in-Rows.result (λ _. last ≡ out ++ l) (Unappended (out ++ l))) e c.append_run-in-Rows.ensures.appends_all }

pub returns-in-Tree : goal.returns-in-Tree
returns-in-Tree c =
    let out = vec_items c.args.out.now in
    let last = vec_items c.append_run-in-Tree.new.out in
    let e = parts_encoded node c.as_slice-in-Tree.result.now (vec_items c.in-Tree.nodes) _ (listed c.args.parts.now) c.as_slice-in-Tree.ensures.value refl (ap listed (sym c.in-Tree.is)) in
    record { appends_all = subst (λ l. MatchResult c.append_run-in-Tree.result (λ _. last ≡ out ++ l) (Unappended (out ++ l))) e c.append_run-in-Tree.ensures.appends_all }
