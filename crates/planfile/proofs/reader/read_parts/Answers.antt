use Rattle.std.proofs.Common.{rules, ◌≡◌, ◌<◌, ◌==◌, Bool, true, false, length, [], Vec, vec_len, vec_items, refl, arith}
use Rattle.records.proofs.Exits.{exit}
use Rattle.records.proofs.Spanning.{spans_none}
use Rattle.format.specs.Items.{channel, row, node}
use Rattle.format.specs.Format.{pagoda, rows, tree}
use Rattle.format.specs.Steps.{AfterFilm}
use Rattle.format.proofs.Faults.{run_faulty, run_parts, reached_parts, a_channel, a_row, a_node, empty_run, no_part, not_part}
use Rattle.planfile.proofs.reader.read_parts.Goals as goal

-- what `is_empty` answers, by the length
some_there : {X A : Type 0} (v : Vec X A) (empty : Bool) → empty ≡ (vec_len v == 0) → empty ≡ false → 0 < length (vec_items v)
some_there v empty e t = let long = v.ok.0 in search (rules, long)

none_there : {X A : Type 0} (v : Vec X A) (empty : Bool) → empty ≡ (vec_len v == 0) → empty ≡ true → length (vec_items v) ≡ 0
none_there v empty e t = let long = v.ok.0 in search (rules, long)

pub returns-in_err-channels : goal.returns-in_err-channels
returns-in_err-channels c = record {
  reads_one_sort = exit _ (AfterFilm c.args.bytes.now c.args.at) _ _ c.from_residual.ensures.1
      (λ f short first. run_faulty c.args.bytes.now f short c.args.at first channel pagoda (λ x. refl) _ c.in_err-channels.ensures.reads_all);
}

pub returns-then-not-is_empty : goal.returns-then-not-is_empty
returns-then-not-is_empty c =
    let v = c.in_ok-channels.channels in
    record {
      reads_one_sort = run_parts c.args.bytes.now c.args.at channel pagoda (λ x. refl) _ (vec_items v) c.in_ok-channels.ensures.reads_all (some_there v _ c.is_empty.ensures c.if-not-is_empty.true) a_channel;
    }

pub returns-in_err-rows : goal.returns-in_err-rows
returns-in_err-rows c = record {
  reads_one_sort = exit _ (AfterFilm c.args.bytes.now c.args.at) _ _ c.from_residual-in_err-rows.ensures.1
      (λ f short first. run_faulty c.args.bytes.now f short c.args.at first row rows (λ x. refl) _ c.in_err-rows.ensures.reads_all);
}

pub returns-then-not-is_empty-2 : goal.returns-then-not-is_empty-2
returns-then-not-is_empty-2 c =
    let v = c.in_ok-rows.rows in
    record {
      reads_one_sort = run_parts c.args.bytes.now c.args.at row rows (λ x. refl) _ (vec_items v) c.in_ok-rows.ensures.reads_all (some_there v _ c.is_empty-2.ensures c.if-not-is_empty-2.true) a_row;
    }

pub returns-in_err-nodes : goal.returns-in_err-nodes
returns-in_err-nodes c = record {
  reads_one_sort = exit _ (AfterFilm c.args.bytes.now c.args.at) _ _ c.from_residual-in_err-nodes.ensures.1
      (λ f short first. run_faulty c.args.bytes.now f short c.args.at first node tree (λ x. refl) _ c.in_err-nodes.ensures.reads_all);
}

pub returns-then-not-is_empty-3 : goal.returns-then-not-is_empty-3
returns-then-not-is_empty-3 c =
    let v = c.in_ok-nodes.nodes in
    record {
      reads_one_sort = run_parts c.args.bytes.now c.args.at node tree (λ x. refl) _ (vec_items v) c.in_ok-nodes.ensures.reads_all (some_there v _ c.is_empty-3.ensures c.if-not-is_empty-3.true) a_node;
    }

pub returns : goal.returns
returns c =
    let file = c.args.bytes.now in
    let a = c.args.at in
    let cs = c.in_ok-channels.channels in
    let rs = c.in_ok-rows.rows in
    let ns = c.in_ok-nodes.nodes in
    let none = no_part file a
    (empty_run _ file a _ _ (vec_items cs) c.in_ok-channels.ensures.reads_all (none_there cs _ c.is_empty.ensures c.if-not-is_empty.false))
    (empty_run _ file a _ _ (vec_items rs) c.in_ok-rows.ensures.reads_all (none_there rs _ c.is_empty-2.ensures c.if-not-is_empty-2.false))
    (empty_run _ file a _ _ (vec_items ns) c.in_ok-nodes.ensures.reads_all (none_there ns _ c.is_empty-3.ensures c.if-not-is_empty-3.false)) in
    record {
      reads_one_sort = λ f short first. c.misfit.ensures.is_wrong _ short (reached_parts file f short a first pagoda [] a tt (omega arith) (spans_none file a)) (not_part file a none f);
    }
