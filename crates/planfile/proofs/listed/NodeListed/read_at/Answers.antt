use Rattle.records.specs.declared.kinds.Node.TheVariants.{Leaf, Inner}
use Rattle.format.specs.Items.{part, node}
use Rattle.format.proofs.Standing.{stood_cut}
use Rattle.planfile.proofs.listed.NodeListed.read_at.Goals as goal

pub returns-in_err-leaf : goal.returns-in_err-leaf
returns-in_err-leaf c = record {
  finds = stood_cut (λ x. part (node x)) c.args.bytes.now c.args.at (Leaf (record { page = 0 })) _ _ c.from_residual.ensures.1 c.in_err-leaf.ensures.finds;
}

pub returns-in_err-read_record : goal.returns-in_err-read_record
returns-in_err-read_record c = record {
  finds = stood_cut (λ x. part (node x)) c.args.bytes.now c.args.at (Inner (record { first_child = 0; degree = 0 })) _ _ c.from_residual-in_err-read_record.ensures.1 c.in_err-read_record.ensures.finds;
}
