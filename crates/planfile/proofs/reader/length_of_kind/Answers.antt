use Rattle.std.proofs.Common.{sym, refl}
use Rattle.records.specs.declared.kinds.Node.TheVariants.{Leaf, Inner}
use Rattle.format.specs.Items.{film, part, channel, row, node, closure}
use Rattle.planfile.proofs.reader.length_of_kind.Goals as goal

pub returns-in-1 : goal.returns-in-1
returns-in-1 c = record { is_kind_length = (film (record { delay = 0; pages = 0; channels = 0 }), sym c.in-1.is, refl) }

pub returns-in-2 : goal.returns-in-2
returns-in-2 c = record { is_kind_length = (part (channel (record { subchannels = 0 })), sym c.in-2.is, refl) }

pub returns-in-3 : goal.returns-in-3
returns-in-3 c = record { is_kind_length = (part (row (record { page = 0; channel = 0; start = 0; period = 0 })), sym c.in-3.is, refl) }

pub returns-in-4 : goal.returns-in-4
returns-in-4 c = record { is_kind_length = (part (node (Leaf (record { page = 0 }))), sym c.in-4.is, refl) }

pub returns-in-5 : goal.returns-in-5
returns-in-5 c = record { is_kind_length = (part (node (Inner (record { first_child = 0; degree = 0 }))), sym c.in-5.is, refl) }

pub returns-in-6 : goal.returns-in-6
returns-in-6 c = record { is_kind_length = (closure (record { channel = 0; slot = 0 }), sym c.in-6.is, refl) }
