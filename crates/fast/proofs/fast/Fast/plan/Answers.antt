use Rattle.std.proofs.Common.{arith, rules}
use Rattle.fast.proofs.FastPlans.{fast_sound}
use Rattle.fast.proofs.fast.Fast.plan.Goals as goal

pub returns : goal.returns
returns c = record { plan_or_out_of_range = search rules; starves_nobody = fast_sound c.args.channels (omega arith) }
