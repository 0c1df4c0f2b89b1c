use Rattle.std.proofs.Common.{refl}
use Rattle.numbers.proofs.All.{lcm_of_all_is}
use Rattle.worked.proofs.worked_loops.Goals as goal

pub returns : goal.returns
returns c = record { loops_as_worked = refl; period_computed = lcm_of_all_is; how_many = refl }
