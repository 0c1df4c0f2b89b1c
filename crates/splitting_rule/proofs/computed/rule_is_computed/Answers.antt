use Rattle.std.proofs.Common.{refl}
use Rattle.splitting_rule.proofs.Listing.{list_follows}
use Rattle.splitting_rule.proofs.Settling.{rows_listed, refusals_listed}
use Rattle.splitting_rule.proofs.computed.rule_is_computed.Goals as goal

pub returns : goal.returns
returns c = record { lists_follow_rule = list_follows; rule_gives_listed_rows = rows_listed; rule_gives_listed_refusals = refusals_listed; stands = refl }
