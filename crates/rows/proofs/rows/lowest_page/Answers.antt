use Rattle.std.proofs.Common.{sym, ◌∙◌, rules, tests}
use Rattle.std.proofs.lemmas.Iterator.{YieldsList-from_slice, YieldsList-from_map}
use Rattle.std.proofs.lemmas.Iterator.Adapters.{option_map_id}
use Rattle.std.proofs.lemmas.Iterator.Consumers.{YieldsList-at, YieldsList-from_filter, min_from_yields_List}
use Rattle.rows.specs.Rows.{fitting}
use Rattle.rows.proofs.Lowest.{lowest_is}
use Rattle.rows.proofs.rows.lowest_page.Goals as goal

pub returns : goal.returns
returns c =
    record {
      is_lowest =
          sym (option_map_id _)
          ∙ min_from_yields_List _ _ c.min.ensures.ran
          (YieldsList-from_map _ (λ r. r.page)
          (YieldsList-at c.map.ensures.source
          (YieldsList-from_filter _ (fitting c.args.channel c.args.slot) (YieldsList-from_slice c.args.rows.now cc) c.filter.ensures.closure (λ x r q k. search (rules, tests))))
          c.map.ensures.closure (λ x r q k. search (rules, tests)))
          ∙ sym (lowest_is c.args.rows.now c.args.channel c.args.slot);
    }
