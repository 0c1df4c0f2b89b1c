use Rattle.std.proofs.Common.{[], ◌∷◌, ◌++◌, ap, ◌∙◌, arith}
use Rattle.station.specs.declared.call.Call.TheVariants.{Check, Findings}
use Rattle.judging.proofs.script.script_of.Goals as goal

pub returns : goal.returns
returns c = record {
  judging_calls = record {
    check_cells = c.in_ok-cells.field-0;
    survey_cells = c.in_ok-cells-2.field-0;
    finding_cells = c.in_ok-cells-3.field-0;
    enough = (c.in_ok-cells.ensures.two_a_page, c.in_ok-cells-2.ensures.two_a_page, c.in_ok-cells-3.ensures.two_a_page);
    opening = c.in_ok-push.ensures.items ∙ ap (λ cs. cs ++ Check c.in_ok-cells.field-0 ∷ []) c.in_ok-opening.ensures.closes_each;
    passed = c.in_ok-passed.ensures.items;
    otherwise = c.in_ok-otherwise.ensures.items ∙ ap (λ k. Findings c.in_ok-cells-3.field-0 k ∷ []) (omega arith);
  };
}
