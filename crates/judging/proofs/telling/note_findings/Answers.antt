use Rattle.std.proofs.Common.{rules}
use Rattle.std.proofs.lemmas.Iterator.{YieldsList-from_slice, YieldsList-from_map}
use Rattle.std.proofs.lemmas.Iterator.Adapters.{items_from_extend}
use Rattle.std.proofs.lemmas.Result.{on_ok_weaker}
use Rattle.judging.specs.Judgements.{miss}
use Rattle.judging.proofs.telling.note_findings.Goals as goal

pub returns : goal.returns
returns c = record {
  misses = on_ok_weaker c.extend.result (λ p. p.0)
      (items_from_extend c.extend.result c.extend.ensures.ran (YieldsList-from_map _ miss (YieldsList-from_slice c.args.findings.now (cc)) c.map.ensures.closure (λ x r q k. search rules)));
}
