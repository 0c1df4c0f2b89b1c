-- Every run of calls on a station that was just built keeps the guarantee.
use Rattle.station.specs.States.{fresh}
use Rattle.guarantee.specs.Guarantee.{RunsServe}
use Rattle.guarantee.proofs.Changes.{course}
use Rattle.guarantee.proofs.Exactness.{exact}
use Rattle.guarantee.proofs.Keeping.{spells_good}
use Rattle.guarantee.proofs.Plans.{plans_pass}
use Rattle.guarantee.proofs.Serving.{served}
use Rattle.guarantee.proofs.Within.{fed_within}

pub runs_serve : RunsServe
runs_serve M m n mark calls replies s law h =
    let changes = course calls replies (fresh M m n mark) s h in
    record {
      run = (s, h);
      served = λ w i. served M law m n w (spells_good M m n mark _ changes w i);
      within_spell = fed_within M m n mark _ changes;
      exact = exact;
      plans_pass = plans_pass;
    }
