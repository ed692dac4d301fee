-- One expression more.
use Rattle.cpa_craig.proofs.ReadLemmas.{kept_more}
use Rattle.cpa_craig.proofs.reading.reading.Goals as goal

pub loop-e-preserved : goal.loop-e-preserved
loop-e-preserved c =
    let l = c.loop-e in
    kept_more c.args.es.now l.read.items _ l.e-index c.e-item.result c.loop-e-test.true
    c.e-item.is l.invariant c.in_ok-push_reading.ensures
