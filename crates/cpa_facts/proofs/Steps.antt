-- That an iterator which shows the facts that are left gives them in order.
use Rattle.std.proofs.Common.{List, ap, length}
use Rattle.std.specs.Iterator.{YieldsFirstRef}
use Rattle.std.specs.Iterator.Runs.{EveryRun, ItemsMapTo}
use Rattle.std.proofs.iter.runs.Sources.{from_front}
use Rattle.cpa_facts.specs.declared.fact.Fact.{Fact}

pub in_order : EveryRun (YieldsFirstRef (λ (left : List Fact). left))
    (λ p. ItemsMapTo p (λ x. x.now) p.from)
in_order =
    from_front (YieldsFirstRef (λ (left : List Fact). left)) (λ x. x.now) (λ s. s)
    (λ s t h. ap length h.0) (λ s x t h. h)
