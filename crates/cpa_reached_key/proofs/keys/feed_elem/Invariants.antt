use Rattle.std.proofs.Common.{◌≡◌, fold}
use Rattle.std.specs.List.{flat_map}
use Rattle.cpa_reached_key.specs.Writes.{fact_writes}
use Rattle.cpa_reached_key.proofs.keys.feed_elem.Given as goal

abbrev pub invariant-loop-fact : goal.invariant-loop-fact
invariant-loop-fact g l =
    fold g.H.Hasher.write l.state (flat_map fact_writes l.fact-iterator)
    ≡ fold g.H.Hasher.write l.initial.state (flat_map fact_writes l.elem.facts)
