use Rattle.std.proofs.Common.{◌≡◌, take}
use Rattle.std.specs.List.{flat_map}
use Rattle.cpa_model.specs.declared.facts.Elem.{Elem}
use Rattle.cpa_recheck_obligations.proofs.spots.joined.Given as goal

abbrev pub invariant-loop-elem : goal.invariant-loop-elem
invariant-loop-elem l = l.facts ≡ flat_map (λ (e : Elem). e.facts) (take l.elem-index l.elems)
