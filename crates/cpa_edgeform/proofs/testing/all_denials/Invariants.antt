-- The denials of the elements so far.
use Rattle.std.proofs.Common.{◌≡◌, map, take}
use Rattle.cpa_model.specs.declared.facts.Elem.{Elem}
use Rattle.cpa_form_rules.specs.Tests.{denials_of}
use Rattle.cpa_edgeform.proofs.testing.all_denials.Given as goal

abbrev pub invariant-loop-elem : goal.invariant-loop-elem
invariant-loop-elem l =
    l.lists ≡ map (λ (elem : Elem). denials_of l.places elem.facts) (take l.elem-index l.elems)
