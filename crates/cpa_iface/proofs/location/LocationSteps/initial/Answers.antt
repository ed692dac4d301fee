use Rattle.std.proofs.Common.{sym, subst}
use Rattle.std.proofs.lemmas.Result.{IfOk-weaker}
use Rattle.cpa_model.specs.declared.facts.Elem.{Elem}
use Rattle.cpa_iface.specs.Laws.{InitialLaws}
use Rattle.cpa_iface.specs.Locations.{location}
use Rattle.cpa_iface.proofs.LocationLaws.{pin-laws}
use Rattle.cpa_iface.proofs.location.LocationSteps.initial.Goals as goal

pub returns : goal.returns
returns c =
    let cfa = c.args.cfa.now in
    IfOk-weaker _ _ _ (λ (e : Elem) is. subst (InitialLaws location cfa) (sym is)
    (pin-laws cfa (c.automata_are_small.ensures.start cfa c.requires))) c.pin.ensures
