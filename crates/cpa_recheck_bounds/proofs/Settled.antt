-- Where bounds say one of the rivals, no run of stores meets what is asked about the obligation.
use Rattle.std.proofs.Common.{◌≡◌, ℕ, List, [], map, sym, ap, subst}
use Rattle.std.specs.List.{AllByRecursion}
use Rattle.cpa_model.specs.declared.program.Cell.{Cell}
use Rattle.cpa_model.specs.declared.facts.Elem.{Elem}
use Rattle.cpa_model.specs.declared.automaton.Act.{Act}
use Rattle.cpa_model.specs.declared.automaton.Edge.{Edge}
use Rattle.cpa_model.specs.declared.automaton.Cfa.{Cfa}
use Rattle.cpa_model.specs.Steps.{StepsStore}
use Rattle.cpa_form_rules.specs.Runs.{StoreFactHolds, StoreHolds, StoreFails}
use Rattle.cpa_form_rules.specs.Stores.{steps_take_inputs}
use Rattle.cpa_interval_bounds.specs.declared.bounds.Bounds.{Bounds}
use Rattle.cpa_interval_bounds.specs.ExpressionBounds.{LieWithin}
use Rattle.cpa_recheck_obligations.specs.declared.listing.Obligation.TheVariants.{Begins, Leads}
use Rattle.cpa_recheck_obligations.specs.Forms.{edge_at, entry_at, IsRunless, rivals_of}
use Rattle.cpa_recheck_bounds.specs.Saying.{AreFoundBehind, AreSaid}

pub begins_runless : (cfa : Cfa) (xs others : List Elem) (all : List Bounds) (elem : Elem)
    → elem.facts ≡ [] → LieWithin all (map (λ (c : Cell). c.start) cfa.cells)
    → AreSaid all elem others
    → others ≡ rivals_of cfa xs Begins → IsRunless cfa xs Begins
begins_runless cfa xs others all elem none lie said same first inputs last begins run =
    said first (subst (LieWithin all) (sym begins) lie)
    (subst (AllByRecursion (StoreFactHolds first)) (sym none) tt)
    (subst (AllByRecursion (StoreFails first)) (sym same) run.3.0)

-- a rival is found behind the edge
pub leads_runless : (cfa : Cfa) (xs others : List Elem) (x g : ℕ) (elem : Elem) (edge : Edge)
    → entry_at xs x ≡ elem → edge_at cfa g ≡ edge → others ≡ rivals_of cfa xs (Leads x g)
    → AreFoundBehind cfa elem edge.act others → IsRunless cfa xs (Leads x g)
leads_runless cfa xs others x g elem edge is edge_is same none first inputs last begins run =
    let acts = ap (λ (e : Edge). e.act) edge_is in
    let held = run.3 in
    let rest = run.5 in
    let taken = rest.3 in
    let after = rest.5 in
    let here = subst (λ (e : Elem). StoreHolds first e) is held.0 in
    let old = held.2 in
    let steps = (steps_take_inputs.step cfa.cells (edge_at cfa g).act run.0 rest.0).1
    (rest.1, taken) in
    none first rest.0 begins here
    (subst (λ s. StepsStore cfa.cells edge.act s rest.0) old
    (subst (λ (a : Act). StepsStore cfa.cells a run.0 rest.0) acts steps))
    (subst (AllByRecursion (StoreFails rest.0)) (sym same) after.3.0)
