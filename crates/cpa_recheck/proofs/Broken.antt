-- A model of an obligation's query, read off its form, is a state that breaks the obligation.
use Rattle.std.proofs.Common.{◌≡◌, ℕ, ◌<◌, ℤ, List, [], Option, Some, None, slice_get, sym, ap}
use Rattle.std.proofs.Common.{◌∙◌, subst}
use Rattle.std.specs.Prelude.{IfSome}
use Rattle.std.specs.List.{AllByRecursion}
use Rattle.cpa_model.specs.declared.automaton.Edge.{Edge}
use Rattle.cpa_model.specs.declared.automaton.Cfa.{Cfa}
use Rattle.cpa_model.specs.declared.facts.Elem.{Elem}
use Rattle.cpa_model.specs.Automata.{IsAutomaton}
use Rattle.cpa_model.specs.Facts.{IsElem}
use Rattle.cpa_model.specs.States.{state_at}
use Rattle.cpa_model.specs.lemmas.EdgesSound.{all_at}
use Rattle.cpa_query.specs.Queries.{IsModel}
use Rattle.cpa_form_rules.specs.Forms.{Form, first_store, last_store}
use Rattle.cpa_recheck_obligations.specs.declared.listing.Obligation.{Obligation}
use Rattle.cpa_recheck_obligations.specs.declared.listing.Obligation.TheVariants.{Begins, Leads}
use Rattle.cpa_recheck_obligations.specs.declared.listing.Obligation.TheVariants.{Avoids}
use Rattle.cpa_recheck_obligations.specs.declared.spots.Spot.{Spot}
use Rattle.cpa_recheck_obligations.specs.Spots.{as_one, spot_of, spots_of}
use Rattle.cpa_recheck_obligations.specs.Obligations.{IsObligationOf}
use Rattle.cpa_recheck_obligations.specs.Meeting.{Breaks}
use Rattle.cpa_recheck_obligations.specs.Forms.{form_at, entry_at, AreStacksFor}
use Rattle.cpa_recheck_obligations.specs.Laws.{AreShapedFor, ModelsBreak, form_is}
use Rattle.cpa_recheck_obligations.specs.lemmas.Asking.{of_spot}
use Rattle.cpa_recheck.proofs.Asked.{spot_here}
use Rattle.cpa_recheck.proofs.Stacked.{sites_below}

-- the sites that an entry says are points
pub said_below : (cfa : Cfa) (xs : List Elem) (spots : List (Option Spot)) (x : ℕ) (spot : Spot)
    → AreShapedFor cfa xs → spots ≡ spots_of xs → slice_get spots x ≡ Some (Some spot)
    → IfSome spot.stack (AllByRecursion (λ site. site < cfa.points))
said_below cfa xs spots x spot shaped are at =
    let e = of_spot xs x spot (subst (λ (l : List (Option Spot)). slice_get l x ≡ Some (Some spot))
    are at) in
    sites_below cfa.cells cfa.points e.0 spot
    (all_at (IsElem cfa.cells cfa.points) xs x e.0 shaped e.1) e.2

module _ (law : ModelsBreak) (cfa : Cfa) (entries : List Elem) (es : List (List Elem)) (form : Form)
    (values : List ℤ) (automaton : IsAutomaton cfa) (shaped : AreShapedFor cfa entries)
    (are : entries ≡ as_one es) where
  fits : AreShapedFor cfa (as_one es)
  fits = subst (AreShapedFor cfa) are shaped

  whole_is : (o : Obligation) → form ≡ form_at cfa entries o → form ≡ form_at cfa (as_one es) o
  whole_is o is = is ∙ ap (λ (xs : List Elem). form_at cfa xs o) are

  model_is : (o : Obligation) → form ≡ form_at cfa entries o → IsModel form.query values
      → IsModel (form_at cfa (as_one es) o).query values
  model_is o is model = subst (λ (f : Form). IsModel f.query values) (whole_is o is) model

  pub initial_breaks : (first : List ℤ) (stack : List ℕ) → form ≡ form_at cfa entries Begins
      → IsModel form.query values → first ≡ first_store form values → stack ≡ []
      → Breaks cfa es Begins (state_at cfa.start stack first) None
  initial_breaks first stack is model first_is none =
      let here = model_is Begins is model in
      let begins = (form_is cfa (as_one es) Begins automaton fits).begins values here in
      let store = first_is
      ∙ (ap (λ (f : Form). first_store f values) (whole_is Begins is) ∙ begins) in
      subst (λ (l : List ℕ). Breaks cfa es Begins (state_at cfa.start l first) None) (sym none)
      (subst (λ (vs : List ℤ). Breaks cfa es Begins (state_at cfa.start [] vs) None) (sym store)
      (law.begins cfa es values automaton fits here))

  module _ (spots : List (Option Spot)) (spots_are : spots ≡ spots_of entries) (x : ℕ) (spot : Spot)
      (at : slice_get spots x ≡ Some (Some spot)) where
    spot_is : spot_of (entry_at (as_one es) x) ≡ Some spot
    spot_is = subst (λ (xs : List Elem). spot_of (entry_at xs x) ≡ Some spot) are
        (spot_here entries spots x (Some spot) spots_are at)

    named_is : (o : Obligation) → IsObligationOf cfa entries o → IsObligationOf cfa (as_one es) o
    named_is o named = subst (λ (xs : List Elem). IsObligationOf cfa xs o) are named

    pub leads_break : (g : ℕ) (edge : Edge) (old new : List ℕ) (first last : List ℤ)
        → IsObligationOf cfa entries (Leads x g) → slice_get cfa.edges g ≡ Some edge
        → AreStacksFor cfa (as_one es) spot edge old new
        → form ≡ form_at cfa entries (Leads x g) → IsModel form.query values
        → first ≡ first_store form values → last ≡ last_store form values
        → Breaks cfa es (Leads x g) (state_at edge.from old first)
        (Some (state_at edge.to new last))
    leads_break g edge old new first last named edge_at stacks is model first_is last_is =
        let o = Leads x g in
        let whole = whole_is o is in
        let one = first_is ∙ ap (λ (f : Form). first_store f values) whole in
        let two = last_is ∙ ap (λ (f : Form). last_store f values) whole in
        subst (λ (vs : List ℤ). Breaks cfa es o (state_at edge.from old vs)
        (Some (state_at edge.to new last))) (sym one)
        (subst (λ (vs : List ℤ). Breaks cfa es o
        (state_at edge.from old (first_store (form_at cfa (as_one es) o) values))
        (Some (state_at edge.to new vs))) (sym two)
        (law.leads cfa es x g values spot edge old new automaton fits (named_is o named) spot_is
        edge_at stacks (model_is o is model)))

    pub avoids_break : (p : ℕ) (sites : List ℕ) (first : List ℤ)
        → IsObligationOf cfa entries (Avoids x p) → IfSome spot.stack (λ own. sites ≡ own)
        → AllByRecursion (λ site. site < cfa.points) sites
        → form ≡ form_at cfa entries (Avoids x p) → IsModel form.query values
        → first ≡ first_store form values
        → Breaks cfa es (Avoids x p) (state_at p sites first) None
    avoids_break p sites first named said below is model first_is =
        let o = Avoids x p in
        let one = first_is ∙ ap (λ (f : Form). first_store f values) (whole_is o is) in
        subst (λ (vs : List ℤ). Breaks cfa es o (state_at p sites vs) None) (sym one)
        (law.avoids cfa es x p values spot sites automaton fits (named_is o named) spot_is said
        below (model_is o is model))
