-- Where the queries of one edge have no model, each step leads on; where that of a trap has none,
-- no store of the cells makes the expression trap.
use Rattle.std.proofs.Common.{true, false, List, [], ◌∷◌, ◌++◌, refl, sym, subst}
use Rattle.std.proofs.Common.{append-nil}
use Rattle.std.specs.Prelude.{◌⊎◌, IsSome}
use Rattle.std.specs.List.{AllByRecursion}
use Rattle.std.proofs.Common.{inl, inr}
use Rattle.cpa_expr.specs.declared.tree.Expr.{Expr}
use Rattle.cpa_expr.specs.Values.{HasTruth, value_of}
use Rattle.cpa_model.specs.declared.automaton.Act.{Act}
use Rattle.cpa_model.specs.declared.automaton.Cfa.{Cfa}
use Rattle.cpa_model.specs.Acts.{IsActOf}
use Rattle.cpa_model.specs.Automata.{IsAutomaton}
use Rattle.cpa_model.specs.Expressions.{IsExpr}
use Rattle.cpa_query.specs.Queries.{IsQuery}
use Rattle.cpa_form_rules.specs.Runs.{Added, taken, holding, failing, StoreHolds, StoreFails}
use Rattle.cpa_form_rules.specs.Forms.{Form, begun, with_added}
use Rattle.cpa_form_rules.specs.Laws.{FormsAreRuns, IsAddedOf, IsFormOf}
use Rattle.cpa_form_rules.specs.Additions.{AddingGoesOn}
use Rattle.cpa_form_rules.specs.Stores.{FailingIsNotHolding, StepsTakeInputs}
use Rattle.cpa_solver.specs.Decisions.{HasNoModel}
use Rattle.cpa_interpolant_rules.specs.Interpolants.{LeadsTo, NeverTraps}
use Rattle.cpa_interpolant_rules.specs.Parts.{told, added_behind, behind_cut}
use Rattle.cpa_interpolant_rules.specs.lemmas.Taking.{all_taken, has_value}
use Rattle.cpa_interpolant_words.specs.Words.{alone, against, trapping}

module _ (forms : FormsAreRuns) (cfa : Cfa) (automaton : IsAutomaton cfa) (f : Expr)
    (typed : IsExpr cfa.cells f) where
  module _ (e : Expr) (a : Act) (first : IsExpr cfa.cells e) (act : IsActOf cfa a) where
    abbrev stepped : List Added
    stepped = holding (told e) ∷ taken a ∷ failing (alone f true ∷ []) ∷ []

    step_is : IsFormOf cfa false stepped (against cfa.cells e a f)
    step_is =
        forms cfa false stepped automaton ((first, tt), (act, (((typed, tt), tt), tt)))

    pub against_asked : IsQuery (against cfa.cells e a f).query
    against_asked = step_is.asked

    pub leads_on : StepsTakeInputs → FailingIsNotHolding
        → HasNoModel (against cfa.cells e a f).query → LeadsTo cfa.cells a e f
    leads_on takes fails none old new holds step = by (fails.either new (alone f true))
      where
        by : StoreHolds new (alone f true) ⊎ StoreFails new (alone f true) → HasTruth new f true
        by (inl is) = is.0
        by (inr not) =
            let own = (takes.step cfa.cells a old new).0 step.step in
            let found = step_is.model old own.0 new step.before (
              old,
              [],
              own.0,
              ((holds, tt), refl, refl),
              refl,
              (
                new,
                own.0,
                [],
                own.1,
                sym (append-nil own.0),
                (new, [], [], ((not, tt), refl, refl), refl, (refl, refl)),
              ),
            ) in
            absurd (none found.0 found.1)

  abbrev trapped : List Added
  trapped = failing (alone f true ∷ alone f false ∷ []) ∷ []

  trap_is : IsFormOf cfa false trapped (trapping cfa.cells f)
  trap_is =
      forms cfa false trapped automaton (((typed, tt), ((typed, tt), tt)), tt)

  pub trapping_asked : IsQuery (trapping cfa.cells f).query
  trapping_asked = trap_is.asked

  pub traps_never : FailingIsNotHolding → HasNoModel (trapping cfa.cells f).query
      → NeverTraps cfa.cells f
  traps_never fails none store is = by (fails.either store (alone f true))
    where
      other : StoreFails store (alone f true)
          → StoreHolds store (alone f false) ⊎ StoreFails store (alone f false)
          → IsSome (value_of f store)
      other not (inl zero) = has_value (value_of f store) false zero.0
      other not (inr nor) =
          let found = trap_is.model store [] store is
          (store, [], [], ((not, (nor, tt)), refl, refl), refl, (refl, refl)) in
          absurd (none found.0 found.1)

      by : StoreHolds store (alone f true) ⊎ StoreFails store (alone f true)
          → IsSome (value_of f store)
      by (inl nonzero) = has_value (value_of f store) true nonzero.0
      by (inr not) = other not (fails.either store (alone f false))

  -- what is asked behind edges may be asked
  pub behind_asked : AddingGoesOn → (acts : List Act) → AllByRecursion (IsActOf cfa) acts
      → IsQuery (with_added (failing (alone f true ∷ [])) (behind_cut cfa.cells acts)).query
  behind_asked goes acts fit =
      subst (λ (form : Form). IsQuery form.query)
      (goes.form (begun cfa.cells false) (added_behind acts) (failing (alone f true ∷ []) ∷ []))
      (forms cfa false (added_behind acts ++ failing (alone f true ∷ []) ∷ []) automaton
      (joined (added_behind acts) (all_taken cfa acts fit))).asked
    where
      joined : (added : List Added) → AllByRecursion (IsAddedOf cfa) added
          → AllByRecursion (IsAddedOf cfa) (added ++ failing (alone f true ∷ []) ∷ [])
      joined [] all = (((typed, tt), tt), tt)
      joined (one ∷ added) all = (all.0, joined added all.1)
