-- Stores that lead along a path are there in some model of its query.
use Rattle.std.proofs.Common.{ℤ, false, List}
use Rattle.std.specs.List.{AllByRecursion}
use Rattle.cpa_model.specs.declared.automaton.Act.{Act}
use Rattle.cpa_model.specs.declared.automaton.Cfa.{Cfa}
use Rattle.cpa_model.specs.Acts.{IsActOf}
use Rattle.cpa_model.specs.Automata.{IsAutomaton}
use Rattle.cpa_query.specs.Queries.{IsQuery, IsModel}
use Rattle.cpa_form_rules.specs.Laws.{FormsAreRuns, IsFormOf}
use Rattle.cpa_interpolant_rules.specs.Stores.{RunsFrom}
use Rattle.cpa_interpolant_rules.specs.Parts.{added_behind, behind_cut}
use Rattle.cpa_interpolant_rules.specs.lemmas.Taking.{all_taken}
use Rattle.cpa_interpolant_rules.specs.lemmas.Taking.{runs_of, starts_in}

module _ (forms : FormsAreRuns) (cfa : Cfa) (automaton : IsAutomaton cfa) (acts : List Act)
    (fit : AllByRecursion (IsActOf cfa) acts) where
  form : IsFormOf cfa false (added_behind acts) (behind_cut cfa.cells acts)
  form = forms cfa false (added_behind acts) automaton (all_taken cfa acts fit)

  pub asked : IsQuery (behind_cut cfa.cells acts).query
  asked = form.asked

  pub model_there : (first : List ℤ) → RunsFrom cfa.cells acts first
      → (values : List ℤ) × IsModel (behind_cut cfa.cells acts).query values
  model_there first run =
      let (inputs, last, runs) = runs_of cfa.cells acts first run in
      let found = form.model first inputs last (starts_in cfa.cells acts first run) runs in
      (found.0, found.1)
