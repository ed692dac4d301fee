-- A cover of the automaton of a program is a cover of the program, and a covered program is safe.
use Rattle.std.proofs.Common.{List, [], ◌∷◌, ◌++◌, ◌↔◌, sym, subst, ⊎_elim}
use Rattle.cpa_model.specs.declared.facts.Elem.{Elem}
use Rattle.cpa_model.specs.declared.states.State.{State}
use Rattle.cpa_model.specs.declared.automaton.Cfa.{Cfa}
use Rattle.cpa_model.specs.declared.program.Program.{Program}
use Rattle.cpa_model.specs.Programs.{IsWellFormed, point_count}
use Rattle.cpa_model.specs.States.{IsState}
use Rattle.cpa_model.specs.Steps.{Step, IsChain, IsExecution, CallsError}
use Rattle.cpa_model.specs.Automata.{IsAutomatonOf}
use Rattle.cpa_model.specs.Covers.{LiesInSome, IsCover, CoversAutomaton, IsSafe}
use Rattle.cpa_model.proofs.EdgeSteps.{initial_states, state_of, state_back, steps_are_edges}
use Rattle.cpa_model.proofs.Moves.{initial_is_state_lem}

program_cover : (P : Program) (cfa : Cfa) (entries : List (List Elem)) → IsAutomatonOf P cfa
    → CoversAutomaton cfa entries → IsCover P entries
program_cover P cfa entries A C = record {
  initial = subst (λ (s : State). LiesInSome s entries) (initial_states P cfa A) C.initial;
  successors = λ s t lies step. C.successors s t lies ((steps_are_edges P cfa A s t).0 step);
  safe = λ s is lies error. C.safe s (state_of P cfa A s is) lies (A.errors s.point error);
}

automaton_cover : (P : Program) (cfa : Cfa) (entries : List (List Elem)) → IsAutomatonOf P cfa
    → IsCover P entries → CoversAutomaton cfa entries
automaton_cover P cfa entries A C = record {
  initial = subst (λ (s : State). LiesInSome s entries) (sym (initial_states P cfa A)) C.initial;
  successors = λ s t lies step. C.successors s t lies ((steps_are_edges P cfa A s t).1 step);
  safe = λ s is lies error. C.safe s (state_back P cfa A s is) lies (A.only_errors s.point error);
}

pub covers_agree : (P : Program) (cfa : Cfa) (entries : List (List Elem)) → IsAutomatonOf P cfa
    → CoversAutomaton cfa entries ↔ IsCover P entries
covers_agree P cfa entries A = (program_cover P cfa entries A, automaton_cover P cfa entries A)

-- the last state of a chain that begins in a cover lies in it
lies_along : (P : Program) (entries : List (List Elem)) → IsCover P entries
    → (s t : State) (before : List State) → LiesInSome s entries
    → IsChain (Step P) s (before ++ t ∷ []) → LiesInSome t entries
lies_along P entries C s t [] lies chain = C.successors s t lies chain.0
lies_along P entries C s t (u ∷ before) lies chain =
    lies_along P entries C u t before (C.successors s u lies chain.0) chain.1

lies_at_end : (P : Program) (entries : List (List Elem)) → IsCover P entries
    → (t : State) (before : List State) → IsExecution P (before ++ t ∷ []) → LiesInSome t entries
lies_at_end P entries C t [] run = subst (λ (s : State). LiesInSome s entries) (sym run.0) C.initial
lies_at_end P entries C t (s ∷ before) run =
    lies_along P entries C s t before
    (subst (λ (u : State). LiesInSome u entries) (sym run.0) C.initial) run.1

-- no state of a chain that begins in a cover stands at an error
safe_along : (P : Program) (entries : List (List Elem)) → IsCover P entries
    → (s : State) (states : List State) → IsState P.cells (point_count P) s → LiesInSome s entries
    → IsChain (Step P) s states → CallsError P (s ∷ states) → ⊥
safe_along P entries C s [] is lies chain calls =
    ⊎_elim (λ here. C.safe s is lies here) (λ never. never) calls
safe_along P entries C s (t ∷ states) is lies chain calls =
    let step : Step P s t = chain.0 in
    ⊎_elim
    (λ here. C.safe s is lies here)
    (λ later. safe_along P entries C t states step.after (C.successors s t lies step) chain.1 later)
    calls

never_calls : (P : Program) (entries : List (List Elem)) → IsWellFormed P → IsCover P entries
    → (states : List State) → IsExecution P states → CallsError P states → ⊥
never_calls P entries W C [] run calls = run
never_calls P entries W C (s ∷ states) run calls =
    safe_along P entries C s states
    (subst (λ (u : State). IsState P.cells (point_count P) u) (sym run.0)
    (initial_is_state_lem P W))
    (subst (λ (u : State). LiesInSome u entries) (sym run.0) C.initial)
    run.1 calls

-- a covered program is safe
pub safe_of_cover : (P : Program) (entries : List (List Elem)) → IsWellFormed P → IsCover P entries
    → IsSafe P entries
safe_of_cover P entries W C = record {
  reachable = λ s h. lies_at_end P entries C s h.before h.execution;
  never = never_calls P entries W C;
}
