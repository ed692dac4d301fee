-- No TRUE stands beside a FALSE: `agree`. TRUE says that no execution calls the error, and FALSE
-- shows one that does.
use Rattle.std.proofs.Common.{◌≡◌, ℕ, zero, suc, ◌<◌, ℤ, List, [], ◌∷◌, length, subst, arith}
use Rattle.std.specs.Prelude.{slice_index_or}
use Rattle.cpa_model.specs.declared.automaton.Cfa.{Cfa}
use Rattle.cpa_model.specs.declared.facts.Elem.{Elem}
use Rattle.cpa_model.specs.declared.program.Program.{Program}
use Rattle.cpa_model.specs.Automata.{IsAutomaton, IsAutomatonOf}
use Rattle.cpa_model.specs.Covers.{CoversAutomaton, IsSafe}
use Rattle.cpa_model.specs.Programs.{IsWellFormed}
use Rattle.cpa_composite.specs.Components.{Component}
use Rattle.cpa_config.specs.declared.config.Config.{Config}
use Rattle.cpa_engine.specs.declared.answers.Answer.{Answer}
use Rattle.cpa_engine.specs.declared.answers.Answer.TheVariants.{True, False}
use Rattle.cpa_engine.specs.Answers.{IsAnswer}
use Rattle.cpa_engine_turn.specs.Keys.{rows_of}
use Rattle.cpa_interp.specs.lemmas.Outcomes.{error_is_called}
use Rattle.cpa_portfolio_race.specs.Races.{Agree, AreAnswers}

-- an answer among them, with what holds of it
record Found (cfa : Cfa) (a : Answer) : Type 0 where
  components : List Component
  config : Config
  says : IsAnswer cfa components config a

found_at : (cfa : Cfa) (rows : List (List Component)) (configs : List Config)
    (answers : List Answer) (a : Answer) (k : ℕ) → AreAnswers cfa rows configs answers
    → k < length answers → slice_index_or answers k a ≡ a → Found cfa a
found_at cfa [] [] [] a k are inside here = absurd (omega (arith, inside))
found_at cfa [] [] (x ∷ answers) a k are inside here = absurd are
found_at cfa [] (c ∷ configs) answers a k are inside here = absurd are
found_at cfa (cs ∷ rows) [] answers a k are inside here = absurd are
found_at cfa (cs ∷ rows) (c ∷ configs) [] a k are inside here = absurd are
found_at cfa (cs ∷ rows) (c ∷ configs) (x ∷ answers) a zero are inside here =
    record { components = cs; config = c; says = subst (IsAnswer cfa cs c) here are.0 }
found_at cfa (cs ∷ rows) (c ∷ configs) (x ∷ answers) a (suc k) are inside here =
    found_at cfa rows configs answers a k are.2 (omega (arith, inside)) here

-- entries that cover the automaton show that its program is safe
abbrev pub CoversAreSafe : Type 0
CoversAreSafe =
    (P : Program) (cfa : Cfa) (rows : List (List Elem)) → IsWellFormed P → IsAutomatonOf P cfa
    → CoversAutomaton cfa rows → IsSafe P rows

pub agree : (cfa : Cfa) (rows : List (List Component)) (configs : List Config)
    (answers : List Answer) → CoversAreSafe → IsAutomaton cfa → AreAnswers cfa rows configs answers
    → Agree answers
agree cfa rows configs answers shows is are = λ entries inputs steps safe wrong.
    let safe_one = found_at cfa rows configs answers (True entries) safe.0 are safe.1 safe.2 in
    let wrong_one = found_at cfa rows configs answers (False inputs steps) wrong.0 are wrong.1
    wrong.2 in
    let never = (shows is.program cfa (rows_of entries) is.well_formed is.automaton
    safe_one.says.covers).never in
    let run = wrong_one.says.calls is.program is.well_formed is.automaton in
    let (states, execution, calls) = error_is_called is.program inputs steps steps run.replay in
    never states execution calls
