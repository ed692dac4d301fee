-- What several analyses answer on one automaton, each by a configuration of its own, and which of
-- their answers counts (this project's own).
use Rattle.std.specs.Prelude.{◌≡◌, ◌⊎◌, ℕ, ℤ, List, [], ◌∷◌, ⊤, take, slice_get, Some}
use Rattle.std.specs.List.{AllByRecursion, Contains}
use Rattle.cpa_model.specs.declared.automaton.Cfa.{Cfa}
use Rattle.cpa_iface.specs.declared.entries.Entry.{Entry}
use Rattle.cpa_composite.specs.Components.{Component}
use Rattle.cpa_config.specs.declared.config.Config.{Config}
use Rattle.cpa_engine.specs.declared.answers.Answer.{Answer}
use Rattle.cpa_engine.specs.declared.answers.Answer.TheVariants.{True, False}
use Rattle.cpa_engine.specs.Answers.{IsAnswer}
use Rattle.cpa_engine.specs.Decided.{IsDecided, IsVerdict}

-- one answer for each configuration, in their order, by the components beside it; each has its
-- cause, and comes where it is promised
abbrev pub AreAnswers : Cfa → List (List Component) → List Config → List Answer → Type 0
AreAnswers cfa [] [] [] = ⊤
AreAnswers cfa (cs ∷ rows) (config ∷ configs) (a ∷ answers) =
    IsAnswer cfa cs config a × IsDecided cfa cs config a × AreAnswers cfa rows configs answers
AreAnswers cfa _ _ _ = ⊥

-- none is TRUE where another is FALSE
abbrev pub Agree : List Answer → Type 0
Agree answers =
    (entries : List Entry) (inputs : List ℤ) (steps : ℕ) → Contains answers (True entries)
    → Contains answers (False inputs steps) → ⊥

-- it is neither TRUE nor FALSE
abbrev pub IsOpen : Answer → Type 0
IsOpen a = IsVerdict a → ⊥

-- a verdict stands at the place, and none before it
pub record IsLeastVerdict (answers : List Answer) (place : ℕ) : Type 0 where
  pub answer : Answer
  pub here : slice_get answers place ≡ Some answer
  pub verdict : IsVerdict answer
  pub before : AllByRecursion IsOpen (take place answers)

-- it is the place of the first verdict, or 0 where there is none
abbrev pub IsFirstDecided : List Answer → ℕ → Type 0
IsFirstDecided answers place =
    IsLeastVerdict answers place ⊎ ((place ≡ 0) × AllByRecursion IsOpen answers)
