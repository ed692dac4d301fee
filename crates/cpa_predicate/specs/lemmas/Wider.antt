-- What is known where some questions stay open is known where more do.
use Rattle.std.proofs.Common.{Bool, List, [], ◌∷◌}
use Rattle.std.specs.Prelude.{Option, None, Some}
use Rattle.cpa_expr.specs.declared.tree.Expr.{Expr}
use Rattle.cpa_facts.specs.declared.fact.Fact.{Fact}
use Rattle.cpa_model.specs.declared.facts.Elem.{Elem}
use Rattle.cpa_model.specs.declared.automaton.Edge.{Edge}
use Rattle.cpa_model.specs.declared.automaton.Cfa.{Cfa}
use Rattle.cpa_predicate.specs.Questions.{Question, steps, lacks}
use Rattle.cpa_predicate.specs.Transfer.{IsTruthAfter, AreTruths, IsOutcome, AreTruthsAfter}
use Rattle.cpa_predicate.specs.Transfer.{IsCartesian}

module _ (O Q : Question → Type 0) (cfa : Cfa) (e : Elem) (g : Edge)
    (wider : (question : Question) → O question → Q question) where
  pub truth_wider : (p : Expr) (truth : Option Bool) → IsTruthAfter O cfa e g p truth
      → IsTruthAfter Q cfa e g p truth
  truth_wider p None is = λ holds has. wider (lacks p holds) (is holds has)
  truth_wider p (Some holds) is = is

  pub all_wider : (preds : List Expr) (truths : List (Option Bool))
      → AreTruths O cfa e g preds truths → AreTruths Q cfa e g preds truths
  all_wider [] [] are = are
  all_wider [] (truth ∷ truths) are = are
  all_wider (p ∷ preds) [] are = are
  all_wider (p ∷ preds) (truth ∷ truths) are =
      (truth_wider p truth are.0, all_wider preds truths are.1)

  pub outcome_wider : (preds : List Expr) (outcome : Option (List (Option Bool)))
      → IsOutcome O cfa e g preds outcome → IsOutcome Q cfa e g preds outcome
  outcome_wider preds None is = is
  outcome_wider preds (Some truths) is =
      (λ never. wider steps (is.0 never), all_wider preds truths is.1)

  pub truths_wider : (preds : List Expr) (facts : List Fact)
      → AreTruthsAfter O cfa e g preds facts → AreTruthsAfter Q cfa e g preds facts
  truths_wider [] facts are = are
  truths_wider (p ∷ preds) facts (truth, others, is, split, rest) =
      (truth, others, truth_wider p truth is, split, truths_wider preds others rest)

  pub cartesian_wider : (preds : List Expr) (es : List Elem) → IsCartesian O cfa e g preds es
      → IsCartesian Q cfa e g preds es
  cartesian_wider preds [] is = is
  cartesian_wider preds (after ∷ []) is =
      (λ never. wider steps (is.0 never), truths_wider preds after.facts is.1)
  cartesian_wider preds (x ∷ y ∷ es) is = is
