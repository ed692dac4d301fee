-- What is known of predicates after an edge, each by itself (Cartesian abstraction: TACAS 2001).
use Rattle.std.specs.Prelude.{◌≡◌, Bool, List, [], ◌∷◌, ◌++◌, Option, None, Some, ⊤}
use Rattle.cpa_expr.specs.declared.tree.Expr.{Expr}
use Rattle.cpa_facts.specs.declared.fact.Fact.{Fact}
use Rattle.cpa_facts.specs.declared.fact.Fact.TheVariants.{Truth}
use Rattle.cpa_model.specs.declared.facts.Elem.{Elem}
use Rattle.cpa_model.specs.declared.automaton.Edge.{Edge}
use Rattle.cpa_model.specs.declared.automaton.Cfa.{Cfa}
use Rattle.cpa_predicate.specs.Questions.{Question, steps, lacks}
use Rattle.cpa_predicate.specs.Steps.{NeverSteps, HasAfter}

-- the fact on a predicate, where its truth is known
abbrev pub fact_of : Expr → Option Bool → List Fact
fact_of p None = []
fact_of p (Some holds) = Truth p holds ∷ []

-- the facts on predicates, one truth for each
abbrev pub facts_of : List Expr → List (Option Bool) → List Fact
facts_of [] truths = []
facts_of (p ∷ preds) [] = []
facts_of (p ∷ preds) (truth ∷ truths) = fact_of p truth ++ facts_of preds truths

-- the elements behind a step with this outcome
abbrev pub elems_of : List Expr → Option (List (Option Bool)) → List Elem
elems_of preds None = []
elems_of preds (Some truths) = (record { facts = facts_of preds truths }) ∷ []

module _ (Open : Question → Type 0) (cfa : Cfa) (e : Elem) (g : Edge) where
  -- A truth that the predicate has wherever the edge leads is known, unless the question stays
  -- open.
  abbrev pub IsTruthAfter : Expr → Option Bool → Type 0
  IsTruthAfter p (Some holds) = HasAfter cfa e g p holds
  IsTruthAfter p None = (holds : Bool) → HasAfter cfa e g p holds → Open (lacks p holds)

  -- the truths of the predicates, in their order
  abbrev pub AreTruths : List Expr → List (Option Bool) → Type 0
  AreTruths [] [] = ⊤
  AreTruths [] (truth ∷ truths) = ⊥
  AreTruths (p ∷ preds) [] = ⊥
  AreTruths (p ∷ preds) (truth ∷ truths) = IsTruthAfter p truth × AreTruths preds truths

  -- What is found of the step: the truths behind it, or that it leads nowhere.
  abbrev pub IsOutcome : List Expr → Option (List (Option Bool)) → Type 0
  IsOutcome preds None = NeverSteps cfa e g
  IsOutcome preds (Some truths) = (NeverSteps cfa e g → Open steps) × AreTruths preds truths

  -- the facts on the predicates, in their order
  abbrev pub AreTruthsAfter : List Expr → List Fact → Type 0
  AreTruthsAfter [] facts = facts ≡ []
  AreTruthsAfter (p ∷ preds) facts =
      (truth : Option Bool) × (others : List Fact) × IsTruthAfter p truth
      × (facts ≡ fact_of p truth ++ others) × AreTruthsAfter preds others

  -- Nothing is given only where the edge leads nowhere, and something there only where that
  -- question stays open.
  abbrev pub IsCartesian : List Expr → List Elem → Type 0
  IsCartesian preds [] = NeverSteps cfa e g
  IsCartesian preds (after ∷ []) =
      (NeverSteps cfa e g → Open steps) × AreTruthsAfter preds after.facts
  IsCartesian preds _ = ⊥

-- no question stays open
abbrev pub NoneOpen : Question → Type 0
NoneOpen question = ⊥
