-- What elements and edges ask of the stores of a run, in the words of states and steps (of the
-- store's part of a step: CAV 2007, section 2; elements as lists of facts: this project's own).
-- Below each statement stands its lemma.
use Rattle.std.specs.Prelude.{◌≡◌, ◌↔◌, ◌⊎◌, ⊤, ℤ, ◌≤ℤ◌, Bool, true, false, not, IsTrue, IsSomeAnd}
use Rattle.std.specs.Prelude.{List, [], ◌∷◌, Option, None, Some, slice_get}
use Rattle.std.specs.List.{AllByRecursion}
use Rattle.std.specs.Int.Signed.{clash_ℤ}
use Rattle.std.specs.Ordering.{int_eq}
use Rattle.std.proofs.Common.{refl, ap, inl, inr}
use Rattle.std.proofs.lemmas.Int.{by_lt_z}
use Rattle.std.proofs.lemmas.Bool.Decides.{Decides-int_eq}
use Rattle.cpa_expr.specs.declared.tree.Expr.{Expr}
use Rattle.cpa_expr.specs.Values.{is_nonzero, value_of, HasTruth}
use Rattle.cpa_model.specs.declared.program.Cell.{Cell}
use Rattle.cpa_model.specs.declared.automaton.Act.{Act}
use Rattle.cpa_model.specs.declared.automaton.Act.TheVariants as act
use Rattle.cpa_facts.specs.declared.fact.Fact.{Fact}
use Rattle.cpa_facts.specs.declared.fact.Fact.TheVariants.{At, Stack, Equals, Within, Truth}
use Rattle.cpa_model.specs.declared.facts.Elem.{Elem}
use Rattle.cpa_model.specs.declared.states.State.{State}
use Rattle.cpa_model.specs.Facts.{FactHolds, Holds}
use Rattle.cpa_model.specs.Steps.{StepsStore}
use Rattle.cpa_form_renaming.specs.TrapTests.{is_trap}
use Rattle.cpa_form_rules.specs.Runs.{StoreFactHolds, StoreHolds, SomeFails, StoreFails}
use Rattle.cpa_form_rules.specs.Runs.{StepsWith}

-- a fact on the point or on the stack holds of the state; facts on the store are passed over
abbrev pub ControlFactHolds : State → Fact → Type 0
ControlFactHolds s (At point) = s.point ≡ point
ControlFactHolds s (Stack sites) = s.stack ≡ sites
ControlFactHolds s _ = ⊤

-- the facts on the point and on the stack all hold
abbrev pub ControlHolds : State → Elem → Type 0
ControlHolds s elem = AllByRecursion (ControlFactHolds s) elem.facts

-- An element holds of a state exactly where its facts on the point and on the stack do, and those
-- on the store hold of the state's store.
pub record HoldingHasTwoParts : Type 0 where
  pub holds : (elem : Elem) (s : State)
      → Holds elem s ↔ (ControlHolds s elem × StoreHolds s.store.values elem)

-- On each store an element fails, or its facts on the store all hold, and never both: it fails
-- exactly where they do not all hold. An expression's truth fails exactly where the expression
-- traps or has the other truth.
pub record FailingIsNotHolding : Type 0 where
  pub fails : (store : List ℤ) (elem : Elem)
      → StoreFails store elem ↔ (StoreHolds store elem → ⊥)
  pub either : (store : List ℤ) (elem : Elem) → StoreHolds store elem ⊎ StoreFails store elem
  pub truth : (store : List ℤ) (e : Expr) (holds : Bool)
      → (StoreFactHolds store (Truth e holds) → ⊥)
      ↔ (IsTrue (is_trap (value_of e store)) ⊎ HasTruth store e (not holds))

-- An edge leads from one store to another exactly where it does so with some inputs.
pub record StepsTakeInputs : Type 0 where
  pub step : (cells : List Cell) (a : Act) (old new : List ℤ)
      → StepsStore cells a old new ↔ ((inputs : List ℤ) × StepsWith cells a old inputs new)

-- ---- the lemmas

module _ (s : State) where
  apart : (facts : List Fact) → AllByRecursion (FactHolds s) facts
      → AllByRecursion (ControlFactHolds s) facts
      × AllByRecursion (StoreFactHolds s.store.values) facts
  apart [] h = (tt, tt)
  apart (At point ∷ facts) h = let rest = apart facts h.1 in ((h.0, rest.0), (tt, rest.1))
  apart (Stack sites ∷ facts) h = let rest = apart facts h.1 in ((h.0, rest.0), (tt, rest.1))
  apart (Equals cell value ∷ facts) h =
      let rest = apart facts h.1 in ((tt, rest.0), (h.0, rest.1))
  apart (Within cell lo hi ∷ facts) h =
      let rest = apart facts h.1 in ((tt, rest.0), (h.0, rest.1))
  apart (Truth expr holds ∷ facts) h =
      let rest = apart facts h.1 in ((tt, rest.0), (h.0, rest.1))

  together : (facts : List Fact) → AllByRecursion (ControlFactHolds s) facts
      → AllByRecursion (StoreFactHolds s.store.values) facts → AllByRecursion (FactHolds s) facts
  together [] h k = tt
  together (At point ∷ facts) h k = (h.0, together facts h.1 k.1)
  together (Stack sites ∷ facts) h k = (h.0, together facts h.1 k.1)
  together (Equals cell value ∷ facts) h k = (k.0, together facts h.1 k.1)
  together (Within cell lo hi ∷ facts) h k = (k.0, together facts h.1 k.1)
  together (Truth expr holds ∷ facts) h k = (k.0, together facts h.1 k.1)

pub holding_has_two_parts : HoldingHasTwoParts
holding_has_two_parts = record {
  holds = λ elem s. (apart s elem.facts, λ h. together s elem.facts h.0 h.1);
}

-- a truth, or the other one
truth_either : (o : Option ℤ) (holds : Bool) → IsSomeAnd o (λ v. is_nonzero v ≡ holds)
    ⊎ (IsSomeAnd o (λ v. is_nonzero v ≡ holds) → ⊥)
truth_either None holds = inr (λ h. h)
truth_either (Some v) holds = by (is_nonzero v) holds
  where
    by : (b c : Bool) → (b ≡ c) ⊎ (b ≡ c → ⊥)
    by true true = inl refl
    by true false = inr (λ e. absurd (cc))
    by false true = inr (λ e. absurd (cc))
    by false false = inl refl

module _ (store : List ℤ) where
  fact_either : (fact : Fact) → StoreFactHolds store fact ⊎ (StoreFactHolds store fact → ⊥)
  fact_either (At point) = inl tt
  fact_either (Stack sites) = inl tt
  fact_either (Equals cell value) = by (slice_get store cell)
    where
      same : (v : ℤ) (b : Bool) → int_eq v value ≡ b
          → (Some v ≡ Some value) ⊎ (Some v ≡ Some value → ⊥)
      same v true e = inl (ap Some ((Decides-int_eq v value).0 e))
      same v false e = inr (λ is. absurd (unlike v e is))
        where
          unlike : (v : ℤ) → int_eq v value ≡ false → Some v ≡ Some value → ⊥
          unlike v e is =
              let one : v ≡ value = cc in
              let self = (Decides-int_eq v value).1 one in cc

      by : (o : Option ℤ) → (o ≡ Some value) ⊎ (o ≡ Some value → ⊥)
      by None = inr (λ e. absurd (cc))
      by (Some v) = same v (int_eq v value) refl
  fact_either (Within cell lo hi) = by (slice_get store cell)
    where
      by : (o : Option ℤ) → IsSomeAnd o (λ v. (lo ≤ℤ v) × (v ≤ℤ hi))
          ⊎ (IsSomeAnd o (λ v. (lo ≤ℤ v) × (v ≤ℤ hi)) → ⊥)
      by None = inr (λ h. h)
      by (Some v) =
          by_lt_z v lo
          (λ below. inr (λ h. clash_ℤ below h.0))
          (λ from. by_lt_z hi v
          (λ above. inr (λ h. clash_ℤ above h.1))
          (λ to. inl (from, to)))
  fact_either (Truth expr holds) = truth_either (value_of expr store) holds

  facts_either : (facts : List Fact)
      → AllByRecursion (StoreFactHolds store) facts ⊎ SomeFails store facts
  facts_either [] = inl tt
  facts_either (fact ∷ facts) = by (fact_either fact) (facts_either facts)
    where
      by : StoreFactHolds store fact ⊎ (StoreFactHolds store fact → ⊥)
          → AllByRecursion (StoreFactHolds store) facts ⊎ SomeFails store facts
          → AllByRecursion (StoreFactHolds store) (fact ∷ facts) ⊎ SomeFails store (fact ∷ facts)
      by (inr fails) rest = inr (inl fails)
      by (inl holds) (inr fails) = inr (inr fails)
      by (inl holds) (inl rest) = inl (holds, rest)

  never_both : (facts : List Fact) → SomeFails store facts
      → AllByRecursion (StoreFactHolds store) facts → ⊥
  never_both [] fails h = fails
  never_both (fact ∷ facts) (inl fails) h = fails h.0
  never_both (fact ∷ facts) (inr fails) h = never_both facts fails h.1

  some_fails : (facts : List Fact) → (AllByRecursion (StoreFactHolds store) facts → ⊥)
      → SomeFails store facts
  some_fails facts fails = by (facts_either facts)
    where
      by : AllByRecursion (StoreFactHolds store) facts ⊎ SomeFails store facts
          → SomeFails store facts
      by (inl holds) = absurd (fails holds)
      by (inr some) = some

-- no truth is a trap, or the other truth
other_truth : (o : Option ℤ) (holds : Bool) → (IsSomeAnd o (λ v. is_nonzero v ≡ holds) → ⊥)
    ↔ (IsTrue (is_trap o) ⊎ IsSomeAnd o (λ v. is_nonzero v ≡ not holds))
other_truth None holds = (λ fails. inl refl, λ trap h. h)
other_truth (Some v) holds = by (is_nonzero v) holds
  where
    nothing : (b : Bool) → IsTrue false ⊎ (b ≡ not b) → ⊥
    nothing b (inl h) = absurd (cc)
    nothing true (inr e) = absurd (cc)
    nothing false (inr e) = absurd (cc)

    by : (b c : Bool) → (b ≡ c → ⊥) ↔ (IsTrue false ⊎ (b ≡ not c))
    by true true = (λ fails. absurd (fails refl), λ h e. nothing true h)
    by true false = (λ fails. inr refl, λ h e. absurd (cc))
    by false true = (λ fails. inr refl, λ h e. absurd (cc))
    by false false = (λ fails. absurd (fails refl), λ h e. nothing false h)

pub failing_is_not_holding : FailingIsNotHolding
failing_is_not_holding = record {
  fails = λ store elem. (never_both store elem.facts, some_fails store elem.facts);
  either = λ store elem. facts_either store elem.facts;
  truth = λ store e holds. other_truth (value_of e store) holds;
}

with_inputs : (cells : List Cell) (a : Act) (old new : List ℤ) → StepsStore cells a old new
    → (inputs : List ℤ) × StepsWith cells a old inputs new
with_inputs cells act.Skip old new h = ([], (refl, h))
with_inputs cells (act.Assign base len index value) old new h = ([], (refl, h))
with_inputs cells (act.Assume test holds) old new h = ([], (refl, h))
with_inputs cells (act.Input cell) old new h = (h.0 ∷ [], (h.0, h.1, refl, h.2))
with_inputs cells (act.Call site) old new h = ([], (refl, h))
with_inputs cells (act.Return site) old new h = ([], (refl, h))

step_alone : (cells : List Cell) (a : Act) (old new : List ℤ)
    → ((inputs : List ℤ) × StepsWith cells a old inputs new) → StepsStore cells a old new
step_alone cells act.Skip old new h = h.1.1
step_alone cells (act.Assign base len index value) old new h = h.1.1
step_alone cells (act.Assume test holds) old new h = h.1.1
step_alone cells (act.Input cell) old new h = (h.1.0, h.1.1, h.1.3)
step_alone cells (act.Call site) old new h = h.1.1
step_alone cells (act.Return site) old new h = h.1.1

pub steps_take_inputs : StepsTakeInputs
steps_take_inputs = record {
  step = λ cells a old new. (with_inputs cells a old new, step_alone cells a old new);
}
