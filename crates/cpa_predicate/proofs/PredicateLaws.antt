-- That the analysis keeps the laws.
use Rattle.std.proofs.Common.{◌≡◌, ℕ, ◌≤◌, Bool, List, [], ◌∷◌, ◌++◌, refl, sym, ap, subst}
use Rattle.std.proofs.Common.{arith, length, inl, ◌∙◌, ◌<◌, ◌-◌, ◌^◌}
use Rattle.std.specs.Prelude.{Option, None, Some, slice_get}
use Rattle.std.proofs.Common.{Result}
use Rattle.std.specs.Prelude.{IfOk}
use Rattle.std.specs.List.{AllByRecursion, filter}
use Rattle.std.specs.declared.alloc.Global.{Global}
use Rattle.std.specs.declared.vec.Vec.{Vec}
use Rattle.std.proofs.lemmas.Result.{IfOk-weaker}
use Rattle.cpa_expr.specs.declared.tree.Expr.{Expr}
use Rattle.cpa_facts.specs.declared.fact.Fact.{Fact}
use Rattle.cpa_facts.specs.declared.fact.Fact.TheVariants.{At, Stack, Equals, Within, Truth}
use Rattle.cpa_model.specs.declared.facts.Elem.{Elem}
use Rattle.cpa_model.specs.declared.states.State.{State}
use Rattle.cpa_model.specs.declared.automaton.Edge.{Edge}
use Rattle.cpa_model.specs.declared.automaton.Cfa.{Cfa}
use Rattle.cpa_model.specs.Automata.{StepsAlong}
use Rattle.cpa_model.specs.Expressions.{IsExpr}
use Rattle.cpa_model.specs.Facts.{FactHolds, Holds, IsFact}
use Rattle.cpa_iface.specs.declared.precisions.Precision.{Precision}
use Rattle.cpa_iface.specs.Laws.{InitialLaws, TransferLaws, SomeHolds}
use Rattle.cpa_iface.specs.Meanings.{AreShaped, IsPrecision}
use Rattle.cpa_form_rules.specs.Runs.{StoreFactHolds}
use Rattle.cpa_predicate.specs.Predicates.{predicates, no_facts}
use Rattle.cpa_predicate.specs.declared.asking.Budgets.{Budgets}
use Rattle.cpa_predicate.specs.Questions.{Question, form_asked, IsOpen}
use Rattle.cpa_predicate.specs.Steps.{is_truth, StepsFrom}
use Rattle.cpa_predicate.specs.Transfer.{fact_of, AreTruthsAfter, IsCartesian, IsTruthAfter}
use Rattle.cpa_predicate.specs.Transfer.{NoneOpen}
use Rattle.cpa_predicate.specs.lemmas.Spending.{none_undecided}
use Rattle.cpa_predicate.specs.lemmas.Wider.{cartesian_wider}
use Rattle.cpa_predicate.proofs.TransferLemmas.{there_is}

pub no_facts-laws : (cfa : Cfa) → InitialLaws predicates cfa no_facts
no_facts-laws cfa = record {
  shaped = tt;
  holds = tt;
  exact = λ other. absurd (other refl);
  bounded = λ p _. omega arith;
  told = tt;
}

-- the truths of an element that holds of a state hold of its store
truths_hold : (s : State) (facts : List Fact) → AllByRecursion (FactHolds s) facts
    → AllByRecursion (StoreFactHolds s.store.values) (filter is_truth facts)
truths_hold s [] all = tt
truths_hold s (At point ∷ facts) all = truths_hold s facts all.1
truths_hold s (Stack sites ∷ facts) all = truths_hold s facts all.1
truths_hold s (Equals cell value ∷ facts) all = truths_hold s facts all.1
truths_hold s (Within cell lo hi ∷ facts) all = truths_hold s facts all.1
truths_hold s (Truth expr holds ∷ facts) all = (all.0, truths_hold s facts all.1)

-- a step of states is one of their stores
stepped : (cfa : Cfa) (e : Elem) (g : Edge) (s t : State) → Holds e s → StepsAlong cfa g s t
    → StepsFrom cfa e g s.store.values t.store.values
stepped cfa e g s t holds along = record {
  values = along.before.store;
  truths = truths_hold s e.facts holds;
  step = along.store;
}

module _ (O : Question → Type 0) (cfa : Cfa) (e : Elem) (g : Edge) where
  -- the truths behind the edge hold, are shaped, and are no more than the predicates
  after_hold : (s t : State) → StepsFrom cfa e g s.store.values t.store.values
      → (preds : List Expr) (facts : List Fact) → AreTruthsAfter O cfa e g preds facts
      → AllByRecursion (FactHolds t) facts
  after_hold s t step [] facts are = subst (AllByRecursion (FactHolds t)) (sym are) tt
  after_hold s t step (p ∷ preds) facts (truth, others, is, split, rest) =
      subst (AllByRecursion (FactHolds t)) (sym split)
      (by truth is (after_hold s t step preds others rest))
    where
      by : (o : Option Bool) → IsTruthAfter O cfa e g p o → AllByRecursion (FactHolds t) others
          → AllByRecursion (FactHolds t) (fact_of p o ++ others)
      by None is all = all
      by (Some holds) is all = (is s.store.values t.store.values step, all)

  after_shaped : (preds : List Expr) (facts : List Fact) → AreTruthsAfter O cfa e g preds facts
      → AllByRecursion (IsExpr cfa.cells) preds
      → AllByRecursion (IsFact cfa.cells cfa.points) facts
  after_shaped [] facts are typed =
      subst (AllByRecursion (IsFact cfa.cells cfa.points)) (sym are) tt
  after_shaped (p ∷ preds) facts (truth, others, is, split, rest) typed =
      subst (AllByRecursion (IsFact cfa.cells cfa.points)) (sym split)
      (by truth (after_shaped preds others rest typed.1))
    where
      by : (o : Option Bool) → AllByRecursion (IsFact cfa.cells cfa.points) others
          → AllByRecursion (IsFact cfa.cells cfa.points) (fact_of p o ++ others)
      by None all = all
      by (Some holds) all = (typed.0, all)

  after_few : (preds : List Expr) (facts : List Fact) → AreTruthsAfter O cfa e g preds facts
      → length facts ≤ length preds
  after_few [] facts are = let none = ap length are in omega (arith, none)
  after_few (p ∷ preds) facts (truth, others, is, split, rest) =
      let long = ap length split in
      let few = after_few preds others rest in
      by truth long few
    where
      by : (o : Option Bool) → length facts ≡ length (fact_of p o ++ others)
          → length others ≤ length preds → length facts ≤ length (p ∷ preds)
      by None long few = omega (arith, long, few)
      by (Some holds) long few = omega (arith, long, few)

  some_after : (s t : State) → StepsFrom cfa e g s.store.values t.store.values
      → (preds : List Expr) (es : List Elem) → IsCartesian O cfa e g preds es → SomeHolds t es
  some_after s t step preds [] is = absurd (is s.store.values t.store.values step)
  some_after s t step preds (after ∷ []) is = inl (after_hold s t step preds after.facts is.1)
  some_after s t step preds (x ∷ y ∷ es) is = absurd is

  all_shaped : (preds : List Expr) (es : List Elem) → IsCartesian O cfa e g preds es
      → AllByRecursion (IsExpr cfa.cells) preds → AreShaped cfa es
  all_shaped preds [] is typed = tt
  all_shaped preds (after ∷ []) is typed = (after_shaped preds after.facts is.1 typed, tt)
  all_shaped preds (x ∷ y ∷ es) is typed = absurd is

  all_few : (preds : List Expr) (es : List Elem) → IsCartesian O cfa e g preds es
      → AllByRecursion (λ (after : Elem). length after.facts ≤ length preds) es
  all_few preds [] is = tt
  all_few preds (after ∷ []) is = (after_few preds after.facts is.1, tt)
  all_few preds (x ∷ y ∷ es) is = absurd is

same_edge : (cfa : Cfa) (edge : ℕ) (g h : Edge) → slice_get cfa.edges edge ≡ Some g
    → slice_get cfa.edges edge ≡ Some h → h ≡ g
same_edge cfa edge g h p q = cc

-- the laws of transfer, whichever questions stay open
pub cartesian-laws : (O : Question → Type 0) (cfa : Cfa) (edge : ℕ) (e : Elem) (p : Precision)
    (g : Edge) (es : List Elem) → IsPrecision cfa p → slice_get cfa.edges edge ≡ Some g
    → IsCartesian O cfa e g p.preds es → TransferLaws predicates cfa edge e p es
cartesian-laws O cfa edge e p g es precision at is = record {
  shaped = all_shaped O cfa e g p.preds es is precision.preds;
  covers = λ h s t ath holds along.
      some_after O cfa e g s t
      (stepped cfa e g s t holds
      (subst (λ x. StepsAlong cfa x s t) (same_edge cfa edge g h at ath) along))
      p.preds es is;
  exact = λ none. absurd none;
  bounded = λ _. all_few O cfa e g p.preds es is;
  told = tt;
}

-- Where the count did not rise and can rise, no question stayed open.
pub exactly : (b c : Budgets) (cfa : Cfa) (e : Elem) (g : Edge) (preds : List Expr)
    (es : List Elem) → c.spent ≡ b.spent → c.spent < 2 ^ 64 - 1
    → IsCartesian (IsOpen b c cfa e g) cfa e g preds es → IsCartesian NoneOpen cfa e g preds es
exactly b c cfa e g preds es same below =
    cartesian_wider (IsOpen b c cfa e g) NoneOpen cfa e g none preds es
  where
    none : (question : Question) → IsOpen b c cfa e g question → NoneOpen question
    none question = none_undecided b c (form_asked cfa e g question) same below

-- so it is of what a call gives
module _ {E : Type 0} (b c : Budgets) (cfa : Cfa) (edge : ℕ) (e : Elem) (p : Precision)
    (ps : List Expr) (r : Result (Vec Elem Global) E) (same : ps ≡ p.preds) where
  pub transfer-laws : edge < length cfa.edges → IsPrecision cfa p
      → IfOk r (λ es. (g : Edge) → slice_get cfa.edges edge ≡ Some g
      → IsCartesian (IsOpen b c cfa e g) cfa e g ps es.items)
      → IfOk r (λ es. TransferLaws predicates cfa edge e p es.items)
  transfer-laws inside precision =
      IfOk-weaker r _ _ (λ (es : Vec Elem Global) known.
      let found = there_is cfa.edges edge inside in
      cartesian-laws (IsOpen b c cfa e found.0) cfa edge e p found.0 es.items precision found.1
      (subst (λ (qs : List Expr). IsCartesian (IsOpen b c cfa e found.0) cfa e found.0 qs es.items)
      same (known found.0 found.1)))

  pub transfer-exact : (old : Budgets) → b ≡ old
      → IfOk r (λ es. (g : Edge) → slice_get cfa.edges edge ≡ Some g
      → IsCartesian (IsOpen b c cfa e g) cfa e g ps es.items)
      → IfOk r (λ es. (g : Edge) → slice_get cfa.edges edge ≡ Some g → c.spent ≡ old.spent
      → c.spent < 2 ^ 64 - 1 → IsCartesian NoneOpen cfa e g p.preds es.items)
  transfer-exact old is =
      IfOk-weaker r _ _ (λ (es : Vec Elem Global) known g at equal below.
      exactly b c cfa e g p.preds es.items
      (equal ∙ ap (λ (x : Budgets). x.spent) (sym is)) below
      (subst (λ (qs : List Expr). IsCartesian (IsOpen b c cfa e g) cfa e g qs es.items) same
      (known g at)))
