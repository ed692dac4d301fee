-- What is found of one predicate after the other.
use Rattle.std.proofs.Common.{◌≡◌, ℕ, Bool, List, [], ◌∷◌, ◌++◌, refl, sym, ap, ◌∙◌, subst}
use Rattle.std.proofs.Common.{arith, length}
use Rattle.std.proofs.Common.{get_or, take}
use Rattle.std.specs.Prelude.{◌+◌, ◌<◌, ◌≤◌, zero, suc, Option, None, Some, slice_get}
use Rattle.std.proofs.lemmas.List.{take_more}
use Rattle.std.specs.List.{Contains, AllByRecursion}
use Rattle.cpa_expr.specs.declared.tree.Expr.{Expr}
use Rattle.cpa_expr.specs.declared.tree.Store.{Store}
use Rattle.cpa_model.specs.declared.facts.Elem.{Elem}
use Rattle.cpa_model.specs.declared.automaton.Edge.{Edge}
use Rattle.cpa_model.specs.declared.automaton.Cfa.{Cfa}
use Rattle.cpa_model.specs.Expressions.{IsExpr}
use Rattle.cpa_form_rules.specs.Forms.{Form}
use Rattle.cpa_form_rules.specs.Laws.{FormsAreRuns}
use Rattle.cpa_form_rules.specs.Stores.{FailingIsNotHolding, StepsTakeInputs}
use Rattle.cpa_query.specs.Queries.{IsQuery}
use Rattle.cpa_solver.specs.Decisions.{HasNoModel}
use Rattle.cpa_predicate.specs.declared.asking.Budgets.{Budgets}
use Rattle.cpa_predicate.specs.Steps.{NeverSteps, IsAfter}
use Rattle.cpa_predicate.specs.Questions.{Question, steps, lacks, step_form, lacking, form_asked}
use Rattle.cpa_predicate.specs.Questions.{IsOpen, IsFound, IsUndecided, IsStep, IsBeyond}
use Rattle.cpa_predicate.specs.Questions.{SomeBeyond, Spends}
use Rattle.cpa_predicate.specs.Transfer.{IsTruthAfter, AreTruths, IsOutcome, AreTruthsAfter}
use Rattle.cpa_predicate.specs.Transfer.{IsCartesian, facts_of, elems_of}
use Rattle.cpa_predicate.specs.lemmas.Spending.{undecided_since, undecided_until, both_spent}
use Rattle.cpa_predicate.specs.lemmas.Spending.{beyond_before}
use Rattle.cpa_predicate.specs.lemmas.Wider.{truth_wider, all_wider}
use Rattle.cpa_predicate.proofs.WitnessLemmas.{first_step}
use Rattle.cpa_predicate.proofs.StepLemmas.{step_asked, never_steps, no_step}
use Rattle.cpa_predicate.proofs.StepLemmas.{lack_asked, has_after, no_lack}
use Rattle.cpa_model.specs.Acts.{IsActOf}
use Rattle.cpa_model.specs.Automata.{IsAutomaton}
use Rattle.cpa_model.specs.Facts.{IsElem}

module _ (O : Question → Type 0) (cfa : Cfa) (e : Elem) (g : Edge) where
  -- one predicate more
  truths_push : (preds : List Expr) (truths : List (Option Bool)) (p : Expr)
      (truth : Option Bool) → AreTruths O cfa e g preds truths → IsTruthAfter O cfa e g p truth
      → AreTruths O cfa e g (preds ++ p ∷ []) (truths ++ truth ∷ [])
  truths_push [] [] p truth are is = (is, tt)
  truths_push [] (own ∷ truths) p truth are is = absurd are
  truths_push (q ∷ preds) [] p truth are is = absurd are
  truths_push (q ∷ preds) (own ∷ truths) p truth are is =
      (are.0, truths_push preds truths p truth are.1 is)

  -- the elements of an outcome say what it says
  facts_are : (preds : List Expr) (truths : List (Option Bool))
      → AreTruths O cfa e g preds truths
      → AreTruthsAfter O cfa e g preds (facts_of preds truths)
  facts_are [] [] are = refl
  facts_are [] (truth ∷ truths) are = absurd are
  facts_are (p ∷ preds) [] are = absurd are
  facts_are (p ∷ preds) (truth ∷ truths) are =
      (truth, facts_of preds truths, are.0, refl, facts_are preds truths are.1)

  pub cartesian : (preds : List Expr) (outcome : Option (List (Option Bool)))
      → IsOutcome O cfa e g preds outcome → IsCartesian O cfa e g preds (elems_of preds outcome)
  cartesian preds None never = never
  cartesian preds (Some truths) (leads, are) = (leads, facts_are preds truths are)

module _ (cfa : Cfa) (e : Elem) (g : Edge) (form : Form) (step : IsStep cfa e g form)
    (p : Expr) (typed : IsExpr cfa.cells p)
    (forms : FormsAreRuns) (takes : StepsTakeInputs) (fails : FailingIsNotHolding) where
  pub asked_of : (holds : Bool) → IsQuery (lacking p holds form).query
  asked_of holds = subst (λ (f : Form). IsQuery (lacking p holds f).query) (sym step.is)
      (lack_asked cfa e g step.automaton step.act step.elem forms takes p holds typed fails)

  -- what is found of the form is known of the predicate
  pub found_is : (b c : Budgets) (truth : Option Bool) → IsFound b c form p truth
      → IsTruthAfter (IsOpen b c cfa e g) cfa e g p truth
  found_is b c (Some holds) found =
      has_after cfa e g step.automaton step.act step.elem forms takes p holds typed fails
      (subst (λ (f : Form). HasNoModel (lacking p holds f).query) step.is found)
  found_is b c None found = λ holds has.
      subst (λ (f : Form). IsUndecided b c (lacking p holds f)) step.is
      (found holds
      (subst (λ (f : Form). HasNoModel (lacking p holds f).query) (sym step.is)
      (no_lack cfa e g step.automaton step.act step.elem forms takes p holds typed fails has)))

  -- a question about the form is one about the predicate
  pub some_beyond : (b : Budgets) → ((holds : Bool) × IsBeyond b (lacking p holds form))
      → SomeBeyond b cfa e g (p ∷ [])
  some_beyond b (holds, beyond) = (
    lacks p holds,
    (0, omega arith, refl),
    subst (λ (f : Form). IsBeyond b (lacking p holds f)) step.is beyond,
  )

-- ---- one predicate more

module _ (a b c : Budgets) (cfa : Cfa) (e : Elem) (g : Edge) (preds : List Expr) where
  -- a question on one of the predicates is one on all of them
  on_all : (i : ℕ) (p : Expr) (C : Type 0) → i < length preds → p ≡ get_or preds i p
      → Spends a b C → SomeBeyond b cfa e g (p ∷ []) → SomeBeyond a cfa e g preds
  on_all i p C inside item s (steps, on, beyond) =
      (steps, tt, beyond_before a b C (step_form cfa e g) s beyond)
  on_all i p C inside item s (lacks r holds, on, beyond) = (
    lacks r holds,
    here on,
    beyond_before a b C (lacking r holds (step_form cfa e g)) s beyond,
  )
    where
      here : Contains (p ∷ []) r → Contains preds r
      here (zero, less, at) =
          (i, inside, subst (λ x. get_or preds i x ≡ x) at (sym item))
      here (suc k, less, at) = absurd (omega (arith, less))

  pub one_more : (i : ℕ) (p : Expr) (truths new : List (Option Bool)) (truth : Option Bool)
      → i < length preds → p ≡ get_or preds i p
      → (AreTruths (IsOpen a b cfa e g) cfa e g (take i preds) truths
      × Spends a b (SomeBeyond a cfa e g preds))
      → IsTruthAfter (IsOpen b c cfa e g) cfa e g p truth
      → Spends b c (SomeBeyond b cfa e g (p ∷ []))
      → new ≡ truths ++ truth ∷ []
      → AreTruths (IsOpen a c cfa e g) cfa e g (take (i + 1) preds) new
      × Spends a c (SomeBeyond a cfa e g preds)
  one_more i p truths new truth inside item (are, s) is t pushed = (
    subst (λ ps. AreTruths (IsOpen a c cfa e g) cfa e g ps new)
        (sym (take_more preds i p inside ∙ ap (λ x. take i preds ++ x ∷ []) (sym item)))
        (subst (AreTruths (IsOpen a c cfa e g) cfa e g (take i preds ++ p ∷ [])) (sym pushed)
        (truths_push (IsOpen a c cfa e g) cfa e g (take i preds) truths p truth
        (all_wider (IsOpen a b cfa e g) (IsOpen a c cfa e g) cfa e g
        (λ q. undecided_until a b c (form_asked cfa e g q) t.grows) (take i preds) truths are)
        (truth_wider (IsOpen b c cfa e g) (IsOpen a c cfa e g) cfa e g
        (λ q. undecided_since a b c (SomeBeyond a cfa e g preds) (form_asked cfa e g q) s t.grows)
        p truth is))),
    both_spent a b c (SomeBeyond a cfa e g preds) (SomeBeyond b cfa e g (p ∷ []))
        (SomeBeyond a cfa e g preds) s t (λ x. x)
        (on_all i p (SomeBeyond a cfa e g preds) inside item s),
  )

  -- what was spent where the next one is not answered
  pub one_spent : (i : ℕ) (p : Expr) → i < length preds → p ≡ get_or preds i p
      → Spends a b (SomeBeyond a cfa e g preds) → Spends b c (SomeBeyond b cfa e g (p ∷ []))
      → Spends a c (SomeBeyond a cfa e g preds)
  one_spent i p inside item s t =
      both_spent a b c (SomeBeyond a cfa e g preds) (SomeBeyond b cfa e g (p ∷ []))
      (SomeBeyond a cfa e g preds) s t (λ x. x)
      (on_all i p (SomeBeyond a cfa e g preds) inside item s)

-- ---- the whole

pub there_is : {X : Type 0} (xs : List X) (i : ℕ) → i < length xs
    → (x : X) × (slice_get xs i ≡ Some x)
there_is [] i less = absurd (omega (arith, less))
there_is (x ∷ xs) zero less = (x, refl)
there_is (x ∷ xs) (suc i) less = there_is xs i (omega (arith, less))

module _ (a b : Budgets) (cfa : Cfa) (e : Elem) (g : Edge) (preds : List Expr) (form : Form)
    (is : form ≡ step_form cfa e g) where
  pub step_beyond : IsBeyond a form → SomeBeyond a cfa e g preds
  step_beyond beyond = (steps, tt, subst (IsBeyond a) is beyond)

  -- what was spent on the step, and on the predicates behind it
  pub all_spent : (c : Budgets) (h : Edge) → h ≡ g → Spends a b (IsBeyond a form)
      → Spends b c (SomeBeyond b cfa e h preds) → Spends a c (SomeBeyond a cfa e g preds)
  all_spent c h same s t =
      both_spent a b c (IsBeyond a form) (SomeBeyond b cfa e g preds)
      (SomeBeyond a cfa e g preds) s
      (subst (λ (x : Edge). Spends b c (SomeBeyond b cfa e x preds)) same t) step_beyond
      (λ (q, on, beyond).
      (q, on, beyond_before a b (IsBeyond a form) (form_asked cfa e g q) s beyond))

  module _ (auto : IsAutomaton cfa) (act : IsActOf cfa g.act)
      (shaped : IsElem cfa.cells cfa.points e) (forms : FormsAreRuns) (takes : StepsTakeInputs)
    where
      pub form_asks : IsQuery form.query
      form_asks = subst (λ (f : Form). IsQuery f.query) (sym is)
          (step_asked cfa e g auto act shaped forms takes)

      pub leads_nowhere : HasNoModel form.query → NeverSteps cfa e g
      leads_nowhere none =
          never_steps cfa e g auto act shaped forms takes
          (subst (λ (f : Form). HasNoModel f.query) is none)

      pub leads_on : (c : Budgets) (h : Edge) (truths : List (Option Bool)) → h ≡ g
          → Spends a b (IsBeyond a form) → Spends b c (SomeBeyond b cfa e h preds)
          → (HasNoModel form.query → IsUndecided a b form)
          → AreTruths (IsOpen b c cfa e h) cfa e h preds truths
          → IsOutcome (IsOpen a c cfa e g) cfa e g preds (Some truths)
      leads_on c h truths same s t undecided are = (
        λ never. undecided_until a b c (step_form cfa e g) t.grows
            (subst (IsUndecided a b) is
            (undecided (subst (λ (f : Form). HasNoModel f.query) (sym is)
            (no_step cfa e g auto act shaped forms takes never)))),
        all_wider (IsOpen b c cfa e g) (IsOpen a c cfa e g) cfa e g
            (λ q. undecided_since a b c (IsBeyond a form) (form_asked cfa e g q) s t.grows)
            preds truths
            (subst (λ (x : Edge). AreTruths (IsOpen b c cfa e x) cfa e x preds truths) same are),
      )

-- without predicates a store to which the edge leads is all that is asked
pub settled : (O : Question → Type 0) (cfa : Cfa) (e : Elem) (g h : Edge) (preds : List Expr)
    (xs : List Store) → h ≡ g → preds ≡ [] → 1 ≤ length xs → AllByRecursion (IsAfter cfa e h) xs
    → IsOutcome O cfa e g preds (Some [])
settled O cfa e g h preds xs same none some all =
    let found = first_step cfa e g xs some
    (subst (λ (x : Edge). AllByRecursion (IsAfter cfa e x) xs) same all) in
    subst (λ (ps : List Expr). IsOutcome O cfa e g ps (Some [])) (sym none)
    (λ never. absurd (never found.0 found.1 found.2), tt)
