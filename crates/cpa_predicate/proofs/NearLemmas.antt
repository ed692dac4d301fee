-- A truth that a predicate has from some truths of an element it has from all of them.
use Rattle.std.proofs.Common.{◌≡◌, ℕ, ℤ, Bool, List, [], ◌∷◌, ◌++◌, refl, sym, subst}
use Rattle.std.specs.Prelude.{Option, None, Some, IfSome, IsTrue}
use Rattle.std.specs.List.{AllByRecursion, filter}
use Rattle.cpa_expr.specs.declared.tree.Expr.{Expr}
use Rattle.cpa_facts.specs.declared.fact.Fact.{Fact}
use Rattle.cpa_facts.specs.declared.fact.Fact.TheVariants.{At, Stack, Equals, Within, Truth}
use Rattle.cpa_model.specs.declared.facts.Elem.{Elem}
use Rattle.cpa_model.specs.declared.automaton.Edge.{Edge}
use Rattle.cpa_model.specs.declared.automaton.Cfa.{Cfa}
use Rattle.cpa_model.specs.Acts.{IsActOf}
use Rattle.cpa_model.specs.Automata.{IsAutomaton}
use Rattle.cpa_model.specs.Expressions.{IsExpr}
use Rattle.cpa_model.specs.declared.program.Cell.{Cell}
use Rattle.cpa_model.specs.Facts.{IsElem, IsFact}
use Rattle.cpa_iface.specs.lemmas.CommonLaws.{kept_all}
use Rattle.cpa_form_rules.specs.Forms.{Form}
use Rattle.cpa_form_rules.specs.Laws.{FormsAreRuns}
use Rattle.cpa_form_rules.specs.Runs.{StoreHolds, StoreFactHolds}
use Rattle.cpa_form_rules.specs.Stores.{FailingIsNotHolding, StepsTakeInputs}
use Rattle.cpa_query.specs.Queries.{IsQuery}
use Rattle.cpa_solver.specs.Decisions.{HasNoModel}
use Rattle.cpa_predicate.specs.Steps.{is_truth, truths, HasAfter}
use Rattle.cpa_predicate.specs.Questions.{step_form, lacking}
use Rattle.cpa_predicate.proofs.StepLemmas.{lack_asked, has_after}

-- what holds of all facts of a list, and of one more, holds of all behind its push
pub one_pushed : (P : Fact → Type 0) (facts : List Fact) (x : Fact) → AllByRecursion P facts → P x
    → AllByRecursion P (facts ++ x ∷ [])
one_pushed P [] x all is = (is, tt)
one_pushed P (f ∷ facts) x all is = (all.0, one_pushed P facts x all.1 is)

module _ {W : Type 0} (P : Fact → Type 0) (facts last rest : List Fact) (x : Fact)
    (steps : last ≡ x ∷ rest) (all : W → AllByRecursion P facts × AllByRecursion P last) where
  -- one that is copied
  pub one_kept : (new : List Fact) (y : Fact) → y ≡ x → new ≡ facts ++ y ∷ [] → W
      → AllByRecursion P new × AllByRecursion P rest
  one_kept new y same pushed w =
      let behind : AllByRecursion P (x ∷ rest) = subst (AllByRecursion P) steps (all w).1 in (
        subst (AllByRecursion P) (sym pushed)
            (one_pushed P facts y (all w).0 (subst P (sym same) behind.0)),
        behind.1,
      )

  -- and one that is left out
  pub one_left : W → AllByRecursion P facts × AllByRecursion P rest
  one_left w = ((all w).0, (subst (AllByRecursion P) steps (all w).1).1)

-- a truth is one of the truths
pub truth_first : (x : Fact) (rest : List Fact) → IsTrue (is_truth x)
    → filter is_truth (x ∷ rest) ≡ x ∷ filter is_truth rest
truth_first (At point) rest is = absurd (cc)
truth_first (Stack sites) rest is = absurd (cc)
truth_first (Equals cell value) rest is = absurd (cc)
truth_first (Within cell lo hi) rest is = absurd (cc)
truth_first (Truth expr holds) rest is = refl

-- and the others are those of what is left
pub truths_left : (P : Fact → Type 0) (x : Fact) (rest : List Fact)
    → AllByRecursion P (filter is_truth (x ∷ rest)) → AllByRecursion P (filter is_truth rest)
truths_left P (At point) rest all = all
truths_left P (Stack sites) rest all = all
truths_left P (Equals cell value) rest all = all
truths_left P (Within cell lo hi) rest all = all
truths_left P (Truth expr holds) rest all = all.1

-- so does what holds of the element that is made of them
pub made_shaped : (e : Elem) (facts : List Fact)
    → ((cells : List Cell) (points : ℕ) → IsElem cells points e
    → AllByRecursion (IsFact cells points) facts)
    → (near : Elem) → near.facts ≡ facts
    → (cells : List Cell) (points : ℕ) → IsElem cells points e → IsElem cells points near
made_shaped e facts keeps near is cells points whole =
    subst (AllByRecursion (IsFact cells points)) (sym is) (keeps cells points whole)

pub made_weaker : (e : Elem) (facts : List Fact)
    → ((values : List ℤ) → StoreHolds values (truths e)
    → AllByRecursion (StoreFactHolds values) facts)
    → (near : Elem) → near.facts ≡ facts
    → (values : List ℤ) → StoreHolds values (truths e) → StoreHolds values near
made_weaker e facts keeps near is values whole =
    subst (AllByRecursion (StoreFactHolds values)) (sym is) (keeps values whole)

-- what the fewer truths give behind the edge, more give
pub has_more : (cfa : Cfa) (near e : Elem) (g : Edge) (p : Expr) (holds : Bool)
    → ((values : List ℤ) → StoreHolds values (truths e) → StoreHolds values near)
    → HasAfter cfa near g p holds → HasAfter cfa e g p holds
has_more cfa near e g p holds weaker has = λ old new s.
    has old new (record {
      values = s.values;
      truths = kept_all (StoreFactHolds old) is_truth near.facts (weaker old s.truths);
      step = s.step;
    })

module _ (cfa : Cfa) (near e : Elem) (g : Edge) (a : IsAutomaton cfa) (act : IsActOf cfa g.act)
    (shaped : IsElem cfa.cells cfa.points near) (forms : FormsAreRuns) (takes : StepsTakeInputs)
    (fails : FailingIsNotHolding) (p : Expr) (typed : IsExpr cfa.cells p) (form : Form)
    (is : form ≡ step_form cfa near g) where
  pub near_asked : (holds : Bool) → IsQuery (lacking p holds form).query
  near_asked holds = subst (λ (f : Form). IsQuery (lacking p holds f).query) (sym is)
      (lack_asked cfa near g a act shaped forms takes p holds typed fails)

  -- so what is found of the form is a truth behind the edge from the whole element
  pub near_found : (truth : Option Bool)
      → ((values : List ℤ) → StoreHolds values (truths e) → StoreHolds values near)
      → IfSome truth (λ holds. HasNoModel (lacking p holds form).query)
      → IfSome truth (HasAfter cfa e g p)
  near_found None weaker none = tt
  near_found (Some holds) weaker none =
      has_more cfa near e g p holds weaker
      (has_after cfa near g a act shaped forms takes p holds typed fails
      (subst (λ (f : Form). HasNoModel (lacking p holds f).query) is none))
