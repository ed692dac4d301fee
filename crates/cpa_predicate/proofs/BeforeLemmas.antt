-- After an assignment to a scalar an expression has the value that it had before with the value in
-- place of the cell, and after a test the test has its own truth.
use Rattle.std.proofs.Common.{◌≡◌, ℕ, ◌+◌, ℤ, Bool, List, [], ◌∷◌, length, refl, sym, ap}
use Rattle.std.proofs.Common.{◌∙◌, subst, arith}
use Rattle.std.specs.Prelude.{suc, Option, None, Some, IsTrue, IfSome, IsSomeAnd, slice_set}
use Rattle.std.specs.List.{AllByRecursion}
use Rattle.cpa_ints.specs.declared.integers.IntType.{IntType}
use Rattle.cpa_expr.specs.declared.tree.Expr.{Expr, out-Expr}
use Rattle.cpa_expr.specs.Cells.{AreValues, is_scalar_read, reads_here, replaced, ReadsAsScalar}
use Rattle.cpa_expr.specs.Laws.{ReplacingIsSetting}
use Rattle.cpa_expr.specs.Shape.{OfParts, parts}
use Rattle.cpa_expr.specs.Values.{value_of, HasTruth, is_nonzero}
use Rattle.cpa_expr.specs.lemmas.Parts.{every_iff}
use Rattle.cpa_model.specs.declared.automaton.Act.{Act}
use Rattle.cpa_model.specs.declared.automaton.Act.TheVariants as act
use Rattle.cpa_model.specs.declared.automaton.Cfa.{Cfa}
use Rattle.cpa_model.specs.declared.automaton.Edge.{Edge}
use Rattle.cpa_model.specs.declared.facts.Elem.{Elem}
use Rattle.cpa_model.specs.Acts.{IsActOf}
use Rattle.cpa_model.specs.Automata.{IsAutomaton}
use Rattle.cpa_model.specs.Expressions.{types_of}
use Rattle.cpa_model.specs.Steps.{StepsStore}
use Rattle.cpa_predicate.specs.Before.{IsBefore}
use Rattle.cpa_predicate.specs.Standing.{first_said}
use Rattle.cpa_predicate.specs.Steps.{HasAfter}
use Rattle.cpa_predicate.proofs.StandingLemmas.{inside, stands}

-- every read is a scalar one where that of the node is, and those of the parts are
pub scalar_node : (cell : ℕ) (e : Expr)
    → (IsTrue (reads_here cell (out-Expr e)) → IsTrue (is_scalar_read cell (out-Expr e)))
    → OfParts (ReadsAsScalar cell) (out-Expr e) → ReadsAsScalar cell e
scalar_node cell e here parts =
    (every_iff (λ node. IsTrue (reads_here cell node) → IsTrue (is_scalar_read cell node)) e).1
    (here, parts)

pub scalar_parts : (cell : ℕ) (e : Expr) (ps : List Expr) → ps ≡ parts (out-Expr e)
    → AllByRecursion (ReadsAsScalar cell) ps → OfParts (ReadsAsScalar cell) (out-Expr e)
scalar_parts cell e ps are all = subst (AllByRecursion (ReadsAsScalar cell)) are all

-- as many values as types
as_many : (types : List IntType) (values : List ℤ) → AreValues types values
    → length types ≡ length values
as_many [] [] are = refl
as_many [] (v ∷ values) are = absurd are
as_many (t ∷ types) [] are = absurd are
as_many (t ∷ types) (v ∷ values) are = ap suc (as_many types values are.1)

pub write_before : (base len : ℕ) (index value p q : Expr) → ReplacingIsSetting → len ≡ 1
    → ReadsAsScalar base p → q ≡ replaced p base value
    → IsBefore (act.Assign base len index value) p q
write_before base len index value p q law one scalar is cfa old new own are step =
    let first : step.place ≡ 0 = omega (arith, step.inside, one) in
    let at : base + step.place ≡ base = omega (arith, first) in
    let there = inside _ (base + step.place) _ (own.3 step.place step.inside) in
    let long = as_many (types_of cfa.cells) old are in
    ap (λ (e : Expr). value_of e old) is
    ∙ law.set p base value old step.written (record {
      scalar = scalar;
      inside = omega (arith, there, at, long);
      value = step.value_is;
    })
    ∙ ap (λ k. value_of p (slice_set old k step.written)) (sym at)
    ∙ ap (λ (s : List ℤ). value_of p s) (sym step.after)

pub before_is : (one other : Act) (p q : Expr) → other ≡ one → IsBefore one p q
    → IsBefore other p q
before_is one other p q same is = subst (λ (a : Act). IsBefore a p q) (sym same) is

-- what the element says of it is so after the act
pub said_before : (cfa : Cfa) (e : Elem) (g : Edge) (one : Act) (p q : Expr)
    → IsAutomaton cfa → IsActOf cfa g.act → g.act ≡ one → IsBefore one p q → (truth : Option Bool)
    → truth ≡ first_said q e.facts → IfSome truth (HasAfter cfa e g p)
said_before cfa e g one p q a own same is None said = tt
said_before cfa e g one p q a own same is (Some holds) said = λ old new s.
    subst (λ o. IsSomeAnd o (λ v. is_nonzero v ≡ holds))
    (is cfa old new (subst (λ (a : Act). IsActOf cfa a) same own) s.values
    (subst (λ (a : Act). StepsStore cfa.cells a old new) same s.step))
    (stands cfa a q old holds e.facts (sym said) s.truths)

-- a test has its truth after it
pub test_after : (test p : Expr) (holds : Bool) (one : Act) → one ≡ act.Assume test holds
    → test ≡ p → (cfa : Cfa) (e : Elem) (g : Edge) → g.act ≡ one → HasAfter cfa e g p holds
test_after test p holds one is same cfa e g own = λ old new s.
    let step = subst (λ (a : Act). StepsStore cfa.cells a old new) (own ∙ is) s.step in
    subst (λ (x : Expr). HasTruth new x holds) same
    (subst (λ (store : List ℤ). HasTruth store test holds) (sym step.1) step.0)
