-- The tests of facts, and their denials, read what the facts read.
use Rattle.std.proofs.Common.{◌≡◌, ℕ, ℤ, Bool, true, false, IsTrue, List, [], ◌∷◌, ◌++◌, map, sym}
use Rattle.std.proofs.Common.{◌∙◌, inl, inr}
use Rattle.std.specs.List.{flat_map}
use Rattle.cpa_ints.specs.declared.integers.IntType.{IntType}
use Rattle.cpa_expr.specs.declared.tree.CmpOp.{CmpOp}
use Rattle.cpa_expr.specs.declared.tree.CmpOp.TheVariants as cmp
use Rattle.cpa_expr.specs.declared.tree.Expr.{Expr}
use Rattle.cpa_expr.specs.declared.tree.Expr.TheVariants.{Const, Cmp, And}
use Rattle.cpa_expr.specs.Cells.{may_read, scalar_read}
use Rattle.cpa_expr.specs.Laws.{reads_at_variants}
use Rattle.cpa_expr.specs.lemmas.CellsRead.{or_left, or_right}
use Rattle.cpa_facts.specs.declared.fact.Fact.{Fact}
use Rattle.cpa_facts.specs.declared.fact.Fact.TheVariants.{At, Stack, Equals, Within, Truth}
use Rattle.cpa_model.specs.declared.facts.Elem.{Elem}
use Rattle.cpa_query.specs.Queries.{wanted_reads}
use Rattle.cpa_form_renaming.specs.declared.places.Place.{Place}
use Rattle.cpa_form_renaming.specs.TrapTests.{trap_test}
use Rattle.cpa_form_renaming.specs.Laws.{trap_tests_tell}
use Rattle.cpa_form_renaming.specs.lemmas.Nodes.{or_cases}
use Rattle.cpa_form_rules.specs.Tests.{type_at, fact_tests, tests_of, other_than, denied}
use Rattle.cpa_form_rules.specs.Tests.{denials_of}
use Rattle.cpa_form_rules.specs.Reading.{FactReads, SomeReads, SomeElemReads}
use Rattle.cpa_form_rules.specs.lemmas.Readings.{scalar_reads}

-- what one of two lists of expressions reads
pub reads_both : {Q : Type 0} (xs ys : List (Expr × Bool)) (cell : ℕ)
    → IsTrue (wanted_reads (xs ++ ys) cell) → (IsTrue (wanted_reads xs cell) → Q)
    → (IsTrue (wanted_reads ys cell) → Q) → Q
reads_both [] ys cell h k l = l h
reads_both (x ∷ xs) ys cell h k l =
    or_cases (may_read x.0 cell) (wanted_reads (xs ++ ys) cell) h
    (λ here. k (or_left (may_read x.0 cell) (wanted_reads xs cell) here))
    (λ there. reads_both xs ys cell there
    (λ in_xs. k (or_right (may_read x.0 cell) (wanted_reads xs cell) in_xs)) l)

-- what a list of one reads
pub reads_one : (e : Expr) (holds : Bool) (cell : ℕ)
    → IsTrue (wanted_reads ((e, holds) ∷ []) cell) → IsTrue (may_read e cell)
reads_one e holds cell h =
    or_cases (may_read e cell) false h (λ is. is) (λ none. absurd (cc))

-- a comparison of a cell with a number
scalar_first : (o : CmpOp) (t : IntType) (own : ℕ) (v : ℤ) (cell : ℕ)
    → IsTrue (may_read (Cmp o t (scalar_read t own) (Const t v)) cell) → cell ≡ own
scalar_first o t own v cell h =
    or_cases (may_read (scalar_read t own) cell) (may_read (Const t v) cell)
    (sym (reads_at_variants.comparison o t (scalar_read t own) (Const t v) cell) ∙ h)
    (scalar_reads t own cell)
    (λ is. let none = reads_at_variants.constant t v cell in absurd (cc))

scalar_second : (o : CmpOp) (t : IntType) (own : ℕ) (v : ℤ) (cell : ℕ)
    → IsTrue (may_read (Cmp o t (Const t v) (scalar_read t own)) cell) → cell ≡ own
scalar_second o t own v cell h =
    or_cases (may_read (Const t v) cell) (may_read (scalar_read t own) cell)
    (sym (reads_at_variants.comparison o t (Const t v) (scalar_read t own) cell) ∙ h)
    (λ is. let none = reads_at_variants.constant t v cell in absurd (cc))
    (scalar_reads t own cell)

module _ (places : List Place) where
  fact_reads : (fact : Fact) (cell : ℕ) → IsTrue (wanted_reads (fact_tests places fact) cell)
      → FactReads fact cell
  fact_reads (At point) cell h = absurd (cc)
  fact_reads (Stack sites) cell h = absurd (cc)
  fact_reads (Equals own value) cell h =
      let t = type_at places own in
      scalar_first cmp.Eq t own value cell
      (reads_one (Cmp cmp.Eq t (scalar_read t own) (Const t value)) true cell h)
  fact_reads (Within own lo hi) cell h =
      let t = type_at places own in
      let low = Cmp cmp.Le t (Const t lo) (scalar_read t own) in
      let high = Cmp cmp.Le t (scalar_read t own) (Const t hi) in
      or_cases (may_read low cell) (may_read high cell)
      (sym (reads_at_variants.conjunction low high cell) ∙ reads_one (And low high) true cell h)
      (scalar_second cmp.Le t own lo cell) (scalar_first cmp.Le t own hi cell)
  fact_reads (Truth expr holds) cell h = reads_one expr holds cell h

  pub tests_read : (facts : List Fact) (cell : ℕ)
      → IsTrue (wanted_reads (tests_of places facts) cell) → SomeReads facts cell
  tests_read [] cell h = absurd (cc)
  tests_read (fact ∷ facts) cell h =
      reads_both (fact_tests places fact) (tests_of places facts) cell h
      (λ here. inl (fact_reads fact cell here)) (λ there. inr (tests_read facts cell there))

-- a denial reads what the test reads
denied_reads : (one : Expr × Bool) (cell : ℕ) → IsTrue (may_read (denied one).0 cell)
    → IsTrue (may_read one.0 cell)
denied_reads one cell h =
    or_cases (may_read (trap_test one.0) cell) (may_read (other_than one.1 one.0) cell)
    (sym (reads_at_variants.disjunction (trap_test one.0) (other_than one.1 one.0) cell) ∙ h)
    (trap_tests_tell.reads one.0 cell) (other one.1 one.0)
  where
    other : (holds : Bool) (e : Expr) → IsTrue (may_read (other_than holds e) cell)
        → IsTrue (may_read e cell)
    other true e h = sym (reads_at_variants.negation e cell) ∙ h
    other false e h = h

all_denied_read : (tests : List (Expr × Bool)) (cell : ℕ)
    → IsTrue (wanted_reads (map denied tests) cell) → IsTrue (wanted_reads tests cell)
all_denied_read [] cell h = h
all_denied_read (one ∷ tests) cell h =
    or_cases (may_read (denied one).0 cell) (wanted_reads (map denied tests) cell) h
    (λ here. or_left (may_read one.0 cell) (wanted_reads tests cell) (denied_reads one cell here))
    (λ there. or_right (may_read one.0 cell) (wanted_reads tests cell)
    (all_denied_read tests cell there))

pub denials_read : (places : List Place) (elems : List Elem) (cell : ℕ)
    → IsTrue (wanted_reads (flat_map (λ (tests : List (Expr × Bool)). tests)
    (map (λ (elem : Elem). denials_of places elem.facts) elems)) cell)
    → SomeElemReads elems cell
denials_read places [] cell h = absurd (cc)
denials_read places (elem ∷ elems) cell h =
    reads_both (denials_of places elem.facts)
    (flat_map (λ (tests : List (Expr × Bool)). tests)
    (map (λ (other : Elem). denials_of places other.facts) elems)) cell h
    (λ here. inl (tests_read places elem.facts cell
    (all_denied_read (tests_of places elem.facts) cell here)))
    (λ there. inr (denials_read places elems cell there))
