-- Facts on a store as tests, and that one of them fails (this project's own).
use Rattle.std.specs.Prelude.{ℕ, Bool, true, false, List, [], ◌∷◌, ◌++◌, map, Option, None, Some}
use Rattle.std.specs.Prelude.{slice_get}
use Rattle.cpa_ints.specs.declared.integers.IntType.{IntType}
use Rattle.cpa_ints.specs.declared.integers.IntType.TheVariants as ty
use Rattle.cpa_expr.specs.declared.tree.CmpOp.TheVariants as cmp
use Rattle.cpa_expr.specs.declared.tree.Expr.{Expr}
use Rattle.cpa_expr.specs.declared.tree.Expr.TheVariants.{Const, Cmp, And, Or, Not}
use Rattle.cpa_expr.specs.Cells.{scalar_read}
use Rattle.cpa_facts.specs.declared.fact.Fact.{Fact}
use Rattle.cpa_facts.specs.declared.fact.Fact.TheVariants.{At, Stack, Equals, Within, Truth}
use Rattle.cpa_form_renaming.specs.declared.places.Place.{Place}
use Rattle.cpa_form_renaming.specs.Renaming.{renamed}
use Rattle.cpa_form_renaming.specs.TrapTests.{trap_test}
use Rattle.cpa_form_rules.specs.declared.drafts.Draft.{Draft}
use Rattle.cpa_form_rules.specs.Drafts.{next, fresh, want}

-- the type of a place, where there is one
abbrev pub type_in : Option Place → IntType
type_in None = ty.I32
type_in (Some place) = place.ty

-- the type of a cell
abbrev pub type_at : List Place → ℕ → IntType
type_at places cell = type_in (slice_get places cell)

-- what a fact on the store asks of the program's cells; the others ask nothing
abbrev pub fact_tests : List Place → Fact → List (Expr × Bool)
fact_tests places (At point) = []
fact_tests places (Stack sites) = []
fact_tests places (Equals cell value) =
    let t = type_at places cell in
    (Cmp cmp.Eq t (scalar_read t cell) (Const t value), true) ∷ []
fact_tests places (Within cell lo hi) =
    let t = type_at places cell in (
      And (Cmp cmp.Le t (Const t lo) (scalar_read t cell))
          (Cmp cmp.Le t (scalar_read t cell) (Const t hi)),
      true,
    ) ∷ []
fact_tests places (Truth expr holds) = (expr, holds) ∷ []

-- what facts ask, in order
abbrev pub tests_of : List Place → List Fact → List (Expr × Bool)
tests_of places [] = []
tests_of places (fact ∷ facts) = fact_tests places fact ++ tests_of places facts

-- the truth other than this one
abbrev pub other_than : Bool → Expr → Expr
other_than true e = Not e
other_than false e = e

-- that the expression traps or has the other truth, as a test that does not trap
abbrev pub denied : Expr × Bool → Expr × Bool
denied one = (Or (trap_test one.0) (other_than one.1 one.0), true)

-- A chain of truths: where this one is true, some test is true: the first, or one of those behind
-- it, which is what the next truth says. Behind the last one the truth is false.
abbrev pub some_from : List Place → List (Expr × Bool) → ℕ → Draft → Draft
some_from places [] truth draft = want (scalar_read ty.Bool truth) false draft
some_from places (one ∷ tests) truth draft =
    some_from places tests (next draft)
    (want (Or (Not (scalar_read ty.Bool truth))
    (Or (renamed places one.0) (scalar_read ty.Bool (next draft)))) true
    (fresh ty.Bool draft))

-- some of the tests is true
abbrev pub want_some : List Place → List (Expr × Bool) → Draft → Draft
want_some places tests draft =
    some_from places tests (next draft)
    (want (scalar_read ty.Bool (next draft)) true (fresh ty.Bool draft))

-- of each element some test is true
abbrev pub want_each : List Place → List (List (Expr × Bool)) → Draft → Draft
want_each places [] draft = draft
want_each places (tests ∷ others) draft =
    want_each places others (want_some places tests draft)

-- the denials of what the facts ask
abbrev pub denials_of : List Place → List Fact → List (Expr × Bool)
denials_of places facts = map denied (tests_of places facts)
