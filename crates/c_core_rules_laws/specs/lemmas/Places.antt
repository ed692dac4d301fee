-- Assignments are alike where their places and values are.
use Rattle.std.proofs.Common.{ℕ, Bool, true, false, [], ◌++◌, Option}
use Rattle.std.proofs.Common.{None, Some}
use Rattle.cpa_expr.specs.declared.tree.Expr.{Expr}
use Rattle.c_grammar_symbols.specs.declared.operators.BinaryOperator.{BinaryOperator}
use Rattle.c_grammar_symbols.specs.declared.operators.StepOperator.{StepOperator}
use Rattle.c_core_rules.specs.declared.tree.Location.{Location}
use Rattle.c_core_rules.specs.declared.tree.Place.{Place}
use Rattle.c_core_rules.specs.declared.tree.Place.TheVariants.{Scalar, Element, Neither}
use Rattle.c_core_rules.specs.declared.tree.Valued.{Valued}
use Rattle.c_core_rules.specs.Values.{int, first_index}
use Rattle.c_core_rules.specs.Trees.{valued, pure}
use Rattle.c_core_rules.specs.Cells.{gives, then_by}
use Rattle.c_core_rules.specs.Acts.{operated}
use Rattle.c_core_rules.specs.Places.{written, fixed_if, set_element, assigned, updated_at, updated}
use Rattle.c_core_rules.specs.Places.{changed, step_operator, incremented, stepped_at, stepped}
use Rattle.c_core_rules_laws.specs.Alike.{Alike, SameValue, SameValued, SameLocation}
use Rattle.c_core_rules_laws.specs.lemmas.Values.{same_read}
use Rattle.c_core_rules_laws.specs.lemmas.Statements.{trees_self, same_append, same_write}
use Rattle.c_core_rules_laws.specs.lemmas.Statements.{same_valued, valued_self}
use Rattle.c_core_rules_laws.specs.lemmas.Runs.{alike_gives, alike_then}
use Rattle.c_core_rules_laws.specs.lemmas.Acts.{alike_held, alike_held_before, same_operated}
use Rattle.c_core_rules_laws.specs.lemmas.Acts.{alike_fixed}

pub data SamePlace : Place → Place → Type 0 where
  scalar_places : (a b : Location) → SameLocation a b → SamePlace (Scalar a) (Scalar b)
  element_places : (a b : Location) {v w : Valued} → SameLocation a b → SameValued v w
      → SamePlace (Element a v) (Element b w)
  no_places : SamePlace Neither Neither

pub same_as_pure : {v w : Expr} → SameValue v w → SameValued (pure v) (pure w)
same_as_pure is = same_valued (trees_self []) is

pub same_written : (origin : ℕ) (a b : Location) {i j v w : Valued} → SameLocation a b →
    SameValued i j →
    SameValued v w → SameValued (written origin a i v) (written origin b j w)
same_written origin a b at index is =
    same_valued
    (same_append index.statements
    (same_append is.statements (same_write origin a b at index.value is.value)))
    (same_read a b at index.value)

pub alike_fixed_if : (origin : ℕ) (fixes : Bool) {v w : Valued} → SameValued v w →
    Alike SameValued (fixed_if origin fixes v) (fixed_if origin fixes w)
alike_fixed_if origin true is = alike_fixed origin is
alike_fixed_if origin false is = alike_gives is

first_scalar : SameValued (pure first_index) (pure first_index)
first_scalar = valued_self (pure first_index)

alike_set_element : (origin : ℕ) (keeps : Bool) (a b : Location) {i j v w : Valued} →
    SameLocation a b →
    SameValued i j → SameValued v w →
    Alike SameValued (set_element origin keeps a i v) (set_element origin keeps b j w)
alike_set_element origin keeps a b {i = i} {j = j} {v = v} {w = w} at index is =
    alike_then
    (λ first. then_by (fixed_if origin keeps
    (valued (first.statements ++ v.statements) first.value))
    (λ kept. gives (written origin a kept (pure v.value))))
    (λ first. then_by (fixed_if origin keeps
    (valued (first.statements ++ w.statements) first.value))
    (λ kept. gives (written origin b kept (pure w.value))))
    (alike_held_before origin index is)
    (λ x y first. alike_then (λ kept. gives (written origin a kept (pure v.value)))
    (λ kept. gives (written origin b kept (pure w.value)))
    (alike_fixed_if origin keeps
    (same_valued (same_append first.statements is.statements) first.value))
    (λ k l kept. alike_gives (same_written origin a b at kept (same_as_pure is.value))))

alike_assigned : (origin : ℕ) (keeps : Bool) {p q : Place} {v w : Valued} → SamePlace p q →
    SameValued v w →
    Alike SameValued (assigned origin keeps p v) (assigned origin keeps q w)
alike_assigned origin keeps (scalar_places a b at) is =
    alike_gives (same_written origin a b at first_scalar is)
alike_assigned origin keeps (element_places a b at index) is =
    alike_set_element origin keeps a b at index is
alike_assigned origin keeps no_places is = alike_gives is

alike_updated_at : (origin : ℕ) (operator : BinaryOperator) (a b : Location) {i j v w : Valued} →
    SameLocation a b → SameValued i j → SameValued v w →
    Alike SameValued (updated_at origin operator a i v) (updated_at origin operator b j w)
alike_updated_at origin operator a b {i = i} {j = j} {v = v} {w = w} at index is =
    alike_then (λ old. gives (written origin a i (operated operator old v)))
    (λ old. gives (written origin b j (operated operator old w)))
    (alike_held_before origin (same_as_pure (same_read a b at index.value)) is)
    (λ x y old. alike_gives (same_written origin a b at index (same_operated operator old is)))

alike_updated : (origin : ℕ) (operator : BinaryOperator) {p q : Place} {v w : Valued} →
    SamePlace p q →
    SameValued v w → Alike SameValued (updated origin operator p v) (updated origin operator q w)
alike_updated origin operator (scalar_places a b at) is =
    alike_updated_at origin operator a b at first_scalar is
alike_updated origin operator (element_places a b at index) is =
    alike_updated_at origin operator a b at index is
alike_updated origin operator no_places is = alike_gives is

pub alike_changed : (origin : ℕ) (keeps : Bool) (operator : Option BinaryOperator) {p q : Place}
    {v w : Valued} → SamePlace p q → SameValued v w →
    Alike SameValued (changed origin keeps operator p v) (changed origin keeps operator q w)
alike_changed origin keeps None at is = alike_assigned origin keeps at is
alike_changed origin keeps (Some operator) at is = alike_updated origin operator at is

one_value : SameValued (pure (int 1)) (pure (int 1))
one_value = valued_self (pure (int 1))

pub alike_incremented : (origin : ℕ) (operator : StepOperator) {p q : Place} → SamePlace p q →
    Alike SameValued (incremented origin operator p) (incremented origin operator q)
alike_incremented origin operator at = alike_updated origin (step_operator operator) at one_value

alike_stepped_at : (origin : ℕ) (operator : StepOperator) (a b : Location) {i j : Valued} →
    SameLocation a b → SameValued i j →
    Alike SameValued (stepped_at origin operator a i) (stepped_at origin operator b j)
alike_stepped_at origin operator a b {i = i} {j = j} at index =
    alike_then
    (λ old. then_by (updated_at origin (step_operator operator) a (pure i.value) (pure (int 1)))
    (λ new. gives (valued (old.statements ++ new.statements) old.value)))
    (λ old. then_by (updated_at origin (step_operator operator) b (pure j.value) (pure (int 1)))
    (λ new. gives (valued (old.statements ++ new.statements) old.value)))
    (alike_held origin (same_valued index.statements (same_read a b at index.value)))
    (λ x y old. alike_then (λ new. gives (valued (x.statements ++ new.statements) x.value))
    (λ new. gives (valued (y.statements ++ new.statements) y.value))
    (alike_updated_at origin (step_operator operator) a b at (same_as_pure index.value) one_value)
    (λ v w new. alike_gives
    (same_valued (same_append old.statements new.statements) old.value)))

pub alike_stepped : (origin : ℕ) (operator : StepOperator) {p q : Place} → SamePlace p q →
    Alike SameValued (stepped origin operator p) (stepped origin operator q)
alike_stepped origin operator (scalar_places a b at) =
    alike_stepped_at origin operator a b at first_scalar
alike_stepped origin operator (element_places a b at index) =
    alike_stepped_at origin operator a b at index
alike_stepped origin operator no_places = alike_gives (valued_self (pure (int 0)))
