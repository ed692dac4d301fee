-- Assignments, from the place that is assigned to on (C11 6.5.16, 6.5.2.4, 6.5.3.1; the left side
-- is evaluated before the right one, this project's profile).
use Rattle.std.specs.Prelude.{ℕ, Bool, if◌then◌else◌, [], ◌∷◌, ◌++◌, Option}
use Rattle.std.specs.Prelude.{None, Some}
use Rattle.c_grammar_symbols.specs.declared.operators.BinaryOperator.{BinaryOperator}
use Rattle.c_grammar_symbols.specs.declared.operators.BinaryOperator.TheVariants as binary
use Rattle.c_grammar_symbols.specs.declared.operators.StepOperator.{StepOperator}
use Rattle.c_grammar_symbols.specs.declared.operators.StepOperator.TheVariants as step
use Rattle.c_core_rules.specs.declared.tree.Location.{Location}
use Rattle.c_core_rules.specs.declared.tree.Place.{Place}
use Rattle.c_core_rules.specs.declared.tree.Place.TheVariants.{Scalar, Element, Neither}
use Rattle.c_core_rules.specs.declared.tree.Usage.{Usage}
use Rattle.c_core_rules.specs.declared.tree.Usage.TheVariants.{Used, Unused}
use Rattle.c_core_rules.specs.declared.tree.Valued.{Valued}
use Rattle.c_core_rules.specs.Values.{int, element, first_index}
use Rattle.c_core_rules.specs.Trees.{write, valued, pure}
use Rattle.c_core_rules.specs.Cells.{Rule, gives, then_by}
use Rattle.c_core_rules.specs.Acts.{held, held_before, fixed, operated, kept}

-- the place := v behind the statements of both, and then the place
abbrev pub written : ℕ → Location → Valued → Valued → Valued
written origin place index v =
    valued (index.statements ++ (v.statements ++ write origin place index.value v.value ∷ []))
    (element place index.value)

-- x = v
abbrev pub set_scalar : ℕ → Location → Valued → Valued
set_scalar origin place v = written origin place (pure first_index) v

-- an index, fixed where that is wanted
abbrev pub fixed_if : ℕ → Bool → Valued → Rule Valued
fixed_if origin fixes index = if fixes then fixed origin index else gives index

-- a[i] = v: operands i and v; where the value is used the index is fixed before the write
abbrev pub set_element : ℕ → Bool → Location → Valued → Valued → Rule Valued
set_element origin keeps place index v =
    then_by (held_before origin index v) (λ first.
    let both = valued (first.statements ++ v.statements) first.value in
    then_by (fixed_if origin keeps both) (λ kept.
    gives (written origin place kept (pure v.value))))

-- beside a fault nothing is assigned to
abbrev pub assigned : ℕ → Bool → Place → Valued → Rule Valued
assigned origin keeps (Scalar place) v = gives (set_scalar origin place v)
assigned origin keeps (Element place index) v = set_element origin keeps place index v
assigned origin keeps Neither v = gives v

-- l operator= v, the index fixed: operands l and v, and a write of what they make
abbrev pub updated_at : ℕ → BinaryOperator → Location → Valued → Valued → Rule Valued
updated_at origin operator place index v =
    then_by (held_before origin (pure (element place index.value)) v) (λ old.
    gives (written origin place index (operated operator old v)))

abbrev pub updated : ℕ → BinaryOperator → Place → Valued → Rule Valued
updated origin operator (Scalar place) v = updated_at origin operator place (pure first_index) v
updated origin operator (Element place index) v = updated_at origin operator place index v
updated origin operator Neither v = gives v

-- an assignment of either kind
abbrev pub changed : ℕ → Bool → Option BinaryOperator → Place → Valued → Rule Valued
changed origin keeps None place v = assigned origin keeps place v
changed origin keeps (Some operator) place v = updated origin operator place v

-- ++ and -- add or subtract 1
abbrev pub step_operator : StepOperator → BinaryOperator
step_operator step.Increment = binary.Add
step_operator step.Decrement = binary.Subtract

-- ++l is l += 1
abbrev pub incremented : ℕ → StepOperator → Place → Rule Valued
incremented origin operator place = updated origin (step_operator operator) place (pure (int 1))

-- l++, the index fixed: t := l, then ++l; the value is t
abbrev pub stepped_at : ℕ → StepOperator → Location → Valued → Rule Valued
stepped_at origin operator place index =
    then_by (held origin (valued index.statements (element place index.value))) (λ old.
    then_by (updated_at origin (step_operator operator) place (pure index.value) (pure (int 1)))
    (λ new. gives (valued (old.statements ++ new.statements) old.value)))

abbrev pub stepped : ℕ → StepOperator → Place → Rule Valued
stepped origin operator (Scalar place) = stepped_at origin operator place (pure first_index)
stepped origin operator (Element place index) = stepped_at origin operator place index
stepped origin operator Neither = gives (pure (int 0))

-- l++ where its value is not used is ++l (6.5.2.4p2)
unfoldable pub stepped_for : ℕ → Usage → StepOperator → Place → Rule Valued
stepped_for origin Used operator place = stepped origin operator place
stepped_for origin Unused operator place = kept Unused (incremented origin operator place)
