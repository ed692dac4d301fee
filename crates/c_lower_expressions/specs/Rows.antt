-- The rules of the parts of a typed expression, each behind what the walk has made before it
-- (`c_core_rules`, `specs/Expressions.antt`).
use Rattle.std.specs.Prelude.{ℕ, [], ◌∷◌, ◌++◌, List, map, take, Bool, true, false, Option}
use Rattle.std.specs.Prelude.{unwrap_or, slice_get}
use Rattle.cpa_ints.specs.declared.integers.IntType.{IntType}
use Rattle.c_grammar_symbols.specs.declared.operators.BinaryOperator.{BinaryOperator}
use Rattle.c_grammar_symbols.specs.declared.operators.StepOperator.{StepOperator}
use Rattle.c_grammar_tree.specs.declared.expression.UnaryOperator.{UnaryOperator}
use Rattle.c_types_rules.specs.declared.known.KnownFunction.{KnownFunction}
use Rattle.c_types_rules.specs.declared.known.KnownFunction.TheVariants as known
use Rattle.c_types_rules.specs.declared.meaning.Function.{Function}
use Rattle.c_types_rules.specs.declared.meaning.Kind.TheVariants.{Void, Value}
use Rattle.c_types_rules.specs.declared.meaning.Meaning.{Meaning}
use Rattle.c_types_rules.specs.declared.typed.TypedExpression.{TypedExpression}
use Rattle.c_types_rules.specs.declared.typed.TypedExpression.TheFolds.{fold-TypedSuffix}
use Rattle.c_types_rules.specs.declared.typed.TypedExpression.TheOpen.{TypedExpression-F}
use Rattle.c_types_rules.specs.declared.typed.TypedExpression.TheOpen.{TypedSuffix-F}
use Rattle.c_types_rules.specs.declared.typed.TypedSuffix.{TypedSuffix}
use Rattle.c_types_rules.specs.Known.{known_result}
use Rattle.cpa_model_trees.specs.declared.tree.Head.TheVariants as head
use Rattle.c_core_rules.specs.declared.tree.Place.{Place}
use Rattle.c_core_rules.specs.declared.tree.Usage.{Usage}
use Rattle.c_core_rules.specs.declared.tree.Usage.TheVariants.{Used}
use Rattle.c_core_rules.specs.declared.tree.Valued.{Valued}
use Rattle.c_core_rules.specs.Values.{element}
use Rattle.cpa_model_trees.specs.Numbering.{Trees}
use Rattle.c_core_rules.specs.Trees.{leaf, valued}
use Rattle.c_core_rules.specs.Cells.{Rule, gives, then_by, located}
use Rattle.c_core_rules.specs.Acts.{hold_all, signed, cast_to, finished, kept_for, kept, voided}
use Rattle.c_core_rules.specs.Acts.{is_used}
use Rattle.c_core_rules.specs.Places.{changed, incremented}
use Rattle.c_core_rules.specs.Expressions.{Frames, Rows, ReadSuffix, rows_step, read_suffix, rows}
use Rattle.c_core_rules.specs.Expressions.{used, suffixed, chained, comma, call_rule, called_with}
use Rattle.c_core_rules.specs.Expressions.{Target, no_target, element_target, first_unused}
use Rattle.c_core_rules.specs.Expressions.{taken_in, name_used}

-- an expression: E, or D
unfoldable pub lowered : Frames → Usage → TypedExpression → Rule Valued
lowered frames usage e = (rows frames e).rule usage

-- a scalar that is read
unfoldable pub name_for : ℕ → Usage → Option Meaning → Rule Valued
name_for origin usage found = then_by (name_used found) (finished origin usage)

-- a[i] behind its index
unfoldable pub element_behind : ℕ → Usage → Option Meaning → Valued → Rule Valued
element_behind origin usage found i =
    then_by (located found) (λ place. finished origin usage
    (valued i.statements (element place i.value)))

-- an operator before its operand, and a conversion
unfoldable pub signed_for : ℕ → Usage → UnaryOperator → Valued → Rule Valued
signed_for origin usage operator v = finished origin usage (signed operator v)

unfoldable pub cast_for : ℕ → Usage → IntType → Valued → Rule Valued
cast_for origin usage t v = finished origin usage (cast_to t v)

-- an assignment behind its operands
unfoldable pub changed_for : ℕ → Usage → Option BinaryOperator → Place → Valued → Rule Valued
changed_for origin usage operator place v =
    kept usage (changed origin (is_used usage) operator place v)

-- ++l and --l behind the place
unfoldable pub incremented_for : ℕ → Usage → StepOperator → Place → Rule Valued
incremented_for origin usage operator place =
    kept usage (incremented origin operator place)

-- a call of a function with a body behind its arguments
unfoldable pub called_behind : ℕ → Frames → Usage → Function → List Valued → Rule Valued
called_behind origin frames usage function arguments =
    then_by (hold_all origin arguments) (λ operands.
    gives (kept_for usage (called_with origin frames function operands)))

-- what a known function without a result does
abbrev pub ended : ℕ → KnownFunction → Trees
ended origin known.ReachError = leaf origin head.Error ∷ []
ended origin _ = leaf origin head.Stop ∷ []

-- a call of a known function that evaluates no argument
abbrev pub known_alone : ℕ → Usage → KnownFunction → Rule Valued
known_alone origin usage function = elim (known_result function) [
  | Void ↦ gives (voided usage (ended origin function))
  | Value t ↦ kept usage (taken_in origin function)
]

-- a call of exit, whose status is evaluated
unfoldable pub exit_of : ℕ → Frames → Usage → List TypedExpression → Rule Valued
exit_of origin frames usage arguments =
    then_by (first_unused (map (rows frames) arguments)) (λ before.
    gives (voided usage (before ++ leaf origin head.Stop ∷ [])))

abbrev pub is_exit : KnownFunction → Bool
is_exit known.Exit = true
is_exit _ = false

-- a call of what a name stands for
unfoldable pub call_of : ℕ → Frames → Usage → Option Meaning → List TypedExpression → Rule Valued
call_of origin frames usage found arguments =
    call_rule origin frames usage found (map (rows frames) arguments)

-- a suffix with rows for each expression in it
unfoldable pub suffix_of : Frames → TypedSuffix → ReadSuffix
suffix_of frames = fold-TypedSuffix Rows ReadSuffix (rows_step frames) read_suffix

-- a link of a chain
abbrev pub link_rows : Frames → BinaryOperator × TypedExpression → BinaryOperator × Rows
link_rows frames link = (link.0, rows frames link.1)

-- an expression with these suffixes behind it
abbrev pub suffixed_by : ℕ → Frames → TypedExpression → List TypedSuffix → Rows
suffixed_by origin frames base suffixes =
    suffixed origin frames (rows frames base) (map (suffix_of frames) suffixes)

-- a value with the links behind it
unfoldable pub linked_to : ℕ → Frames → Usage → Valued → List (BinaryOperator × TypedExpression) →
    Rule Valued
linked_to origin frames usage left rest =
    then_by (chained origin (gives left) (map (link_rows frames) rest)) (finished origin usage)

-- what the first suffixes of a postfix expression make as a left side
abbrev pub front_target : Frames → TypedExpression-F TypedExpression TypedSuffix → ℕ → Target
front_target frames (TypedExpression-F.Postfix base suffixes place) count =
    (suffixed_by place frames base (take count suffixes)).target
front_target frames _ count = no_target

-- what a suffix makes as a left side, behind what has this name
abbrev pub suffix_target : Option Meaning → ReadSuffix → Target
suffix_target found (TypedSuffix-F.Index index kind place) = element_target found (used index)
suffix_target found _ = no_target

-- E of an expression
abbrev pub used_by : Frames → TypedExpression → Rule Valued
used_by frames e = lowered frames Used e

-- items of a comma expression
unfoldable pub comma_of : Frames → Usage → List TypedExpression → Rule Valued
comma_of frames usage items =
    comma usage (map (rows frames) items)

-- the same behind statements
unfoldable pub comma_behind : Frames → Usage → Trees → List TypedExpression → Rule Valued
comma_behind frames usage before items =
    then_by (comma_of frames usage items) (λ v.
    gives (valued (before ++ v.statements) v.value))

-- the first cell of the function of this number
abbrev pub first_at : List ℕ → ℕ → ℕ
first_at firsts n = unwrap_or (slice_get firsts n) 0
