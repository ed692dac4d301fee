-- The core of an expression (C11 6.5, from left to right), a rule for each form, by whether the
-- value is used: E, its statements and the pure value behind them, where it is; D, its statements
-- with 0 for the value, where it is not.
use Rattle.std.specs.Prelude.{ℕ, ◌+◌, slice_get, Bool, true, List, [], ◌∷◌}
use Rattle.std.specs.Prelude.{◌++◌, map, Option, None, Some, unwrap_or, is_some}
use Rattle.cpa_ints.specs.declared.integers.IntType.TheVariants as ty
use Rattle.cpa_expr.specs.declared.tree.Expr.{Expr}
use Rattle.cpa_expr.specs.declared.tree.Expr.TheVariants.{Const}
use Rattle.c_grammar_symbols.specs.declared.operators.BinaryOperator.{BinaryOperator}
use Rattle.c_grammar_symbols.specs.declared.operators.AssignmentOperator.{AssignmentOperator}
use Rattle.c_grammar_symbols.specs.declared.operators.StepOperator.{StepOperator}
use Rattle.c_types_rules.specs.declared.known.KnownFunction.{KnownFunction}
use Rattle.c_types_rules.specs.declared.known.KnownFunction.TheVariants as known
use Rattle.c_types_rules.specs.declared.meaning.Kind.{Kind}
use Rattle.c_types_rules.specs.declared.meaning.Kind.TheVariants.{Void, Value}
use Rattle.c_types_rules.specs.declared.meaning.Object.{Object}
use Rattle.c_types_rules.specs.declared.meaning.Function.{Function}
use Rattle.c_types_rules.specs.declared.meaning.Meaning.{Meaning}
use Rattle.c_types_rules.specs.declared.meaning.Meaning.TheVariants as meaning
use Rattle.c_types_rules.specs.declared.typed.TypedExpression.{TypedExpression}
use Rattle.c_types_rules.specs.declared.typed.TypedExpression.TheOpen.{TypedExpression-F}
use Rattle.c_types_rules.specs.declared.typed.TypedExpression.TheOpen.{TypedSuffix-F}
use Rattle.c_types_rules.specs.declared.typed.TypedExpression.TheFolds.{fold-TypedExpression}
use Rattle.c_types_rules.specs.declared.typed.TypedFunction.{TypedFunction}
use Rattle.c_types_rules.specs.Types.{object_type}
use Rattle.c_types_rules.specs.Known.{known_result}
use Rattle.c_types_rules.specs.Tables.{cells_of, operator_of}
use Rattle.cpa_model_trees.specs.declared.tree.Head.TheVariants as head
use Rattle.c_core_rules.specs.declared.tree.Location.{Location}
use Rattle.c_core_rules.specs.declared.tree.Place.{Place}
use Rattle.c_core_rules.specs.declared.tree.Place.TheVariants as place
use Rattle.c_core_rules.specs.declared.tree.Usage.{Usage}
use Rattle.c_core_rules.specs.declared.tree.Usage.TheVariants.{Used, Unused}
use Rattle.c_core_rules.specs.declared.tree.Valued.{Valued}
use Rattle.c_core_rules.specs.Values.{int, element, scalar, cell_at}
use Rattle.cpa_model_trees.specs.Numbering.{Trees}
use Rattle.c_core_rules.specs.Trees.{leaf, set, input, valued, pure}
use Rattle.c_core_rules.specs.Cells.{Rule, gives, then_by, each, fresh, located, scalar_place}
use Rattle.c_core_rules.specs.Acts.{hold_all, statements_of, values_of, linked, signed, cast_to}
use Rattle.c_core_rules.specs.Acts.{finished, kept, voided, is_used, chosen_for}
use Rattle.c_core_rules.specs.Places.{fixed_if, changed, incremented, stepped_for}

-- the cells of a function with a body: of its result, and of each parameter
pub record Frame : Type 0 where
  pub result_cell : Location
  pub parameters : List Location

-- cells of these objects, one behind the other from one on
abbrev pub cells_from : ℕ → List Object → List Location
cells_from n [] = []
cells_from n (object ∷ objects) = cell_at object.ty n ∷ cells_from (n + cells_of object) objects

-- the first cell of a function is that of its result, where it has one, and then come those of its
-- parameters
abbrev pub behind_result : Kind → ℕ → ℕ
behind_result Void first = first
behind_result (Value t) first = first + 1

abbrev pub frame_of : ℕ → TypedFunction → Frame
frame_of first function = record {
  result_cell = cell_at (object_type function.result) first;
  parameters = cells_from (behind_result function.result first) function.parameters;
}

-- those of the functions with a body, body by body
abbrev pub Frames : Type 0
Frames = List Frame

abbrev pub no_frame : Frame
no_frame = record { result_cell = cell_at ty.I32 0; parameters = [] }

abbrev pub frame_at : Frames → ℕ → Frame
frame_at frames body = unwrap_or (slice_get frames body) no_frame

-- what is assigned to: a scalar or an element of an array, with the rule of its index, of what a
-- name stands for; or neither
pub data Target : Type 0 where
  scalar_target : Option Meaning → Target
  element_target : Option Meaning → Rule Valued → Target
  no_target : Target

-- an expression: its rule, what it is as a left side, what it names
pub record Rows : Type 0 where
  pub rule : Usage → Rule Valued
  pub target : Target
  pub names : Option Meaning

-- E
abbrev pub used : Rows → Rule Valued
used row = row.rule Used

abbrev pub only_statements : Rule Valued → Rule Trees
only_statements rule = then_by rule (λ v. gives v.statements)

-- D
abbrev pub unused : Rows → Rule Trees
unused row = only_statements (row.rule Unused)

-- the value of x (6.5.1p2), or the constant that an enumerator is (6.4.4.3p2)
abbrev pub name_used : Option Meaning → Rule Valued
name_used (Some (meaning.Enumerator n)) = gives (pure (Const ty.I32 n))
name_used found = then_by (scalar_place found) (λ place. gives (pure (scalar place)))

-- the value of an element a[i] (6.5.2.1p2)
abbrev pub element_used : Option Meaning → Rule Valued → Rule Valued
element_used found index =
    then_by index (λ i. then_by (located found) (λ place.
    gives (valued i.statements (element place i.value))))

-- the place that is assigned to: the index of an element is evaluated, and fixed where that is
-- wanted
abbrev pub placed : ℕ → Bool → Target → Rule Place
placed origin fixes (scalar_target found) =
    then_by (scalar_place found) (λ location. gives (place.Scalar location))
placed origin fixes (element_target found index) =
    then_by index (λ i. then_by (fixed_if origin fixes i) (λ kept.
    then_by (located found) (λ location. gives (place.Element location kept))))
placed origin fixes no_target = gives place.Neither

-- an expression that is no left side and no name
abbrev pub act : (Usage → Rule Valued) → Rows
act rule = record { rule = rule; target = no_target; names = None }

-- one that is evaluated and does nothing else
abbrev pub plain : ℕ → Rule Valued → Rows
plain origin rule = act (λ usage. then_by rule (finished origin usage))

-- an assignment (6.5.16): the place, the right side, the write; the index of l operator= v is fixed
-- first
abbrev pub assigning : ℕ → Bool → AssignmentOperator → Target → Rule Valued → Rule Valued
assigning origin keeps operator target right =
    then_by (placed origin (is_some (operator_of operator)) target) (λ place. then_by right (λ v.
    changed origin keeps (operator_of operator) place v))

-- the writes to a function's parameters, as far as there are arguments (6.5.2.2p4 and p7)
abbrev pub passed : ℕ → List Location → List Expr → Trees
passed origin (place ∷ places) (v ∷ vs) = set origin place v ∷ passed origin places vs
passed origin _ _ = []

-- a call of a function with a body (6.5.2.2): operands, a write to each parameter, the call; then
-- its result is read, at the type of the function that is called (6.5.2.2p5)
abbrev pub called_with : ℕ → Frames → Function → List Valued → Valued
called_with origin frames function operands =
    let body = unwrap_or function.body 0 in
    let frame = frame_at frames body in
    valued (statements_of operands ++ (passed origin frame.parameters (values_of operands)
    ++ leaf origin (head.Call body) ∷ []))
    (scalar (cell_at (object_type function.result) frame.result_cell.base))

abbrev pub called : ℕ → Frames → Function → List (Rule Valued) → Rule Valued
called origin frames function arguments =
    then_by (each arguments) (λ vs. then_by (hold_all origin vs) (λ operands.
    gives (called_with origin frames function operands)))

-- D of the first of the arguments
abbrev pub first_unused : List Rows → Rule Trees
first_unused [] = gives []
first_unused (argument ∷ more) = unused argument

-- an input of a fresh t of the function's type (this project's own)
abbrev pub taken_in : ℕ → KnownFunction → Rule Valued
taken_in origin function =
    then_by (fresh (object_type (known_result function))) (λ t.
    gives (valued (input origin t.base ∷ []) (scalar t)))

-- a call of a known function: an error, a stop, or an input (this project's own)
abbrev pub known_called : ℕ → Usage → KnownFunction → List Rows → Rule Valued
known_called origin usage known.ReachError arguments =
    gives (voided usage (leaf origin head.Error ∷ []))
known_called origin usage known.Abort arguments =
    gives (voided usage (leaf origin head.Stop ∷ []))
known_called origin usage known.AssertFail arguments =
    gives (voided usage (leaf origin head.Stop ∷ []))
known_called origin usage known.Exit arguments =
    then_by (first_unused arguments) (λ before.
    gives (voided usage (before ++ leaf origin head.Stop ∷ [])))
known_called origin usage function arguments = kept usage (taken_in origin function)

abbrev pub call_rule : ℕ → Frames → Usage → Option Meaning → List Rows → Rule Valued
call_rule origin frames usage (Some (meaning.Function function)) arguments =
    kept usage (called origin frames function (map used arguments))
call_rule origin frames usage (Some (meaning.Known function)) arguments =
    known_called origin usage function arguments
call_rule origin frames usage _ arguments = gives (pure (int 0))

abbrev pub call_rows : ℕ → Frames → Option Meaning → List Rows → Rows
call_rows origin frames found arguments =
    act (λ usage. call_rule origin frames usage found arguments)

abbrev pub name_rows : ℕ → Option Meaning → Rows
name_rows origin found = record {
  rule = λ usage. then_by (name_used found) (finished origin usage);
  target = scalar_target found;
  names = found;
}

abbrev pub element_rows : ℕ → Option Meaning → Rule Valued → Rows
element_rows origin found index = record {
  rule = λ usage. then_by (element_used found index) (finished origin usage);
  target = element_target found index;
  names = None;
}

-- ++l and --l (6.5.3.1p2)
abbrev pub incrementing : ℕ → StepOperator → Target → Rule Valued
incrementing origin operator target =
    then_by (placed origin true target) (incremented origin operator)

-- l++ and l-- (6.5.2.4p2)
abbrev pub stepping : ℕ → Usage → StepOperator → Target → Rule Valued
stepping origin usage operator target =
    then_by (placed origin true target) (stepped_for origin usage operator)

-- a suffix with rows for each expression in it, behind what stands before it; what it makes has the
-- place of the whole postfix expression, which is that of its first token
abbrev pub ReadSuffix : Type 0
ReadSuffix = TypedSuffix-F Rows (Unit {0})

abbrev pub read_suffix : {A : Type 0} → TypedSuffix-F Rows A → ReadSuffix
read_suffix (TypedSuffix-F.Index index kind place) = TypedSuffix-F.Index index kind place
read_suffix (TypedSuffix-F.Call arguments kind place) = TypedSuffix-F.Call arguments kind place
read_suffix (TypedSuffix-F.Step operator kind place) = TypedSuffix-F.Step operator kind place
read_suffix (TypedSuffix-F.Skipped kind place) = TypedSuffix-F.Skipped kind place

abbrev pub suffix_rows : ℕ → Frames → Rows → ReadSuffix → Rows
suffix_rows origin frames base (TypedSuffix-F.Index index kind place) =
    element_rows origin base.names (used index)
suffix_rows origin frames base (TypedSuffix-F.Call arguments kind place) =
    call_rows origin frames base.names arguments
suffix_rows origin frames base (TypedSuffix-F.Step operator kind place) =
    act (λ usage. stepping origin usage operator base.target)
suffix_rows origin frames base (TypedSuffix-F.Skipped kind place) =
    call_rows origin frames base.names []

abbrev pub suffixed : ℕ → Frames → Rows → List ReadSuffix → Rows
suffixed origin frames base [] = base
suffixed origin frames base (suffix ∷ suffixes) =
    suffixed origin frames (suffix_rows origin frames base suffix) suffixes

-- a chain belongs together from the left, two at a time (6.5p3 and the syntax of 6.5.5 to 6.5.14)
abbrev pub chained : ℕ → Rule Valued → List (BinaryOperator × Rows) → Rule Valued
chained origin left [] = left
chained origin left ((operator, right) ∷ rest) =
    chained origin (then_by left (λ v. then_by (used right) (λ w. linked origin operator v w))) rest

-- e1, e2 (6.5.17p2): D of each but the last, which has the value
abbrev pub comma : Usage → List Rows → Rule Valued
comma usage [] = gives (pure (int 0))
comma usage (last ∷ []) = last.rule usage
comma usage (item ∷ next ∷ items) =
    then_by (unused item) (λ before. then_by (comma usage (next ∷ items)) (λ v.
    gives (valued (before ++ v.statements) v.value)))

-- the ends of a conditional that is void are used as it is; those of another have values that it
-- chooses from (6.5.15p3)
unfoldable pub usage_of_ends : Usage → Option Kind → Usage
usage_of_ends Used kind = Used
usage_of_ends Unused None = Used
usage_of_ends Unused (Some Void) = Unused
usage_of_ends Unused (Some (Value t)) = Used

-- test ? first : second (6.5.15p4)
abbrev pub conditional : ℕ → Usage → Usage → Rows → Rows → Rows → Rule Valued
conditional origin usage ends test first second =
    then_by (used test) (λ v. then_by (first.rule ends) (λ a. then_by (second.rule ends) (λ b.
    chosen_for origin usage ends v a b)))

-- (type) e (6.5.4p5), and (void) e, which is D of e (6.3.2.2p1)
abbrev pub cast_rows : ℕ → Option Kind → Rows → Rows
cast_rows origin (Some (Value t)) operand =
    plain origin (then_by (used operand) (λ v. gives (cast_to t v)))
cast_rows origin _ operand =
    act (λ usage. then_by (unused operand) (λ before. gives (voided usage before)))

-- an expression with rows for each part of it
abbrev pub rows_step : Frames → TypedExpression-F Rows ReadSuffix → Rows
rows_step frames (TypedExpression-F.Name found place) = name_rows place found
-- an integer has the type that the typed tree gives it (6.4.4.1p5), a character int (6.4.4.4p10)
rows_step frames (TypedExpression-F.Number t n place) = plain place (gives (pure (Const t n)))
rows_step frames (TypedExpression-F.Character n place) = plain place (gives (pure (Const ty.I32 n)))
-- 6.5.1p5
rows_step frames (TypedExpression-F.Bracketed inside place) = inside
rows_step frames (TypedExpression-F.Postfix base suffixes place) =
    suffixed place frames base suffixes
rows_step frames (TypedExpression-F.PrefixStep operator operand kind place) =
    act (λ usage. kept usage (incrementing place operator operand.target))
rows_step frames (TypedExpression-F.Unary operator operand kind place) =
    plain place (then_by (used operand) (λ v. gives (signed operator v)))
rows_step frames (TypedExpression-F.Cast operand kind place) = cast_rows place kind operand
rows_step frames (TypedExpression-F.Chain first rest kind place) =
    plain place (chained place (used first) rest)
rows_step frames (TypedExpression-F.Conditional test first second kind place) =
    act (λ usage. conditional place usage (usage_of_ends usage kind) test first second)
rows_step frames (TypedExpression-F.Assignment left operator right kind place) =
    act (λ usage. kept usage (assigning place (is_used usage) operator left.target (used right)))
rows_step frames (TypedExpression-F.Comma items kind place) = act (λ usage. comma usage items)

unfoldable pub rows : Frames → TypedExpression → Rows
rows frames = fold-TypedExpression Rows ReadSuffix (rows_step frames) read_suffix
