-- The core of statements and declarations (C11 6.7.9, 6.8), a rule for each form: the list of core
-- statements that a statement becomes, which is put into the block around it. What a rule makes, it
-- makes at its origin: the place of the statement or of the declarator, and of the first brace of a
-- body.
use Rattle.std.specs.Prelude.{ℕ, ◌+◌, ◌-◌, suc, zero, pos, List, [], ◌∷◌, ◌++◌, map, length, Option}
use Rattle.std.specs.Prelude.{None, Some}
use Rattle.cpa_ints.specs.declared.integers.IntType.{IntType}
use Rattle.cpa_ints.specs.Wrapping.{wrapped}
use Rattle.cpa_expr.specs.declared.tree.CmpOp.TheVariants as cmp
use Rattle.cpa_expr.specs.declared.tree.Expr.{Expr}
use Rattle.cpa_expr.specs.declared.tree.Expr.TheVariants.{Const, Cmp}
use Rattle.cpa_expr.specs.Shape.{type_of}
use Rattle.c_types_rules.specs.declared.meaning.Kind.{Kind}
use Rattle.c_types_rules.specs.declared.meaning.Kind.TheVariants.{Void, Value}
use Rattle.c_types_rules.specs.declared.meaning.Object.{Object}
use Rattle.c_types_rules.specs.declared.typed.Choice.{Choice}
use Rattle.c_types_rules.specs.declared.typed.TypedExpression.{TypedExpression}
use Rattle.c_types_rules.specs.declared.typed.TypedInitializer.{TypedInitializer}
use Rattle.c_types_rules.specs.declared.typed.TypedInitializer.TheVariants as initializer
use Rattle.c_types_rules.specs.declared.typed.TypedDeclarator.{TypedDeclarator}
use Rattle.c_types_rules.specs.declared.typed.TypedForStart.{TypedForStart}
use Rattle.c_types_rules.specs.declared.typed.TypedForStart.TheVariants as start
use Rattle.c_types_rules.specs.declared.typed.TypedItem.{TypedItem}
use Rattle.c_types_rules.specs.declared.typed.TypedItem.TheOpen.{TypedItem-F, TypedStatement-F}
use Rattle.c_types_rules.specs.declared.typed.TypedItem.TheFolds.{fold-TypedItem}
use Rattle.c_types_rules.specs.declared.typed.TypedFunction.{TypedFunction}
use Rattle.c_types_rules.specs.declared.typed.Global.{Global}
use Rattle.c_types_rules.specs.Types.{object_type}
use Rattle.c_types_rules.specs.Tables.{cells_of}
use Rattle.cpa_model_trees.specs.declared.tree.CoreTree.{CoreTree}
use Rattle.cpa_model_trees.specs.declared.tree.Head.TheVariants as head
use Rattle.c_core_rules.specs.declared.tree.Location.{Location}
use Rattle.c_core_rules.specs.declared.tree.Valued.{Valued}
use Rattle.c_core_rules.specs.Values.{cell_at, promote}
use Rattle.cpa_model_trees.specs.Numbering.{Trees}
use Rattle.c_core_rules.specs.Trees.{leaf, block, labeled, choice, repeated, set, input, valued}
use Rattle.c_core_rules.specs.Cells.{Rule, gives, then_by, each, in_order, next_cell, fresh, taking}
use Rattle.c_core_rules.specs.Acts.{held}
use Rattle.c_core_rules.specs.Expressions.{Frames, rows, used, unused}

-- e; (6.8.3p2)
abbrev pub some_unused : Frames → Option TypedExpression → Rule Trees
some_unused frames None = gives []
some_unused frames (Some expression) = unused (rows frames expression)

-- S, place := v
abbrev pub initialized : ℕ → Frames → Location → TypedExpression → Rule Trees
initialized origin frames place value =
    then_by (used (rows frames value)) (λ v. gives (v.statements ++ set origin place v.value ∷ []))

-- an input of each of so many cells from one on
abbrev pub inputs : ℕ → ℕ → ℕ → Trees
inputs origin first zero = []
inputs origin first (suc n) = input origin first ∷ inputs origin (first + 1) n

-- a write of 0 to each of so many cells from one on
abbrev pub zeros : ℕ → IntType → ℕ → ℕ → Trees
zeros origin t first zero = []
zeros origin t first (suc n) =
    set origin (cell_at t first) (Const t (pos 0)) ∷ zeros origin t (first + 1) n

-- an initializer for each cell from one on
abbrev pub initialized_each : ℕ → Frames → IntType → ℕ → List TypedExpression
    → List (Rule Trees)
initialized_each origin frames t first [] = []
initialized_each origin frames t first (value ∷ values) =
    initialized origin frames (cell_at t first) value
    ∷ initialized_each origin frames t (first + 1) values

-- An object whose cells begin here. Without an initializer it starts with any value (6.7.9p10).
-- With one, an expression and a write for each element, in order, and a write of 0 for each that is
-- left (6.7.9p11, p19 and p21).
abbrev pub initializing : ℕ → Frames → Object → Option TypedInitializer → ℕ → Rule Trees
initializing origin frames object None first = gives (inputs origin first (cells_of object))
initializing origin frames object (Some (initializer.Scalar value)) first =
    initialized origin frames (cell_at object.ty first) value
initializing origin frames object (Some (initializer.List items)) first =
    then_by (in_order (initialized_each origin frames object.ty first items)) (λ before.
    gives (before
    ++ zeros origin object.ty (first + length items) (cells_of object - length items)))

-- an object takes its cells before its initializer is evaluated (6.2.1p7)
abbrev pub declared : Frames → TypedDeclarator → Rule Trees
declared frames declarator =
    then_by (taking declarator.object [])
    (initializing declarator.place frames declarator.object declarator.initializer)

abbrev pub declaration : Frames → List TypedDeclarator → Rule Trees
declaration frames declarators = in_order (map (declared frames) declarators)

abbrev pub started : Frames → TypedForStart → Rule Trees
started frames (start.Declaration declarators) = declaration frames declarators
started frames (start.Expression expression) = some_unused frames expression

-- S, if (v) {} else { break }
abbrev pub leaving : ℕ → Valued → Trees
leaving origin v = v.statements ++ choice origin v.value [] (leaf origin head.Break ∷ []) ∷ []

-- the way out of a loop; none without a test (6.8.5.3p2)
abbrev pub left_unless : ℕ → Frames → Option TypedExpression → Rule Trees
left_unless origin frames None = gives []
left_unless origin frames (Some test) =
    then_by (used (rows frames test)) (λ v. gives (leaving origin v))

abbrev pub perhaps : Option (Rule Trees) → Rule Trees
perhaps None = gives []
perhaps (Some rule) = rule

-- what a rule makes, as one statement
abbrev pub as_one : (Trees → CoreTree) → Rule Trees → Rule Trees
as_one make rule = then_by rule (λ inside. gives (make inside ∷ []))

-- return (6.8.6.4p3): S, result := v, leave
abbrev pub returned : ℕ → Frames → Location → Option TypedExpression → Rule Trees
returned origin frames place None = gives (leaf origin head.Leave ∷ [])
returned origin frames place (Some value) =
    then_by (initialized origin frames place value) (λ before.
    gives (before ++ leaf origin head.Leave ∷ []))

-- if (v == the value of the case, converted) { goto its label }
abbrev pub selecting : ℕ → Expr → Choice → CoreTree
selecting origin v one =
    choice origin (Cmp cmp.Eq (type_of v) v (Const (type_of v) (wrapped (type_of v) one.value)))
    (leaf origin (head.Goto one.label) ∷ []) []

-- the gotos of a switch on v, its body, and the label behind it
abbrev pub selected_by : ℕ → Expr → List Choice → ℕ → Trees → Trees
selected_by origin v choices otherwise inside =
    map (selecting origin v) choices
    ++ leaf origin (head.Goto otherwise) ∷ (inside ++ leaf origin head.Labeled ∷ [])

-- a statement of a function with its result in this place, with a rule for each statement in it
abbrev pub statement_step : Frames → Location → TypedStatement-F (Rule Trees) (Rule Trees)
    → Rule Trees
-- 6.8.2
statement_step frames place (TypedStatement-F.Block items origin) =
    as_one (block origin) (in_order items)
statement_step frames place (TypedStatement-F.Expression expression origin) =
    some_unused frames expression
-- 6.8.4.1p2
statement_step frames place (TypedStatement-F.If test first second origin) =
    then_by (used (rows frames test)) (λ v. then_by first (λ a. then_by (perhaps second) (λ b.
    gives (v.statements ++ choice origin v.value a b ∷ []))))
-- 6.8.5.1: the test stands before the body, and before each further turn
statement_step frames place (TypedStatement-F.While test body origin) =
    then_by (left_unless origin frames (Some test)) (λ head. then_by body (λ inside.
    gives (repeated origin (head ++ inside) [] ∷ [])))
-- 6.8.5.2: behind it, where a continue goes too
statement_step frames place (TypedStatement-F.Do body test origin) =
    then_by body (λ inside. then_by (left_unless origin frames (Some test)) (λ behind.
    gives (repeated origin inside behind ∷ [])))
-- 6.8.5.3: a continue goes to the step; the body takes its cells before the step
statement_step frames place (TypedStatement-F.For first test step body origin) =
    then_by (started frames first) (λ before. then_by (left_unless origin frames test) (λ head.
    then_by body (λ inside. then_by (some_unused frames step) (λ behind.
    gives (block origin (before ++ repeated origin (head ++ inside) behind ∷ []) ∷ [])))))
-- 6.8.6
statement_step frames place (TypedStatement-F.Goto label origin) =
    gives (leaf origin (head.Goto label) ∷ [])
statement_step frames place (TypedStatement-F.Break origin) = gives (leaf origin head.Break ∷ [])
statement_step frames place (TypedStatement-F.Continue origin) =
    gives (leaf origin head.Continue ∷ [])
statement_step frames place (TypedStatement-F.Return value origin) =
    returned origin frames place value
-- 6.8.4.2p5: S, t := v promoted; a goto to the first case with this value, else to the default,
-- else behind the body
statement_step frames place (TypedStatement-F.Switch value choices otherwise body end origin) =
    then_by (used (rows frames value)) (λ v.
    then_by (held origin (valued v.statements (promote v.value))) (λ kept. then_by body (λ inside.
    gives (kept.statements ++ selected_by origin kept.value choices otherwise inside))))
-- 6.8.1
statement_step frames place (TypedStatement-F.Labeled label body origin) =
    as_one (labeled origin) body

abbrev pub item_step : Frames → TypedItem-F (Rule Trees) (Rule Trees) → Rule Trees
item_step frames (TypedItem-F.Declaration declarators) = declaration frames declarators
item_step frames (TypedItem-F.Statement statement) = statement

unfoldable pub item_rule : Frames → Location → TypedItem → Rule Trees
item_rule frames place =
    fold-TypedItem (Rule Trees) (Rule Trees) (item_step frames) (statement_step frames place)

-- the result of a function starts at 0 with each call (this project's profile); void has none
abbrev pub resulting : ℕ → Kind → Rule Trees
resulting origin Void = gives []
resulting origin (Value t) =
    then_by (fresh t) (λ place. gives (set origin place (Const t (pos 0)) ∷ []))

-- parameters take their cells
abbrev pub receiving : List Object → Rule (Unit {0})
receiving [] = gives tt
receiving (object ∷ objects) = then_by (taking object []) (λ first. receiving objects)

-- a function (6.9.1): its result, its parameters, then a block of its items
abbrev pub function_rule : Frames → TypedFunction → Rule CoreTree
function_rule frames function =
    then_by next_cell (λ first. then_by (resulting function.place function.result) (λ before.
    then_by (receiving function.parameters) (λ u.
    then_by (in_order (map (item_rule frames (cell_at (object_type function.result) first))
    function.items)) (λ inside.
    gives (block function.place (before ++ inside))))))

-- objects of file scope take theirs
abbrev pub receiving_globals : List Global → Rule (Unit {0})
receiving_globals [] = gives tt
receiving_globals (global ∷ globals) =
    then_by (taking global.object global.starts) (λ first. receiving_globals globals)

-- a text: its objects of file scope, then each function with a body
abbrev pub text_rule : Frames → List Global → List TypedFunction → Rule Trees
text_rule frames globals functions =
    then_by (receiving_globals globals) (λ u. each (map (function_rule frames) functions))
