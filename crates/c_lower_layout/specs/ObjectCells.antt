-- How many cells the objects take that a text declares (this project's own, for C11 6.7.6.2). A
-- text takes further cells only in proportion to its length.
use Rattle.std.specs.Prelude.{ℕ, ◌+◌, List, sum, map}
use Rattle.c_types_rules.specs.declared.meaning.Object.{Object}
use Rattle.c_types_rules.specs.declared.typed.TypedDeclarator.{TypedDeclarator}
use Rattle.c_types_rules.specs.declared.typed.TypedForStart.{TypedForStart}
use Rattle.c_types_rules.specs.declared.typed.TypedForStart.TheVariants as start
use Rattle.c_types_rules.specs.declared.typed.TypedItem.{TypedItem}
use Rattle.c_types_rules.specs.declared.typed.TypedItem.TheOpen.{TypedItem-F, TypedStatement-F}
use Rattle.c_types_rules.specs.declared.typed.TypedItem.TheFolds.{fold-TypedItem}
use Rattle.c_types_rules.specs.declared.typed.TypedItem.TheFolds.{fold-TypedStatement}
use Rattle.c_types_rules.specs.declared.typed.TypedStatement.{TypedStatement}
use Rattle.c_types_rules.specs.declared.typed.TypedFunction.{TypedFunction}
use Rattle.c_types_rules.specs.declared.typed.Global.{Global}
use Rattle.c_types_rules.specs.Tables.{cells_of}
use Rattle.c_types_rules.specs.TypedStatements.{typed_parts}

abbrev pub objects_cells : List Object → ℕ
objects_cells objects = sum (map cells_of objects)

abbrev pub declarators_cells : List TypedDeclarator → ℕ
declarators_cells declarators = sum (map (λ one. cells_of one.object) declarators)

abbrev pub start_cells : TypedForStart → ℕ
start_cells (start.Declaration declarators) = declarators_cells declarators
start_cells (start.Expression expression) = 0

-- those of a statement, by those of its parts
abbrev pub statement_step : TypedStatement-F ℕ ℕ → ℕ
statement_step (TypedStatement-F.For first test step body place) = start_cells first + body
statement_step statement = typed_parts sum (λ part. part) (λ a b. a + b) statement

abbrev pub item_step : TypedItem-F ℕ ℕ → ℕ
item_step (TypedItem-F.Declaration declarators) = declarators_cells declarators
item_step (TypedItem-F.Statement statement) = statement

unfoldable pub item_cells : TypedItem → ℕ
item_cells = fold-TypedItem ℕ ℕ item_step statement_step

unfoldable pub statement_cells : TypedStatement → ℕ
statement_cells = fold-TypedStatement ℕ ℕ item_step statement_step

abbrev pub items_cells : List TypedItem → ℕ
items_cells items = sum (map item_cells items)

abbrev pub function_cells : TypedFunction → ℕ
function_cells function = objects_cells function.parameters + items_cells function.items

abbrev pub functions_cells : List TypedFunction → ℕ
functions_cells functions = sum (map function_cells functions)

abbrev pub globals_cells : List Global → ℕ
globals_cells globals = sum (map (λ global. cells_of global.object) globals)

-- those of a text
abbrev pub declared_cells : List Global → List TypedFunction → ℕ
declared_cells globals functions = globals_cells globals + functions_cells functions
