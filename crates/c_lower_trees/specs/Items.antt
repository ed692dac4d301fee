-- Rules of statements on their own (`c_core_rules`, `specs/Statements.antt`), and rules that begin
-- behind what is made already.
use Rattle.std.specs.Prelude.{ℕ, List, [], ◌∷◌, ◌++◌, Option, None, Some}
use Rattle.c_types_rules.specs.declared.typed.TypedExpression.{TypedExpression}
use Rattle.c_types_rules.specs.declared.typed.TypedForStart.{TypedForStart}
use Rattle.c_types_rules.specs.declared.typed.TypedItem.TheFolds.{fold-TypedStatement}
use Rattle.c_types_rules.specs.declared.typed.TypedStatement.{TypedStatement}
use Rattle.c_core_rules.specs.declared.tree.Location.{Location}
use Rattle.cpa_model_trees.specs.Numbering.{Trees}
use Rattle.c_core_rules.specs.declared.tree.Valued.{Valued}
use Rattle.c_core_rules.specs.Values.{promote}
use Rattle.c_core_rules.specs.Acts.{held}
use Rattle.c_core_rules.specs.Trees.{block, repeated, valued}
use Rattle.c_core_rules.specs.Cells.{Rule, gives, then_by, in_order}
use Rattle.c_core_rules.specs.Expressions.{Frames, rows, used}
use Rattle.c_core_rules.specs.Statements.{some_unused, started, leaving, left_unless, item_step}
use Rattle.c_core_rules.specs.Statements.{statement_step}

-- a statement of a function with its result in this place
unfoldable pub statement_rule : Frames → Location → TypedStatement → Rule Trees
statement_rule frames place =
    fold-TypedStatement (Rule Trees) (Rule Trees) (item_step frames) (statement_step frames place)

-- a statement that may be left out
abbrev pub otherwise : Frames → Location → Option TypedStatement → Rule Trees
otherwise frames place None = gives []
otherwise frames place (Some other) = statement_rule frames place other

-- the way out of a loop with this test
abbrev pub left : ℕ → Frames → TypedExpression → Rule Trees
left origin frames test = then_by (used (rows frames test)) (λ v. gives (leaving origin v))

-- rules in order, behind what is made already
unfoldable pub in_behind : Trees → List (Rule Trees) → Rule Trees
in_behind before rules = then_by (in_order rules) (λ trees. gives (before ++ trees))

-- a do behind its body
abbrev pub do_behind : ℕ → Frames → Trees → TypedExpression → Rule Trees
do_behind origin frames inside test =
    then_by (left origin frames test) (λ behind. gives (repeated origin inside behind ∷ []))

-- the value of a switch, promoted and held
abbrev pub switch_front : ℕ → Frames → TypedExpression → Rule Valued
switch_front origin frames value = then_by (used (rows frames value)) (λ v.
    held origin (valued v.statements (promote v.value)))

-- what stands before the body of a for, and the for behind its body
abbrev pub for_front : ℕ → Frames → TypedForStart → Option TypedExpression → Rule (Trees × Trees)
for_front origin frames first test =
    then_by (started frames first) (λ before. then_by (left_unless origin frames test) (λ head.
    gives (before, head)))

abbrev pub for_behind : ℕ → Frames → Trees × Trees → Trees → Option TypedExpression → Rule Trees
for_behind origin frames front inside step =
    then_by (some_unused frames step) (λ behind.
    gives (block origin (front.0 ++ repeated origin (front.1 ++ inside) behind ∷ []) ∷ []))
