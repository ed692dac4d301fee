-- A postfix expression by its layer (`c_core_rules`, `specs/Expressions.antt`).
use Rattle.c_types_rules.specs.declared.typed.TypedExpression.{TypedExpression}
use Rattle.c_types_rules.specs.declared.typed.TypedExpression.TheOpen.{TypedExpression-F}
use Rattle.c_types_rules.specs.declared.typed.TypedSuffix.{TypedSuffix}
use Rattle.c_core_rules.specs.declared.tree.Usage.{Usage}
use Rattle.c_core_rules.specs.declared.tree.Valued.{Valued}
use Rattle.c_core_rules.specs.Values.{int}
use Rattle.c_core_rules.specs.Trees.{pure}
use Rattle.c_core_rules.specs.Cells.{Rule, gives}
use Rattle.c_core_rules.specs.Expressions.{Frames}
use Rattle.c_lower_expressions.specs.Rows.{suffixed_by}

-- E or D of a postfix expression; 0 stands for every other form
abbrev pub postfix_of : Frames → Usage → TypedExpression-F TypedExpression TypedSuffix →
    Rule Valued
postfix_of frames usage (TypedExpression-F.Postfix base suffixes place) =
    (suffixed_by place frames base suffixes).rule usage
postfix_of frames usage _ = gives (pure (int 0))
