use Rattle.std.proofs.Common.{Option, ap}
use Rattle.c_types_rules.specs.declared.typed.TypedExpression.{TypedExpression}
use Rattle.c_types_rules.specs.declared.typed.TypedStatement.TheVariants as typed_tree
use Rattle.c_types_bodies.proofs.walker.Scope.walk_expression.Goals as goal

pub returns-clause-typed : goal.returns-clause-typed
returns-clause-typed c =
    ap (λ (e : Option TypedExpression). typed_tree.Expression e c.args.place)
    c.in_ok-expression.ensures.typed

pub returns-clause-state : goal.returns-clause-state
returns-clause-state c =
    c.in_ok-expression.ensures.state c.args.self.now.nest c.args.progress.now.jumps
