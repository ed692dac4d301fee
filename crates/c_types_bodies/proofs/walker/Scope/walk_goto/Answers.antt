use Rattle.std.proofs.Common.{ℕ, ap}
use Rattle.c_types_rules.specs.declared.typed.TypedStatement.TheVariants as typed_tree
use Rattle.c_types_bodies.proofs.walker.Scope.walk_goto.Goals as goal

pub returns-clause-typed : goal.returns-clause-typed
returns-clause-typed c =
    ap (λ (n : ℕ). typed_tree.Goto n c.args.place) c.label_number.ensures

pub returns-clause-state : goal.returns-clause-state
returns-clause-state c = c.in_ok-jump.ensures.state c.args.self.now.nest
