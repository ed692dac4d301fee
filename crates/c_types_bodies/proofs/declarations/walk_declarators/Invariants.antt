use Rattle.std.proofs.Common.{◌≡◌, ◌++◌, drop, map}
use Rattle.c_types_rules.specs.Statements.{in_order, declarator_walk}
use Rattle.c_types_rules.specs.TypedStatements.{typed_declarators}
use Rattle.c_types_bodies.specs.States.{walked}
use Rattle.c_types_bodies.specs.Views.{state_of, around_of, IsTied, Extends}
use Rattle.c_types_bodies.proofs.declarations.walk_declarators.Given as goal

abbrev pub invariant-loop-declarator : goal.invariant-loop-declarator
invariant-loop-declarator l =
    let text = l.frame.survey.now in
    let rest = drop l.declarator-index l.declarators in
    let kind = l.qualified.kind in
    let is_const = l.qualified.is_const in
    record {
      tied : IsTied l.frame l.walker l.jumps;
      extends : Extends l.fn.walker.names l.walker.names;
      typed : l.typed.items
          ++ typed_declarators text kind is_const rest (around_of l.frame l.nest l.walker)
          ≡ typed_declarators text kind is_const l.declarators
          (around_of l.frame l.nest l.fn.walker);
      state : walked text l.frame.caller
          (in_order (map (declarator_walk text kind is_const) rest))
          (state_of l.frame l.nest l.walker l.jumps)
          ≡ walked text l.frame.caller
          (in_order (map (declarator_walk text kind is_const) l.declarators))
          (state_of l.frame l.nest l.fn.walker l.fn.jumps);
    }
