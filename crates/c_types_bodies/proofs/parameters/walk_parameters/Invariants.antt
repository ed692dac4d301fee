use Rattle.std.proofs.Common.{◌≡◌, ◌++◌, drop, map}
use Rattle.c_types_rules.specs.Statements.{in_order, receiving}
use Rattle.c_types_rules.specs.TypedStatements.{parameter_objects}
use Rattle.c_types_bodies.specs.States.{walked}
use Rattle.c_types_bodies.specs.Views.{state_of, IsTied, Extends}
use Rattle.c_types_bodies.proofs.parameters.walk_parameters.Given as goal

abbrev pub invariant-loop-parameter : goal.invariant-loop-parameter
invariant-loop-parameter l =
    let rest = drop l.parameter-index l.parameters in
    record {
      tied : IsTied l.frame l.walker l.jumps;
      extends : Extends l.fn.walker.names l.walker.names;
      objects : l.objects.items ++ parameter_objects l.frame.survey.now l.walker.objects rest
          ≡ parameter_objects l.frame.survey.now l.fn.walker.objects l.parameters;
      state : walked l.frame.survey.now l.frame.caller (in_order
          (map (receiving l.frame.survey.now) rest))
          (state_of l.frame l.nest l.walker l.jumps)
          ≡ walked l.frame.survey.now l.frame.caller (in_order
          (map (receiving l.frame.survey.now) l.parameters))
          (state_of l.frame l.nest l.fn.walker l.fn.jumps);
    }
