use Rattle.std.proofs.Common.{◌≡◌, ◌++◌, drop, map}
use Rattle.c_types_rules.specs.Declarations.{parameter_type}
use Rattle.c_types_globals.proofs.parameters.listed_types.Given as goal

abbrev pub invariant-loop-parameter : goal.invariant-loop-parameter
invariant-loop-parameter l =
    l.types.items ++ map (parameter_type l.survey) (drop l.parameter-index l.all)
    ≡ map (parameter_type l.survey) l.all
