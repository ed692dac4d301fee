use Rattle.std.proofs.Common.{◌≡◌, drop}
use Rattle.std.specs.List.{flat_map}
use Rattle.c_lexer.specs.declared.fault.Rule.TheVariants as rule
use Rattle.c_types_rules.specs.First.{first_with}
use Rattle.c_types_rules.specs.ExpressionRules.{broken}
use Rattle.c_types_rules.specs.Declarations.{void_parameter}
use Rattle.c_types_globals.proofs.parameters.note_void_parameters.Given as goal

abbrev pub invariant-loop-parameter : goal.invariant-loop-parameter
invariant-loop-parameter l =
    first_with l.first (broken rule.N5 (flat_map (void_parameter l.survey)
    (drop l.parameter-index l.all)))
    ≡ first_with l.fn.first (broken rule.N5 (flat_map (void_parameter l.survey) l.all))
