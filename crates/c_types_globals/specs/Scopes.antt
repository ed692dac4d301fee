-- What is known at a place of file scope (C11 6.2.1p4 and 6.9), as the code has it.
use Rattle.std.specs.Prelude.{Bool, Option, List, ◌++◌}
use Rattle.std.specs.List.{flat_map}
use Rattle.c_lexer.specs.declared.fault.Rule.TheVariants as rule
use Rattle.c_lexer.specs.declared.fault.TextFault.{TextFault}
use Rattle.c_grammar_tree.specs.declared.item.Parameter.{Parameter}
use Rattle.c_grammar_tree.specs.declared.item.FunctionDeclarator.{FunctionDeclarator}
use Rattle.c_types_rules.specs.declared.meaning.Entry.{Entry}
use Rattle.c_types_rules.specs.declared.meaning.Kind.{Kind}
use Rattle.c_types_rules.specs.declared.meaning.ParameterType.{ParameterType}
use Rattle.c_types_rules.specs.Names.{Text, declared_as}
use Rattle.c_types_rules.specs.ExpressionRules.{broken, at_if}
use Rattle.c_types_rules.specs.Declarations.{void_parameter}
use Rattle.c_types_rules.specs.Items.{Before, enumeration_faults, listed, redeclares_function}
use Rattle.c_types_globals.specs.declared.scope.Scope.{Scope}

abbrev pub before_of : Scope → Before
before_of scope = record {
  names = scope.names;
  types = scope.types;
  objects = scope.objects;
  bodies = scope.bodies;
}

-- the faults of the enumerated types of parameters
abbrev pub parameters_faults : Text → List Parameter → Before → List TextFault
parameters_faults text all before =
    flat_map (λ parameter. enumeration_faults text parameter.specifiers before) all

-- the faults of a function's name, where these names are declared, and of the types of its
-- parameters
abbrev pub taken_faults : Text → List Entry → Kind → Option (List ParameterType) → Bool
    → FunctionDeclarator → List TextFault
taken_faults text names kind types defines declarator =
    broken rule.N2 (at_if (redeclares_function (declared_as names declarator.name.bytes) kind types
    defines) declarator.name.place)
    ++ broken rule.N5 (flat_map (void_parameter text) (listed declarator.parameters))
