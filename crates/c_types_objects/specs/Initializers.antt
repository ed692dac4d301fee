-- The faults and the calls of the items of an initializer, each a value (the rules are those of
-- c_types_rules).
use Rattle.std.specs.Prelude.{ℕ, List}
use Rattle.std.specs.List.{flat_map}
use Rattle.c_lexer.specs.declared.fault.TextFault.{TextFault}
use Rattle.c_grammar_tree.specs.declared.declaration.Declarator.{Declarator}
use Rattle.c_types_rules.specs.declared.meaning.Entry.{Entry}
use Rattle.c_types_rules.specs.declared.meaning.Role.TheVariants.{Valued}
use Rattle.c_types_rules.specs.Names.{Text}
use Rattle.c_types_rules.specs.Declarations.{items_of}
use Rattle.c_types_rules.specs.Items.{Call}
use Rattle.c_types_expressions.specs.Read.{role_faults, role_calls}

abbrev pub items_faults : Text → List Entry → Declarator → List TextFault
items_faults text names declarator =
    flat_map (role_faults text names Valued) (items_of declarator.initializer)

abbrev pub items_calls : Text → List Entry → ℕ → Declarator → List Call
items_calls text names caller declarator =
    flat_map (role_calls text names caller Valued) (items_of declarator.initializer)
