-- A function's body behind its name's declaration: what `item_behind`, `item_faults` and the others
-- of c_types_rules say of it, from there on.
use Rattle.std.specs.Prelude.{◌+◌, List}
use Rattle.std.specs.List.{flat_map}
use Rattle.c_lexer.specs.declared.fault.TextFault.{TextFault}
use Rattle.c_types_rules.specs.declared.typed.TypedFunction.{TypedFunction}
use Rattle.c_types_rules.specs.Names.{Text}
use Rattle.c_types_rules.specs.Statements.{Site}
use Rattle.c_types_rules.specs.Items.{Before, Call, body_faults, site_calls}
use Rattle.c_types_bodies.specs.declared.body.FunctionDefinition.{FunctionDefinition}
use Rattle.c_types_bodies.specs.Bodies.{acts_of, objects_behind, typed_body}

abbrev pub block_sites : Text → FunctionDefinition → Before → List Site
block_sites text function before =
    acts_of text before.names before.objects function.specifiers.now function.parameters.now
    function.items.now

abbrev pub block_behind : Text → FunctionDefinition → Before → Before
block_behind text function before = record before {
  objects = objects_behind text before.names before.objects function.specifiers.now
      function.parameters.now function.items.now;
  bodies = before.bodies + 1;
}

abbrev pub block_faults : Text → FunctionDefinition → Before → List TextFault
block_faults text function before = body_faults text (block_sites text function before)

abbrev pub block_calls : Text → FunctionDefinition → Before → List Call
block_calls text function before =
    flat_map (site_calls text function.number) (block_sites text function before)

abbrev pub block_function : Text → FunctionDefinition → Before → TypedFunction
block_function text function before =
    typed_body text before.names before.objects function.specifiers.now function.parameters.now
    function.items.now function.place function.end
