-- A function's body where these names are declared and so many objects stand before it
-- (`Items.antt` of `c_types_rules`).
use Rattle.std.specs.Prelude.{ℕ, ◌<◌, List, [], map}
use Rattle.std.specs.List.{filter_map, AllByRecursion}
use Rattle.c_grammar_tree.specs.declared.declaration.Specifiers.{Specifiers}
use Rattle.c_grammar_tree.specs.declared.item.Parameters.{Parameters}
use Rattle.c_grammar_tree.specs.declared.statement.BlockItem.{BlockItem}
use Rattle.c_types_rules.specs.declared.meaning.Entry.{Entry}
use Rattle.c_types_rules.specs.declared.typed.TypedFunction.{TypedFunction}
use Rattle.c_types_rules.specs.Names.{Text}
use Rattle.c_types_rules.specs.Declarations.{kind_of}
use Rattle.c_types_rules.specs.Statements.{Around, Site, in_order, receiving}
use Rattle.c_types_rules.specs.StatementRules.{object_number}
use Rattle.c_types_rules.specs.Items.{around_body, body_walk, listed}
use Rattle.c_types_rules.specs.TypedStatements.{grown, typed_in_order, parameter_objects}

-- what is known where the body begins
abbrev pub begins : Text → List Entry → ℕ → Specifiers → List BlockItem → Around
begins text names objects specifiers items =
    around_body text (record { names = names; types = []; objects = objects; bodies = 0 })
    specifiers items

-- its acts
abbrev pub acts_of : Text → List Entry → ℕ → Specifiers → Parameters → List BlockItem → List Site
acts_of text names objects specifiers all items =
    (body_walk text all items).sites (begins text names objects specifiers items)

-- how many objects stand before what comes behind it
abbrev pub objects_behind : Text → List Entry → ℕ → Specifiers → Parameters → List BlockItem → ℕ
objects_behind text names objects specifiers all items =
    ((body_walk text all items).behind (begins text names objects specifiers items)).objects

-- the typed function, whose braces stand at these places
abbrev pub typed_body : Text → List Entry → ℕ → Specifiers → Parameters → List BlockItem
    → ℕ → ℕ → TypedFunction
typed_body text names objects specifiers all items place end = record {
  result = kind_of text specifiers;
  parameters = parameter_objects text objects (listed all);
  items = typed_in_order (map (grown text) items)
      ((in_order (map (receiving text) (listed all))).behind
      (begins text names objects specifiers items));
  place = place;
  end = end;
}

-- each object of these names is one of so many
abbrev pub AreNumbered : ℕ → List Entry → Type 0
AreNumbered objects names =
    AllByRecursion (λ number. number < objects) (filter_map object_number names)
