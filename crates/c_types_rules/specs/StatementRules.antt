-- The rules that an act of a function can break, and those of labels and gotos (C11 6.2.1, 6.7,
-- 6.8), as the places at which it does.
use Rattle.std.specs.Prelude.{ℕ, ℤ, ◌==◌, Bool, true, false, not, ◌||◌, List, [], ◌∷◌, ◌++◌}
use Rattle.std.specs.Prelude.{drop, find, Option, None, Some, is_some, unwrap_or, option_map}
use Rattle.std.specs.List.{flat_map, filter_map, list_any}
use Rattle.std.specs.Ordering.{int_eq}
use Rattle.std.specs.Str.{bytes_eq}
use Rattle.c_lexer.specs.declared.fault.Rule.TheVariants as rule
use Rattle.c_lexer.specs.declared.fault.TextFault.{TextFault}
use Rattle.c_grammar_tree.specs.declared.name.Name.{Name}
use Rattle.c_types_rules.specs.declared.meaning.Declared.TheVariants as declared
use Rattle.c_types_rules.specs.declared.meaning.Entry.{Entry}
use Rattle.c_types_rules.specs.declared.typed.Choice.{Choice}
use Rattle.c_types_rules.specs.declared.meaning.Role.TheVariants.{Valued}
use Rattle.c_types_rules.specs.Names.{Text, tag_key, is_tag}
use Rattle.c_types_rules.specs.Expressions.{reading, Use, used}
use Rattle.c_types_rules.specs.ExpressionRules.{broken, at_if, uses_faults}
use Rattle.c_types_rules.specs.Declarations.{is_void_kind, length_faults, length_uses}
use Rattle.c_types_rules.specs.Declarations.{void_object, is_declared_among, inconstant}
use Rattle.c_types_rules.specs.Declarations.{enumerator_faults, enumerator_uses}
use Rattle.c_types_rules.specs.Statements.{Around, Act, evaluates, declares, receives, jumps, marks}
use Rattle.c_types_rules.specs.Statements.{breaks, continues, selects, refers, tags, enumerates}
use Rattle.c_types_rules.specs.Statements.{returns, Site, selected_value}

-- the name is declared in this scope already
abbrev pub is_declared_here : Around → List ℕ → Bool
is_declared_here around name = is_declared_among (drop around.outer around.names) name

-- N2: a name, or a tag with a list, is declared twice in one scope, of a function's parameters and
-- body or of a block (6.7p3 and 6.7.2.3p1): the later name
abbrev pub declared_twice : Around → Act → List ℕ
declared_twice around (declares kind declarator) =
    at_if (is_declared_here around declarator.name.bytes) declarator.name.place
declared_twice around (receives parameter) = elim parameter.name [
  | None ↦ []
  | Some name ↦ at_if (is_declared_here around name.bytes) name.place
]
declared_twice around (enumerates next one) =
    at_if (is_declared_here around one.name.bytes) one.name.place
declared_twice around (tags tag) = at_if (is_declared_here around (tag_key tag.bytes)) tag.place
declared_twice around _ = []

-- N1: a tag without a list is used that is not declared there (6.7.2.3p3): the tag
abbrev pub undeclared_tag : Around → Act → List ℕ
undeclared_tag around (refers tag) = at_if (not (is_tag around.names tag.bytes)) tag.place
undeclared_tag around _ = []

-- N5: an object is declared with the type void: its name
abbrev pub declared_void : Act → List ℕ
declared_void (declares kind declarator) = void_object kind declarator
declared_void _ = []

-- N6: a goto names no label of its function (6.8.6.1p1): the label's name
abbrev pub without_label : Around → Act → List ℕ
without_label around (jumps name) =
    at_if (not (list_any (bytes_eq name.bytes) around.labels)) name.place
without_label around _ = []

-- N8: a break outside a loop and a switch, or a continue outside a loop (6.8.6.2p1 and 6.8.6.3p1):
-- the word
abbrev pub outside_loop : Around → Act → List ℕ
outside_loop around (breaks place) = at_if (not (around.in_loop || is_some around.break_to)) place
outside_loop around (continues place) = at_if (not around.in_loop) place
outside_loop around _ = []

-- N17: a case or a default outside a switch (6.8.1p2): the word
abbrev pub outside_switch : Around → Act → List ℕ
outside_switch around (selects value place) = at_if (not (is_some around.switch)) place
outside_switch around _ = []

-- one of these cases has the value
abbrev pub is_chosen : List Choice → Option ℤ → Bool
is_chosen choices None = false
is_chosen choices (Some n) = list_any (λ one. int_eq one.value n) choices

-- N18: a case has the converted value of an earlier one of its switch, or a default stands behind
-- another one (6.8.4.2p3): the word
abbrev pub selected_twice : Text → Around → Act → List ℕ
selected_twice text around (selects (Some value) place) =
    at_if (is_chosen around.choices (selected_value text around value)) place
selected_twice text around (selects None place) = at_if (is_some around.otherwise) place
selected_twice text around _ = []

-- the number of an object that a name is declared as
abbrev pub object_number : Entry → Option ℕ
object_number entry = elim entry.declared [
  | declared.Object object initialized ↦ Some object.number
  | declared.Function result parameters defined ↦ None
  | declared.Enumerator value ↦ None
  | declared.Tag ↦ None
]

-- one of these names is an object's
abbrev pub have_object : List Entry → Bool
have_object = list_any (λ entry. is_some (object_number entry))

-- N9 of a case or a default: its switch stands outside the scope of an object in whose scope it
-- stands itself (6.8.4.2p2 says so of arrays of variable length; of every object this project's
-- own): the word
abbrev pub entering_case : Around → Act → List ℕ
entering_case around (selects value place) = elim around.switch [
  | None ↦ []
  | Some switch ↦ at_if (have_object (drop switch.names around.names)) place
]
entering_case around _ = []

-- N12: of an array's length and the items of its list; of an enumerator; of the value of a case,
-- which is to be constant (6.8.4.2p3)
abbrev pub misdeclared_length : Text → Around → Act → List ℕ
misdeclared_length text around (declares kind declarator) =
    length_faults text around.names declarator
misdeclared_length text around (enumerates next one) =
    enumerator_faults text around.names next one
misdeclared_length text around (selects (Some value) place) = inconstant text around.names value
misdeclared_length text around _ = []

-- the one and not the other
abbrev pub agree : Bool → Bool → Bool
agree true b = b
agree false b = not b

-- N16: a return with a value in a void function, or without one in another (6.8.6.4p1): the word
abbrev pub misreturned : Around → Act → List ℕ
misreturned around (returns place with_value) =
    at_if (agree with_value (is_void_kind around.result)) place
misreturned around _ = []

-- how an act uses names and parts of expressions
abbrev pub act_uses : Text → Around → Act → List Use
act_uses text around (evaluates role expression) = used role (reading text around.names expression)
act_uses text around (declares kind declarator) = length_uses text around.names declarator
act_uses text around (enumerates next one) = enumerator_uses text around.names one
act_uses text around (selects (Some value) place) = used Valued (reading text around.names value)
act_uses text around _ = []

-- the faults of an act where it stands, but for those of labels
abbrev pub act_faults : Text → Around → Act → List TextFault
act_faults text around act =
    broken rule.N1 (undeclared_tag around act) ++ broken rule.N2 (declared_twice around act)
    ++ broken rule.N5 (declared_void act) ++ broken rule.N6 (without_label around act)
    ++ broken rule.N8 (outside_loop around act) ++ broken rule.N9 (entering_case around act)
    ++ broken rule.N12 (misdeclared_length text around act)
    ++ broken rule.N16 (misreturned around act) ++ broken rule.N17 (outside_switch around act)
    ++ broken rule.N18 (selected_twice text around act) ++ uses_faults (act_uses text around act)

abbrev pub site_faults : Text → Site → List TextFault
site_faults text site = act_faults text site.around site.act

-- a label or a goto: its name, and the numbers of the objects in whose scopes it stands
pub record Jump : Type 0 where
  pub name : Name
  pub scopes : List ℕ

abbrev pub jump_at : Name → Around → Jump
jump_at name around =
    record { name = name; scopes = filter_map object_number around.names }

abbrev pub label_at : Site → List Jump
label_at site = elim site.act [
  | evaluates role expression ↦ []
  | declares kind declarator ↦ []
  | receives parameter ↦ []
  | jumps name ↦ []
  | marks name ↦ jump_at name site.around ∷ []
  | breaks place ↦ []
  | continues place ↦ []
  | selects value place ↦ []
  | refers tag ↦ []
  | tags tag ↦ []
  | enumerates next one ↦ []
  | returns place with_value ↦ []
]

abbrev pub goto_at : Site → List Jump
goto_at site = elim site.act [
  | evaluates role expression ↦ []
  | declares kind declarator ↦ []
  | receives parameter ↦ []
  | jumps name ↦ jump_at name site.around ∷ []
  | marks name ↦ []
  | breaks place ↦ []
  | continues place ↦ []
  | selects value place ↦ []
  | refers tag ↦ []
  | tags tag ↦ []
  | enumerates next one ↦ []
  | returns place with_value ↦ []
]

-- one of the labels has this name
abbrev pub has_label : List Jump → Name → Bool
has_label labels name = list_any (λ label. bytes_eq label.name.bytes name.bytes) labels

-- N7: a label stands twice in a function (6.8.1p3), those before it given: the later name
abbrev pub repeated_labels : List Jump → List Jump → List ℕ
repeated_labels before [] = []
repeated_labels before (label ∷ labels) =
    at_if (has_label before label.name) label.name.place ++ repeated_labels (before ++ label
    ∷ []) labels

-- the goto stands outside the scope of an object in whose scope the label stands
abbrev pub enters_scope : Jump → Jump → Bool
enters_scope goto label =
    list_any (λ number. not (list_any (λ held. held == number) goto.scopes)) label.scopes

-- N9: a goto outside an object's scope names a label inside it (6.8.6.1p1 says so of arrays of
-- variable length; of every object this project's own): the name in the goto
abbrev pub entering_gotos : List Jump → List Jump → List ℕ
entering_gotos labels gotos = flat_map (λ goto.
    at_if (unwrap_or (option_map (enters_scope goto) (find
    (λ label. bytes_eq label.name.bytes goto.name.bytes) labels)) false)
    goto.name.place) gotos

-- the faults of a function's labels and gotos
abbrev pub jump_faults : List Site → List TextFault
jump_faults sites =
    broken rule.N7 (repeated_labels [] (flat_map label_at sites))
    ++ broken rule.N9 (entering_gotos (flat_map label_at sites) (flat_map goto_at sites))
