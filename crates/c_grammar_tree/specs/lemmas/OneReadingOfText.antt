-- Lemmas: the same of declarations, statements and items, and of the grammar at each two depths.
use Rattle.std.specs.Prelude.{ℕ, zero, suc, Bool, true, false, [], is_some, Option, Some}
use Rattle.c_grammar_forms.specs.Forms.{Form}
use Rattle.c_grammar_forms.specs.lemmas.Steady.{Good, good_nothing, good_one, good_such, good_empty}
use Rattle.c_grammar_forms.specs.lemmas.Steady.{good_skip, good_behind, good_before, good_pair}
use Rattle.c_grammar_forms.specs.lemmas.Steady.{good_then}
use Rattle.c_grammar_forms.specs.lemmas.Steady.{good_node, good_shaped, good_deeper, good_choice}
use Rattle.c_grammar_forms.specs.lemmas.Steady.{good_perhaps, good_nearest, good_many}
use Rattle.c_grammar_forms.specs.lemmas.Steady.{good_balanced}
use Rattle.c_grammar_forms.specs.lemmas.Steady.{good_against_nothing, good_many_seen}
use Rattle.c_grammar_symbols.specs.declared.words.Terminal.{Terminal}
use Rattle.c_grammar_symbols.specs.declared.words.Terminal.TheVariants as terminal
use Rattle.c_grammar_symbols.specs.declared.symbol.Symbol.{Symbol}
use Rattle.c_grammar_symbols.specs.declared.symbol.Symbol.TheVariants as symbol
use Rattle.c_grammar_symbols.specs.Symbols.{Leaf, symbol_of}
use Rattle.c_grammar_tree.specs.declared.name.Name.{Name}
use Rattle.c_grammar_tree.specs.declared.declaration.Enumeration.{Enumeration}
use Rattle.c_grammar_tree.specs.Parts.{is_name, bare_name, is_local_specifier, have_word, is_listed}
use Rattle.c_grammar_tree.specs.Nested.{Grammar}
use Rattle.c_grammar_tree.specs.Declarations.{specifier_at, keywords, qualifiers, tag}
use Rattle.c_grammar_tree.specs.Declarations.{declared_type_at, declared_type, specifiers}
use Rattle.c_grammar_tree.specs.Declarations.{attribute}
use Rattle.c_grammar_tree.specs.Declarations.{attributes}
use Rattle.c_grammar_tree.specs.Declarations.{comma_or_end_at, element, list, initializer_of, array}
use Rattle.c_grammar_tree.specs.Declarations.{array_part, declarator_rest, declarator}
use Rattle.c_grammar_tree.specs.Declarations.{more_declarators}
use Rattle.c_grammar_tree.specs.Declarations.{enumerator, enumerators, enumerator_list}
use Rattle.c_grammar_tree.specs.Declarations.{enumeration_by, enumeration, declarators}
use Rattle.c_grammar_tree.specs.Declarations.{declarators_by, declaration_by}
use Rattle.c_grammar_tree.specs.Statements.{block_items, items, condition, optional, for_start}
use Rattle.c_grammar_tree.specs.Statements.{behind_comma_at}
use Rattle.c_grammar_tree.specs.Statements.{statement_at, statement, item_by, item}
use Rattle.c_grammar_tree.specs.Items.{is_known, have_pointer, parameter, parameter_list}
use Rattle.c_grammar_tree.specs.Items.{function_rest}
use Rattle.c_grammar_tree.specs.Items.{skipped_body, closing_brace, closed_items, body_of}
use Rattle.c_grammar_tree.specs.Items.{function_end_at, named_at}
use Rattle.c_grammar_tree.specs.Items.{declared_at}
use Rattle.c_grammar_tree.specs.Items.{typedef_name, typedef_names, seen_behind}
use Rattle.c_grammar_tree.specs.Items.{unit_item_at, unit_item, unit_items}
use Rattle.c_grammar_tree.specs.Grammar.{grammar}
use Rattle.c_grammar_tree.specs.lemmas.OneReading.{GoodGrammar, good_round_brackets, good_comma}
pub use Rattle.c_grammar_tree.specs.lemmas.OneReading.{good_identifier}
use Rattle.c_grammar_tree.specs.lemmas.OneReading.{good_assignment}
use Rattle.c_grammar_tree.specs.lemmas.OneReading.{good_conditional, good_cast, good_unary}

pub good_specifier_at : (s : Symbol) → Good (specifier_at s) (specifier_at s)
unfolding specifier_at
good_specifier_at (symbol.Storage word) = good_node _ good_one
good_specifier_at (symbol.Specifier word) = good_node _ good_one
good_specifier_at (symbol.TypeWord word) = good_node _ good_one
good_specifier_at _ = good_nothing

pub good_keywords : (goes : Leaf → Bool) → Good (keywords goes) (keywords goes)
unfolding keywords
good_keywords goes = good_shaped _ (good_many _ (good_choice symbol_of good_specifier_at))

pub good_qualifiers : (goes : Leaf → Bool) → Good (qualifiers goes) (qualifiers goes)
unfolding qualifiers
good_qualifiers goes = good_many _ (good_choice symbol_of good_specifier_at)

pub good_tag : Good tag tag
unfolding tag
good_tag = good_node _ good_identifier

module _ {E F : Form Leaf Enumeration} (g : Good E F) (goes : Leaf → Bool) where
  pub good_declared_type_at : (s : Symbol) →
      Good (declared_type_at E goes s) (declared_type_at F goes s)
  unfolding declared_type_at
  good_declared_type_at (symbol.TypedefName named) = good_node _ (good_skip (good_qualifiers goes))
  good_declared_type_at (symbol.Terminal terminal.Enum) =
      good_node _ (good_skip (good_pair g (good_qualifiers goes)))
  good_declared_type_at _ = good_nothing

  pub good_declared_type : (typed : Bool) →
      Good (declared_type E goes typed) (declared_type F goes typed)
  unfolding declared_type
  good_declared_type true = good_node _ good_empty
  good_declared_type false = good_choice symbol_of good_declared_type_at

  pub good_specifiers : Good (specifiers E goes) (specifiers F goes)
  unfolding specifiers
  good_specifiers = good_node _ (good_then (good_keywords goes)
      (λ front. good_declared_type (have_word front)))

pub good_attribute : Good attribute attribute
unfolding attribute
good_attribute = good_skip (good_behind _ (good_behind _ (good_before good_round_brackets _)))

pub good_attributes : Good attributes attributes
unfolding attributes
good_attributes = good_node _ (good_many _ good_attribute)

pub good_comma_or_end_at : (s : Symbol) → Good (comma_or_end_at s) (comma_or_end_at s)
unfolding comma_or_end_at
good_comma_or_end_at (symbol.Terminal terminal.Comma) = good_one
good_comma_or_end_at (symbol.Terminal terminal.RightBrace) = good_empty
good_comma_or_end_at _ = good_nothing

pub good_parameter : Good parameter parameter
unfolding parameter
good_parameter = good_node _ (good_then (good_specifiers good_tag _)
    (λ front. good_pair (good_perhaps _ good_one) (good_perhaps _ good_identifier)))

pub good_parameter_list : Good parameter_list parameter_list
unfolding parameter_list
good_parameter_list = good_node _ (good_pair (good_deeper good_parameter)
    (good_many _ (good_skip (good_deeper good_parameter))))

pub good_function_rest : Good function_rest function_rest
unfolding function_rest
good_function_rest = good_node _ (good_skip (good_pair
    (good_before (good_perhaps _ good_parameter_list) _) good_attributes))

pub good_typedef_name : Good typedef_name typedef_name
unfolding typedef_name
good_typedef_name = good_node _ (good_such _)

pub good_typedef_names : Good typedef_names typedef_names
unfolding typedef_names
good_typedef_names =
    good_node _ (good_pair good_typedef_name (good_many _ (good_skip good_typedef_name)))

pub good_skipped_body : Good skipped_body skipped_body
unfolding skipped_body
good_skipped_body = good_balanced _ _ _

pub good_element : {T : Type 0} {A B : Form Leaf T} → Good A B → Good (element A) (element B)
unfolding element
good_element g = good_node _ (good_pair g (good_choice symbol_of good_comma_or_end_at))

module _ (G H : Grammar) (g : GoodGrammar G H) where
  pub good_list : Good (list G) (list H)
  unfolding list
  good_list = good_node _ (good_behind _
      (good_before (good_many _ (good_element (good_deeper g.assignment))) _))

  pub good_enumerator : Good (enumerator G) (enumerator H)
  unfolding enumerator
  good_enumerator = good_node _ (good_pair good_identifier
      (good_perhaps _ (good_skip (good_deeper g.conditional))))

  pub good_enumerators : Good (enumerators G) (enumerators H)
  unfolding enumerators
  good_enumerators = good_node _ (good_pair (good_element (good_deeper g.enumerator))
      (good_many _ (good_element (good_deeper g.enumerator))))

  pub good_enumerator_list : Good (enumerator_list G) (enumerator_list H)
  unfolding enumerator_list
  good_enumerator_list = good_behind _ (good_before good_enumerators _)

  pub good_enumeration_by : (named : Bool) → Good (enumeration_by G named) (enumeration_by H named)
  unfolding enumeration_by
  good_enumeration_by true =
      good_node _ (good_pair good_identifier (good_perhaps _ good_enumerator_list))
  good_enumeration_by false = good_node _ good_enumerator_list

  pub good_enumeration : (braces : Bool) → Good (enumeration G braces) (enumeration H braces)
  unfolding enumeration
  good_enumeration false = good_tag
  good_enumeration true = good_choice is_name good_enumeration_by

  pub good_initializer_of : (is_array : Bool) → Good (initializer_of G is_array)
      (initializer_of H is_array)
  unfolding initializer_of
  good_initializer_of false = good_node _ (good_deeper g.assignment)
  good_initializer_of true = good_deeper g.list

  pub good_array : Good (array G) (array H)
  unfolding array
  good_array = good_node _ (good_skip (good_before (good_perhaps _ (good_deeper g.conditional)) _))

  pub good_array_part : Good (array_part G) (array_part H)
  unfolding array_part
  good_array_part = good_pair (good_perhaps _ good_array) good_attributes

  pub good_declarator_rest : Good (declarator_rest G) (declarator_rest H)
  unfolding declarator_rest
  good_declarator_rest = good_node _ (good_then good_array_part
      (λ front. good_perhaps _ (good_skip (good_initializer_of (is_some front.0)))))

  pub good_declarator : Good (declarator G) (declarator H)
  unfolding declarator
  good_declarator = good_node _ (good_pair good_identifier good_declarator_rest)

  pub good_more_declarators : Good (more_declarators G) (more_declarators H)
  unfolding more_declarators
  good_more_declarators = good_many _ (good_skip good_declarator)

  pub good_declarators : Good (declarators G) (declarators H)
  unfolding declarators
  good_declarators = good_node _ (good_pair good_declarator good_more_declarators)

  pub good_declarators_by : (braces : Bool) → Good (declarators_by G braces)
      (declarators_by H braces)
  unfolding declarators_by
  good_declarators_by false = good_declarators
  good_declarators_by true = good_node _ (good_perhaps _ good_declarators)

  pub good_declaration_by : (braces : Bool) → Good (declaration_by braces G)
      (declaration_by braces H)
  unfolding declaration_by
  good_declaration_by braces = good_node _ (good_then (good_specifiers (good_enumeration braces) _)
      (λ front. good_before (good_declarators_by (is_listed front.enumeration)) _))

  pub good_block_items : Good (block_items G) (block_items H)
  good_block_items = good_many _ (good_deeper g.item)

  pub good_items : Good (items G) (items H)
  unfolding items
  good_items = good_before good_block_items _

  pub good_condition : Good (condition G) (condition H)
  unfolding condition
  good_condition = good_behind _ (good_before (good_deeper g.comma) _)

  pub good_optional : (closer : Terminal) → Good (optional closer G) (optional closer H)
  unfolding optional
  good_optional closer = good_before (good_perhaps _ (good_deeper g.comma)) _

  pub good_for_start : (local : Bool) → Good (for_start G local) (for_start H local)
  unfolding for_start
  good_for_start true = good_node _ (good_deeper g.declaration)
  good_for_start false = good_node _ (good_optional terminal.Semicolon)

  pub good_behind_comma_at : (name : Option Name) (s : Symbol) →
      Good (behind_comma_at G name s) (behind_comma_at H name s)
  unfolding behind_comma_at
  good_behind_comma_at name (symbol.Terminal terminal.Semicolon) = good_node _ good_one
  good_behind_comma_at (Some name) (symbol.Terminal terminal.Colon) =
      good_node _ (good_skip (good_deeper g.statement))
  good_behind_comma_at _ _ = good_nothing

  pub good_statement_at : (s : Symbol) → Good (statement_at G s) (statement_at H s)
  unfolding statement_at
  good_statement_at (symbol.Terminal terminal.LeftBrace) = good_node _ (good_skip good_items)
  good_statement_at (symbol.Terminal terminal.Semicolon) = good_node _ good_one
  good_statement_at (symbol.Terminal terminal.If) = good_node _ (good_skip (good_pair good_condition
      (good_pair (good_deeper g.statement) (good_nearest _ (good_skip (good_deeper g.statement))))))
  good_statement_at (symbol.Terminal terminal.While) =
      good_node _ (good_skip (good_pair good_condition (good_deeper g.statement)))
  good_statement_at (symbol.Terminal terminal.Do) =
      good_node _ (good_skip (good_pair (good_before (good_deeper g.statement) _)
      (good_before good_condition _)))
  good_statement_at (symbol.Terminal terminal.For) =
      good_node _ (good_skip (good_behind _ (good_pair
      (good_choice is_local_specifier good_for_start)
      (good_pair (good_optional terminal.Semicolon) (good_pair (good_optional terminal.RightParen)
      (good_deeper g.statement))))))
  good_statement_at (symbol.Terminal terminal.Switch) =
      good_node _ (good_skip (good_pair good_condition (good_deeper g.statement)))
  good_statement_at (symbol.Terminal terminal.Case) = good_node _ (good_skip (good_pair
      (good_before (good_deeper g.conditional) _) (good_deeper g.statement)))
  good_statement_at (symbol.Terminal terminal.Default) =
      good_node _ (good_skip (good_behind _ (good_deeper g.statement)))
  good_statement_at (symbol.Terminal terminal.Goto) =
      good_node _ (good_skip (good_before good_identifier _))
  good_statement_at (symbol.Terminal terminal.Break) = good_node _ (good_skip (good_such _))
  good_statement_at (symbol.Terminal terminal.Continue) = good_node _ (good_skip (good_such _))
  good_statement_at (symbol.Terminal terminal.Return) =
      good_node _ (good_skip (good_before (good_perhaps _ (good_comma G H g)) _))
  good_statement_at _ = good_node _ (good_then (good_comma G H g)
      (λ made. good_choice symbol_of (good_behind_comma_at (bare_name made))))

  pub good_statement : Good (statement G) (statement H)
  unfolding statement
  good_statement = good_choice symbol_of good_statement_at

  pub good_item_by : (local : Bool) → Good (item_by G local) (item_by H local)
  unfolding item_by
  good_item_by true = good_node _ (good_declaration_by true)
  good_item_by false = good_node _ good_statement

  pub good_item : Good (item G) (item H)
  unfolding item
  good_item = good_choice is_local_specifier good_item_by

  good_closing_brace : Good closing_brace closing_brace
  unfolding closing_brace
  good_closing_brace = good_node _ (good_such _)

  pub good_closed_items : Good (closed_items G) (closed_items H)
  unfolding closed_items
  good_closed_items = good_pair good_block_items good_closing_brace

  pub good_body_of : (known : Bool) → Good (body_of G known) (body_of H known)
  unfolding body_of
  good_body_of true = good_node _ (good_skip good_skipped_body)
  good_body_of false = good_node _ (good_skip good_closed_items)

  pub good_function_end_at : (name : Name) (pointer : Bool) (s : Symbol) →
      Good (function_end_at G name pointer s) (function_end_at H name pointer s)
  unfolding function_end_at
  good_function_end_at name pointer (symbol.Terminal terminal.Semicolon) = good_node _ good_one
  good_function_end_at name false (symbol.Terminal terminal.LeftBrace) =
      good_node _ (good_body_of (is_known name))
  good_function_end_at name _ _ = good_nothing

  pub good_named_at : (braces : Bool) (name : Name) (s : Symbol) →
      Good (named_at G braces name s) (named_at H braces name s)
  unfolding named_at
  good_named_at false name (symbol.Terminal terminal.LeftParen) =
      good_node _ (good_then good_function_rest
      (λ found. good_choice symbol_of (good_function_end_at name (have_pointer found))))
  good_named_at _ name _ =
      good_node _ (good_before (good_pair good_declarator_rest good_more_declarators) _)

  pub good_declared_at : (braces : Bool) (s : Symbol) →
      Good (declared_at G braces s) (declared_at H braces s)
  unfolding declared_at
  good_declared_at braces (symbol.Terminal terminal.Semicolon) = good_node _ good_one
  good_declared_at braces symbol.Name = good_node _ (good_then good_identifier
      (λ name. good_choice symbol_of (good_named_at braces name)))
  good_declared_at braces _ = good_nothing

  pub good_unit_item_at : (s : Symbol) → Good (unit_item_at G s) (unit_item_at H s)
  unfolding unit_item_at
  good_unit_item_at (symbol.Terminal terminal.Semicolon) = good_node _ good_one
  good_unit_item_at (symbol.Terminal terminal.Typedef) =
      good_node _ (good_skip (good_pair (good_specifiers (good_enumeration true) _)
      (good_before good_typedef_names _)))
  good_unit_item_at _ = good_node _ (good_then (good_specifiers (good_enumeration true) _)
      (λ front. good_choice symbol_of (good_declared_at (is_listed front.enumeration))))

  pub good_unit_item : Good (unit_item G) (unit_item H)
  unfolding unit_item
  good_unit_item = good_choice symbol_of good_unit_item_at

  pub good_unit_items : Good (unit_items G) (unit_items H)
  unfolding unit_items
  good_unit_items = good_before (good_many_seen seen_behind _ [] good_unit_item) _

-- the grammar at one depth against the grammar at another
pub good_grammar : (n m : ℕ) → GoodGrammar (grammar n) (grammar m)
unfolding grammar
good_grammar zero m = record {
  comma = good_nothing;
  assignment = good_nothing;
  conditional = good_nothing;
  cast = good_nothing;
  unary = good_nothing;
  list = good_nothing;
  enumerator = good_nothing;
  declaration = good_nothing;
  statement = good_nothing;
  item = good_nothing;
}
good_grammar (suc n) zero = let g = good_grammar n n in record {
  comma = good_against_nothing (good_comma (grammar n) (grammar n) g);
  assignment = good_against_nothing (good_assignment (grammar n) (grammar n) g);
  conditional = good_against_nothing (good_conditional (grammar n) (grammar n) g);
  cast = good_against_nothing (good_cast (grammar n) (grammar n) g);
  unary = good_against_nothing (good_unary (grammar n) (grammar n) g);
  list = good_against_nothing (good_list (grammar n) (grammar n) g);
  enumerator = good_against_nothing (good_enumerator (grammar n) (grammar n) g);
  declaration = good_against_nothing (good_declaration_by (grammar n) (grammar n) g false);
  statement = good_against_nothing (good_statement (grammar n) (grammar n) g);
  item = good_against_nothing (good_item (grammar n) (grammar n) g);
}
good_grammar (suc n) (suc m) = let g = good_grammar n m in record {
  comma = good_comma (grammar n) (grammar m) g;
  assignment = good_assignment (grammar n) (grammar m) g;
  conditional = good_conditional (grammar n) (grammar m) g;
  cast = good_cast (grammar n) (grammar m) g;
  unary = good_unary (grammar n) (grammar m) g;
  list = good_list (grammar n) (grammar m) g;
  enumerator = good_enumerator (grammar n) (grammar m) g;
  declaration = good_declaration_by (grammar n) (grammar m) g false;
  statement = good_statement (grammar n) (grammar m) g;
  item = good_item (grammar n) (grammar m) g;
}
