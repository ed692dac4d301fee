-- Declarations, statements and items of the grammar written plainly are those of the grammar.
use Rattle.std.specs.Prelude.{◌≡◌, ℕ, zero, suc, Bool, true, false, not, ◌||◌, [], is_some, Option}
use Rattle.std.specs.Prelude.{Some, refl}
use Rattle.std.proofs.Common.{ap, subst, arith}
use Rattle.c_grammar_forms.specs.Forms.{Form, Before, Pair}
use Rattle.c_laws.specs.Plain.{plain_text}
use Rattle.c_laws.proofs.Closes.{Closes, Begins, no_token, closes_nothing, closes_one}
use Rattle.c_laws.proofs.Closes.{closes_such}
use Rattle.c_laws.proofs.Closes.{closes_empty, closes_balanced, closes_skip, closes_behind}
use Rattle.c_laws.proofs.Closes.{closes_before, closes_pair, closes_then, closes_node}
use Rattle.c_laws.proofs.Closes.{closes_shaped, closes_deeper, closes_choice, closes_more}
use Rattle.c_laws.proofs.Closes.{Starts, closes_many_seen}
use Rattle.c_laws.proofs.Closes.{closes_many, closes_perhaps, closes_nearest, starts_by}
use Rattle.c_laws.proofs.Closes.{starts_such, starts_before, starts_pair, starts_node}
use Rattle.c_laws.proofs.Closes.{starts_made}
use Rattle.c_laws.proofs.Closes.{starts_both, starts_choice, starts_any, starts_many}
use Rattle.c_laws.proofs.Closes.{starts_perhaps, starts_option, starts_closed}
use Rattle.c_grammar_symbols.specs.declared.words.Terminal.{Terminal}
use Rattle.c_grammar_symbols.specs.declared.words.Terminal.TheVariants as terminal
use Rattle.c_grammar_symbols.specs.declared.symbol.Symbol.{Symbol}
use Rattle.c_grammar_symbols.specs.declared.symbol.Symbol.TheVariants as symbol
use Rattle.c_grammar_symbols.specs.Symbols.{Leaf, symbol_of}
use Rattle.c_grammar_symbols.specs.Sources.{is, is_terminal}
use Rattle.c_grammar_tree.specs.declared.name.Name.{Name}
use Rattle.c_grammar_tree.specs.declared.statement.Statement.{Statement}
use Rattle.c_grammar_tree.specs.declared.item.Body.{Body}
use Rattle.c_grammar_tree.specs.Parts.{is_not, is_name, is_end, have_part, have_word, have_char}
use Rattle.c_grammar_tree.specs.Parts.{points, is_specifier, is_typedef_specifier, is_any_name}
use Rattle.c_grammar_tree.specs.Parts.{is_keyword, is_no_type, is_type_word, is_declared_type}
use Rattle.c_grammar_tree.specs.Parts.{begins_declared, names, specifies_locally, is_listed}
use Rattle.c_grammar_tree.specs.Parts.{specifies_in_typedef}
use Rattle.c_grammar_tree.specs.Parts.{specifies, is_local_specifier, is_initializing, bare_name}
use Rattle.c_grammar_tree.specs.Nested.{Grammar}
use Rattle.c_grammar_tree.specs.declared.declaration.Enumeration.{Enumeration}
use Rattle.c_grammar_tree.specs.Declarations.{identifier, specifier_at, keywords, qualifiers, Words}
use Rattle.c_grammar_tree.specs.Declarations.{declared_type_at, declared_type, specifiers, tag}
use Rattle.c_grammar_tree.specs.Declarations.{attribute, enumerator, enumerators, enumerator_list}
use Rattle.c_grammar_tree.specs.Declarations.{enumeration_by, enumeration}
use Rattle.c_grammar_tree.specs.Declarations.{attributes}
use Rattle.c_grammar_tree.specs.Declarations.{comma_or_end_at, element, list, initializer_of, array}
use Rattle.c_grammar_tree.specs.Declarations.{array_part, declarator_rest, declarator}
use Rattle.c_grammar_tree.specs.Declarations.{more_declarators}
use Rattle.c_grammar_tree.specs.Declarations.{declarators, declarators_by, declaration_by}
use Rattle.c_grammar_tree.specs.Statements.{block_items, items, condition, optional, for_start}
use Rattle.c_grammar_tree.specs.Statements.{behind_comma_at}
use Rattle.c_grammar_tree.specs.Statements.{statement_at, statement, item_by, item}
use Rattle.c_grammar_tree.specs.Items.{Named, is_known, have_pointer, parameter, parameter_list}
use Rattle.c_grammar_tree.specs.Items.{function_rest, skipped_body, closing_brace, closed_items}
use Rattle.c_grammar_tree.specs.Items.{body_of, function_end_at}
use Rattle.c_grammar_tree.specs.Items.{named_at}
use Rattle.c_grammar_tree.specs.Items.{typedef_name, typedef_names, seen_behind}
use Rattle.c_grammar_tree.specs.Items.{declared_at, unit_item_at, unit_item, unit_items}
use Rattle.c_grammar_tree.specs.Grammar.{grammar}
use Rattle.c_laws.proofs.GoesOn.{loose, goes_on, declares, fronts, parameters_go_on}
use Rattle.c_laws.proofs.GoesOn.{lists_parameters, lists_declarators, stops_at, open_at}
use Rattle.c_laws.proofs.GoesOn.{closed_at, first_false, any_name_is_no_word}
use Rattle.c_laws.proofs.GoesOn.{declares_loose, initializes_parts, initializes_ends}
use Rattle.c_laws.proofs.GoesOn.{fronts_ends}
use Rattle.c_laws.proofs.GoesOn.{name_is_no_specifier, name_is_no_word, name_is_no_pointer}
use Rattle.c_laws.proofs.GoesOn.{pointer_is_no_word, second_false, second_true}
use Rattle.c_laws.proofs.GoesOn.{first_of_or}
use Rattle.c_laws.proofs.GoesOn.{second_of_or, first_true, both_false, is_other}
use Rattle.c_laws.proofs.GoesOn.{any_name_is_no_brace, value_ends, tighter}
use Rattle.c_laws.proofs.PlainExpressions.{ClosedGrammar, closes_round_brackets}
use Rattle.c_laws.proofs.PlainExpressions.{closes_identifier, closes_comma}
use Rattle.c_laws.proofs.PlainExpressions.{closes_assignment, closes_conditional}
use Rattle.c_laws.proofs.PlainExpressions.{closes_cast}
use Rattle.c_laws.proofs.PlainExpressions.{closes_unary}

closes_specifier_at : {more : Leaf → Bool} (s : Symbol) → Closes (specifier_at s) more
unfolding specifier_at
closes_specifier_at (symbol.Storage word) = closes_node _ closes_one
closes_specifier_at (symbol.Specifier word) = closes_node _ closes_one
closes_specifier_at (symbol.TypeWord word) = closes_node _ closes_one
closes_specifier_at _ = closes_nothing

closes_keywords : (goes : Leaf → Bool) → Closes (keywords goes) (is_keyword goes)
unfolding keywords
closes_keywords goes = closes_shaped have_part
    (closes_many (is_keyword goes) _ {inner = no_token}
    (closes_choice symbol_of closes_specifier_at)
    (λ t e. refl) (λ t e. refl) (λ t e. e))

closes_qualifiers : (goes : Leaf → Bool) → Closes (qualifiers goes) (is_no_type goes)
unfolding qualifiers
closes_qualifiers goes = closes_many (is_no_type goes) _ {inner = no_token}
    (closes_choice symbol_of closes_specifier_at) (λ t e. refl) (λ t e. refl) (λ t e. e)

closes_tag : {more : Leaf → Bool} → Closes tag more
unfolding tag
closes_tag = closes_node _ closes_identifier

-- a type that a text declares begins with no keyword but enum
declared_first : (E : Form Leaf Enumeration) (goes : Leaf → Bool) (s : Symbol) (at : ℕ → Leaf)
    (edge left p : ℕ) (u : Words) (q : ℕ) →
    declared_type_at E goes s (plain_text at edge) left p u q → not (begins_declared s) ≡ false
unfolding declared_type_at
declared_first E goes (symbol.TypedefName named) at edge left p u q r = refl
declared_first E goes (symbol.Terminal terminal.Enum) at edge left p u q r = refl
declared_first E goes _ at edge left p u q r = absurd r.never

-- specifiers, where an enumerated type goes on with these tokens, of which none is one of theirs
module _ (E : Form Leaf Enumeration) (outer : Leaf → Bool) (c : Closes E outer)
    (goes : Leaf → Bool) (apart : (t : Leaf) → goes t ≡ true → outer t ≡ false) where
  abbrev words_go_on : Leaf → Bool
  words_go_on t = is_keyword goes t || outer t

  no_keyword : (t : Leaf) → words_go_on t ≡ false → is_keyword goes t ≡ false
  no_keyword t e = first_of_or (is_keyword goes t) (outer t) e

  no_outer : (t : Leaf) → words_go_on t ≡ false → outer t ≡ false
  no_outer t e = second_of_or (is_keyword goes t) (outer t) e

  closes_behind_type : Closes (qualifiers goes) words_go_on
  closes_behind_type = closes_more
      (λ t e. first_false (is_keyword goes t) (not (is_type_word t)) (no_keyword t e))
      (closes_qualifiers goes)

  qualifier_is_apart : (t : Leaf) → is_no_type goes t ≡ true → outer t ≡ false
  qualifier_is_apart t e = apart t (first_true (goes t) (not (is_declared_type t))
      (first_true (is_keyword goes t) (not (is_type_word t)) e))

  starts_qualifiers : Starts (qualifiers goes) outer words_go_on
  unfolding qualifiers
  starts_qualifiers = starts_many (is_no_type goes) _ qualifier_is_apart no_outer

  closes_declared_type_at : (s : Symbol) → Closes (declared_type_at E goes s) words_go_on
  unfolding declared_type_at
  closes_declared_type_at (symbol.TypedefName named) =
      closes_node _ (closes_skip closes_behind_type)
  closes_declared_type_at (symbol.Terminal terminal.Enum) = closes_node _ (closes_skip
      (closes_pair {inner = outer} c closes_behind_type starts_qualifiers))
  closes_declared_type_at _ = closes_nothing

  closes_declared_type : (typed : Bool) → Closes (declared_type E goes typed) words_go_on
  unfolding declared_type
  closes_declared_type true = closes_node _ closes_empty
  closes_declared_type false = closes_choice symbol_of closes_declared_type_at

  starts_declared_type : (typed : Bool) →
      Starts (declared_type E goes typed) (is_keyword goes) words_go_on
  unfolding declared_type
  starts_declared_type true = starts_made _ (record {
    first = λ {at} {edge} {left} {p} {u} {q} r h. no_keyword (at p)
        (subst (λ m. words_go_on (at m) ≡ false) r.behind h);
  })
  starts_declared_type false = starts_by (record {
    first = λ {at} {edge} {left} {p} {u} {q} r.
        second_false (goes (at p)) (not (is_declared_type (at p)))
        (declared_first E goes (symbol_of (at p)) at edge left p u q r.chosen);
  })

  closes_words : Closes (specifiers E goes) words_go_on
  unfolding specifiers
  closes_words = closes_node _ (closes_then {inner = is_keyword goes} (closes_keywords goes)
      (λ front. closes_declared_type (have_word front))
      (λ front. starts_declared_type (have_word front)))

  closes_specifiers : Closes (specifiers E goes) (λ t. goes t || outer t)
  closes_specifiers = closes_more (λ t e. both_false (is_keyword goes t) (outer t)
      (first_false (goes t) (not (is_declared_type t)) (first_of_or (goes t) (outer t) e))
      (second_of_or (goes t) (outer t) e)) closes_words

closes_attribute : {more : Leaf → Bool} → Closes attribute more
unfolding attribute
closes_attribute = closes_skip (closes_behind _ (closes_behind _
    (closes_before {inner = no_token} closes_round_brackets _ (λ t e. refl))))

closes_attributes : Closes attributes (is terminal.Attribute)
unfolding attributes
closes_attributes = closes_node _
    (closes_many (is terminal.Attribute) _ {inner = no_token} closes_attribute (λ t e. refl)
    (λ t e. refl) (λ t e. e))

closes_comma_or_end_at : {more : Leaf → Bool} (s : Symbol) → Closes (comma_or_end_at s) more
unfolding comma_or_end_at
closes_comma_or_end_at (symbol.Terminal terminal.Comma) = closes_one
closes_comma_or_end_at (symbol.Terminal terminal.RightBrace) = closes_empty
closes_comma_or_end_at _ = closes_nothing

closes_parameter : Closes parameter (λ t. parameters_go_on (symbol_of t))
unfolding parameter
closes_parameter =
    closes_node _ (closes_then {inner = is_specifier}
    (closes_more (λ t e. both_false (is_specifier t) false e refl)
    (closes_specifiers tag no_token closes_tag is_specifier (λ t e. refl)))
    (λ front. closes_pair {inner = λ t. points (symbol_of t)}
    (closes_perhaps _ {inner = no_token} closes_one (λ t e. refl)
    (λ t e. second_false (have_char front.words) (points (symbol_of t)) e))
    (closes_perhaps is_name {inner = no_token} closes_identifier (λ t e. refl)
    (λ t e. second_of_or (points (symbol_of t)) (is_name t)
    (second_of_or (is_specifier t) (points (symbol_of t) || is_name t) e)))
    (starts_perhaps is_name _ (λ t e. name_is_no_pointer (symbol_of t) e)
    (λ t e. first_of_or (points (symbol_of t)) (is_name t)
    (second_of_or (is_specifier t) (points (symbol_of t) || is_name t) e))))
    (λ front. starts_both {middle = is_specifier}
    (starts_perhaps _ _ (λ t e. pointer_is_no_word (symbol_of t)
    (second_true (have_char front.words) (points (symbol_of t)) e)) (λ t e. e))
    (starts_perhaps is_name _ (λ t e. name_is_no_word (symbol_of t) e)
    (λ t e. first_of_or (is_specifier t) (points (symbol_of t) || is_name t) e))))

closes_parameter_list : Closes parameter_list (λ t. lists_parameters (symbol_of t))
unfolding parameter_list
closes_parameter_list =
    let parts = stops_at parameters_go_on terminal.Comma refl in
    let less = λ (t : Leaf) (e : lists_parameters (symbol_of t) ≡ false). first_of_or
    (parameters_go_on (symbol_of t)) (is terminal.Comma t) e in
    closes_node _ (closes_pair {inner = λ t. parameters_go_on (symbol_of t)}
    (closes_deeper closes_parameter)
    (closes_many (is terminal.Comma) _ {inner = λ t. parameters_go_on (symbol_of t)}
    (closes_skip (closes_deeper closes_parameter)) parts less
    (λ t e. second_of_or (parameters_go_on (symbol_of t)) (is terminal.Comma t) e))
    (starts_many (is terminal.Comma) _ parts less))

closes_function_rest : Closes function_rest (is terminal.Attribute)
unfolding function_rest
closes_function_rest = closes_node _ (closes_skip (closes_pair {inner = no_token}
    (closes_before {inner = is_not terminal.RightParen}
    (closes_perhaps (is_not terminal.RightParen) {inner =
    λ t. lists_parameters (symbol_of t)} closes_parameter_list
    (closed_at lists_parameters terminal.RightParen refl) (λ t e. e)) _
    (open_at terminal.RightParen)) closes_attributes starts_any))

closes_typedef_name : {more : Leaf → Bool} → Closes typedef_name more
unfolding typedef_name
closes_typedef_name = closes_node _ (closes_such is_any_name)

closes_typedef_names : Closes typedef_names (is terminal.Comma)
unfolding typedef_names
closes_typedef_names = closes_node _ (closes_pair {inner = no_token} closes_typedef_name
    (closes_many (is terminal.Comma) _ {inner = no_token} (closes_skip closes_typedef_name)
    (λ t e. refl) (λ t e. refl) (λ t e. e)) starts_any)

typedef_names_first :
    Begins typedef_names (λ t. is_keyword is_typedef_specifier t || is terminal.LeftBrace t)
unfolding typedef_names typedef_name
typedef_names_first = starts_node _ (starts_pair _ (starts_node _
    (starts_such is_any_name (λ t e. both_false (is_keyword is_typedef_specifier t)
    (is terminal.LeftBrace t) (any_name_is_no_word (symbol_of t) e)
    (any_name_is_no_brace (symbol_of t) e)))))

closes_skipped_body : {more : Leaf → Bool} → Closes skipped_body more
unfolding skipped_body
closes_skipped_body = closes_balanced _ _ _

comma_or_end_first : (s : Symbol) (at : ℕ → Leaf) (edge left p : ℕ) (u : Unit {0}) (q : ℕ) →
    comma_or_end_at s (plain_text at edge) left p u q → loose 12 s ≡ false
unfolding comma_or_end_at
comma_or_end_first (symbol.Terminal terminal.Comma) at edge left p u q r = refl
comma_or_end_first (symbol.Terminal terminal.RightBrace) at edge left p u q r = refl
comma_or_end_first _ at edge left p u q r = absurd r.never

closes_element : {T : Type 0} {A : Form Leaf T} → Closes A (goes_on 12) →
    Closes (element A) no_token
unfolding element
closes_element c = closes_node _ (closes_pair {inner = goes_on 12} c
    (closes_choice symbol_of closes_comma_or_end_at)
    (starts_by (starts_choice symbol_of (loose 12) comma_or_end_first)))

-- an identifier is no specifier of an item, and none in a function; a brace is none either
name_is_apart : (t : Leaf) → is_name t ≡ true →
    (is_local_specifier t || is terminal.LeftBrace t) ≡ false
name_is_apart t e = both_false (is_local_specifier t) (is terminal.LeftBrace t)
    (name_is_no_specifier (symbol_of t) e) (is_other names terminal.LeftBrace refl t e)

module _ (G : Grammar) (c : ClosedGrammar G) where
  closes_list : Closes (list G) no_token
  unfolding list
  closes_list = closes_node _ (closes_behind _ (closes_before {inner = is_not terminal.RightBrace}
      (closes_many (is_not terminal.RightBrace) _ {inner = no_token}
      (closes_element (closes_deeper c.assignment)) (λ t e. refl) (λ t e. refl) (λ t e. e))
      _ (open_at terminal.RightBrace)))

  closes_enumerator : Closes (enumerator G) (goes_on 12)
  unfolding enumerator
  closes_enumerator = closes_node _ (closes_pair {inner = no_token} closes_identifier
      (closes_perhaps is_initializing {inner = goes_on 11}
      (closes_skip (closes_deeper c.conditional)) (tighter 11 12 (omega arith))
      (λ t e. value_ends (symbol_of t) e)) starts_any)

  closes_enumerators : Closes (enumerators G) (is_not terminal.RightBrace)
  unfolding enumerators
  closes_enumerators = closes_node _ (closes_pair {inner = no_token}
      (closes_element (closes_deeper c.enumerator))
      (closes_many (is_not terminal.RightBrace) _ {inner = no_token}
      (closes_element (closes_deeper c.enumerator)) (λ t e. refl) (λ t e. refl) (λ t e. e))
      starts_any)

  closes_enumerator_list : {more : Leaf → Bool} → Closes (enumerator_list G) more
  unfolding enumerator_list
  closes_enumerator_list = closes_behind _ (closes_before {inner = is_not terminal.RightBrace}
      closes_enumerators _ (open_at terminal.RightBrace))

  closes_enumeration_by : (named : Bool) → Closes (enumeration_by G named) (is terminal.LeftBrace)
  unfolding enumeration_by
  closes_enumeration_by true = closes_node _ (closes_pair {inner = no_token} closes_identifier
      (closes_perhaps (is terminal.LeftBrace) {inner = no_token} closes_enumerator_list
      (λ t e. refl) (λ t e. e)) starts_any)
  closes_enumeration_by false = closes_node _ closes_enumerator_list

  closes_enumeration : (braces : Bool) → Closes (enumeration G braces) (is terminal.LeftBrace)
  unfolding enumeration
  closes_enumeration false = closes_tag
  closes_enumeration true = closes_choice is_name closes_enumeration_by

  closes_initializer_of : (is_array : Bool) → Closes (initializer_of G is_array) (goes_on 12)
  unfolding initializer_of
  closes_initializer_of false = closes_node _ (closes_deeper c.assignment)
  closes_initializer_of true = closes_deeper (closes_more (λ t e. refl) c.list)

  closes_array : {more : Leaf → Bool} → Closes (array G) more
  unfolding array
  closes_array = closes_node _ (closes_skip (closes_before {inner = is_not terminal.RightBracket}
      (closes_perhaps (is_not terminal.RightBracket) {inner = goes_on 11}
      (closes_deeper c.conditional)
      (closed_at (loose 11) terminal.RightBracket refl) (λ t e. e)) _
      (open_at terminal.RightBracket)))

  closes_array_part : Closes (array_part G) (λ t. fronts (symbol_of t))
  unfolding array_part attributes
  closes_array_part =
      let less = λ (t : Leaf) (e : fronts (symbol_of t) ≡ false). first_of_or
      (is terminal.LeftBracket t) (is terminal.Attribute t) e in
      closes_pair {inner = is terminal.LeftBracket}
      (closes_perhaps (is terminal.LeftBracket) {inner = no_token} closes_array (λ t e. refl)
      (λ t e. e))
      (closes_more (λ t e. second_of_or (is terminal.LeftBracket t) (is terminal.Attribute t) e)
      closes_attributes)
      (starts_made _ (starts_many (is terminal.Attribute) _
      (stops_at (is_terminal terminal.LeftBracket) terminal.Attribute refl) less))

  closes_declarator_rest : Closes (declarator_rest G) (λ t. declares (symbol_of t))
  unfolding declarator_rest
  closes_declarator_rest =
      closes_node _ (closes_then {inner = λ t. fronts (symbol_of t)} closes_array_part
      (λ front. closes_perhaps is_initializing {inner = goes_on 12}
      (closes_skip (closes_initializer_of (is_some front.0)))
      declares_loose (λ t e. initializes_ends (symbol_of t) e))
      (λ front. starts_perhaps is_initializing _ (λ t e. initializes_parts (symbol_of t) e)
      (λ t e. fronts_ends (symbol_of t) e)))

  closes_declarator : Closes (declarator G) (λ t. declares (symbol_of t))
  unfolding declarator
  closes_declarator = closes_node _ (closes_pair {inner =
      no_token} closes_identifier closes_declarator_rest starts_any)

  declarator_first : Begins (declarator G) (λ t. is_local_specifier t || is terminal.LeftBrace t)
  unfolding declarator identifier
  declarator_first =
      starts_node _ (starts_pair _ (starts_node _ (starts_such is_name name_is_apart)))

  closes_more_declarators : Closes (more_declarators G) (λ t. lists_declarators (symbol_of t))
  unfolding more_declarators
  closes_more_declarators = closes_many (is terminal.Comma) _ {inner = λ t. declares (symbol_of t)}
      (closes_skip closes_declarator)
      (stops_at declares terminal.Comma refl)
      (λ t e. first_of_or (declares (symbol_of t)) (is terminal.Comma t) e)
      (λ t e. second_of_or (declares (symbol_of t)) (is terminal.Comma t) e)

  -- a declarator, or what stands behind its name, and the declarators behind it
  closes_declared : {T : Type 0} {A : Form Leaf T} → Closes A (λ t. declares (symbol_of t)) →
      Closes (Pair A (more_declarators G)) (λ t. lists_declarators (symbol_of t))
  unfolding more_declarators
  closes_declared a = closes_pair {inner = λ t. declares (symbol_of t)} a closes_more_declarators
      (starts_many (is terminal.Comma) _ (stops_at declares terminal.Comma refl)
      (λ t e. first_of_or (declares (symbol_of t)) (is terminal.Comma t) e))

  closes_declarators : Closes (declarators G) (λ t. lists_declarators (symbol_of t))
  unfolding declarators
  closes_declarators = closes_node _ (closes_declared closes_declarator)

  closes_declared_by : (listed : Bool) →
      Closes (Before (declarators_by G listed) (is terminal.Semicolon)) no_token
  unfolding declarators_by
  closes_declared_by false = closes_before {inner = λ t. lists_declarators (symbol_of t)}
      closes_declarators _ (stops_at lists_declarators terminal.Semicolon refl)
  closes_declared_by true = closes_before {inner = is_not terminal.Semicolon}
      (closes_node _ (closes_perhaps (is_not terminal.Semicolon)
      {inner = λ t. lists_declarators (symbol_of t)} closes_declarators
      (closed_at lists_declarators terminal.Semicolon refl) (λ t e. e))) _
      (open_at terminal.Semicolon)

  declarators_first :
      Begins (declarators G) (λ t. is_local_specifier t || is terminal.LeftBrace t)
  unfolding declarators
  declarators_first = starts_node _ (starts_pair _ declarator_first)

  declared_by_first : (listed : Bool) →
      Begins (Before (declarators_by G listed) (is terminal.Semicolon))
      (λ t. is_local_specifier t || is terminal.LeftBrace t)
  unfolding declarators_by
  declared_by_first false = starts_before _ declarators_first
  declared_by_first true = starts_closed {behind = is_not terminal.Semicolon} _
      (starts_made _ (starts_option (is_not terminal.Semicolon) declarators_first
      (closed_at (λ s. specifies_locally s || is_terminal terminal.LeftBrace s)
      terminal.Semicolon refl))) (open_at terminal.Semicolon)

  closes_declaration_by : (braces : Bool) → Closes (declaration_by braces G) no_token
  unfolding declaration_by
  closes_declaration_by braces =
      closes_node _ (closes_then {inner = λ t. is_local_specifier t || is terminal.LeftBrace t}
      (closes_specifiers (enumeration G braces) (is terminal.LeftBrace) (closes_enumeration braces)
      is_local_specifier (is_other specifies_locally terminal.LeftBrace refl))
      (λ front. closes_declared_by (is_listed front.enumeration))
      (λ front. starts_by (declared_by_first (is_listed front.enumeration))))

  closes_block_items : Closes (block_items G) (is_not terminal.RightBrace)
  closes_block_items = closes_many (is_not terminal.RightBrace) _ {inner = no_token}
      (closes_deeper c.item) (λ t e. refl) (λ t e. refl) (λ t e. e)

  closes_items : {more : Leaf → Bool} → Closes (items G) more
  unfolding items
  closes_items = closes_before {inner = is_not terminal.RightBrace} closes_block_items
      _ (open_at terminal.RightBrace)

  closes_condition : {more : Leaf → Bool} → Closes (condition G) more
  unfolding condition
  closes_condition = closes_behind _
      (closes_before {inner = goes_on 13} (closes_deeper c.comma) _
      (stops_at (loose 13) terminal.RightParen refl))

  closes_optional : {more : Leaf → Bool} (closer : Terminal) →
      loose 13 (symbol.Terminal closer) ≡ false → Closes (optional closer G) more
  unfolding optional
  closes_optional closer apart = closes_before {inner = is_not closer}
      (closes_perhaps (is_not closer) {inner = goes_on 13} (closes_deeper c.comma)
      (closed_at (loose 13) closer apart) (λ t e. e))
      _ (open_at closer)

  closes_for_start : (local : Bool) → Closes (for_start G local) no_token
  unfolding for_start
  closes_for_start true = closes_node _ (closes_deeper c.declaration)
  closes_for_start false = closes_node _ (closes_optional terminal.Semicolon refl)

  closes_behind_comma_at : (name : Option Name) (s : Symbol) →
      Closes (behind_comma_at G name s) no_token
  unfolding behind_comma_at
  closes_behind_comma_at name (symbol.Terminal terminal.Semicolon) = closes_node _ closes_one
  closes_behind_comma_at (Some name) (symbol.Terminal terminal.Colon) =
      closes_node _ (closes_skip (closes_deeper c.statement))
  closes_behind_comma_at _ _ = closes_nothing

  behind_comma_first : (name : Option Name) (s : Symbol) (at : ℕ → Leaf) (edge left p : ℕ)
      (u : Option (Name × Statement)) (q : ℕ) →
      behind_comma_at G name s (plain_text at edge) left p u q → loose 13 s ≡ false
  unfolding behind_comma_at
  behind_comma_first name (symbol.Terminal terminal.Semicolon) at edge left p u q r = refl
  behind_comma_first (Some name) (symbol.Terminal terminal.Colon) at edge left p u q r = refl
  behind_comma_first _ _ at edge left p u q r = absurd r.never

  closes_statement_at : (s : Symbol) → Closes (statement_at G s) no_token
  unfolding statement_at
  closes_statement_at (symbol.Terminal terminal.LeftBrace) =
      closes_node _ (closes_skip closes_items)
  closes_statement_at (symbol.Terminal terminal.Semicolon) = closes_node _ closes_one
  closes_statement_at (symbol.Terminal terminal.If) =
      closes_node _ (closes_skip (closes_pair {inner = no_token} closes_condition
      (closes_pair {inner = no_token} (closes_deeper c.statement)
      (closes_nearest _ {inner = no_token} (closes_skip (closes_deeper c.statement)) (λ t e. refl))
      starts_any) starts_any))
  closes_statement_at (symbol.Terminal terminal.While) = closes_node _ (closes_skip
      (closes_pair {inner = no_token} closes_condition (closes_deeper c.statement) starts_any))
  closes_statement_at (symbol.Terminal terminal.Do) =
      closes_node _ (closes_skip (closes_pair {inner = no_token}
      (closes_before {inner = no_token} (closes_deeper c.statement) _ (λ t e. refl))
      (closes_before {inner = no_token} closes_condition _ (λ t e. refl)) starts_any))
  closes_statement_at (symbol.Terminal terminal.For) =
      closes_node _ (closes_skip (closes_behind _ (closes_pair {inner = no_token}
      (closes_choice is_local_specifier closes_for_start)
      (closes_pair {inner = no_token} (closes_optional terminal.Semicolon refl)
      (closes_pair {inner = no_token} (closes_optional terminal.RightParen refl)
      (closes_deeper c.statement) starts_any) starts_any) starts_any)))
  closes_statement_at (symbol.Terminal terminal.Switch) = closes_node _ (closes_skip
      (closes_pair {inner = no_token} closes_condition (closes_deeper c.statement) starts_any))
  closes_statement_at (symbol.Terminal terminal.Case) = closes_node _ (closes_skip
      (closes_pair {inner = no_token} (closes_before {inner = goes_on 11}
      (closes_deeper c.conditional) _ (stops_at (loose 11) terminal.Colon refl))
      (closes_deeper c.statement) starts_any))
  closes_statement_at (symbol.Terminal terminal.Default) =
      closes_node _ (closes_skip (closes_behind _ (closes_deeper c.statement)))
  closes_statement_at (symbol.Terminal terminal.Goto) = closes_node _ (closes_skip
      (closes_before {inner = no_token} closes_identifier _ (λ t e. refl)))
  closes_statement_at (symbol.Terminal terminal.Break) = closes_node _ (closes_skip (closes_such _))
  closes_statement_at (symbol.Terminal terminal.Continue) =
      closes_node _ (closes_skip (closes_such _))
  closes_statement_at (symbol.Terminal terminal.Return) =
      closes_node _ (closes_skip (closes_before {inner = is_not terminal.Semicolon}
      (closes_perhaps (is_not terminal.Semicolon) {inner = goes_on 13} (closes_comma G c)
      (closed_at (loose 13) terminal.Semicolon refl)
      (λ t e. e)) _ (open_at terminal.Semicolon)))
  closes_statement_at _ = closes_node _ (closes_then {inner = goes_on 13} (closes_comma G c)
      (λ made. closes_choice symbol_of (closes_behind_comma_at (bare_name made)))
      (λ made. starts_by (starts_choice symbol_of (loose 13)
      (behind_comma_first (bare_name made)))))

  closes_statement : Closes (statement G) no_token
  unfolding statement
  closes_statement = closes_choice symbol_of closes_statement_at

  closes_item_by : (local : Bool) → Closes (item_by G local) no_token
  unfolding item_by
  closes_item_by true = closes_node _ (closes_declaration_by true)
  closes_item_by false = closes_node _ closes_statement

  closes_item : Closes (item G) no_token
  unfolding item
  closes_item = closes_choice is_local_specifier closes_item_by

  closes_closing_brace : {more : Leaf → Bool} → Closes closing_brace more
  unfolding closing_brace
  closes_closing_brace = closes_node _ (closes_such (is terminal.RightBrace))

  closing_brace_first : Begins closing_brace (is_not terminal.RightBrace)
  unfolding closing_brace
  closing_brace_first =
      starts_node _ (starts_such (is terminal.RightBrace) (open_at terminal.RightBrace))

  closes_closed_items : {more : Leaf → Bool} → Closes (closed_items G) more
  unfolding closed_items
  closes_closed_items = closes_pair {inner = is_not terminal.RightBrace} closes_block_items
      closes_closing_brace (starts_by closing_brace_first)

  closes_body_of : (known : Bool) → Closes (body_of G known) no_token
  unfolding body_of
  closes_body_of true = closes_node _ (closes_skip closes_skipped_body)
  closes_body_of false = closes_node _ (closes_skip closes_closed_items)

  closes_function_end_at : (name : Name) (pointer : Bool) (s : Symbol) →
      Closes (function_end_at G name pointer s) no_token
  unfolding function_end_at
  closes_function_end_at name pointer (symbol.Terminal terminal.Semicolon) =
      closes_node _ closes_one
  closes_function_end_at name false (symbol.Terminal terminal.LeftBrace) =
      closes_node _ (closes_body_of (is_known name))
  closes_function_end_at name _ _ = closes_nothing

  function_end_first : (name : Name) (pointer : Bool) (s : Symbol) (at : ℕ → Leaf) (edge left p : ℕ)
      (u : Option Body) (q : ℕ) →
      function_end_at G name pointer s (plain_text at edge) left p u q →
      is_terminal terminal.Attribute s ≡ false
  unfolding function_end_at
  function_end_first name pointer (symbol.Terminal terminal.Semicolon) at edge left p u q r = refl
  function_end_first name false (symbol.Terminal terminal.LeftBrace) at edge left p u q r = refl
  function_end_first name _ _ at edge left p u q r = absurd r.never

  closes_named_at : (braces : Bool) (name : Name) (s : Symbol) →
      Closes (named_at G braces name s) no_token
  unfolding named_at
  closes_named_at false name (symbol.Terminal terminal.LeftParen) =
      closes_node _ (closes_then {inner = is terminal.Attribute} closes_function_rest
      (λ found. closes_choice symbol_of (closes_function_end_at name (have_pointer found)))
      (λ found. starts_by (starts_choice symbol_of (is_terminal terminal.Attribute)
      (function_end_first name (have_pointer found)))))
  closes_named_at _ name _ =
      closes_node _ (closes_before {inner = λ t. lists_declarators (symbol_of t)}
      (closes_declared closes_declarator_rest) _ (stops_at lists_declarators
      terminal.Semicolon refl))

  closes_declared_at : (braces : Bool) (s : Symbol) → Closes (declared_at G braces s) no_token
  unfolding declared_at
  closes_declared_at braces (symbol.Terminal terminal.Semicolon) = closes_node _ closes_one
  closes_declared_at braces symbol.Name =
      closes_node _ (closes_then {inner = no_token} closes_identifier
      (λ name. closes_choice symbol_of (closes_named_at braces name)) (λ name. starts_any))
  closes_declared_at braces _ = closes_nothing

  item_first : (braces : Bool) (s : Symbol) (at : ℕ → Leaf) (edge left p : ℕ)
      (u : Option (Name × Named)) (q : ℕ) →
      declared_at G braces s (plain_text at edge) left p u q →
      (specifies s || is_terminal terminal.LeftBrace s) ≡ false
  unfolding declared_at
  item_first braces (symbol.Terminal terminal.Semicolon) at edge left p u q r = refl
  item_first braces symbol.Name at edge left p u q r = refl
  item_first braces _ at edge left p u q r = absurd r.never

  closes_unit_item_at : (s : Symbol) → Closes (unit_item_at G s) no_token
  unfolding unit_item_at
  closes_unit_item_at (symbol.Terminal terminal.Semicolon) = closes_node _ closes_one
  closes_unit_item_at (symbol.Terminal terminal.Typedef) =
      closes_node _ (closes_skip (closes_pair
      {inner = λ t. is_keyword is_typedef_specifier t || is terminal.LeftBrace t}
      (closes_words (enumeration G true) (is terminal.LeftBrace) (closes_enumeration true)
      is_typedef_specifier (is_other specifies_in_typedef terminal.LeftBrace refl))
      (closes_before {inner = is terminal.Comma} closes_typedef_names _
      (stops_at (is_terminal terminal.Comma) terminal.Semicolon refl))
      (starts_by (starts_before _ typedef_names_first))))
  closes_unit_item_at _ =
      closes_node _ (closes_then {inner = λ t. is_specifier t || is terminal.LeftBrace t}
      (closes_specifiers (enumeration G true) (is terminal.LeftBrace) (closes_enumeration true)
      is_specifier (is_other specifies terminal.LeftBrace refl))
      (λ front. closes_choice symbol_of (closes_declared_at (is_listed front.enumeration)))
      (λ front. starts_by (starts_choice symbol_of
      (λ s. specifies s || is_terminal terminal.LeftBrace s)
      (item_first (is_listed front.enumeration)))))

  closes_unit_item : Closes (unit_item G) no_token
  unfolding unit_item
  closes_unit_item = closes_choice symbol_of closes_unit_item_at

  pub closes_unit_items : Closes (unit_items G) no_token
  unfolding unit_items
  closes_unit_items = closes_before {inner = λ t. not (is_end t)}
      (closes_many_seen seen_behind _ _ closes_unit_item (λ t e. e) []) _ (λ t e. ap not e)

-- the grammar at each depth
pub closed_grammar : (n : ℕ) → ClosedGrammar (grammar n)
unfolding grammar
closed_grammar zero = record {
  comma = closes_nothing;
  assignment = closes_nothing;
  conditional = closes_nothing;
  cast = closes_nothing;
  unary = closes_nothing;
  list = closes_nothing;
  enumerator = closes_nothing;
  declaration = closes_nothing;
  statement = closes_nothing;
  item = closes_nothing;
}
closed_grammar (suc n) = let c = closed_grammar n in record {
  comma = closes_comma (grammar n) c;
  assignment = closes_assignment (grammar n) c;
  conditional = closes_conditional (grammar n) c;
  cast = closes_cast (grammar n) c;
  unary = closes_unary (grammar n) c;
  list = closes_list (grammar n) c;
  enumerator = closes_enumerator (grammar n) c;
  declaration = closes_declaration_by (grammar n) c false;
  statement = closes_statement (grammar n) c;
  item = closes_item (grammar n) c;
}
