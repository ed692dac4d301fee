-- The tree of a text is whole (`text_whole`).
use Rattle.std.proofs.Common.{◌≡◌, ℕ, zero, suc, Bool, true, false, not, List, [], ◌∷◌}
use Rattle.std.proofs.Common.{map, Option, None, Some, refl}
use Rattle.c_grammar_forms.specs.Forms.{World, Form, Pair, Deeper, Before}
use Rattle.cpa_ints.specs.declared.integers.IntType.TheVariants as ty
use Rattle.c_grammar_symbols.specs.declared.words.Terminal.TheVariants as terminal
use Rattle.c_grammar_symbols.specs.declared.words.Terminal.{Terminal}
use Rattle.c_grammar_symbols.specs.declared.operators.BinaryOperator.{BinaryOperator}
use Rattle.c_grammar_symbols.specs.declared.operators.BinaryOperator.TheVariants as binary
use Rattle.c_grammar_symbols.specs.declared.operators.AssignmentOperator.{AssignmentOperator}
use Rattle.c_grammar_symbols.specs.declared.symbol.Symbol.{Symbol}
use Rattle.c_grammar_symbols.specs.declared.symbol.Symbol.TheVariants as symbol
use Rattle.c_grammar_symbols.specs.Symbols.{Leaf, symbol_of}
use Rattle.c_grammar_symbols.specs.Sources.{is}
use Rattle.c_grammar_tree.specs.declared.name.Name.{Name}
use Rattle.c_grammar_tree.specs.declared.expression.Expression.{Expression}
use Rattle.c_grammar_tree.specs.declared.expression.Expression.TheVariants as expression
use Rattle.c_grammar_tree.specs.declared.expression.Suffix.{Suffix}
use Rattle.c_grammar_tree.specs.declared.expression.UnaryOperator.{UnaryOperator}
use Rattle.c_grammar_tree.specs.declared.declaration.Specifiers.{Specifiers}
use Rattle.c_grammar_tree.specs.declared.declaration.Array.{Array}
use Rattle.c_grammar_tree.specs.declared.declaration.Initializer.{Initializer}
use Rattle.c_grammar_tree.specs.declared.declaration.Declarator.{Declarator}
use Rattle.c_grammar_tree.specs.declared.statement.Statement.{Statement}
use Rattle.c_grammar_tree.specs.declared.item.Body.{Body}
use Rattle.c_grammar_tree.specs.declared.item.Body.TheVariants as body
use Rattle.c_grammar_tree.specs.declared.item.Item.{Item}
use Rattle.c_grammar_tree.specs.Parts.{is_not, names_assert, is_end, begins_suffix, is_operator}
use Rattle.c_grammar_tree.specs.Parts.{loosest, bare_name, is_initializing, is_listed}
use Rattle.c_grammar_tree.specs.Nested.{Grammar}
use Rattle.c_grammar_tree.specs.Expressions.{suffixed, in_front, chain_of, conditional_of}
use Rattle.c_grammar_tree.specs.Expressions.{assignment_of}
use Rattle.c_grammar_tree.specs.Expressions.{comma_of, Group, cast_group, bracket_group, group_of}
use Rattle.c_grammar_tree.specs.Expressions.{list_of, assignments, arguments, suffix_at}
use Rattle.c_grammar_tree.specs.Expressions.{skipped_call}
use Rattle.c_grammar_tree.specs.Expressions.{opens_skipped, suffixes, primary_at, postfix, sign}
use Rattle.c_grammar_tree.specs.Expressions.{unary_at}
use Rattle.c_grammar_tree.specs.Expressions.{unary, group_at, cast_at, cast, operand_at, chain}
use Rattle.c_grammar_tree.specs.Expressions.{conditional, right_side_at, assigns_to, assignment}
use Rattle.c_grammar_tree.specs.Expressions.{comma}
use Rattle.c_grammar_tree.specs.Declarations.{element, list, initializer_of, array, array_part}
use Rattle.c_grammar_tree.specs.Declarations.{Rest}
use Rattle.c_grammar_tree.specs.Declarations.{declarator_rest, declarator, more_declarators}
use Rattle.c_grammar_tree.specs.Declarations.{declarators, declarators_by, declaration_by}
use Rattle.c_grammar_tree.specs.Statements.{block_items, items, condition, optional, for_start}
use Rattle.c_grammar_tree.specs.Statements.{behind_comma_at}
use Rattle.c_grammar_tree.specs.Statements.{labeled_or_not, statement_at, statement, item_by, item}
use Rattle.c_grammar_tree.specs.Items.{closed_items, body_of, is_known, function_end_at}
use Rattle.c_grammar_tree.specs.Items.{have_pointer, Named}
use Rattle.c_grammar_tree.specs.Items.{function}
use Rattle.c_grammar_tree.specs.Items.{objects, named_at, declared_of, declared_at, unit_item_at}
use Rattle.c_grammar_tree.specs.Items.{unit_item}
use Rattle.c_grammar_tree.specs.Items.{behind_typedefs, seen_behind, typedefs_in, unit_items}
use Rattle.c_grammar_symbols.specs.declared.named.NamedType.{NamedType}
use Rattle.c_grammar_symbols.specs.Sources.{named_symbol, renamed}
use Rattle.std.specs.List.{flat_map}
use Rattle.c_grammar_tree.specs.Grammar.{grammar}
use Rattle.c_types_rules.specs.Declarations.{items_of}
use Rattle.c_core_sound.specs.Whole.{all_whole, has_value, is_whole, whole_block_item}
use Rattle.c_core_sound.specs.Whole.{whole_declaration, whole_declarator, whole_item, whole_length}
use Rattle.c_core_sound.specs.Whole.{whole_optional, whole_start}
use Rattle.c_core_sound.proofs.WholeForms.{Yields, both, yield_any, yield_nothing, yield_skip}
use Rattle.c_core_sound.proofs.WholeForms.{yield_behind, yield_before, yield_deeper, yield_pair}
use Rattle.c_core_sound.proofs.WholeForms.{yield_then, yield_node, yield_choice, yield_known}
use Rattle.c_core_sound.proofs.WholeForms.{yield_many_seen}
use Rattle.c_core_sound.proofs.WholeForms.{yield_many, yield_perhaps, yield_nearest}
use Rattle.c_core_sound.proofs.WholeParts.{suffix_whole, statement_whole, name_whole, number_whole}
use Rattle.c_core_sound.proofs.WholeParts.{character_whole, bracketed_whole, postfix_whole}
use Rattle.c_core_sound.proofs.WholeParts.{prefix_whole, unary_whole, cast_whole, link_whole}
use Rattle.c_core_sound.proofs.WholeParts.{chain_whole, conditional_whole, assignment_whole}
use Rattle.c_core_sound.proofs.WholeParts.{comma_whole, index_whole, call_whole, step_whole}
use Rattle.c_core_sound.proofs.WholeParts.{skipped_whole, block_whole, evaluation_whole, else_whole}
use Rattle.c_core_sound.proofs.WholeParts.{if_whole, while_whole, do_whole, for_whole, goto_whole}
use Rattle.c_core_sound.proofs.WholeParts.{switch_whole, case_whole, default_whole}
use Rattle.c_core_sound.proofs.WholeParts.{break_whole, continue_whole, return_whole}
use Rattle.c_core_sound.proofs.WholeParts.{labeled_whole, declared_whole, stated_whole}

-- a constant has a value of its type
abbrev pub Fine : Symbol → Type 0
Fine (symbol.Number t n) = has_value t n ≡ true
Fine (symbol.Character n) = has_value ty.I32 n ≡ true
Fine _ = Unit {0}

abbrev Whole : Expression → Type 0
Whole e = is_whole e ≡ true

abbrev WholeSuffix : Suffix → Type 0
WholeSuffix s = suffix_whole s ≡ true

abbrev WholeStatement : Statement → Type 0
WholeStatement s = statement_whole s ≡ true

abbrev AllWhole : List Expression → Type 0
AllWhole es = all_whole (map is_whole es) ≡ true

abbrev AllSuffixes : List Suffix → Type 0
AllSuffixes ss = all_whole (map suffix_whole ss) ≡ true

abbrev Initial : Initializer → Type 0
Initial i = AllWhole (items_of (Some i))

abbrev MaybeInitial : Option Initializer → Type 0
MaybeInitial o = AllWhole (items_of o)

-- the nested forms read what is whole
pub record WholeGrammar (w : World Leaf) (G : Grammar) : Type 0 where
  pub comma : Yields w G.comma Whole
  pub assignment : Yields w G.assignment Whole
  pub conditional : Yields w G.conditional Whole
  pub cast : Yields w G.cast Whole
  pub unary : Yields w G.unary Whole
  pub list : Yields w G.list Initial
  pub declaration : Yields w G.declaration (λ d. whole_declaration d ≡ true)
  pub statement : Yields w G.statement WholeStatement
  pub item : Yields w G.item (λ i. whole_block_item i ≡ true)

suffixed_whole : (place : ℕ) (base : Expression) (more : List Suffix) → Whole base →
    AllSuffixes more → Whole (suffixed place base more)
suffixed_whole place base [] h k = h
suffixed_whole place base (one ∷ more) h k = postfix_whole base (one ∷ more) place h k

abbrev MaybeSuffix : Option Suffix → Type 0
MaybeSuffix None = Unit {0}
MaybeSuffix (Some s) = WholeSuffix s

front_whole : (leaf : Leaf) (parts : Option Suffix × List Suffix) →
    MaybeSuffix parts.0 × AllSuffixes parts.1 → AllSuffixes (in_front leaf parts)
front_whole leaf (None, more) h = h.1
front_whole leaf (Some skipped, more) h = both h.0 h.1

abbrev MaybeAll : Option (List Expression) → Type 0
MaybeAll None = Unit {0}
MaybeAll (Some es) = AllWhole es

list_whole : (leaf : Leaf) (o : Option (List Expression)) → MaybeAll o → AllWhole (list_of leaf o)
list_whole leaf None h = refl
list_whole leaf (Some es) h = h

linked_whole : (leaf : Leaf) (parts : Expression × List (BinaryOperator × Expression)) →
    Whole parts.0 × (all_whole (map link_whole parts.1) ≡ true) → Whole (chain_of leaf parts)
linked_whole leaf (first, []) h = h.0
linked_whole leaf (first, link ∷ links) h = chain_whole first (link ∷ links) leaf.place h.0 h.1

abbrev MaybeEnds : Option (Expression × Expression) → Type 0
MaybeEnds None = Unit {0}
MaybeEnds (Some ends) = Whole ends.0 × Whole ends.1

chosen_whole : (leaf : Leaf) (parts : Expression × Option (Expression × Expression)) →
    Whole parts.0 × MaybeEnds parts.1 → Whole (conditional_of leaf parts)
chosen_whole leaf (test, None) h = h.0
chosen_whole leaf (test, Some ends) h =
    conditional_whole test ends.0 ends.1 leaf.place h.0 h.1.0 h.1.1

abbrev MaybeRight : Option (AssignmentOperator × Expression) → Type 0
MaybeRight None = Unit {0}
MaybeRight (Some right) = Whole right.1

assigned_whole : (leaf : Leaf) (parts : Expression × Option (AssignmentOperator × Expression)) →
    Whole parts.0 × MaybeRight parts.1 → Whole (assignment_of leaf parts)
assigned_whole leaf (left, None) h = h.0
assigned_whole leaf (left, Some right) h =
    assignment_whole left right.0 right.1 leaf.place h.0 h.1

listed_whole : (leaf : Leaf) (parts : Expression × List Expression) →
    Whole parts.0 × AllWhole parts.1 → Whole (comma_of leaf parts)
listed_whole leaf (first, []) h = h.0
listed_whole leaf (first, item ∷ items) h = comma_whole first (item ∷ items) leaf.place h.0 h.1

abbrev WholeGroup : Group → Type 0
WholeGroup (cast_group to operand) = Whole operand
WholeGroup (bracket_group inner more) = Whole inner × AllSuffixes more

group_whole : (leaf : Leaf) (group : Group) → WholeGroup group → Whole (group_of leaf group)
group_whole leaf (cast_group to operand) h = cast_whole to operand leaf.place h
group_whole leaf (bracket_group inner more) h =
    suffixed_whole leaf.place (expression.Bracketed inner leaf.place) more
    (bracketed_whole inner leaf.place h.0) h.1

-- declarations

abbrev MaybeArray : Option Array → Type 0
MaybeArray o = whole_length o ≡ true

abbrev AllDeclarators : List Declarator → Type 0
AllDeclarators ds = all_whole (map whole_declarator ds) ≡ true

abbrev MaybeDeclarators : Option (List Declarator) → Type 0
MaybeDeclarators None = Unit {0}
MaybeDeclarators (Some ds) = AllDeclarators ds

declarators_whole : (leaf : Leaf) (o : Option (List Declarator)) → MaybeDeclarators o →
    AllDeclarators (list_of leaf o)
declarators_whole leaf None h = refl
declarators_whole leaf (Some ds) h = h

abbrev WholeRest : Rest → Type 0
WholeRest rest = MaybeArray rest.array × MaybeInitial rest.initializer

-- statements

abbrev MaybeLabeled : Option (Name × Statement) → Type 0
MaybeLabeled None = Unit {0}
MaybeLabeled (Some parts) = WholeStatement parts.1

evaluated_whole : (leaf : Leaf) (parts : Expression × Option (Name × Statement)) →
    Whole parts.0 × MaybeLabeled parts.1 → WholeStatement (labeled_or_not leaf parts)
evaluated_whole leaf (made, None) h = evaluation_whole (Some made) leaf.place h.0
evaluated_whole leaf (made, Some parts) h = labeled_whole parts.0 parts.1 h.1

-- items

abbrev WholeBody : Body → Type 0
WholeBody body.Skipped = Unit {0}
WholeBody (body.Block items place end) = all_whole (map whole_block_item items) ≡ true

abbrev MaybeBody : Option Body → Type 0
MaybeBody None = Unit {0}
MaybeBody (Some made) = WholeBody made

abbrev WholeNamed : Named → Type 0
WholeNamed (function found made) = MaybeBody made
WholeNamed (objects rest more) =
    WholeRest rest × (all_whole (map whole_declarator more) ≡ true)

abbrev MaybeNamed : Option (Name × Named) → Type 0
MaybeNamed None = Unit {0}
MaybeNamed (Some parts) = WholeNamed parts.1

abbrev WholeItem : Item → Type 0
WholeItem i = whole_item i ≡ true

module _ {w : World Leaf} {G : Grammar} (g : WholeGrammar w G)
    (fine : (p : ℕ) → Fine (symbol_of (w.at p))) where
  w_assignments : Yields w (assignments G) AllWhole
  unfolding assignments
  w_assignments = yield_node _ (yield_pair (yield_deeper g.assignment)
      (yield_many (is terminal.Comma) is_whole (yield_skip (yield_deeper g.assignment))))
      (λ leaf parts h. both h.0 h.1)

  w_arguments : Yields w (arguments G) AllWhole
  unfolding arguments
  w_arguments = yield_before (yield_node _ (yield_perhaps (is_not terminal.RightParen) MaybeAll
      w_assignments tt (λ u h. h)) list_whole)

  w_suffix_at : (s : Symbol) → Yields w (suffix_at G s) WholeSuffix
  unfolding suffix_at
  w_suffix_at (symbol.Terminal terminal.LeftBracket) = yield_node _
      (yield_skip (yield_before (yield_deeper g.comma)))
      (λ leaf index h. index_whole index leaf.place h)
  w_suffix_at (symbol.Terminal terminal.LeftParen) = yield_node _ (yield_skip w_arguments)
      (λ leaf given h. call_whole given leaf.place h)
  w_suffix_at (symbol.Step operator) = yield_node _ yield_any
      (λ leaf u h. step_whole operator leaf.place)
  w_suffix_at _ = yield_nothing

  w_skipped_call : Yields w skipped_call WholeSuffix
  unfolding skipped_call
  w_skipped_call = yield_node _ yield_any (λ leaf u h. skipped_whole leaf.place)

  w_suffixes : (asserts : Bool) → Yields w (suffixes G asserts) AllSuffixes
  unfolding suffixes
  w_suffixes asserts = yield_node in_front (yield_pair
      (yield_nearest (opens_skipped asserts) MaybeSuffix w_skipped_call tt (λ u h. h))
      (yield_many begins_suffix suffix_whole (yield_choice w_suffix_at))) front_whole

  w_primary_at : (s : Symbol) → Fine s → Yields w (primary_at G s) Whole
  unfolding primary_at
  w_primary_at symbol.Name f = yield_node _ yield_any (λ leaf u h. name_whole _)
  w_primary_at (symbol.Number t n) f =
      yield_node _ yield_any (λ leaf u h. number_whole t n leaf.place f)
  w_primary_at (symbol.Character n) f =
      yield_node _ yield_any (λ leaf u h. character_whole n leaf.place f)
  w_primary_at (symbol.Terminal terminal.LeftParen) f = yield_node _
      (yield_skip (yield_before (yield_deeper g.comma)))
      (λ leaf inner h. bracketed_whole inner leaf.place h)
  w_primary_at _ f = yield_nothing

  w_postfix : Yields w (postfix G) Whole
  unfolding postfix
  w_postfix = yield_node _ (yield_then
      (yield_known (λ p. w_primary_at (symbol_of (w.at p)) (fine p)))
      (λ base. w_suffixes (names_assert base)))
      (λ leaf parts h. suffixed_whole leaf.place parts.0 parts.1 h.0 h.1)

  w_sign : (operator : UnaryOperator) → Yields w (sign operator G) Whole
  unfolding sign
  w_sign operator = yield_node _ (yield_skip (yield_deeper g.cast))
      (λ leaf operand h. unary_whole operator operand leaf.place h)

  w_unary_at : (s : Symbol) → Yields w (unary_at G s) Whole
  unfolding unary_at
  w_unary_at (symbol.Step operator) = yield_node _ (yield_skip (yield_deeper g.unary))
      (λ leaf operand h. prefix_whole operator operand leaf.place h)
  w_unary_at (symbol.Binary binary.Add) = w_sign _
  w_unary_at (symbol.Binary binary.Subtract) = w_sign _
  w_unary_at (symbol.Terminal terminal.Tilde) = w_sign _
  w_unary_at (symbol.Terminal terminal.Exclamation) = w_sign _
  w_unary_at _ = w_postfix

  pub w_unary : Yields w (unary G) Whole
  unfolding unary
  w_unary = yield_choice w_unary_at

  w_group_at : (s : Symbol) → Yields w (group_at G s) WholeGroup
  unfolding group_at
  w_group_at (symbol.TypeWord word) = yield_node _
      (yield_pair yield_any (yield_deeper g.cast)) (λ leaf parts h. h.1)
  w_group_at (symbol.TypedefName named) = yield_node _
      (yield_pair yield_any (yield_deeper g.cast)) (λ leaf parts h. h.1)
  w_group_at (symbol.Terminal terminal.Enum) = yield_node _
      (yield_pair yield_any (yield_deeper g.cast)) (λ leaf parts h. h.1)
  w_group_at _ = yield_node _ (yield_then (yield_before (yield_deeper g.comma))
      (λ inner. w_suffixes (names_assert inner))) (λ leaf parts h. h)

  w_cast_at : (s : Symbol) → Yields w (cast_at G s) Whole
  unfolding cast_at
  w_cast_at (symbol.Terminal terminal.LeftParen) =
      yield_node group_of (yield_skip (yield_choice w_group_at)) group_whole
  w_cast_at _ = w_unary

  pub w_cast : Yields w (cast G) Whole
  unfolding cast
  w_cast = yield_choice w_cast_at

  w_operand_at : {A : Form Leaf Expression} → Yields w A Whole → (s : Symbol) →
      Yields w (operand_at A s) (λ link. link_whole link ≡ true)
  unfolding operand_at
  w_operand_at c (symbol.Binary operator) = yield_node _ (yield_skip c) (λ leaf right h. h)
  w_operand_at c _ = yield_nothing

  w_chain : (k : ℕ) → Yields w (chain k G) Whole
  unfolding chain
  w_chain zero = w_cast
  w_chain (suc k) = yield_node chain_of (yield_pair (w_chain k)
      (yield_many (is_operator (suc k)) link_whole (yield_choice (w_operand_at (w_chain k)))))
      linked_whole

  pub w_conditional : Yields w (conditional G) Whole
  unfolding conditional
  w_conditional = yield_node conditional_of (yield_pair (w_chain loosest)
      (yield_perhaps (is terminal.Question) MaybeEnds
      (yield_skip (yield_pair (yield_before (yield_deeper g.comma)) (yield_deeper g.conditional)))
      tt (λ u h. h))) chosen_whole

  w_right_side_at : (s : Symbol) → Yields w (right_side_at G s) (λ right. Whole right.1)
  unfolding right_side_at
  w_right_side_at (symbol.Assign operator) =
      yield_node _ (yield_skip (yield_deeper g.assignment)) (λ leaf right h. h)
  w_right_side_at _ = yield_nothing

  pub w_assignment : Yields w (assignment G) Whole
  unfolding assignment
  w_assignment = yield_node assignment_of (yield_then w_conditional
      (λ left. yield_perhaps (assigns_to left) MaybeRight (yield_choice w_right_side_at) tt
      (λ u h. h))) assigned_whole

  pub w_comma : Yields w (comma G) Whole
  unfolding comma
  w_comma = yield_node comma_of (yield_pair w_assignment
      (yield_many (is terminal.Comma) is_whole (yield_skip w_assignment))) listed_whole

  -- declarations

  w_element : Yields w (element (Deeper G.assignment)) Whole
  unfolding element
  w_element = yield_node _ (yield_pair (yield_deeper g.assignment) yield_any) (λ leaf parts h. h.0)

  pub w_list : Yields w (list G) Initial
  unfolding list
  w_list = yield_node _ (yield_behind (yield_before
      (yield_many (is_not terminal.RightBrace) is_whole w_element))) (λ leaf items h. h)

  w_initializer_of : (b : Bool) → Yields w (initializer_of G b) Initial
  unfolding initializer_of
  w_initializer_of false =
      yield_node _ (yield_deeper g.assignment) (λ leaf value h. both h refl)
  w_initializer_of true = yield_deeper g.list

  w_array : Yields w (array G) (λ a. whole_optional a.length ≡ true)
  unfolding array
  w_array = yield_node _ (yield_skip (yield_before
      (yield_perhaps (is_not terminal.RightBracket) (λ o. whole_optional o ≡ true)
      (yield_deeper g.conditional) refl (λ u h. h)))) (λ leaf length h. h)

  w_array_part : Yields w (array_part G) (λ parts. MaybeArray parts.0 × Unit {0})
  unfolding array_part
  w_array_part = yield_pair (yield_perhaps (is terminal.LeftBracket) MaybeArray w_array refl
      (λ u h. h)) yield_any

  w_declarator_rest : Yields w (declarator_rest G) WholeRest
  unfolding declarator_rest
  w_declarator_rest = yield_node _ (yield_then w_array_part
      (λ front. yield_perhaps is_initializing MaybeInitial (yield_skip (w_initializer_of _)) refl
      (λ u h. h))) (λ leaf parts h. (h.0.0, h.1))

  w_declarator : Yields w (declarator G) (λ d. whole_declarator d ≡ true)
  unfolding declarator
  w_declarator = yield_node _ (yield_pair yield_any w_declarator_rest)
      (λ leaf parts h. both h.1.0 h.1.1)

  w_more_declarators : Yields w (more_declarators G) (λ ds. all_whole (map whole_declarator ds) ≡
      true)
  unfolding more_declarators
  w_more_declarators =
      yield_many (is terminal.Comma) whole_declarator (yield_skip w_declarator)

  w_declarators : Yields w (declarators G) AllDeclarators
  unfolding declarators
  w_declarators =
      yield_node _ (yield_pair w_declarator w_more_declarators) (λ leaf parts h. both h.0 h.1)

  w_declarators_by : (braces : Bool) → Yields w (declarators_by G braces) AllDeclarators
  unfolding declarators_by
  w_declarators_by false = w_declarators
  w_declarators_by true = yield_node _ (yield_perhaps (is_not terminal.Semicolon)
      MaybeDeclarators w_declarators tt (λ u h. h)) declarators_whole

  pub w_declaration : (braces : Bool) →
      Yields w (declaration_by braces G) (λ d. whole_declaration d ≡ true)
  unfolding declaration_by
  w_declaration braces = yield_node _ (yield_then yield_any
      (λ front. yield_before (w_declarators_by (is_listed front.enumeration))))
      (λ leaf parts h. h.1)

  -- statements

  w_block_items : Yields w (block_items G) (λ is. all_whole (map whole_block_item is) ≡ true)
  w_block_items =
      yield_many (is_not terminal.RightBrace) whole_block_item (yield_deeper g.item)

  w_items : Yields w (items G) (λ is. all_whole (map whole_block_item is) ≡ true)
  unfolding items
  w_items = yield_before w_block_items

  w_condition : Yields w (condition G) Whole
  unfolding condition
  w_condition = yield_behind (yield_before (yield_deeper g.comma))

  w_optional : (closer : Terminal) → Yields w (optional closer G) (λ o. whole_optional o ≡ true)
  unfolding optional
  w_optional closer = yield_before (yield_perhaps (is_not closer) (λ o. whole_optional o ≡ true)
      (yield_deeper g.comma) refl (λ u h. h))

  w_for_start : (b : Bool) → Yields w (for_start G b) (λ s. whole_start s ≡ true)
  unfolding for_start
  w_for_start true = yield_node _ (yield_deeper g.declaration) (λ leaf made h. h)
  w_for_start false = yield_node _ (w_optional terminal.Semicolon) (λ leaf made h. h)

  w_behind_comma_at : (name : Option Name) (s : Symbol) →
      Yields w (behind_comma_at G name s) MaybeLabeled
  unfolding behind_comma_at
  w_behind_comma_at name (symbol.Terminal terminal.Semicolon) =
      yield_node _ yield_any (λ leaf u h. tt)
  w_behind_comma_at (Some name) (symbol.Terminal terminal.Colon) =
      yield_node _ (yield_skip (yield_deeper g.statement)) (λ leaf body h. h)
  w_behind_comma_at _ _ = yield_nothing

  w_statement_at : (s : Symbol) → Yields w (statement_at G s) WholeStatement
  unfolding statement_at
  w_statement_at (symbol.Terminal terminal.LeftBrace) = yield_node _ (yield_skip w_items)
      (λ leaf made h. block_whole made leaf.place h)
  w_statement_at (symbol.Terminal terminal.Semicolon) = yield_node _ yield_any
      (λ leaf u h. evaluation_whole None leaf.place refl)
  w_statement_at (symbol.Terminal terminal.If) = yield_node _
      (yield_skip (yield_pair w_condition (yield_pair (yield_deeper g.statement)
      (yield_nearest (is terminal.Else) else_whole (yield_skip (yield_deeper g.statement)) tt
      (λ u h. h)))))
      (λ leaf parts h. if_whole parts.0 parts.1.0 parts.1.1 leaf.place h.0 h.1.0 h.1.1)
  w_statement_at (symbol.Terminal terminal.While) = yield_node _
      (yield_skip (yield_pair w_condition (yield_deeper g.statement)))
      (λ leaf parts h. while_whole parts.0 parts.1 leaf.place h.0 h.1)
  w_statement_at (symbol.Terminal terminal.Do) = yield_node _
      (yield_skip (yield_pair (yield_before (yield_deeper g.statement)) (yield_before w_condition)))
      (λ leaf parts h. do_whole parts.0 parts.1 leaf.place h.0 h.1)
  w_statement_at (symbol.Terminal terminal.For) = yield_node _
      (yield_skip (yield_behind (yield_pair (yield_choice w_for_start)
      (yield_pair (w_optional terminal.Semicolon) (yield_pair (w_optional terminal.RightParen)
      (yield_deeper g.statement))))))
      (λ leaf parts h. for_whole parts.0 parts.1.0 parts.1.1.0 parts.1.1.1 leaf.place h.0 h.1.0
      h.1.1.0 h.1.1.1)
  w_statement_at (symbol.Terminal terminal.Switch) = yield_node _
      (yield_skip (yield_pair w_condition (yield_deeper g.statement)))
      (λ leaf parts h. switch_whole parts.0 parts.1 leaf.place h.0 h.1)
  w_statement_at (symbol.Terminal terminal.Case) = yield_node _
      (yield_skip (yield_pair (yield_before (yield_deeper g.conditional))
      (yield_deeper g.statement)))
      (λ leaf parts h. case_whole parts.0 parts.1 leaf.place h.0 h.1)
  w_statement_at (symbol.Terminal terminal.Default) = yield_node _
      (yield_skip (yield_behind (yield_deeper g.statement)))
      (λ leaf body h. default_whole body leaf.place h)
  w_statement_at (symbol.Terminal terminal.Goto) = yield_node _ yield_any
      (λ leaf label h. goto_whole label leaf.place)
  w_statement_at (symbol.Terminal terminal.Break) = yield_node _ yield_any
      (λ leaf u h. break_whole leaf.place)
  w_statement_at (symbol.Terminal terminal.Continue) = yield_node _ yield_any
      (λ leaf u h. continue_whole leaf.place)
  w_statement_at (symbol.Terminal terminal.Return) = yield_node _
      (yield_skip (yield_before (yield_perhaps (is_not terminal.Semicolon)
      (λ o. whole_optional o ≡ true) w_comma refl (λ u h. h))))
      (λ leaf value h. return_whole value leaf.place h)
  w_statement_at _ = yield_node labeled_or_not
      (yield_then w_comma (λ made. yield_choice (w_behind_comma_at (bare_name made))))
      evaluated_whole

  pub w_statement : Yields w (statement G) WholeStatement
  unfolding statement
  w_statement = yield_choice w_statement_at

  w_item_by : (b : Bool) → Yields w (item_by G b) (λ i. whole_block_item i ≡ true)
  unfolding item_by
  w_item_by true = yield_node _ (w_declaration true) (λ leaf made h. declared_whole made h)
  w_item_by false = yield_node _ w_statement (λ leaf made h. stated_whole made h)

  pub w_item : Yields w (item G) (λ i. whole_block_item i ≡ true)
  unfolding item
  w_item = yield_choice w_item_by

  -- items of file scope

  w_closed_items : Yields w (closed_items G)
      (λ parts. (all_whole (map whole_block_item parts.0) ≡ true) × Unit {0})
  unfolding closed_items
  w_closed_items = yield_pair w_block_items yield_any

  w_body_of : (known : Bool) → Yields w (body_of G known) WholeBody
  unfolding body_of
  w_body_of true = yield_node _ yield_any (λ leaf u h. tt)
  w_body_of false = yield_node _ (yield_skip w_closed_items) (λ leaf parts h. h.0)

  w_function_end_at : (name : Name) (pointer : Bool) (s : Symbol) →
      Yields w (function_end_at G name pointer s) MaybeBody
  unfolding function_end_at
  w_function_end_at name pointer (symbol.Terminal terminal.Semicolon) =
      yield_node _ yield_any (λ leaf u h. tt)
  w_function_end_at name false (symbol.Terminal terminal.LeftBrace) =
      yield_node _ (w_body_of (is_known name)) (λ leaf made h. h)
  w_function_end_at name _ _ = yield_nothing

  w_objects : Yields w (Before (Pair (declarator_rest G) (more_declarators G))
      (is terminal.Semicolon)) (λ parts. WholeRest parts.0 × AllDeclarators parts.1)
  w_objects = yield_before (yield_pair w_declarator_rest w_more_declarators)

  w_named_at : (braces : Bool) (name : Name) (s : Symbol) →
      Yields w (named_at G braces name s) WholeNamed
  unfolding named_at
  w_named_at false name (symbol.Terminal terminal.LeftParen) = yield_node _
      (yield_then yield_any
      (λ found. yield_choice (w_function_end_at name (have_pointer found))))
      (λ leaf parts h. h.1)
  w_named_at true name (symbol.Terminal terminal.LeftParen) =
      yield_node _ w_objects (λ leaf parts h. h)
  w_named_at false name _ = yield_node _ w_objects (λ leaf parts h. h)
  w_named_at true name _ = yield_node _ w_objects (λ leaf parts h. h)

  w_declared_at : (braces : Bool) (s : Symbol) → Yields w (declared_at G braces s) MaybeNamed
  unfolding declared_at
  w_declared_at braces (symbol.Terminal terminal.Semicolon) =
      yield_node _ yield_any (λ leaf u h. tt)
  w_declared_at braces symbol.Name = yield_node _
      (yield_then yield_any (λ name. yield_choice (w_named_at braces name)))
      (λ leaf parts h. h.1)
  w_declared_at braces _ = yield_nothing

  named_whole : (leaf : Leaf) (front : Specifiers) (found : Option (Name × Named)) →
      MaybeNamed found → WholeItem (declared_of front found)
  named_whole leaf front None h = refl
  named_whole leaf front (Some (name, function found None)) h = refl
  named_whole leaf front (Some (name, function found (Some body.Skipped))) h = refl
  named_whole leaf front (Some (name, function found (Some (body.Block items place end)))) h = h
  named_whole leaf front (Some (name, objects rest more)) h = both (both h.0.0 h.0.1) h.1

  w_unit_item_at : (s : Symbol) → Yields w (unit_item_at G s) WholeItem
  unfolding unit_item_at
  w_unit_item_at (symbol.Terminal terminal.Semicolon) = yield_node _ yield_any (λ leaf u h. refl)
  w_unit_item_at (symbol.Terminal terminal.Typedef) =
      yield_node _ yield_any (λ leaf parts h. refl)
  w_unit_item_at _ = yield_node _ (yield_then yield_any
      (λ front. yield_choice (w_declared_at (is_listed front.enumeration))))
      (λ leaf parts h. named_whole leaf parts.0 parts.1 h.1)

  pub w_unit_item : Yields w (unit_item G) WholeItem
  unfolding unit_item
  w_unit_item = yield_choice w_unit_item_at

pub whole_grammar : {w : World Leaf} → ((p : ℕ) → Fine (symbol_of (w.at p))) → (n : ℕ) →
    WholeGrammar w (grammar n)
unfolding grammar
whole_grammar fine zero = record {
  comma = yield_nothing;
  assignment = yield_nothing;
  conditional = yield_nothing;
  cast = yield_nothing;
  unary = yield_nothing;
  list = yield_nothing;
  declaration = yield_nothing;
  statement = yield_nothing;
  item = yield_nothing;
}
whole_grammar fine (suc n) = let g = whole_grammar fine n in record {
  comma = w_comma g fine;
  assignment = w_assignment g fine;
  conditional = w_conditional g fine;
  cast = w_cast g fine;
  unary = w_unary g fine;
  list = w_list g fine;
  declaration = w_declaration g fine false;
  statement = w_statement g fine;
  item = w_item g fine;
}

fine_named : (s : Symbol) (o : Option NamedType) → Fine s → Fine (named_symbol s o)
fine_named symbol.Name None h = tt
fine_named symbol.Name (Some ty) h = tt
fine_named _ o h = h

fine_behind : (es : List (List ℕ × NamedType)) (leaf : Leaf) → Fine (symbol_of leaf) →
    Fine (symbol_of (behind_typedefs es leaf))
fine_behind [] leaf h = h
fine_behind (e ∷ es) leaf h = fine_behind es (renamed e.0 e.1 leaf) (fine_named leaf.symbol _ h)

-- the items of a text are whole, each as it is seen behind those before it
pub w_unit_items : {w : World Leaf} → ((p : ℕ) → Fine (symbol_of (w.at p))) → (n : ℕ) →
    Yields w (unit_items (grammar n)) (λ is. all_whole (map whole_item is) ≡ true)
unfolding unit_items
w_unit_items {w} fine n =
    let seen = λ (done : List Item) (p : ℕ).
    fine_behind (flat_map typedefs_in done) (w.at p) (fine p) in
    yield_before (yield_many_seen seen_behind (λ leaf. not (is_end leaf)) whole_item
    (λ done. w_unit_item (whole_grammar (seen done) n) (seen done)) [])
