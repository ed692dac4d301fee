-- Expressions are spelled by their trees.
use Rattle.std.specs.Prelude.{◌≡◌, ℕ, ◌-◌, ◌<◌, zero, suc, Bool, true, false, not, ◌&&◌, ◌||◌}
use Rattle.std.specs.Prelude.{List, [], ◌∷◌, ◌++◌, Option, None, Some, refl}
use Rattle.std.proofs.Common.{sym, ◌∙◌, ap, subst, append-nil}
use denote.Enum.Bare.{same_true, true_same}
use Rattle.c_grammar_forms.specs.Forms.{Form, One, Skip, Node, Deeper}
use Rattle.c_grammar_symbols.specs.contracts.words.Terminal as terminal_type
use Rattle.c_grammar_symbols.specs.declared.words.Terminal.{Terminal}
use Rattle.c_grammar_symbols.specs.declared.words.Terminal.TheVariants as terminal
use Rattle.c_grammar_symbols.specs.declared.operators.AssignmentOperator.{AssignmentOperator}
use Rattle.c_grammar_symbols.specs.declared.operators.BinaryOperator.{BinaryOperator}
use Rattle.c_grammar_symbols.specs.declared.operators.BinaryOperator.TheVariants as binary
use Rattle.c_grammar_symbols.specs.declared.symbol.Symbol.{Symbol}
use Rattle.c_grammar_symbols.specs.declared.symbol.Symbol.TheVariants as symbol
use Rattle.c_grammar_symbols.specs.Symbols.{Leaf, symbol_of}
use Rattle.c_grammar_symbols.specs.Sources.{is, is_terminal}
use Rattle.c_grammar_tree.specs.declared.expression.Expression.{Expression}
use Rattle.c_grammar_tree.specs.declared.expression.Expression.TheVariants as expression
use Rattle.c_grammar_tree.specs.declared.expression.Suffix.{Suffix}
use Rattle.c_grammar_tree.specs.declared.expression.Suffix.TheVariants as suffix
use Rattle.c_grammar_tree.specs.declared.expression.UnaryOperator.{UnaryOperator}
use Rattle.c_grammar_tree.specs.declared.expression.UnaryOperator.TheVariants as unary_operator
use Rattle.c_grammar_tree.specs.declared.declaration.Enumerator.{Enumerator}
use Rattle.c_grammar_tree.specs.Parts.{is_not, names, name_of, types, is_type}
use Rattle.c_grammar_tree.specs.Parts.{names_assert, binds, steps, is_unary}
use Rattle.c_grammar_tree.specs.Parts.{assigns, loosest}
use Rattle.c_grammar_tree.specs.Nested.{Grammar}
use Rattle.c_grammar_tree.specs.Expressions.{suffixed, in_front, chain_of, conditional_of}
use Rattle.c_grammar_tree.specs.Expressions.{assignment_of}
use Rattle.c_grammar_tree.specs.Expressions.{comma_of, Group, cast_group, bracket_group, group_of}
use Rattle.c_grammar_tree.specs.Expressions.{identifier, unary_of}
use Rattle.c_grammar_tree.specs.Expressions.{list_of, round_brackets, assignments, arguments}
use Rattle.c_grammar_tree.specs.Expressions.{suffix_at}
use Rattle.c_grammar_tree.specs.Expressions.{skipped_call, suffixes, primary_at}
use Rattle.c_grammar_tree.specs.Expressions.{postfix, sign, unary_at, unary, type_word_at}
use Rattle.c_grammar_tree.specs.Expressions.{words_of_type, type_name_at, type_name, cast_part}
use Rattle.c_grammar_tree.specs.declared.expression.TypeName.TheVariants as type_name'
use Rattle.c_grammar_tree.specs.Expressions.{group_at, cast_at, cast, operand_at, operand, chain}
use Rattle.c_grammar_tree.specs.Expressions.{conditional, right_side_at, assignment, comma}
use Rattle.c_laws.specs.Plain.{plain_text}
use Rattle.c_laws.specs.Spelling.{Piece, placed, token, named, any_arguments, mark}
use Rattle.c_laws.specs.Spelling.{in_order, listed, optional, operated, symbol_of_sign}
use Rattle.c_laws.specs.Spelling.{spelled_type_name, spelled_expression, spelled_suffix}
use Rattle.c_laws.specs.Spelling.{spelled_initializer, spelled_enumerator}
use Rattle.c_laws.specs.Spelling.{spelled_declaration}
use Rattle.c_laws.specs.Spelling.{spelled_statement, spelled_block_item}
use Rattle.c_laws.proofs.Spells.{Laid, spells_one, only}
use Rattle.c_laws.proofs.Spelt.{Look, blind, careful, sharp, Follows, Any, Is, Spelt}
use Rattle.c_laws.proofs.Spelt.{Exactly, Made, plainly, at_place, at_place_twice}
use Rattle.c_laws.proofs.Spelt.{spelt_nothing, spelt_any, spelt_deeper, spelt_if}
use Rattle.c_laws.proofs.Spelt.{spelt_one}
use Rattle.c_laws.proofs.Spelt.{spelt_skip, spelt_closed, spelt_pair, spelt_then}
use Rattle.c_laws.proofs.Spelt.{spelt_node}
use Rattle.c_laws.proofs.Spelt.{spelt_choice, spelt_many, spelt_some, spelt_perhaps}
use Rattle.c_laws.proofs.Spelt.{spelt_nearest, spelt_behind}
use Rattle.c_laws.proofs.Equations as equation

-- the nested forms so
pub record SpeltGrammar (G : Grammar) (left : ℕ) : Type 0 where
  pub comma : Spelt Any (Deeper G.comma) spelled_expression left careful sharp
  pub assignment : Spelt Any (Deeper G.assignment) spelled_expression left careful sharp
  pub conditional : Spelt Any (Deeper G.conditional) spelled_expression left careful sharp
  pub cast : Spelt Any (Deeper G.cast) spelled_expression left careful sharp
  pub unary : Spelt Any (Deeper G.unary) spelled_expression left careful sharp
  pub list : Spelt Any (Deeper G.list) spelled_initializer left blind sharp
  pub enumerator : Spelt Any (Deeper G.enumerator) spelled_enumerator left careful sharp
  pub declaration : Spelt Any (Deeper G.declaration) spelled_declaration left blind sharp
  pub statement : Spelt Any (Deeper G.statement) spelled_statement left careful sharp
  pub item : Spelt Any (Deeper G.item) spelled_block_item left careful sharp
  -- a cast is read only where a level is left
  pub room : {at : ℕ → Leaf} {edge p : ℕ} {u : Expression} {q : ℕ} →
      G.cast (plain_text at edge) (left - 1) p u q → 0 < left
  -- an enumerator does not begin with the brace that ends a list
  pub no_brace : (at : ℕ → Leaf) (edge p : ℕ) (u : Enumerator) (q : ℕ) →
      Deeper G.enumerator (plain_text at edge) left p u q →
      is_not terminal.RightBrace (at p) ≡ true

-- a symbol that is a terminal
pub terminal_is : (t : Terminal) (s : Symbol) → is_terminal t s ≡ true → s ≡ symbol.Terminal t
terminal_is t (symbol.Terminal found) e =
    ap symbol.Terminal (same_true terminal_type.the_type tt found t e)
terminal_is t _ e = absurd (let clash : false ≡ true = e in cc)

is_itself : (t : Terminal) → is_terminal t (symbol.Terminal t) ≡ true
is_itself t = true_same terminal_type.the_type t t refl

pub is_mark : (t : Terminal) → Exactly (is t) (symbol.Terminal t)
is_mark t = record {
  is = λ leaf e. terminal_is t (symbol_of leaf) e;
  passes = λ leaf e. ap (is_terminal t) e ∙ is_itself t;
}

pub known_mark : (t : Terminal) (x : Leaf) → is_terminal t (symbol_of x) ≡ true →
    Is (symbol.Terminal t) x
known_mark t x e = terminal_is t (symbol_of x) e

-- tokens in balanced brackets are the same in each text
pub spelt_round_brackets : {left : ℕ} →
    Spelt Any round_brackets (λ u. any_arguments ∷ []) left blind blind
spelt_round_brackets = record {
  pieces = λ k r. spells_one any_arguments (record {
    length = r.length;
    behind = r.behind;
    inside = r.inside;
    closed = r.closed;
    before_end = r.before_end;
  });
  again = λ k x y h. let r = only any_arguments y in record {
    length = r.length;
    behind = r.behind;
    inside = r.inside;
    closed = r.closed;
    before_end = r.before_end;
  };
  first = λ k x y h. tt;
}

spelt_skipped_call : {left : ℕ} →
    Spelt (Is (symbol.Terminal terminal.LeftParen)) skipped_call spelled_suffix left blind sharp
unfolding skipped_call
spelt_skipped_call = spelt_node (λ leaf u. suffix.Skipped leaf.place)
    (spelt_skip (symbol.Terminal terminal.LeftParen) spelt_round_brackets)
    (λ u. at_place (λ x. equation.skipped_pieces x.place) (λ x y e. ap suffix.Skipped e))

spelt_type_word_at : {left : ℕ} {behind : Look} (s : Symbol) →
    Spelt (Is s) (type_word_at s) (λ word. token (symbol.TypeWord word) ∷ []) left behind sharp
unfolding type_word_at
spelt_type_word_at (symbol.TypeWord word) =
    spelt_node _ (spelt_one (symbol.TypeWord word)) (λ u. plainly (λ x. refl) (λ x y. refl))
spelt_type_word_at _ = spelt_nothing

pub name_is : (s : Symbol) → names s ≡ true → s ≡ symbol.Name
name_is symbol.Name e = refl
name_is _ e = absurd (let clash : false ≡ true = e in cc)

pub spelt_identifier : {left : ℕ} {behind : Look} →
    Spelt Any identifier (λ name. named name ∷ []) left behind sharp
unfolding identifier
spelt_identifier = record {
  pieces = λ {at} {edge} {p} {u} {q} k r.
      spells_one (named u) (name_is _ r.read.passes, sym r.made, r.read.behind);
  again = λ {at} {bt} {edge} {other} {p} {r} {u} k x y h.
      let e = only (named u) y in
      record {
        parts = tt;
        read = record { passes = ap names e.0; behind = e.2 };
        made = sym e.1;
      };
  first = λ {at} {bt} {edge} {p} {r} {u} k x y h.
      let e = only (named u) y in name_is _ x.read.passes ∙ sym e.0;
}

spelt_words_of_type : {left : ℕ} {behind : Look} →
    Spelt Any words_of_type spelled_type_name left behind sharp
unfolding words_of_type
spelt_words_of_type = spelt_node _
    (spelt_some types {K = Any} (λ x e. tt) (spelt_choice (λ s. s) spelt_type_word_at) is_type refl)
    (λ words. at_place (λ x. refl) (λ x y e. ap (type_name'.Words words) e))

spelt_type_name_at : {left : ℕ} {behind : Look} (s : Symbol) →
    Spelt (Is s) (type_name_at s) spelled_type_name left behind sharp
unfolding type_name_at
spelt_type_name_at (symbol.TypedefName t) = spelt_node _ (spelt_one (symbol.TypedefName t))
    (λ u. at_place (λ x. refl) (λ x y e. ap (type_name'.Typedef t) e))
spelt_type_name_at (symbol.Terminal terminal.Enum) = spelt_node _
    (spelt_skip (symbol.Terminal terminal.Enum) spelt_identifier)
    (λ tag. at_place (λ x. refl) (λ x y e. ap (type_name'.Enum tag) e))
spelt_type_name_at _ = spelt_any _ spelt_words_of_type

spelt_type_name : {left : ℕ} {behind : Look} →
    Spelt Any type_name spelled_type_name left behind sharp
unfolding type_name
spelt_type_name = spelt_choice (λ s. s) spelt_type_name_at

-- an identifier
pub spelt_name : {left : ℕ} {behind : Look} → Spelt (Is symbol.Name)
    (Node (λ leaf u. expression.Name (name_of leaf u)) One) spelled_expression left behind sharp
spelt_name = record {
  pieces = λ {at} {edge} {p} {u} {q} k r.
      subst (λ list. Laid at list p q)
      (sym (ap spelled_expression r.made ∙ equation.name_pieces (name_of (at p) tt)))
      (spells_one (named (name_of (at p) tt)) (k, refl, r.read.behind));
  again = λ {at} {bt} {edge} {other} {p} {r} {u} {q} {s} k x y h.
      let e = only (named (name_of (at p) tt)) (subst (λ list. Laid bt list r s)
      (ap spelled_expression x.made ∙ equation.name_pieces (name_of (at p) tt)) y) in
      record {
        parts = tt;
        read = record { behind = e.2 };
        made = x.made ∙ ap expression.Name (sym e.1);
      };
  first = λ {at} {bt} {edge} {p} {r} {u} {q} {s} k x y h.
      let e = only (named (name_of (at p) tt)) (subst (λ list. Laid bt list r s)
      (ap spelled_expression x.made ∙ equation.name_pieces (name_of (at p) tt)) y) in
      k ∙ sym e.0;
}

spelt_operand_at : {A : Form Leaf Expression} {left : ℕ} {behind : Look} →
    Spelt Any A spelled_expression left behind sharp → (s : Symbol) →
    Spelt (Is s) (operand_at A s) (operated spelled_expression) left behind sharp
unfolding operand_at
spelt_operand_at c (symbol.Binary operator) =
    spelt_node _ (spelt_skip (symbol.Binary operator) c)
    (λ right. plainly (λ x. refl) (λ x y. refl))
spelt_operand_at c _ = spelt_nothing

-- what stands behind a name that is skipped, or no call
opens_paren : (asserts : Bool) (s : Symbol) → (asserts && is_terminal terminal.LeftParen s) ≡ true →
    s ≡ symbol.Terminal terminal.LeftParen
opens_paren true s e = terminal_is terminal.LeftParen s e
opens_paren false s e = absurd (let clash : false ≡ true = e in cc)

stays_closed : (asserts : Bool) (x y : Leaf) → Follows x y →
    (asserts && is terminal.LeftParen x) ≡ false → (asserts && is terminal.LeftParen y) ≡ false
stays_closed true x y h e = h.paren e
stays_closed false x y h e = refl

-- what a group spells behind its bracket
abbrev spelled_group : Group → List Piece
spelled_group (cast_group to operand) =
    (spelled_type_name to ++ mark terminal.RightParen ∷ []) ++ spelled_expression operand
spelled_group (bracket_group inner more) =
    (spelled_expression inner ++ mark terminal.RightParen ∷ []) ++ in_order spelled_suffix more

-- a base and its suffixes
suffixed_made : (base : Expression) (more : List Suffix) →
    Made (λ (leaf : Leaf) (parts : Expression × List Suffix). suffixed leaf.place parts.0 parts.1)
    (λ parts. spelled_expression parts.0 ++ in_order spelled_suffix parts.1) spelled_expression
    (base, more)
suffixed_made base [] =
    plainly (λ x. sym (append-nil (spelled_expression base))) (λ x y. refl)
suffixed_made base (one ∷ more) = at_place (λ x. equation.postfix_pieces base (one ∷ more) x.place)
    (λ x y e. ap (λ place. expression.Postfix place base (one ∷ more)) e)

group_made : (group : Group) → Made group_of
    (λ group. mark terminal.LeftParen ∷ spelled_group group) spelled_expression group
group_made (cast_group to operand) =
    at_place (λ x. equation.cast_pieces to operand x.place)
    (λ x y e. ap (expression.Cast to operand) e)
group_made (bracket_group inner []) =
    at_place (λ x. equation.bracketed_pieces inner x.place
    ∙ ap (λ list. placed x.place ∷ mark terminal.LeftParen ∷ list)
    (sym (append-nil (spelled_expression inner ++ mark terminal.RightParen ∷ []))))
    (λ x y e. ap (expression.Bracketed inner) e)
group_made (bracket_group inner (one ∷ more)) =
    at_place_twice (λ x. equation.postfix_pieces (expression.Bracketed inner x.place)
    (one ∷ more) x.place
    ∙ ap (λ list. placed x.place ∷ (list ++ in_order spelled_suffix (one ∷ more)))
    (equation.bracketed_pieces inner x.place))
    (λ x y e. ap (λ place. expression.Postfix place
    (expression.Bracketed inner place) (one ∷ more)) e)

chain_made : (parts : Expression × List (BinaryOperator × Expression)) → Made chain_of
    (λ parts. spelled_expression parts.0 ++ in_order (operated spelled_expression) parts.1)
    spelled_expression parts
chain_made (first, []) = plainly (λ x. sym (append-nil (spelled_expression first))) (λ x y. refl)
chain_made (first, operand ∷ operands) =
    at_place (λ x. equation.chain_pieces first (operand ∷ operands) x.place)
    (λ x y e. ap (λ place. expression.Chain place first (operand ∷ operands)) e)

conditional_made : (parts : Expression × Option (Expression × Expression)) → Made conditional_of
    (λ parts. spelled_expression parts.0 ++ optional (λ ends. mark terminal.Question ∷
    ((spelled_expression ends.0 ++ mark terminal.Colon ∷ []) ++ spelled_expression ends.1)) parts.1)
    spelled_expression parts
conditional_made (test, None) =
    plainly (λ x. sym (append-nil (spelled_expression test))) (λ x y. refl)
conditional_made (test, Some ends) =
    at_place (λ x. equation.conditional_pieces test ends.0 ends.1 x.place)
    (λ x y e. ap (expression.Conditional test ends.0 ends.1) e)

-- an operator of assignment and its right side
abbrev assigned : AssignmentOperator × Expression → List Piece
assigned right = token (symbol.Assign right.0) ∷ spelled_expression right.1

assignment_made : (parts : Expression × Option (AssignmentOperator × Expression)) →
    Made assignment_of (λ parts. spelled_expression parts.0 ++ optional assigned parts.1)
    spelled_expression parts
assignment_made (left, None) =
    plainly (λ x. sym (append-nil (spelled_expression left))) (λ x y. refl)
assignment_made (left, Some right) =
    at_place (λ x. equation.assignment_pieces left right.0 right.1 x.place)
    (λ x y e. ap (expression.Assignment left right.0 right.1) e)

comma_made : (parts : Expression × List Expression) → Made comma_of
    (λ parts. spelled_expression parts.0 ++
    in_order (λ other. mark terminal.Comma ∷ spelled_expression other) parts.1)
    spelled_expression parts
comma_made (first, []) = plainly (λ x. sym (append-nil (spelled_expression first))) (λ x y. refl)
comma_made (first, item ∷ items) =
    at_place (λ x. equation.comma_pieces (first ∷ item ∷ items) x.place)
    (λ x y e. ap (expression.Comma (first ∷ item ∷ items)) e)

list_made : (parts : Option (List Expression)) → Made list_of
    (optional (listed spelled_expression)) (listed spelled_expression) parts
list_made None = plainly (λ x. refl) (λ x y. refl)
list_made (Some items) = plainly (λ x. refl) (λ x y. refl)

suffixes_made : (parts : Option Suffix × List Suffix) → Made in_front
    (λ parts. optional spelled_suffix parts.0 ++ in_order spelled_suffix parts.1)
    (in_order spelled_suffix) parts
suffixes_made (None, more) = plainly (λ x. refl) (λ x y. refl)
suffixes_made (Some skipped, more) = plainly (λ x. refl) (λ x y. refl)

module _ (G : Grammar) (left : ℕ) (g : SpeltGrammar G left) where
  spelt_assignments :
      Spelt Any (assignments G) (listed spelled_expression) left careful sharp
  unfolding assignments
  spelt_assignments = spelt_node _ (spelt_pair g.assignment
      (spelt_many (is_terminal terminal.Comma) (known_mark terminal.Comma)
      (spelt_skip (symbol.Terminal terminal.Comma) g.assignment)))
      (λ parts. plainly (λ x. refl) (λ x y. refl))

  spelt_arguments : {behind : Look} → Spelt Any (arguments G)
      (λ given. listed spelled_expression given ++ mark terminal.RightParen ∷
      []) left behind careful
  unfolding arguments
  spelt_arguments = spelt_closed (is_mark terminal.RightParen) (spelt_node list_of
      (spelt_perhaps (λ s. not (is_terminal terminal.RightParen s)) {K = Any}
      (λ x e. tt) spelt_assignments)
      list_made)

  spelt_suffix_at : {behind : Look} (s : Symbol) →
      Spelt (Is s) (suffix_at G s) spelled_suffix left behind sharp
  unfolding suffix_at
  spelt_suffix_at (symbol.Terminal terminal.LeftBracket) = spelt_node _
      (spelt_skip (symbol.Terminal terminal.LeftBracket)
      (spelt_closed (is_mark terminal.RightBracket) g.comma))
      (λ index. at_place (λ x. equation.index_pieces index x.place)
      (λ x y e. ap (suffix.Index index) e))
  spelt_suffix_at (symbol.Terminal terminal.LeftParen) = spelt_node _
      (spelt_skip (symbol.Terminal terminal.LeftParen) spelt_arguments)
      (λ given. at_place (λ x. equation.call_pieces given x.place)
      (λ x y e. ap (suffix.Call given) e))
  spelt_suffix_at (symbol.Step operator) = spelt_node _ (spelt_one (symbol.Step operator))
      (λ u. at_place (λ x. equation.step_pieces operator x.place)
      (λ x y e. ap (suffix.Step operator) e))
  spelt_suffix_at _ = spelt_nothing

  pub spelt_suffixes : (asserts : Bool) →
      Spelt Any (suffixes G asserts) (in_order spelled_suffix) left careful careful
  unfolding suffixes
  spelt_suffixes asserts = spelt_node in_front (spelt_pair
      (spelt_nearest (λ s. asserts && is_terminal terminal.LeftParen s)
      (λ x e. opens_paren asserts (symbol_of x) e) (spelt_behind spelt_skipped_call)
      (stays_closed asserts))
      (spelt_many (λ s. is_terminal terminal.LeftBracket s || is_terminal terminal.LeftParen s ||
      steps s) {K = Any} (λ x e. tt) (spelt_choice (λ s. s) spelt_suffix_at))) suffixes_made

  spelt_primary_at : {behind : Look} (s : Symbol) →
      Spelt (Is s) (primary_at G s) spelled_expression left behind sharp
  unfolding primary_at
  spelt_primary_at symbol.Name = spelt_name
  spelt_primary_at (symbol.Number ty value) = spelt_node _ (spelt_one (symbol.Number ty value))
      (λ u. at_place (λ x. equation.number_pieces ty value x.place)
      (λ x y e. ap (expression.Number ty value) e))
  spelt_primary_at (symbol.Character value) = spelt_node _ (spelt_one (symbol.Character value))
      (λ u. at_place (λ x. equation.character_pieces value x.place)
      (λ x y e. ap (expression.Character value) e))
  spelt_primary_at (symbol.Terminal terminal.LeftParen) = spelt_node _
      (spelt_skip (symbol.Terminal terminal.LeftParen)
      (spelt_closed (is_mark terminal.RightParen) g.comma))
      (λ inner. at_place (λ x. equation.bracketed_pieces inner x.place)
      (λ x y e. ap (expression.Bracketed inner) e))
  spelt_primary_at _ = spelt_nothing

  spelt_postfix : Spelt Any (postfix G) spelled_expression left careful sharp
  unfolding postfix
  spelt_postfix = spelt_node _ (spelt_then (spelt_choice (λ s. s) spelt_primary_at)
      (λ base. spelt_suffixes (names_assert base))) (λ parts. suffixed_made parts.0 parts.1)

  spelt_sign : (operator : UnaryOperator) (s : Symbol) → symbol_of_sign operator ≡ s →
      Spelt (Is s) (sign operator G) spelled_expression left careful sharp
  unfolding sign
  spelt_sign operator s e =
      subst (λ s. Spelt (Is s) (Node (unary_of operator) (Skip (Deeper G.cast))) spelled_expression
      left careful sharp) e
      (spelt_node (unary_of operator) (spelt_skip (symbol_of_sign operator) g.cast)
      (λ operand. at_place (λ x. equation.unary_pieces operator operand x.place)
      (λ x y e. ap (expression.Unary operator operand) e)))

  spelt_unary_at : (s : Symbol) → Spelt (Is s) (unary_at G s) spelled_expression left careful sharp
  unfolding unary_at
  spelt_unary_at (symbol.Step operator) = spelt_node _ (spelt_skip (symbol.Step operator) g.unary)
      (λ operand. at_place (λ x. equation.prefix_step_pieces operator operand x.place)
      (λ x y e. ap (expression.PrefixStep operator operand) e))
  spelt_unary_at (symbol.Binary binary.Add) = spelt_sign unary_operator.Plus _ refl
  spelt_unary_at (symbol.Binary binary.Subtract) = spelt_sign unary_operator.Minus _ refl
  spelt_unary_at (symbol.Terminal terminal.Tilde) = spelt_sign unary_operator.Complement _ refl
  spelt_unary_at (symbol.Terminal terminal.Exclamation) = spelt_sign unary_operator.Not _ refl
  spelt_unary_at _ = spelt_any _ spelt_postfix

  pub spelt_unary : Spelt Any (unary G) spelled_expression left careful sharp
  unfolding unary
  spelt_unary = spelt_choice (λ s. s) spelt_unary_at

  spelt_cast_part : Spelt Any (cast_part G) spelled_group left careful sharp
  spelt_cast_part = spelt_node _ (spelt_if {P = 0 < left}
      (λ at edge p u q r. g.room r.second.read) (λ some. spelt_pair
      (spelt_closed (is_mark terminal.RightParen) (spelt_deeper some
      (spelt_type_name {behind = blind}))) g.cast))
      (λ parts. plainly (λ x. refl) (λ x y. refl))

  spelt_group_at : (s : Symbol) → Spelt (Is s) (group_at G s) spelled_group left careful sharp
  unfolding group_at
  spelt_group_at (symbol.TypeWord word) = spelt_any _ spelt_cast_part
  spelt_group_at (symbol.TypedefName t) = spelt_any _ spelt_cast_part
  spelt_group_at (symbol.Terminal terminal.Enum) = spelt_any _ spelt_cast_part
  spelt_group_at _ = spelt_any _ (spelt_node _ (spelt_then
      (spelt_closed (is_mark terminal.RightParen) g.comma)
      (λ inner. spelt_suffixes (names_assert inner)))
      (λ parts. plainly (λ x. refl) (λ x y. refl)))

  spelt_cast_at : (s : Symbol) → Spelt (Is s) (cast_at G s) spelled_expression left careful sharp
  unfolding cast_at
  spelt_cast_at (symbol.Terminal terminal.LeftParen) = spelt_node group_of
      (spelt_skip (symbol.Terminal terminal.LeftParen) (spelt_choice (λ s. s) spelt_group_at))
      group_made
  spelt_cast_at _ = spelt_any _ spelt_unary

  pub spelt_cast : Spelt Any (cast G) spelled_expression left careful sharp
  unfolding cast
  spelt_cast = spelt_choice (λ s. s) spelt_cast_at

  spelt_chain : (k : ℕ) → Spelt Any (chain k G) spelled_expression left careful sharp
  unfolding chain
  spelt_chain zero = spelt_cast
  spelt_chain (suc k) = spelt_node chain_of (spelt_pair (spelt_chain k)
      (spelt_many (binds (suc k)) {K = Any} (λ x e. tt)
      (spelt_choice (λ s. s) (spelt_operand_at (spelt_chain k))))) chain_made

  pub spelt_conditional : Spelt Any (conditional G) spelled_expression left careful sharp
  unfolding conditional
  spelt_conditional = spelt_node conditional_of (spelt_pair (spelt_chain loosest)
      (spelt_perhaps (is_terminal terminal.Question) (known_mark terminal.Question)
      (spelt_skip (symbol.Terminal terminal.Question)
      (spelt_pair (spelt_closed (is_mark terminal.Colon) g.comma) g.conditional)))) conditional_made

  spelt_right_side_at : (s : Symbol) → Spelt (Is s) (right_side_at G s) assigned left careful sharp
  unfolding right_side_at
  spelt_right_side_at (symbol.Assign operator) =
      spelt_node _ (spelt_skip (symbol.Assign operator) g.assignment)
      (λ right. plainly (λ x. refl) (λ x y. refl))
  spelt_right_side_at _ = spelt_nothing

  pub spelt_assignment : Spelt Any (assignment G) spelled_expression left careful sharp
  unfolding assignment
  spelt_assignment = spelt_node assignment_of (spelt_then spelt_conditional
      (λ target. spelt_perhaps (λ s. is_unary target && assigns s) {K = Any} (λ x e. tt)
      (spelt_choice (λ s. s) spelt_right_side_at))) assignment_made

  pub spelt_comma : Spelt Any (comma G) spelled_expression left careful sharp
  unfolding comma
  spelt_comma = spelt_node comma_of (spelt_pair spelt_assignment
      (spelt_many (is_terminal terminal.Comma) (known_mark terminal.Comma)
      (spelt_skip (symbol.Terminal terminal.Comma) spelt_assignment))) comma_made
