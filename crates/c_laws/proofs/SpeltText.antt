-- Declarations, statements and items are spelled by their trees, and so is a text.
use Rattle.std.specs.Prelude.{◌≡◌, ◌⊎◌, ℕ, ◌+◌, ◌-◌, zero, suc, Bool, true, false, not, is_some}
use Rattle.std.specs.Prelude.{List, [], ◌∷◌, ◌++◌, Option, None, Some, refl, option_map}
use Rattle.std.proofs.Common.{sym, ◌∙◌, ap, subst, arith, inl, inr}
use Rattle.c_grammar_forms.specs.Forms.{World, Form, Before, Pair, Then, Node, Deeper, Choice, Many}
use Rattle.c_grammar_forms.specs.Forms.{listed as first_listed}
use Rattle.c_grammar_symbols.specs.declared.words.Terminal.{Terminal}
use Rattle.c_grammar_symbols.specs.declared.words.Terminal.TheVariants as terminal
use Rattle.c_grammar_symbols.specs.declared.operators.AssignmentOperator.TheVariants as assign
use Rattle.c_grammar_symbols.specs.declared.symbol.Symbol.{Symbol}
use Rattle.c_grammar_symbols.specs.declared.symbol.Symbol.TheVariants as symbol
use Rattle.c_grammar_symbols.specs.Symbols.{Leaf, symbol_of}
use Rattle.c_grammar_symbols.specs.Sources.{is, is_terminal}
use Rattle.c_grammar_tree.specs.declared.name.Name.{Name}
use Rattle.c_grammar_tree.specs.declared.declaration.Declarator.{Declarator}
use Rattle.c_grammar_tree.specs.declared.declaration.Enumerator.{Enumerator}
use Rattle.c_grammar_tree.specs.declared.expression.Expression.{Expression, out-Expression}
use Rattle.c_grammar_tree.specs.declared.expression.Expression.{roll-Expression}
use Rattle.c_grammar_tree.specs.declared.expression.Expression.{roll-out-Expression}
use Rattle.c_grammar_tree.specs.declared.expression.Expression.TheOpen.{Expression-F}
use Rattle.c_grammar_tree.specs.declared.expression.Expression.TheVariants as expression
use Rattle.c_grammar_tree.specs.declared.expression.Suffix.{Suffix}
use Rattle.c_grammar_tree.specs.declared.declaration.Initializer.TheVariants as initializer
use Rattle.c_grammar_tree.specs.declared.statement.Statement.{Statement}
use Rattle.c_grammar_tree.specs.declared.statement.Statement.TheVariants as node
use Rattle.c_grammar_tree.specs.Parts.{is_not, is_listed, names, specifies_locally, initializes}
use Rattle.c_grammar_tree.specs.Parts.{bare_name, name_layer}
use Rattle.c_grammar_tree.specs.Nested.{Grammar}
use Rattle.c_grammar_tree.specs.Expressions.{comma, list_of}
use Rattle.c_grammar_tree.specs.Declarations.{identifier, attribute, enumerator, enumerators}
use Rattle.c_grammar_tree.specs.Declarations.{enumerator_list, tagged, enumeration_by, enumeration}
use Rattle.c_grammar_tree.specs.Declarations.{attributes, comma_or_end_at, element, list}
use Rattle.c_grammar_tree.specs.Declarations.{initializer_of, array, array_part, declarator_rest}
use Rattle.c_grammar_tree.specs.Declarations.{declarator, more_declarators, declarators}
use Rattle.c_grammar_tree.specs.Declarations.{declarators_by, declaration_by}
use Rattle.c_grammar_tree.specs.Statements.{block_items, items, condition}
use Rattle.c_grammar_tree.specs.Statements.{optional as optional_before, for_start, behind_comma_at}
use Rattle.c_grammar_tree.specs.Statements.{labeled_or_not, statement_at, statement, item_by, item}
use Rattle.c_grammar_tree.specs.Grammar.{grammar}
use Rattle.c_laws.specs.Plain.{plain_text}
use Rattle.c_laws.specs.Spelling.{Piece, named, comma_or_not, any_attributes, mark, in_order}
use Rattle.c_laws.specs.Spelling.{listed, ended, optional, spelled_expression, spelled_array}
use Rattle.c_laws.specs.Spelling.{spelled_enumerator, spelled_enumerators, spelled_enumeration}
use Rattle.c_laws.specs.Spelling.{spelled_initializer, spelled_rest, spelled_declarator}
use Rattle.c_laws.specs.Spelling.{spelled_declaration, in_brackets, closed, spelled_start}
use Rattle.c_laws.specs.Spelling.{spelled_block_item, spelled_statement}
use Rattle.c_laws.proofs.Spells.{Laid, spells_none, spells_piece, spells_one, joins, opened, halves}
use Rattle.c_laws.proofs.Spells.{only, ends_there}
use Rattle.c_laws.proofs.Spelt.{Look, blind, careful, sharp, Follows, Any, Is, Spelt, Made, plainly}
use Rattle.c_laws.proofs.Spelt.{at_place, spelt_nothing, spelt_any, spelt_behind, spelt_sharp}
use Rattle.c_laws.proofs.Spelt.{spelt_one, spelt_skip, spelt_opened, spelt_such, spelt_closed}
use Rattle.c_laws.proofs.Spelt.{spelt_pair, spelt_then, spelt_node_read, spelt_node, spelt_choice}
use Rattle.c_laws.proofs.Spelt.{spelt_many, spelt_perhaps, spelt_nearest, spelt_front}
use Rattle.c_laws.proofs.SpeltExpressions.{SpeltGrammar, is_mark, known_mark, name_is, spelt_comma}
use Rattle.c_laws.proofs.SpeltExpressions.{spelt_assignment, spelt_conditional, spelt_cast}
use Rattle.c_laws.proofs.SpeltExpressions.{spelt_unary}
pub use Rattle.c_laws.proofs.SpeltExpressions.{spelt_identifier}
use Rattle.c_laws.proofs.Equations as equation
use Rattle.c_laws.proofs.SpeltSpecifiers.{spelt_tag, spelt_specifiers}

initializer_is : (s : Symbol) → initializes s ≡ true → s ≡ symbol.Assign assign.Assign
initializer_is (symbol.Assign assign.Assign) e = refl
initializer_is _ e = absurd (let clash : false ≡ true = e in cc)

-- attributes are the same in each text
same_attribute : (at : ℕ → Leaf) (edge other left less p : ℕ) (u : Unit {0}) (q : ℕ) →
    attribute (plain_text at edge) left p u q → attribute (plain_text at other) less p u q
unfolding attribute
same_attribute at edge other left less p u q r = record {
  rest = record {
    passes = r.rest.passes;
    rest = record {
      passes = r.rest.rest.passes;
      rest = record {
        middle = r.rest.rest.rest.middle;
        first = record {
          length = r.rest.rest.rest.first.length;
          behind = r.rest.rest.rest.first.behind;
          inside = r.rest.rest.rest.first.inside;
          closed = r.rest.rest.rest.first.closed;
          before_end = r.rest.rest.rest.first.before_end;
        };
        passes = r.rest.rest.rest.passes;
        behind = r.rest.rest.rest.behind;
      };
    };
  };
}

same_many : (at : ℕ → Leaf) (edge other left less p : ℕ) (us : List (Unit {0})) (q : ℕ) →
    Many (is terminal.Attribute) attribute (plain_text at edge) left p us q →
    Many (is terminal.Attribute) attribute (plain_text at other) less p us q
unfolding Many
same_many at edge other left less p [] q r = record { stops = λ h. r.stops h; behind = r.behind }
same_many at edge other left less p (u ∷ us) q r = record {
  goes = r.goes;
  middle = r.middle;
  first = same_attribute at edge other left less p u r.middle r.first;
  rest = same_many at edge other left less r.middle us q r.rest;
}

pub same_attributes : (at : ℕ → Leaf) (edge other left less p : ℕ) (u : Unit {0}) (q : ℕ) →
    attributes (plain_text at edge) left p u q → attributes (plain_text at other) less p u q
unfolding attributes
same_attributes at edge other left less p u q r = record {
  parts = r.parts;
  read = same_many at edge other left less p r.parts q r.read;
  made = r.made;
}

pub spelt_attributes : {left : ℕ} →
    Spelt Any attributes (λ u. any_attributes ∷ []) left blind blind
spelt_attributes = record {
  pieces = λ {at} {edge} {p} {u} {q} k r.
      spells_one any_attributes (same_attributes at edge 0 _ 0 p u q r);
  again = λ {at} {bt} {edge} {other} {p} {r} {u} {q} {s} k x y h.
      same_attributes bt 0 other 0 _ r u s (only any_attributes y);
  first = λ k x y h. tt;
}

-- a comma, or the brace that ends the list
abbrev Separated : (ℕ → Leaf) → ℕ → ℕ → Type 0
Separated at p q = ((symbol_of (at p) ≡ symbol.Terminal terminal.Comma) × (q ≡ p + 1)) ⊎
    ((symbol_of (at p) ≡ symbol.Terminal terminal.RightBrace) × (q ≡ p))

separated : (at : ℕ → Leaf) (edge left p q : ℕ) (u : Unit {0}) (s : Symbol) → symbol_of (at p) ≡ s →
    comma_or_end_at s (plain_text at edge) left p u q → Separated at p q
unfolding comma_or_end_at
separated at edge left p q u (symbol.Terminal terminal.Comma) e r = inl (e, r.behind)
separated at edge left p q u (symbol.Terminal terminal.RightBrace) e r = inr (e, r.behind)
separated at edge left p q u _ e r = absurd r.never

-- and the other way round
by_comma : (bt : ℕ → Leaf) (other left r s : ℕ) →
    symbol_of (bt r) ≡ symbol.Terminal terminal.Comma → s ≡ r + 1 →
    Choice symbol_of comma_or_end_at (plain_text bt other) left r tt s
unfolding comma_or_end_at
by_comma bt other left r s e f = record {
  chosen = subst (λ s'. comma_or_end_at s' (plain_text bt other) left r tt s) (sym e)
      (record { behind = f });
}

by_brace : (bt : ℕ → Leaf) (other left r s : ℕ) →
    symbol_of (bt r) ≡ symbol.Terminal terminal.RightBrace → s ≡ r →
    Choice symbol_of comma_or_end_at (plain_text bt other) left r tt s
unfolding comma_or_end_at
by_brace bt other left r s e f = record {
  chosen = subst (λ s'. comma_or_end_at s' (plain_text bt other) left r tt s) (sym e)
      (record { behind = f });
}

-- the token is a comma or a brace
calm : (x y : Leaf) (t : Terminal) → is_terminal terminal.LeftParen (symbol.Terminal t) ≡ false →
    is_terminal terminal.Else (symbol.Terminal t) ≡ false → symbol_of y ≡ symbol.Terminal t →
    Follows x y
calm x y t paren other e = record {
  paren = λ h. ap (is_terminal terminal.LeftParen) e ∙ paren;
  other = λ h. ap (is_terminal terminal.Else) e ∙ other;
}

-- what stands between the braces of a list, where the brace that ends it is this symbol
no_brace : (leaf : Leaf) → is_not terminal.RightBrace leaf ≡ true →
    symbol_of leaf ≡ symbol.Terminal terminal.RightBrace → ⊥
no_brace leaf e f =
    let stops : is_not terminal.RightBrace leaf ≡ false = ap (λ s. not (is_terminal
    terminal.RightBrace s)) f in
    let clash : true ≡ false = sym e ∙ stops in
    cc

-- the list has these pieces behind a part of a list
ended_by_one : (at : ℕ → Leaf) (m k q : ℕ) → Separated at m k → q ≡ k →
    Laid at (comma_or_not ∷ []) m q
ended_by_one at m k q (inl here) e = spells_one comma_or_not (inr (here.0, e ∙ here.1))
ended_by_one at m k q (inr here) e = spells_one comma_or_not (inl (e ∙ here.1))

ended_by_more : (at : ℕ → Leaf) (m k q : ℕ) (more : List Piece) → Separated at m k →
    is_not terminal.RightBrace (at k) ≡ true → Laid at more k q →
    Laid at (mark terminal.Comma ∷ more) m q
ended_by_more at m k q more (inl here) goes y = spells_piece (mark terminal.Comma) here y
ended_by_more at m k q more (inr here) goes y =
    absurd (no_brace (at k) goes (ap (λ n. symbol_of (at n)) here.1 ∙ here.0))

-- behind an expression: a semicolon, or a colon and a statement
abbrev behind_comma : Option (Name × Statement) → List Piece
behind_comma None = mark terminal.Semicolon ∷ []
behind_comma (Some labeled) = mark terminal.Colon ∷ spelled_statement labeled.1

-- a tag, with enumerators or without
tagged_made : (parts : Name × Option (List Enumerator)) →
    Made (λ (leaf : Leaf) (parts : Name × Option (List Enumerator)). tagged parts)
    (λ parts. named parts.0 ∷ optional spelled_enumerators parts.1) spelled_enumeration parts
tagged_made (name, None) = plainly (λ x. refl) (λ x y. refl)
tagged_made (name, Some found) = plainly (λ x. refl) (λ x y. refl)

-- a list in braces of parts of one form
module _ {T : Type 0} (A : Form Leaf T) (S : T → List Piece) (left : ℕ)
    (c : Spelt Any A S left careful sharp) where
  abbrev Elements : Form Leaf (List T)
  Elements = Many (is_not terminal.RightBrace) (element A)

  element_spelled : (at : ℕ → Leaf) (edge p m : ℕ) (u v : T) → u ≡ v →
      A (plain_text at edge) left p v m → Laid at (S u) p m
  element_spelled at edge p m u v e r =
      subst (λ w. Laid at (S w) p m) (sym e) (c.pieces tt r)

  elements_pieces : (at : ℕ → Leaf) (edge p : ℕ) (us : List T) (q : ℕ) →
      Elements (plain_text at edge) left p us q → Laid at (ended S us) p q
  unfolding Many element
  elements_pieces at edge p [] q r = subst (λ m. Laid at [] p m) (sym r.behind) spells_none
  elements_pieces at edge p (u ∷ []) q r =
      let x = r.first.read in
      joins (S u)
      (element_spelled at edge p x.middle u r.first.parts.0 r.first.made x.first)
      (ended_by_one at x.middle r.middle q
      (separated at edge left x.middle r.middle _ _ refl x.second.chosen) r.rest.behind)
  elements_pieces at edge p (u ∷ v ∷ us) q r =
      let x = r.first.read in
      joins (S u)
      (element_spelled at edge p x.middle u r.first.parts.0 r.first.made x.first)
      (ended_by_more at x.middle r.middle q (ended S (v ∷ us))
      (separated at edge left x.middle r.middle _ _ refl x.second.chosen) r.rest.goes
      (elements_pieces at edge r.middle (v ∷ us) q r.rest))

  -- an element of the other text, and the list behind it
  element_again : (at bt : ℕ → Leaf) (edge other p r m k t : ℕ) (u v : T) → u ≡ v →
      is_not terminal.RightBrace (at p) ≡ true →
      A (plain_text at edge) left p v m → Laid bt (S u) r k →
      Follows (at m) (bt k) → Choice symbol_of comma_or_end_at (plain_text bt other) left k tt t →
      (is_not terminal.RightBrace (bt r) ≡ true) × element A (plain_text bt other) left r u t
  unfolding element
  element_again at bt edge other p r m k t u v e goes x y h s =
      let y' = subst (λ w. Laid bt (S w) r k) e y in
      let same = c.first tt x y' h in (
        ap (λ s. not (is_terminal terminal.RightBrace s)) (sym same) ∙ goes,
        record {
          parts = (v, tt);
          read = record { middle = k; first = c.again tt x y' h; second = s };
          made = e;
        },
      )

  last_again : (at bt : ℕ → Leaf) (edge other p r m k t : ℕ) (u v : T) → u ≡ v →
      is_not terminal.RightBrace (at p) ≡ true →
      A (plain_text at edge) left p v m → Laid bt (S u) r k →
      (t ≡ k) ⊎ ((symbol_of (bt k) ≡ symbol.Terminal terminal.Comma) × (t ≡ k + 1)) →
      symbol_of (bt t) ≡ symbol.Terminal terminal.RightBrace →
      (is_not terminal.RightBrace (bt r) ≡ true) × element A (plain_text bt other) left r u t
  last_again at bt edge other p r m k t u v e goes x y (inl here) brace =
      let there = ap (λ n. symbol_of (bt n)) (sym here) ∙ brace in
      element_again at bt edge other p r m k t u v e goes x y
      (calm (at m) (bt k) terminal.RightBrace refl refl there)
      (by_brace bt other left k t there here)
  last_again at bt edge other p r m k t u v e goes x y (inr here) brace =
      element_again at bt edge other p r m k t u v e goes x y
      (calm (at m) (bt k) terminal.Comma refl refl here.0)
      (by_comma bt other left k t here.0 here.1)

  elements_again : (at bt : ℕ → Leaf) (edge other p r : ℕ) (us : List T) (q t : ℕ) →
      Elements (plain_text at edge) left p us q → Laid bt (ended S us) r t →
      symbol_of (bt t) ≡ symbol.Terminal terminal.RightBrace →
      Elements (plain_text bt other) left r us t
  unfolding Many element
  elements_again at bt edge other p r [] q t x y brace =
      record { stops = λ e. absurd (let clash : false ≡ true = e in cc); behind = ends_there y }
  elements_again at bt edge other p r (u ∷ []) q t x y brace =
      let h = halves (S u) (comma_or_not ∷ []) y in
      let a = last_again at bt edge other p r x.first.read.middle h.middle t u x.first.parts.0
      x.first.made x.goes x.first.read.first h.first (only comma_or_not h.second) brace in
      record {
        goes = a.0;
        middle = t;
        first = a.1;
        rest = record {
          stops = λ e. absurd (let clash : false ≡ true = e in cc);
          behind = refl;
        };
      }
  elements_again at bt edge other p r (u ∷ v ∷ us) q t x y brace =
      let h = halves (S u) (mark terminal.Comma ∷ ended S (v ∷ us)) y in
      let o = opened (mark terminal.Comma) (ended S (v ∷ us)) h.second in
      let a = element_again at bt edge other p r x.first.read.middle h.middle o.middle u
      x.first.parts.0 x.first.made x.goes x.first.read.first h.first
      (calm (at x.first.read.middle) (bt h.middle) terminal.Comma refl refl o.here.0)
      (by_comma bt other left h.middle o.middle o.here.0 o.here.1) in
      record {
        goes = a.0;
        middle = o.middle;
        first = a.1;
        rest = elements_again at bt edge other x.middle o.middle (v ∷ us) q t x.rest o.more brace;
      }

  spelt_elements : {behind : Look} → Spelt Any (Before Elements (is terminal.RightBrace))
      (λ us. ended S us ++ mark terminal.RightBrace ∷ []) left behind blind
  spelt_elements = record {
    pieces = λ {at} {edge} {p} {u} k r. joins (ended S u)
        (elements_pieces _ _ _ _ _ r.first)
        (spells_one (mark terminal.RightBrace)
        ((is_mark terminal.RightBrace).is (at r.middle) r.passes, r.behind));
    again = λ {at} {bt} {edge} {other} {p} {r} {u} k x y h.
        let t = halves (ended S u) (mark terminal.RightBrace ∷ []) y in
        let e = only (mark terminal.RightBrace) t.second in
        record {
          middle = t.middle;
          first = elements_again _ _ _ _ _ _ _ _ _ x.first t.first e.0;
          passes = (is_mark terminal.RightBrace).passes (bt t.middle) e.0;
          behind = e.1;
        };
    first = λ k x y h. tt;
  }

  -- the same with a part at least, where none begins with the brace
  abbrev SomeElements : Form Leaf (List T)
  SomeElements = Node first_listed (Pair (element A) Elements)

  module _ (apart : (at : ℕ → Leaf) (edge p : ℕ) (u : T) (q : ℕ) →
      A (plain_text at edge) left p u q → is_not terminal.RightBrace (at p) ≡ true) where
    to_elements : (at : ℕ → Leaf) (edge p : ℕ) (us : List T) (q : ℕ) →
        SomeElements (plain_text at edge) left p us q → Elements (plain_text at edge) left p us q
    unfolding Many element
    to_elements at edge p us q r =
        subst (λ list. Elements (plain_text at edge) left p list q) (sym r.made) (record {
          goes = apart at edge p r.read.first.parts.0 r.read.first.read.middle
              r.read.first.read.first;
          middle = r.read.middle;
          first = r.read.first;
          rest = r.read.second;
        })

    from_elements : (bt : ℕ → Leaf) (other r : ℕ) (us : List T) (u : T) (more : List T) (s : ℕ) →
        us ≡ u ∷ more → Elements (plain_text bt other) left r us s →
        SomeElements (plain_text bt other) left r us s
    unfolding Many
    from_elements bt other r us u more s e x =
        let y = subst (λ list. Elements (plain_text bt other) left r list s) e x in record {
          parts = (u, more);
          read = record { middle = y.middle; first = y.first; second = y.rest };
          made = e;
        }

    spelt_some_elements : {behind : Look} →
        Spelt Any (Before SomeElements (is terminal.RightBrace))
        (λ us. ended S us ++ mark terminal.RightBrace ∷ []) left behind blind
    spelt_some_elements {behind} = record {
      pieces = λ {at} {edge} {p} {u} k r. (spelt_elements {behind = behind}).pieces tt (record {
        middle = r.middle;
        first = to_elements at edge p u r.middle r.first;
        passes = r.passes;
        behind = r.behind;
      });
      again = λ {at} {bt} {edge} {other} {p} {r} {u} k x y h.
          let a = (spelt_elements {behind = behind}).again {other = other} tt (record {
            middle = x.middle;
            first = to_elements at edge p u x.middle x.first;
            passes = x.passes;
            behind = x.behind;
          }) y h in
          record {
            middle = a.middle;
            first = from_elements bt other r u x.first.parts.0 x.first.parts.1 a.middle
                x.first.made a.first;
            passes = a.passes;
            behind = a.behind;
          };
      first = λ k x y h. tt;
    }

module _ (G : Grammar) (left : ℕ) (g : SpeltGrammar G left) where
  pub spelt_list : {behind : Look} → Spelt Any (list G) spelled_initializer left behind sharp
  unfolding list
  spelt_list = spelt_node _ (spelt_opened (is_mark terminal.LeftBrace)
      (spelt_elements (Deeper G.assignment) spelled_expression left g.assignment))
      (λ us. at_place (λ x. refl) (λ x y e. ap (initializer.List us) e))

  pub spelt_enumerator : Spelt Any (enumerator G) spelled_enumerator left careful sharp
  unfolding enumerator
  spelt_enumerator = spelt_node _ (spelt_pair spelt_identifier
      (spelt_perhaps initializes (λ x e. initializer_is (symbol_of x) e)
      (spelt_skip (symbol.Assign assign.Assign) g.conditional)))
      (λ parts. plainly (λ x. refl) (λ x y. refl))

  spelt_enumerator_list : {behind : Look} →
      Spelt Any (enumerator_list G) spelled_enumerators left behind sharp
  unfolding enumerator_list enumerators
  spelt_enumerator_list = spelt_opened (is_mark terminal.LeftBrace)
      (spelt_some_elements (Deeper G.enumerator) spelled_enumerator left g.enumerator g.no_brace)

  spelt_enumeration_by : {behind : Look} (named : Bool) →
      Spelt Any (enumeration_by G named) spelled_enumeration left behind sharp
  unfolding enumeration_by
  spelt_enumeration_by {behind} true = spelt_node _ (spelt_pair {inner = behind} spelt_identifier
      (spelt_perhaps (is_terminal terminal.LeftBrace) {K = Any} (λ x e. tt) spelt_enumerator_list))
      tagged_made
  spelt_enumeration_by false =
      spelt_node _ spelt_enumerator_list (λ found. plainly (λ x. refl) (λ x y. refl))

  pub spelt_enumeration : {behind : Look} (braces : Bool) →
      Spelt Any (enumeration G braces) spelled_enumeration left behind sharp
  unfolding enumeration
  spelt_enumeration false = spelt_tag
  spelt_enumeration true = spelt_choice names (λ named. spelt_any _ (spelt_enumeration_by named))

  spelt_initializer_of : (is_array : Bool) →
      Spelt Any (initializer_of G is_array) spelled_initializer left careful sharp
  unfolding initializer_of
  spelt_initializer_of false =
      spelt_node _ g.assignment (λ value. plainly (λ x. refl) (λ x y. refl))
  spelt_initializer_of true = spelt_behind g.list

  spelt_array : {behind : Look} → Spelt (Is (symbol.Terminal terminal.LeftBracket)) (array G)
      spelled_array left behind sharp
  unfolding array
  spelt_array = spelt_node _ (spelt_skip (symbol.Terminal terminal.LeftBracket)
      (spelt_closed (is_mark terminal.RightBracket)
      (spelt_perhaps (λ s. not (is_terminal terminal.RightBracket s)) {K = Any}
      (λ x e. tt) g.conditional)))
      (λ length. at_place (λ x. refl)
      (λ x y e. ap (λ place. record { length = length; place = place }) e))

  spelt_array_part : Spelt Any (array_part G)
      (λ parts. optional spelled_array parts.0 ++ any_attributes ∷ []) left blind blind
  unfolding array_part
  spelt_array_part = spelt_pair (spelt_perhaps (is_terminal terminal.LeftBracket)
      (known_mark terminal.LeftBracket) spelt_array) spelt_attributes

  pub spelt_declarator_rest : Spelt Any (declarator_rest G)
      (λ rest. spelled_rest rest.array rest.initializer) left careful blind
  unfolding declarator_rest
  spelt_declarator_rest = spelt_node _ (spelt_then (spelt_behind spelt_array_part)
      (λ front. spelt_perhaps initializes (λ x e. initializer_is (symbol_of x) e)
      (spelt_skip (symbol.Assign assign.Assign) (spelt_initializer_of (is_some front.0)))))
      (λ parts. plainly (λ x. refl) (λ x y. refl))

  spelt_declarator : Spelt Any (declarator G) spelled_declarator left careful sharp
  unfolding declarator
  spelt_declarator = spelt_node _ (spelt_pair spelt_identifier spelt_declarator_rest)
      (λ parts. plainly (λ x. refl) (λ x y. refl))

  pub spelt_more_declarators : Spelt Any (more_declarators G)
      (in_order (λ other. mark terminal.Comma ∷ spelled_declarator other)) left careful careful
  unfolding more_declarators
  spelt_more_declarators = spelt_many (is_terminal terminal.Comma) (known_mark terminal.Comma)
      (spelt_skip (symbol.Terminal terminal.Comma) spelt_declarator)

  spelt_declarators : Spelt Any (declarators G) (listed spelled_declarator) left careful sharp
  unfolding declarators
  spelt_declarators = spelt_node _ (spelt_pair spelt_declarator spelt_more_declarators)
      (λ parts. plainly (λ x. refl) (λ x y. refl))

  -- the declarators where they are there, or none
  declared_made : (found : Option (List Declarator)) →
      Made list_of (optional (listed spelled_declarator)) (listed spelled_declarator) found
  declared_made None = plainly (λ x. refl) (λ x y. refl)
  declared_made (Some us) = plainly (λ x. refl) (λ x y. refl)

  spelt_declarators_by : (free : Bool) →
      Spelt Any (declarators_by G free) (listed spelled_declarator) left careful careful
  unfolding declarators_by
  spelt_declarators_by false = spelt_front spelt_declarators
  spelt_declarators_by true = spelt_node _
      (spelt_perhaps (λ s. not (is_terminal terminal.Semicolon s)) {K = Any} (λ x e. tt)
      spelt_declarators) declared_made

  pub spelt_declaration : {behind : Look} (braces : Bool) →
      Spelt Any (declaration_by braces G) spelled_declaration left behind sharp
  unfolding declaration_by
  spelt_declaration braces = spelt_node _
      (spelt_then (spelt_specifiers (enumeration G braces) specifies_locally
      (spelt_enumeration braces))
      (λ front. spelt_closed (is_mark terminal.Semicolon) {S = listed spelled_declarator}
      (spelt_declarators_by (is_listed front.enumeration))))
      (λ parts. plainly (λ x. refl) (λ x y. refl))

  pub spelt_block_items :
      Spelt Any (block_items G) (in_order spelled_block_item) left careful careful
  spelt_block_items =
      spelt_many (λ s. not (is_terminal terminal.RightBrace s)) {K = Any} (λ x e. tt) g.item

  spelt_items : {behind : Look} → Spelt Any (items G)
      (λ made. in_order spelled_block_item made ++ mark terminal.RightBrace ∷
      []) left behind careful
  unfolding items
  spelt_items = spelt_closed (is_mark terminal.RightBrace) spelt_block_items

  spelt_condition : {behind : Look} → Spelt Any (condition G)
      (λ test. in_brackets (spelled_expression test)) left behind sharp
  unfolding condition
  spelt_condition = spelt_opened (is_mark terminal.LeftParen)
      (spelt_closed (is_mark terminal.RightParen) g.comma)

  spelt_optional : {behind : Look} (closer : Terminal) →
      Spelt Any (optional_before closer G) (closed closer) left behind sharp
  unfolding optional_before
  spelt_optional closer = spelt_closed (is_mark closer) (spelt_perhaps
      (λ s. not (is_terminal closer s)) {K = Any} (λ x e. tt) (spelt_sharp g.comma))

  spelt_for_start : {behind : Look} (local : Bool) →
      Spelt Any (for_start G local) spelled_start left behind sharp
  unfolding for_start
  spelt_for_start true =
      spelt_node _ (spelt_behind g.declaration) (λ made. plainly (λ x. refl) (λ x y. refl))
  spelt_for_start false = spelt_node _ (spelt_optional terminal.Semicolon)
      (λ made. plainly (λ x. refl) (λ x y. refl))

  spelt_behind_comma_at : (name : Option Name) (s : Symbol) →
      Spelt (Is s) (behind_comma_at G name s) behind_comma left careful sharp
  unfolding behind_comma_at
  spelt_behind_comma_at name (symbol.Terminal terminal.Semicolon) =
      spelt_node _ (spelt_one (symbol.Terminal terminal.Semicolon))
      (λ u. plainly (λ x. refl) (λ x y. refl))
  spelt_behind_comma_at (Some name) (symbol.Terminal terminal.Colon) =
      spelt_node _ (spelt_skip (symbol.Terminal terminal.Colon) g.statement)
      (λ body. plainly (λ x. refl) (λ x y. refl))
  spelt_behind_comma_at _ _ = spelt_nothing

  -- only a bare name is a label
  label_is : (w : ℕ → Leaf) (edge p : ℕ) (name : Option Name) (s : Symbol)
      (labeled : Name × Statement) (q : ℕ) →
      behind_comma_at G name s (plain_text w edge) left p (Some labeled) q → name ≡ Some labeled.0
  unfolding behind_comma_at
  label_is w edge p name (symbol.Terminal terminal.Semicolon) labeled q r =
      absurd (let clash : Some labeled ≡ None = r.made in cc)
  label_is w edge p (Some name) (symbol.Terminal terminal.Colon) labeled q r =
      ap (option_map (λ parts. parts.0)) (sym r.made)
  label_is w edge p _ _ labeled q r = absurd r.never

bare_layer : (x : Expression-F Expression Suffix) (name : Name) → name_layer x ≡ Some name →
    x ≡ Expression-F.Name name
bare_layer (Expression-F.Name found) name e = let same : Some found ≡ Some name = e in cc
bare_layer _ name e = absurd (let clash : None ≡ Some name = e in cc)

-- an expression that is a bare name is spelled so
bare_pieces : (made : Expression) (name : Name) → bare_name made ≡ Some name →
    spelled_expression made ≡ named name ∷ []
bare_pieces made name e =
    ap spelled_expression (sym (roll-out-Expression made)
    ∙ (ap roll-Expression (bare_layer (out-Expression made) name e) ∙ expression.rolls-Name name))
    ∙ equation.name_pieces name

module _ (G : Grammar) (left : ℕ) (g : SpeltGrammar G left) where
  labeled_made : (at : ℕ → Leaf) (edge p : ℕ) (parts : Expression × Option (Name × Statement))
      (q : ℕ) → Then (comma G)
      (λ made. Choice symbol_of (behind_comma_at G (bare_name made)))
      (plain_text at edge) left p parts q →
      Made labeled_or_not (λ parts. spelled_expression parts.0 ++ behind_comma parts.1)
      spelled_statement parts
  labeled_made at edge p (made, None) q r =
      at_place (λ x. equation.plain_pieces (Some made) x.place)
      (λ x y e. ap (node.Expression (Some made)) e)
  labeled_made at edge p (made, Some labeled) q r = plainly (λ x.
      equation.labeled_pieces labeled.0 labeled.1
      ∙ ap (λ list. list ++ mark terminal.Colon ∷ spelled_statement labeled.1)
      (sym (bare_pieces made labeled.0
      (label_is G left g at edge r.middle (bare_name made) _ labeled q r.second.chosen))))
      (λ x y. refl)

  spelt_statement_at : (s : Symbol) →
      Spelt (Is s) (statement_at G s) spelled_statement left careful sharp
  unfolding statement_at
  spelt_statement_at (symbol.Terminal terminal.LeftBrace) = spelt_node _
      (spelt_skip (symbol.Terminal terminal.LeftBrace) (spelt_items G left g))
      (λ made. at_place (λ x. equation.block_pieces made x.place) (λ x y e. ap (node.Block made) e))
  spelt_statement_at (symbol.Terminal terminal.Semicolon) = spelt_node _
      (spelt_one (symbol.Terminal terminal.Semicolon))
      (λ u. at_place (λ x. equation.plain_pieces None x.place)
      (λ x y e. ap (node.Expression None) e))
  spelt_statement_at (symbol.Terminal terminal.If) = spelt_node _
      (spelt_skip (symbol.Terminal terminal.If) (spelt_pair (spelt_condition G left g)
      (spelt_pair g.statement (spelt_nearest (is_terminal terminal.Else) (known_mark terminal.Else)
      (spelt_skip (symbol.Terminal terminal.Else) g.statement) (λ x y h e. h.other e)))))
      (λ parts. at_place (λ x. equation.if_pieces parts.0 parts.1.0 parts.1.1 x.place)
      (λ x y e. ap (node.If parts.0 parts.1.0 parts.1.1) e))
  spelt_statement_at (symbol.Terminal terminal.While) = spelt_node _
      (spelt_skip (symbol.Terminal terminal.While)
      (spelt_pair (spelt_condition G left g) g.statement))
      (λ parts. at_place (λ x. equation.while_pieces parts.0 parts.1 x.place)
      (λ x y e. ap (node.While parts.0 parts.1) e))
  spelt_statement_at (symbol.Terminal terminal.Do) = spelt_node _
      (spelt_skip (symbol.Terminal terminal.Do)
      (spelt_pair (spelt_closed (is_mark terminal.While) g.statement)
      (spelt_closed (is_mark terminal.Semicolon) (spelt_condition G left g {behind = sharp}))))
      (λ parts. at_place (λ x. equation.do_pieces parts.0 parts.1 x.place)
      (λ x y e. ap (node.Do parts.0 parts.1) e))
  spelt_statement_at (symbol.Terminal terminal.For) = spelt_node _
      (spelt_skip (symbol.Terminal terminal.For) (spelt_opened (is_mark terminal.LeftParen)
      (spelt_pair (spelt_choice specifies_locally
      (λ local. spelt_any _ (spelt_for_start G left g local)))
      (spelt_pair (spelt_optional G left g terminal.Semicolon)
      (spelt_pair (spelt_optional G left g terminal.RightParen) g.statement)))))
      (λ parts. at_place
      (λ x. equation.for_pieces parts.0 parts.1.0 parts.1.1.0 parts.1.1.1 x.place)
      (λ x y e. ap (node.For parts.0 parts.1.0 parts.1.1.0 parts.1.1.1) e))
  spelt_statement_at (symbol.Terminal terminal.Switch) = spelt_node _
      (spelt_skip (symbol.Terminal terminal.Switch)
      (spelt_pair (spelt_condition G left g) g.statement))
      (λ parts. at_place (λ x. equation.switch_pieces parts.0 parts.1 x.place)
      (λ x y e. ap (node.Switch parts.0 parts.1) e))
  spelt_statement_at (symbol.Terminal terminal.Case) = spelt_node _
      (spelt_skip (symbol.Terminal terminal.Case)
      (spelt_pair (spelt_closed (is_mark terminal.Colon) g.conditional) g.statement))
      (λ parts. at_place (λ x. equation.case_pieces parts.0 parts.1 x.place)
      (λ x y e. ap (node.Case parts.0 parts.1) e))
  spelt_statement_at (symbol.Terminal terminal.Default) = spelt_node _
      (spelt_skip (symbol.Terminal terminal.Default)
      (spelt_opened (is_mark terminal.Colon) g.statement))
      (λ body. at_place (λ x. equation.default_pieces body x.place)
      (λ x y e. ap (node.Default body) e))
  spelt_statement_at (symbol.Terminal terminal.Goto) = spelt_node _
      (spelt_skip (symbol.Terminal terminal.Goto)
      (spelt_closed (is_mark terminal.Semicolon) (spelt_identifier {behind = blind})))
      (λ label. at_place (λ x. equation.goto_pieces label x.place)
      (λ x y e. ap (node.Goto label) e))
  spelt_statement_at (symbol.Terminal terminal.Break) = spelt_node _
      (spelt_skip (symbol.Terminal terminal.Break) (spelt_such (is_mark terminal.Semicolon)))
      (λ u. at_place (λ x. equation.break_pieces x.place) (λ x y e. ap node.Break e))
  spelt_statement_at (symbol.Terminal terminal.Continue) = spelt_node _
      (spelt_skip (symbol.Terminal terminal.Continue) (spelt_such (is_mark terminal.Semicolon)))
      (λ u. at_place (λ x. equation.continue_pieces x.place) (λ x y e. ap node.Continue e))
  spelt_statement_at (symbol.Terminal terminal.Return) = spelt_node _
      (spelt_skip (symbol.Terminal terminal.Return) (spelt_closed (is_mark terminal.Semicolon)
      (spelt_perhaps (λ s. not (is_terminal terminal.Semicolon s)) {K = Any} (λ x e. tt)
      (spelt_comma G left g))))
      (λ value. at_place (λ x. equation.return_pieces value x.place)
      (λ x y e. ap (node.Return value) e))
  spelt_statement_at _ = spelt_any _ (spelt_node_read labeled_or_not
      (spelt_then (spelt_comma G left g) (λ made. spelt_front
      (spelt_choice (λ s. s) (spelt_behind_comma_at G left g (bare_name made)))))
      (λ at edge p parts q r. labeled_made at edge p parts q r))

  pub spelt_statement : Spelt Any (statement G) spelled_statement left careful sharp
  unfolding statement
  spelt_statement = spelt_choice (λ s. s) spelt_statement_at

  spelt_item_by : (local : Bool) → Spelt Any (item_by G local) spelled_block_item left careful sharp
  unfolding item_by
  spelt_item_by true = spelt_node _ (spelt_declaration G left g true)
      (λ made. plainly (λ x. equation.declared_pieces made) (λ x y. refl))
  spelt_item_by false = spelt_node _ spelt_statement
      (λ made. plainly (λ x. equation.stated_pieces made) (λ x y. refl))

  pub spelt_item : Spelt Any (item G) spelled_block_item left careful sharp
  unfolding item
  spelt_item = spelt_choice specifies_locally (λ local. spelt_any _ (spelt_item_by local))

-- an enumerator does not begin with the brace that ends a list
enumerator_first : (G : Grammar) (at : ℕ → Leaf) (edge left p : ℕ) (u : Enumerator) (q : ℕ) →
    enumerator G (plain_text at edge) left p u q → is_not terminal.RightBrace (at p) ≡ true
unfolding enumerator identifier
enumerator_first G at edge left p u q r =
    ap (λ s. not (is_terminal terminal.RightBrace s))
    (name_is (symbol_of (at p)) r.read.first.read.passes)

-- one level deeper
below : {T : Type 0} {A B : Form Leaf T} {S : T → List Piece} {n : ℕ} {behind front : Look} →
    ((w : World Leaf) (left p : ℕ) (u : T) (q : ℕ) → B w left p u q → A w left p u q) →
    ((w : World Leaf) (left p : ℕ) (u : T) (q : ℕ) → A w left p u q → B w left p u q) →
    Spelt Any A S n behind front → Spelt Any (Deeper B) S (suc n) behind front
below {A = A} {B} {S} {n} {behind} {front} to back c =
    let less : suc n - 1 ≡ n = omega arith in
    let deep = subst (λ m. Spelt Any A S m behind front) (sym less) c in
    record {
      pieces = λ {at} {edge} {p} {u} {q} k x.
          deep.pieces tt (to (plain_text at edge) (suc n - 1) p u q x.read);
      again = λ {at} {bt} {edge} {other} {p} {r} {u} {q} {s} k x y h. record {
        allowed = λ _. omega arith;
        read = back (plain_text bt other) (suc n - 1) r u s
            (deep.again tt (to (plain_text at edge) (suc n - 1) p u q x.read) y h);
      };
      first = λ {at} {bt} {edge} {p} {r} {u} {q} k x y h.
          deep.first tt (to (plain_text at edge) (suc n - 1) p u q x.read) y h;
    }

-- with no level below there is no part
none_below : {T : Type 0} {B : Form Leaf T} {S : T → List Piece} {behind front : Look} →
    ((w : World Leaf) (left p : ℕ) (u : T) (q : ℕ) → B w left p u q → ⊥) →
    Spelt Any (Deeper B) S zero behind front
none_below never = record {
  pieces = λ k x. absurd (never _ _ _ _ _ x.read);
  again = λ k x y h. absurd (never _ _ _ _ _ x.read);
  first = λ k x y h. absurd (never _ _ _ _ _ x.read);
}

pub spelt_grammar : (n : ℕ) → SpeltGrammar (grammar n) n
unfolding grammar
spelt_grammar zero = record {
  comma = none_below (λ w left p u q r. r.never);
  assignment = none_below (λ w left p u q r. r.never);
  conditional = none_below (λ w left p u q r. r.never);
  cast = none_below (λ w left p u q r. r.never);
  unary = none_below (λ w left p u q r. r.never);
  list = none_below (λ w left p u q r. r.never);
  enumerator = none_below (λ w left p u q r. r.never);
  declaration = none_below (λ w left p u q r. r.never);
  statement = none_below (λ w left p u q r. r.never);
  item = none_below (λ w left p u q r. r.never);
  room = λ r. absurd r.never;
  no_brace = λ at edge p u q r. absurd r.read.never;
}
spelt_grammar (suc n) = let g = spelt_grammar n in record {
  comma = below (λ w left p u q r. r) (λ w left p u q r. r) (spelt_comma (grammar n) n g);
  assignment = below (λ w left p u q r. r) (λ w left p u q r. r) (spelt_assignment (grammar n) n g);
  conditional = below (λ w left p u q r. r) (λ w left p u q r. r)
      (spelt_conditional (grammar n) n g);
  cast = below (λ w left p u q r. r) (λ w left p u q r. r) (spelt_cast (grammar n) n g);
  unary = below (λ w left p u q r. r) (λ w left p u q r. r) (spelt_unary (grammar n) n g);
  list = below (λ w left p u q r. r) (λ w left p u q r. r) (spelt_list (grammar n) n g);
  enumerator = below (λ w left p u q r. r) (λ w left p u q r. r) (spelt_enumerator (grammar n) n g);
  declaration = below (λ w left p u q r. r) (λ w left p u q r. r)
      (spelt_declaration (grammar n) n g false);
  statement = below (λ w left p u q r. r) (λ w left p u q r. r) (spelt_statement (grammar n) n g);
  item = below (λ w left p u q r. r) (λ w left p u q r. r) (spelt_item (grammar n) n g);
  room = λ r. omega arith;
  no_brace = λ at edge p u q r. enumerator_first (grammar n) at edge _ p u q r.read;
}
