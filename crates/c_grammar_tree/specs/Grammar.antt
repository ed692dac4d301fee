-- The grammar as a whole (C11 6.9), and the tree of a text.
use Rattle.std.specs.Prelude.{◌≡◌, ℕ, ◌-◌, zero, suc, List, length}
use Rattle.c_grammar_forms.specs.Forms.{World, Nothing, greedy_text}
use Rattle.c_grammar_forms.specs.Reading.{Begins}
use Rattle.c_lexer.specs.declared.token.Token.{Token}
use Rattle.c_grammar_symbols.specs.Symbols.{Leaf, leaves}
use Rattle.c_grammar_symbols.specs.Sources.{leaf_at}
use Rattle.c_grammar_tree.specs.declared.item.Item.{Item}
use Rattle.c_grammar_tree.specs.declared.item.Unit.{Unit as UnitTree}
use Rattle.c_grammar_tree.specs.declared.TheConstants.{MAX_LEVEL}
use Rattle.c_grammar_tree.specs.Nested.{Grammar}
use Rattle.c_grammar_tree.specs.Expressions.{comma, assignment, conditional, cast, unary}
use Rattle.c_grammar_tree.specs.Declarations.{list, enumerator, declaration}
use Rattle.c_grammar_tree.specs.Statements.{statement, item}
use Rattle.c_grammar_tree.specs.Items.{unit_items}

-- the grammar with so many levels below: with none there is no part that is nested
unfoldable pub grammar : ℕ → Grammar
grammar zero = record {
  comma = Nothing;
  assignment = Nothing;
  conditional = Nothing;
  cast = Nothing;
  unary = Nothing;
  list = Nothing;
  enumerator = Nothing;
  declaration = Nothing;
  statement = Nothing;
  item = Nothing;
}
grammar (suc n) = record {
  comma = comma (grammar n);
  assignment = assignment (grammar n);
  conditional = conditional (grammar n);
  cast = cast (grammar n);
  unary = unary (grammar n);
  list = list (grammar n);
  enumerator = enumerator (grammar n);
  declaration = declaration (grammar n);
  statement = statement (grammar n);
  item = item (grammar n);
}

-- u is a tree of the grammar whose leaves are the tokens, in which every part has a level of at
-- most MAX_LEVEL: an item's parts have level 1, so that one less stand below. It has the text's
-- length. A reading is asked for each edge: with this depth the limit holds at each of them, and so
-- the text agrees through each token
pub record Tree (text : List ℕ) (tokens : List Token) (u : UnitTree) : Type 0 where
  pub reading : (edge : ℕ) → unit_items (grammar (MAX_LEVEL - 1))
      (greedy_text (leaf_at (leaves text tokens)) edge)
      (MAX_LEVEL - 1) 0 u.items (length tokens)
  pub length_is : u.length ≡ length text

-- some text that begins with these tokens up to i has a tree in which no part that begins at one of
-- them has a level above MAX_LEVEL. It is any row of tokens, also one that no list and no text has,
-- so that "it does not agree" says more; behind token i the limit is not looked at, and the depth
-- alone bounds there
pub record AgreesThrough (text : List ℕ) (tokens : List Token) (i : ℕ) : Type 0 where
  pub depth : ℕ
  pub other : World Leaf
  pub begins : Begins (leaf_at (leaves text tokens)) i other
  pub items : List Item
  pub end : ℕ
  pub reading : unit_items (grammar depth) other (MAX_LEVEL - 1) 0 items end
