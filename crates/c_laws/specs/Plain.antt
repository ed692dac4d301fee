-- The trees of a text, and through which tokens it agrees, by the grammar written plainly (C11 6.5,
-- 6.7, 6.8, 6.9), without a rule on where lists and options end.
use Rattle.std.specs.Prelude.{◌≡◌, ℕ, ◌≤◌, ◌-◌, false, List, length}
use Rattle.c_grammar_forms.specs.Forms.{World}
use Rattle.c_lexer.specs.declared.token.Token.{Token}
use Rattle.c_grammar_symbols.specs.Symbols.{Leaf, leaves}
use Rattle.c_grammar_symbols.specs.Sources.{leaf_at}
use Rattle.c_grammar_tree.specs.declared.item.Item.{Item}
use Rattle.c_grammar_tree.specs.declared.item.Unit.{Unit as UnitTree}
use Rattle.c_grammar_tree.specs.declared.TheConstants.{MAX_LEVEL}
use Rattle.c_grammar_tree.specs.Grammar.{grammar}
use Rattle.c_grammar_tree.specs.Items.{unit_items}

-- the text with these tokens, in which a list or an option may end anywhere
abbrev pub plain_text : {Token : Type 0} → (ℕ → Token) → ℕ → World Token
plain_text at edge = record { at = at; edge = edge; greedy = false }

-- u is a tree as `Tree` of c_grammar_tree says, but for this. An else, and the brackets behind the
-- name __assert_fail, belong to what stands before them here too: that is the grammar's own rule
pub record PlainTree (text : List ℕ) (tokens : List Token) (u : UnitTree) : Type 0 where
  pub reading : (edge : ℕ) →
      unit_items (grammar (MAX_LEVEL - 1)) (plain_text (leaf_at (leaves text tokens)) edge)
      (MAX_LEVEL - 1) 0 u.items (length tokens)
  pub length_is : u.length ≡ length text

-- some row of tokens that begins with these up to i has a tree by the grammar written plainly, in
-- which no part that begins at one of them has a level above MAX_LEVEL (C11 6.9, and this project's
-- limit). `AgreesThrough` of c_grammar_tree says it where lists and options end as a reader ends
-- them: that both say the same makes the place of a fault a matter of the language alone
pub record PlainAgreesThrough (text : List ℕ) (tokens : List Token) (i : ℕ) : Type 0 where
  pub depth : ℕ
  pub row : ℕ → Leaf
  pub begins : (j : ℕ) → j ≤ i → row j ≡ leaf_at (leaves text tokens) j
  pub items : List Item
  pub end : ℕ
  pub reading : unit_items (grammar depth) (plain_text row i) (MAX_LEVEL - 1) 0 items end
