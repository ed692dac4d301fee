-- An item has a token at least.
use Rattle.std.specs.Prelude.{ℕ, ◌<◌, Bool, true}
use Rattle.c_grammar_forms.specs.Reading.{Reads}
use Rattle.c_grammar_forms.specs.lemmas.Steady.{good_choice, good_pair, good_before}
use Rattle.c_grammar_forms.specs.lemmas.Loops.{Strict, strict_one, strict_such, strict_node}
use Rattle.c_grammar_forms.specs.lemmas.Loops.{strict_choice, strict_skip}
use Rattle.c_grammar_symbols.specs.declared.words.Terminal.TheVariants as terminal
use Rattle.c_grammar_symbols.specs.declared.symbol.Symbol.{Symbol}
use Rattle.c_grammar_symbols.specs.declared.symbol.Symbol.TheVariants as symbol
use Rattle.c_grammar_symbols.specs.Symbols.{Leaf, symbol_of}
use Rattle.c_grammar_tree.specs.declared.item.Item.{Item}
use Rattle.c_grammar_tree.specs.Parts.{is_name, is_listed}
use Rattle.c_grammar_tree.specs.Nested.{Grammar}
use Rattle.c_grammar_tree.specs.Grammar.{grammar}
use Rattle.c_grammar_tree.specs.Declarations.{identifier}
use Rattle.c_grammar_tree.specs.Items.{declared_at, unit_item_at, unit_item}
use Rattle.c_grammar_tree.specs.lemmas.OneReading.{GoodGrammar}
use Rattle.c_grammar_tree.specs.lemmas.OneReadingOfText.{good_grammar, good_specifiers}
use Rattle.c_grammar_tree.specs.lemmas.OneReadingOfText.{good_named_at}
use Rattle.c_grammar_tree.specs.lemmas.OneReadingOfText.{good_typedef_names, good_enumeration}
use Rattle.c_parser_declarations.specs.lemmas.Readers.{strict_then_first, strict_then_second}

module _ (G : Grammar) (g : GoodGrammar G G) where
  strict_declared_at : (braces : Bool) (s : Symbol) → Strict (declared_at G braces s)
  unfolding declared_at identifier
  strict_declared_at braces (symbol.Terminal terminal.Semicolon) = strict_node _ strict_one
  strict_declared_at braces symbol.Name =
      strict_node _ (strict_then_first (strict_node _ (strict_such is_name))
      (λ name. good_choice symbol_of (good_named_at G G g braces name)))
  strict_declared_at braces _ = record { ahead = λ r. absurd r.never }

  strict_unit_item_at : (s : Symbol) → Strict (unit_item_at G s)
  unfolding unit_item_at
  strict_unit_item_at (symbol.Terminal terminal.Semicolon) = strict_node _ strict_one
  strict_unit_item_at (symbol.Terminal terminal.Typedef) =
      strict_node _ (strict_skip (good_pair (good_specifiers (good_enumeration G G g true) _)
      (good_before good_typedef_names _)))
  strict_unit_item_at _ =
      strict_node _ (strict_then_second (good_specifiers (good_enumeration G G g true) _)
      (λ front. strict_choice symbol_of (strict_declared_at (is_listed front.enumeration))))

pub unit_item_ahead : {at : ℕ → Leaf} {size left p : ℕ} {u : Item} {q : ℕ} →
    Reads (λ n. unit_item (grammar n)) at size left p u q → p < q
unfolding unit_item
unit_item_ahead {left = left} r =
    (strict_choice symbol_of (strict_unit_item_at (grammar left) (good_grammar left left))).ahead
    (r.reading 0)
