-- What stands in a block has a token at least.
use Rattle.std.specs.Prelude.{ℕ, zero, suc, ◌<◌, Bool, true, false, Option, Some}
use Rattle.c_grammar_forms.specs.Forms.{Deeper}
use Rattle.c_grammar_forms.specs.Reading.{Reads}
use Rattle.c_grammar_forms.specs.lemmas.Steady.{good_such, good_behind, good_before, good_pair}
use Rattle.c_grammar_forms.specs.lemmas.Steady.{good_deeper, good_choice, good_perhaps}
use Rattle.c_grammar_forms.specs.lemmas.Steady.{good_nearest}
use Rattle.c_grammar_forms.specs.lemmas.Steady.{good_skip}
use Rattle.c_grammar_forms.specs.lemmas.Loops.{Strict, strict_one, strict_skip, strict_before}
use Rattle.c_grammar_forms.specs.lemmas.Loops.{strict_node, strict_choice}
use Rattle.c_grammar_symbols.specs.declared.words.Terminal.TheVariants as terminal
use Rattle.c_grammar_symbols.specs.declared.symbol.Symbol.{Symbol}
use Rattle.c_grammar_symbols.specs.declared.symbol.Symbol.TheVariants as symbol
use Rattle.c_grammar_symbols.specs.Symbols.{Leaf, symbol_of}
use Rattle.c_grammar_tree.specs.declared.name.Name.{Name}
use Rattle.c_grammar_tree.specs.declared.statement.BlockItem.{BlockItem}
use Rattle.c_grammar_tree.specs.Parts.{bare_name, is_local_specifier, is_listed}
use Rattle.c_grammar_tree.specs.Nested.{Grammar}
use Rattle.c_grammar_tree.specs.Grammar.{grammar}
use Rattle.c_grammar_tree.specs.Declarations.{declaration_by}
use Rattle.c_grammar_tree.specs.Statements.{behind_comma_at, statement_at, statement, item_by, item}
use Rattle.c_grammar_tree.specs.lemmas.OneReading.{GoodGrammar, good_comma}
use Rattle.c_grammar_tree.specs.lemmas.OneReadingOfText.{good_grammar, good_identifier}
use Rattle.c_grammar_tree.specs.lemmas.OneReadingOfText.{good_specifiers}
use Rattle.c_grammar_tree.specs.lemmas.OneReadingOfText.{good_enumeration, good_declarators_by}
use Rattle.c_grammar_tree.specs.lemmas.OneReadingOfText.{good_items}
use Rattle.c_grammar_tree.specs.lemmas.OneReadingOfText.{good_condition, good_optional}
use Rattle.c_grammar_tree.specs.lemmas.OneReadingOfText.{good_for_start}
use Rattle.c_parser_declarations.specs.lemmas.Readers.{strict_then_second}

module _ (G : Grammar) (g : GoodGrammar G G) where
  strict_behind_comma_at : (name : Option Name) (s : Symbol) → Strict (behind_comma_at G name s)
  unfolding behind_comma_at
  strict_behind_comma_at name (symbol.Terminal terminal.Semicolon) = strict_node _ strict_one
  strict_behind_comma_at (Some name) (symbol.Terminal terminal.Colon) =
      strict_node _ (strict_skip (good_deeper g.statement))
  strict_behind_comma_at _ _ = record { ahead = λ r. absurd r.never }

  strict_statement_at : (s : Symbol) → Strict (statement_at G s)
  unfolding statement_at
  strict_statement_at (symbol.Terminal terminal.LeftBrace) =
      strict_node _ (strict_skip (good_items G G g))
  strict_statement_at (symbol.Terminal terminal.Semicolon) = strict_node _ strict_one
  strict_statement_at (symbol.Terminal terminal.If) =
      strict_node _ (strict_skip (good_pair (good_condition G G g)
      (good_pair (good_deeper g.statement) (good_nearest _ (good_skip (good_deeper g.statement))))))
  strict_statement_at (symbol.Terminal terminal.While) =
      strict_node _ (strict_skip (good_pair (good_condition G G g) (good_deeper g.statement)))
  strict_statement_at (symbol.Terminal terminal.Do) =
      strict_node _ (strict_skip (good_pair (good_before (good_deeper g.statement) _)
      (good_before (good_condition G G g) _)))
  strict_statement_at (symbol.Terminal terminal.For) =
      strict_node _ (strict_skip (good_behind _ (good_pair
      (good_choice is_local_specifier (good_for_start G G g))
      (good_pair (good_optional G G g terminal.Semicolon)
      (good_pair (good_optional G G g terminal.RightParen) (good_deeper g.statement))))))
  strict_statement_at (symbol.Terminal terminal.Switch) =
      strict_node _ (strict_skip (good_pair (good_condition G G g) (good_deeper g.statement)))
  strict_statement_at (symbol.Terminal terminal.Case) =
      strict_node _ (strict_skip (good_pair (good_before (good_deeper g.conditional) _)
      (good_deeper g.statement)))
  strict_statement_at (symbol.Terminal terminal.Default) =
      strict_node _ (strict_skip (good_behind _ (good_deeper g.statement)))
  strict_statement_at (symbol.Terminal terminal.Goto) =
      strict_node _ (strict_skip (good_before good_identifier _))
  strict_statement_at (symbol.Terminal terminal.Break) = strict_node _ (strict_skip (good_such _))
  strict_statement_at (symbol.Terminal terminal.Continue) =
      strict_node _ (strict_skip (good_such _))
  strict_statement_at (symbol.Terminal terminal.Return) =
      strict_node _ (strict_skip (good_before (good_perhaps _ (good_comma G G g)) _))
  strict_statement_at _ = strict_node _ (strict_then_second (good_comma G G g)
      (λ made. strict_choice symbol_of (strict_behind_comma_at (bare_name made))))

  strict_item_by : (local : Bool) → Strict (item_by G local)
  unfolding item_by declaration_by statement
  strict_item_by true = strict_node _ (strict_node _ (strict_then_second
      (good_specifiers (good_enumeration G G g true) _)
      (λ front. strict_before _ (good_declarators_by G G g (is_listed front.enumeration)))))
  strict_item_by false = strict_node _ (strict_choice symbol_of strict_statement_at)

-- the same one level deeper
strict_deeper : (n : ℕ) → Strict (Deeper ((grammar n).item))
unfolding grammar item
strict_deeper zero = record { ahead = λ r. absurd r.read.never }
strict_deeper (suc n) =
    record {
      ahead = λ r. (strict_choice is_local_specifier
          (strict_item_by (grammar n) (good_grammar n n))).ahead r.read;
    }

pub item_ahead : {at : ℕ → Leaf} {size left p : ℕ} {u : BlockItem} {q : ℕ} →
    Reads (λ n. Deeper ((grammar n).item)) at size left p u q → p < q
item_ahead {left = left} r = (strict_deeper left).ahead (r.reading 0)
