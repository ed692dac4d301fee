-- Each form of statements has one reading, at each two depths.
use Rattle.c_grammar_forms.specs.Forms.{Before, Deeper, Choice}
use Rattle.c_grammar_forms.specs.lemmas.Steady.{Steady, good_deeper, good_behind, good_before}
use Rattle.c_grammar_forms.specs.lemmas.Steady.{good_pair}
use Rattle.c_grammar_forms.specs.lemmas.Steady.{good_choice, good_perhaps, good_many}
use Rattle.c_grammar_symbols.specs.declared.words.Terminal.{Terminal}
use Rattle.c_grammar_symbols.specs.declared.words.Terminal.TheVariants as terminal
use Rattle.c_grammar_symbols.specs.Sources.{is}
use Rattle.c_grammar_tree.specs.Grammar.{grammar}
use Rattle.c_grammar_tree.specs.Parts.{is_local_specifier}
use Rattle.c_grammar_tree.specs.Expressions.{comma}
use Rattle.c_grammar_tree.specs.Declarations.{identifier}
use Rattle.c_grammar_tree.specs.Statements.{block_items, condition, optional, for_start}
use Rattle.c_grammar_tree.specs.lemmas.OneReading.{good_comma}
use Rattle.c_grammar_tree.specs.lemmas.OneReadingOfText.{good_grammar, good_identifier}
use Rattle.c_grammar_tree.specs.lemmas.OneReadingOfText.{good_condition}
use Rattle.c_grammar_tree.specs.lemmas.OneReadingOfText.{good_optional, good_for_start}
use Rattle.c_parser_statements.specs.Forms.{optional_comma, optional_value, case_value}
use Rattle.c_parser_statements.specs.Forms.{for_head}

pub steady_identifier : Steady (λ n. identifier)
steady_identifier = record { good = λ n m. good_identifier }

pub steady_comma : Steady (λ n. comma (grammar n))
steady_comma = record { good = λ n m. good_comma (grammar n) (grammar m) (good_grammar n m) }

pub steady_test : Steady (λ n. Deeper ((grammar n).comma))
steady_test = record { good = λ n m. good_deeper ((good_grammar n m).comma) }

pub steady_condition : Steady (λ n. condition (grammar n))
steady_condition =
    record { good = λ n m. good_condition (grammar n) (grammar m) (good_grammar n m) }

pub steady_optional : (closer : Terminal) → Steady (λ n. optional closer (grammar n))
steady_optional closer =
    record { good = λ n m. good_optional (grammar n) (grammar m) (good_grammar n m) closer }

pub steady_optional_comma : (closer : Terminal) → Steady (λ n. optional_comma closer (grammar n))
steady_optional_comma closer =
    record { good = λ n m. good_perhaps _ (good_deeper ((good_grammar n m).comma)) }

pub steady_optional_value : Steady (λ n. optional_value (grammar n))
steady_optional_value =
    record { good = λ n m. good_perhaps _ (good_comma (grammar n) (grammar m) (good_grammar n m)) }

pub steady_start : Steady (λ n. Choice is_local_specifier (for_start (grammar n)))
steady_start = record {
  good = λ n m. good_choice is_local_specifier
      (good_for_start (grammar n) (grammar m) (good_grammar n m));
}

pub steady_case_value : Steady (λ n. case_value (grammar n))
steady_case_value = record {
  good = λ n m. good_before (good_deeper ((good_grammar n m).conditional)) (is terminal.Colon);
}

pub steady_conditional : Steady (λ n. Deeper ((grammar n).conditional))
steady_conditional = record { good = λ n m. good_deeper ((good_grammar n m).conditional) }

pub steady_inner : Steady (λ n. Deeper ((grammar n).statement))
steady_inner = record { good = λ n m. good_deeper ((good_grammar n m).statement) }

pub steady_closed : (t : Terminal) → Steady (λ n. Before (Deeper ((grammar n).statement)) (is t))
steady_closed t =
    record { good = λ n m. good_before (good_deeper ((good_grammar n m).statement)) (is t) }

pub steady_item : Steady (λ n. Deeper ((grammar n).item))
steady_item = record { good = λ n m. good_deeper ((good_grammar n m).item) }

pub steady_items : Steady (λ n. block_items (grammar n))
steady_items = record { good = λ n m. good_many _ (good_deeper ((good_grammar n m).item)) }

pub steady_head : Steady (λ n. for_head (grammar n))
steady_head = record {
  good = λ n m. good_behind (is terminal.LeftParen)
      (good_pair (good_choice is_local_specifier (good_for_start (grammar n) (grammar m)
      (good_grammar n m)))
      (good_pair (good_optional (grammar n) (grammar m) (good_grammar n m) terminal.Semicolon)
      (good_optional (grammar n) (grammar m) (good_grammar n m) terminal.RightParen)));
}
