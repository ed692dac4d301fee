-- Each form of declarations has one reading, at each two depths.
use Rattle.std.specs.Prelude.{Bool, true}
use Rattle.c_grammar_forms.specs.Forms.{Skip, Deeper, Perhaps}
use Rattle.c_grammar_forms.specs.lemmas.Steady.{Steady, good_deeper, good_skip, good_many}
use Rattle.c_grammar_forms.specs.lemmas.Steady.{good_perhaps}
use Rattle.c_grammar_symbols.specs.declared.words.Terminal.TheVariants as terminal
use Rattle.c_grammar_symbols.specs.Symbols.{Leaf}
use Rattle.c_grammar_symbols.specs.Sources.{is}
use Rattle.c_grammar_tree.specs.Grammar.{grammar}
use Rattle.c_grammar_tree.specs.Declarations.{identifier, keywords, specifiers, array, array_part}
use Rattle.c_grammar_tree.specs.Declarations.{enumerators, enumeration, declarator}
use Rattle.c_grammar_tree.specs.Declarations.{declarators_by}
use Rattle.c_grammar_tree.specs.lemmas.OneReadingOfText.{good_grammar, good_identifier}
use Rattle.c_grammar_tree.specs.lemmas.OneReadingOfText.{good_keywords}
use Rattle.c_grammar_tree.specs.lemmas.OneReadingOfText.{good_specifiers, good_enumerators}
use Rattle.c_grammar_tree.specs.lemmas.OneReadingOfText.{good_enumeration, good_declarators_by}
use Rattle.c_grammar_tree.specs.lemmas.OneReadingOfText.{good_element, good_array, good_array_part}
use Rattle.c_grammar_tree.specs.lemmas.OneReadingOfText.{good_declarator}
use Rattle.c_parser_declarations.specs.Forms.{listed_value, elements, listed_enumerator}
use Rattle.c_parser_declarations.specs.Forms.{optional_length}

pub steady_value : Steady (λ n. Deeper ((grammar n).assignment))
steady_value = record { good = λ n m. good_deeper ((good_grammar n m).assignment) }

pub steady_element : Steady (λ n. listed_value (grammar n))
steady_element =
    record { good = λ n m. good_element (good_deeper ((good_grammar n m).assignment)) }

pub steady_inner_enumerator : Steady (λ n. Deeper ((grammar n).enumerator))
steady_inner_enumerator = record { good = λ n m. good_deeper ((good_grammar n m).enumerator) }

pub steady_enumerator : Steady (λ n. listed_enumerator (grammar n))
steady_enumerator =
    record { good = λ n m. good_element (good_deeper ((good_grammar n m).enumerator)) }

pub steady_enumerators : Steady (λ n. enumerators (grammar n))
steady_enumerators =
    record { good = λ n m. good_enumerators (grammar n) (grammar m) (good_grammar n m) }

pub steady_enumeration : Steady (λ n. enumeration (grammar n) true)
steady_enumeration =
    record { good = λ n m. good_enumeration (grammar n) (grammar m) (good_grammar n m) true }

pub steady_elements : Steady (λ n. elements (grammar n))
steady_elements =
    record {
      good = λ n m. good_many _ (good_element (good_deeper ((good_grammar n m).assignment)));
    }

pub steady_length : Steady (λ n. optional_length (grammar n))
steady_length =
    record { good = λ n m. good_perhaps _ (good_deeper ((good_grammar n m).conditional)) }

pub steady_array : Steady (λ n. Perhaps (is terminal.LeftBracket) (array (grammar n)))
steady_array =
    record { good = λ n m. good_perhaps _ (good_array (grammar n) (grammar m) (good_grammar n m)) }

pub steady_array_part : Steady (λ n. array_part (grammar n))
steady_array_part =
    record { good = λ n m. good_array_part (grammar n) (grammar m) (good_grammar n m) }

pub steady_identifier : Steady (λ n. identifier)
steady_identifier = record { good = λ n m. good_identifier }

pub steady_keywords : (goes : Leaf → Bool) → Steady (λ n. keywords goes)
steady_keywords goes = record { good = λ n m. good_keywords goes }

pub steady_specifiers : (goes : Leaf → Bool) (braces : Bool) →
    Steady (λ n. specifiers (enumeration (grammar n) braces) goes)
steady_specifiers goes braces = record {
  good = λ n m. good_specifiers
      (good_enumeration (grammar n) (grammar m) (good_grammar n m) braces) goes;
}

pub steady_declarator : Steady (λ n. declarator (grammar n))
steady_declarator =
    record { good = λ n m. good_declarator (grammar n) (grammar m) (good_grammar n m) }

pub steady_next_declarator : Steady (λ n. Skip (declarator (grammar n)))
steady_next_declarator =
    record { good = λ n m. good_skip (good_declarator (grammar n) (grammar m) (good_grammar n m)) }

pub steady_declarators : (free : Bool) → Steady (λ n. declarators_by (grammar n) free)
steady_declarators free =
    record { good = λ n m. good_declarators_by (grammar n) (grammar m) (good_grammar n m) free }
