-- Each form of items has one reading, at each two depths.
use Rattle.std.specs.Prelude.{Bool, true}
use Rattle.c_grammar_forms.specs.Forms.{Pair}
use Rattle.c_grammar_forms.specs.lemmas.Steady.{Steady, good_pair}
use Rattle.c_grammar_symbols.specs.Symbols.{Leaf}
use Rattle.c_grammar_tree.specs.Declarations.{identifier, enumeration, specifiers, declarator_rest}
use Rattle.c_grammar_tree.specs.Declarations.{more_declarators}
use Rattle.c_grammar_tree.specs.Items.{function_rest, typedef_names, unit_item}
use Rattle.c_grammar_tree.specs.Grammar.{grammar}
use Rattle.c_grammar_tree.specs.lemmas.OneReadingOfText.{good_grammar, good_identifier}
use Rattle.c_grammar_tree.specs.lemmas.OneReadingOfText.{good_specifiers}
use Rattle.c_grammar_tree.specs.lemmas.OneReadingOfText.{good_function_rest, good_declarator_rest}
use Rattle.c_grammar_tree.specs.lemmas.OneReadingOfText.{good_more_declarators, good_unit_item}
use Rattle.c_grammar_tree.specs.lemmas.OneReadingOfText.{good_typedef_names, good_enumeration}

pub steady_identifier : Steady (λ n. identifier)
steady_identifier = record { good = λ n m. good_identifier }

pub steady_specifiers : (goes : Leaf → Bool) →
    Steady (λ n. specifiers (enumeration (grammar n) true) goes)
steady_specifiers goes = record {
  good = λ n m. good_specifiers
      (good_enumeration (grammar n) (grammar m) (good_grammar n m) true) goes;
}

pub steady_typedef_names : Steady (λ n. typedef_names)
steady_typedef_names = record { good = λ n m. good_typedef_names }

pub steady_function_rest : Steady (λ n. function_rest)
steady_function_rest = record { good = λ n m. good_function_rest }

pub steady_rest : Steady (λ n. declarator_rest (grammar n))
steady_rest =
    record { good = λ n m. good_declarator_rest (grammar n) (grammar m) (good_grammar n m) }

pub steady_both : Steady (λ n. Pair (declarator_rest (grammar n)) (more_declarators (grammar n)))
steady_both = record {
  good = λ n m. good_pair (good_declarator_rest (grammar n) (grammar m) (good_grammar n m))
      (good_more_declarators (grammar n) (grammar m) (good_grammar n m));
}

pub steady_unit_item : Steady (λ n. unit_item (grammar n))
steady_unit_item =
    record { good = λ n m. good_unit_item (grammar n) (grammar m) (good_grammar n m) }
