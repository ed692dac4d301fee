-- Each form of expressions has one reading at a place, at each two depths: what errors behind a
-- part rest on.
use Rattle.std.specs.Prelude.{ℕ, Bool}
use Rattle.c_grammar_forms.specs.Forms.{Skip, Before, Node, Deeper, Perhaps, Nearest}
use Rattle.c_grammar_forms.specs.lemmas.Steady.{Steady, good_node, good_deeper, good_skip}
use Rattle.c_grammar_forms.specs.lemmas.Steady.{good_choice}
use Rattle.c_grammar_forms.specs.lemmas.Steady.{good_before, good_perhaps, good_nearest}
use Rattle.c_grammar_symbols.specs.declared.words.Terminal.{Terminal}
use Rattle.c_grammar_symbols.specs.declared.words.Terminal.TheVariants as terminal
use Rattle.c_grammar_symbols.specs.Symbols.{symbol_of}
use Rattle.c_grammar_symbols.specs.Sources.{is}
use Rattle.c_grammar_tree.specs.Parts.{is_not}
use Rattle.c_grammar_tree.specs.Expressions.{assignments, list_of, primary, any_suffix, type_name}
use Rattle.c_grammar_tree.specs.Expressions.{assignment, conditional, chain, operand, skipped_call}
use Rattle.c_grammar_tree.specs.Expressions.{opens_skipped}
use Rattle.c_grammar_tree.specs.Grammar.{grammar}
use Rattle.c_grammar_tree.specs.lemmas.OneReading.{good_assignments, good_primary_at}
use Rattle.c_grammar_tree.specs.lemmas.OneReading.{good_suffix_at}
use Rattle.c_grammar_tree.specs.lemmas.OneReading.{good_type_name, good_assignment}
use Rattle.c_grammar_tree.specs.lemmas.OneReading.{good_conditional}
use Rattle.c_grammar_tree.specs.lemmas.OneReading.{good_chain}
use Rattle.c_grammar_tree.specs.lemmas.OneReading.{good_operand, good_skipped_call}
use Rattle.c_grammar_tree.specs.lemmas.OneReadingOfText.{good_grammar}

pub steady_skip_assignment : Steady (λ n. Skip (Deeper ((grammar n).assignment)))
steady_skip_assignment =
    record { good = λ n m. good_skip (good_deeper ((good_grammar n m).assignment)) }

pub steady_skip_item : Steady (λ n. Skip (assignment (grammar n)))
steady_skip_item =
    record { good = λ n m. good_skip (good_assignment (grammar n) (grammar m) (good_grammar n m)) }

pub steady_assignment : Steady (λ n. assignment (grammar n))
steady_assignment =
    record { good = λ n m. good_assignment (grammar n) (grammar m) (good_grammar n m) }

pub steady_conditional : Steady (λ n. conditional (grammar n))
steady_conditional =
    record { good = λ n m. good_conditional (grammar n) (grammar m) (good_grammar n m) }

pub steady_chain : (k : ℕ) → Steady (λ n. chain k (grammar n))
steady_chain k = record { good = λ n m. good_chain (grammar n) (grammar m) (good_grammar n m) k }

pub steady_operand : (k : ℕ) → Steady (λ n. operand (chain k (grammar n)))
steady_operand k =
    record { good = λ n m. good_operand (good_chain (grammar n) (grammar m) (good_grammar n m) k) }

pub steady_primary : Steady (λ n. primary (grammar n))
steady_primary = record {
  good = λ n m. good_choice symbol_of
      (good_primary_at (grammar n) (grammar m) (good_grammar n m));
}

pub steady_suffix : Steady (λ n. any_suffix (grammar n))
steady_suffix = record {
  good = λ n m. good_choice symbol_of (good_suffix_at (grammar n) (grammar m)
      (good_grammar n m));
}

pub steady_skipped : (asserts : Bool) → Steady (λ n. Nearest (opens_skipped asserts) skipped_call)
steady_skipped asserts =
    record { good = λ n m. good_nearest (opens_skipped asserts) good_skipped_call }

pub steady_deeper_type_name : Steady (λ n. Deeper type_name)
steady_deeper_type_name = record { good = λ n m. good_deeper good_type_name }

-- a part and the terminal behind it
pub steady_closed_comma : (t : Terminal) → Steady (λ n. Before (Deeper ((grammar n).comma)) (is t))
steady_closed_comma t =
    record { good = λ n m. good_before (good_deeper ((good_grammar n m).comma)) (is t) }

pub steady_closed_type_name : (t : Terminal) → Steady (λ n. Before (Deeper type_name) (is t))
steady_closed_type_name t = record { good = λ n m. good_before (good_deeper good_type_name) (is t) }

-- the arguments of a call, or none
pub steady_assignments : Steady (λ n. Node list_of
    (Perhaps (is_not terminal.RightParen) (assignments (grammar n))))
steady_assignments = record {
  good = λ n m. good_node list_of (good_perhaps (is_not terminal.RightParen)
      (good_assignments (grammar n) (grammar m) (good_grammar n m)));
}
