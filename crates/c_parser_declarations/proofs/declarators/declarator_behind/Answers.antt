-- Brackets or none, attributes, an initializer or none.
use Rattle.std.proofs.Common.{refl, arith, is_some}
use Rattle.c_grammar_forms.specs.Forms.{Skip, Perhaps}
use Rattle.c_grammar_forms.specs.lemmas.Found.{reads_node, reads_pair, reads_then}
use Rattle.c_grammar_forms.specs.lemmas.NotFound.{none_node, none_then_first, none_then, none_first}
use Rattle.c_grammar_forms.specs.lemmas.NotFound.{none_second}
use Rattle.c_grammar_forms.specs.lemmas.Exits.{at_exit}
use Rattle.c_grammar_tree.specs.declared.TheConstants.{MAX_LEVEL}
use Rattle.c_grammar_tree.specs.Grammar.{grammar}
use Rattle.c_grammar_tree.specs.Parts.{is_initializing}
use Rattle.c_grammar_tree.specs.Declarations.{attributes, array_part, initializer_of}
use Rattle.c_grammar_tree.specs.Declarations.{declarator_rest}
use Rattle.c_parser_declarations.proofs.Steadies.{steady_array, steady_array_part}
use Rattle.c_parser_declarations.proofs.declarators.declarator_behind.Goals as goal

pub returns-in_err-array : goal.returns-in_err-array
unfolding declarator_rest array_part
returns-in_err-array c =
    at_exit MAX_LEVEL _ _ c.from_residual.ensures.1 c.in_err-array.ensures
    (λ i g. none_node _ (none_node _ (none_then_first
    (λ n front. Perhaps is_initializing (Skip (initializer_of (grammar n) (is_some front.0))))
    (none_first (λ n. attributes) g))))

pub returns-in_err-mark : goal.returns-in_err-mark
unfolding declarator_rest array_part
returns-in_err-mark c =
    at_exit MAX_LEVEL _ _ c.from_residual-in_err-mark.ensures.1 (c.in_err-mark.ensures c.args.left)
    (λ i g. none_node _ (none_node _ (none_then_first
    (λ n front. Perhaps is_initializing (Skip (initializer_of (grammar n) (is_some front.0))))
    (none_second steady_array c.in_ok-array.ensures g))))

pub returns-in_err-initializer : goal.returns-in_err-initializer
unfolding declarator_rest array_part
returns-in_err-initializer c =
    let front = reads_pair c.in_ok-array.ensures (c.in_ok-mark.ensures c.args.left) in
    at_exit MAX_LEVEL _ _ c.from_residual-in_err-initializer.ensures.1
    (rw c.is_some-is_array.ensures at c.in_err-initializer.ensures)
    (λ i g. none_node _ (none_node _ (none_then (λ n front. Perhaps is_initializing
    (Skip (initializer_of (grammar n) (is_some front.0))))
    steady_array_part front g)))

pub returns : goal.returns
unfolding declarator_rest array_part
returns c =
    let front = reads_pair c.in_ok-array.ensures (c.in_ok-mark.ensures c.args.left) in
    reads_node _ refl (reads_node _ refl
    (reads_then (λ n front. Perhaps is_initializing
    (Skip (initializer_of (grammar n) (is_some front.0)))) front
    (rw c.is_some-is_array.ensures at c.in_ok-initializer.ensures)))

pub optional_initializer-requires-clause-within : goal.optional_initializer-requires-clause-within
optional_initializer-requires-clause-within c = (c.in_ok-mark.ensures 0).within

pub optional_initializer-requires-clause-room : goal.optional_initializer-requires-clause-room
optional_initializer-requires-clause-room c =
    omega (arith, c.requires.room, c.in_ok-array.ensures.onward, (c.in_ok-mark.ensures 0).onward)
