-- A name, and its value.
use Rattle.std.proofs.Common.{refl, arith}
use Rattle.c_grammar_forms.specs.Forms.{Skip, Deeper, Perhaps}
use Rattle.c_grammar_forms.specs.lemmas.Found.{reads_node, reads_pair}
use Rattle.c_grammar_forms.specs.lemmas.NotFound.{none_node, none_first, none_second}
use Rattle.c_grammar_forms.specs.lemmas.Exits.{at_exit}
use Rattle.c_grammar_tree.specs.declared.TheConstants.{MAX_LEVEL}
use Rattle.c_grammar_tree.specs.Grammar.{grammar}
use Rattle.c_grammar_tree.specs.Parts.{is_initializing}
use Rattle.c_grammar_tree.specs.Declarations.{enumerator}
use Rattle.c_parser_declarations.proofs.Steadies.{steady_identifier}
use Rattle.c_parser_declarations.proofs.enumerations.enumerator.Goals as goal

pub returns-in_err-name : goal.returns-in_err-name
unfolding enumerator
returns-in_err-name c =
    at_exit MAX_LEVEL _ _ c.from_residual.ensures.1 (c.in_err-name.ensures c.args.left)
    (λ i g. none_node _ (none_first
    (λ n. Perhaps is_initializing (Skip (Deeper ((grammar n).conditional)))) g))

pub optional_value-requires-clause-within : goal.optional_value-requires-clause-within
optional_value-requires-clause-within c = (c.in_ok-name.ensures 0).within

pub optional_value-requires-clause-room : goal.optional_value-requires-clause-room
optional_value-requires-clause-room c =
    omega (arith, c.requires.room, (c.in_ok-name.ensures 0).onward)

pub returns-in_err-value : goal.returns-in_err-value
unfolding enumerator
returns-in_err-value c =
    at_exit MAX_LEVEL _ _ c.from_residual-in_err-value.ensures.1 c.in_err-value.ensures
    (λ i g. none_node _ (none_second steady_identifier (c.in_ok-name.ensures c.args.left) g))

pub returns : goal.returns
unfolding enumerator
returns c =
    reads_node _ refl (reads_pair (c.in_ok-name.ensures c.args.left) c.in_ok-value.ensures)
