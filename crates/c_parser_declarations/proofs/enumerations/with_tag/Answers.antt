-- A tag, and enumerators or none.
use Rattle.std.proofs.Common.{◌∙◌, arith}
use Rattle.c_grammar_forms.specs.Forms.{Perhaps}
use Rattle.c_grammar_forms.specs.lemmas.Found.{reads_node, reads_pair}
use Rattle.c_grammar_forms.specs.lemmas.NotFound.{none_node, none_first, none_second}
use Rattle.c_grammar_forms.specs.lemmas.Exits.{at_exit}
use Rattle.c_grammar_symbols.specs.declared.words.Terminal.TheVariants.{LeftBrace}
use Rattle.c_grammar_symbols.specs.Sources.{is}
use Rattle.c_grammar_tree.specs.declared.TheConstants.{MAX_LEVEL}
use Rattle.c_grammar_tree.specs.Grammar.{grammar}
use Rattle.c_grammar_tree.specs.Declarations.{enumerator_list, enumeration_by}
use Rattle.c_parser_declarations.proofs.Steadies.{steady_identifier}
use Rattle.c_parser_declarations.proofs.enumerations.with_tag.Goals as goal

pub returns-in_err-name : goal.returns-in_err-name
unfolding enumeration_by
returns-in_err-name c =
    at_exit MAX_LEVEL _ _ c.from_residual.ensures.1 (c.in_err-name.ensures c.args.left)
    (λ i g. none_node _ (none_first
    (λ n. Perhaps (is LeftBrace) (enumerator_list (grammar n))) g))

pub optional_list-requires-clause-within : goal.optional_list-requires-clause-within
optional_list-requires-clause-within c = (c.in_ok-name.ensures 0).within

pub optional_list-requires-clause-room : goal.optional_list-requires-clause-room
optional_list-requires-clause-room c =
    omega (arith, c.requires.room, (c.in_ok-name.ensures 0).onward)

pub returns-in_err-listed : goal.returns-in_err-listed
unfolding enumeration_by
returns-in_err-listed c =
    at_exit MAX_LEVEL _ _ c.from_residual-in_err-listed.ensures.1 c.in_err-listed.ensures
    (λ i g. none_node _ (none_second steady_identifier (c.in_ok-name.ensures c.args.left) g))

pub returns : goal.returns
unfolding enumeration_by
returns c =
    reads_node _ (c.in_ok-found.ensures ∙ c.tagged.ensures)
    (reads_pair (c.in_ok-name.ensures c.args.left) c.in_ok-listed.ensures)
