-- A typedef name, and the words behind it.
use Rattle.c_grammar_forms.specs.lemmas.Found.{reads_node, reads_skip}
use Rattle.c_grammar_forms.specs.lemmas.NotFound.{none_node, none_skip}
use Rattle.c_grammar_forms.specs.lemmas.Exits.{at_exit}
use Rattle.c_grammar_symbols.specs.Sources.{leaf_at}
use Rattle.c_grammar_tree.specs.declared.TheConstants.{MAX_LEVEL}
use Rattle.c_grammar_tree.specs.Declarations.{typedef_words}
use Rattle.c_parser_words.proofs.DeclaredTypes.{typedef_made}
use Rattle.c_parser_words.proofs.words.typedef_type.Goals as goal

pub returns-in_err-behind : goal.returns-in_err-behind
returns-in_err-behind c = λ left.
    at_exit MAX_LEVEL _ _ c.from_residual.ensures.1 (c.in_err-behind.ensures left)
    (λ i g. none_node _ (none_skip g))

pub returns : goal.returns
returns c = λ left.
    reads_node (typedef_words c.args.named)
    (typedef_made c.args.named (leaf_at c.args.source.now c.args.at) _ _ _ _ c.in_ok-words.ensures
    c.place-place.ensures c.as_slice.ensures)
    (reads_skip (c.in_ok-behind.ensures left))
