-- A tag behind the word, and the words behind it.
use Rattle.c_grammar_forms.specs.lemmas.Found.{reads_node, reads_skip, reads_pair}
use Rattle.c_grammar_forms.specs.lemmas.NotFound.{none_node, none_skip, none_first, none_second}
use Rattle.c_grammar_forms.specs.lemmas.Exits.{at_exit}
use Rattle.c_grammar_symbols.specs.Sources.{leaf_at}
use Rattle.c_grammar_tree.specs.declared.TheConstants.{MAX_LEVEL}
use Rattle.c_grammar_tree.specs.Declarations.{qualifiers, enum_words}
use Rattle.c_parser_words.specs.Storage.{goes_in}
use Rattle.c_parser_words.specs.Specified.{enum_made}
use Rattle.c_parser_words.proofs.DeclaredTypes.{steady_tag}
use Rattle.c_parser_words.proofs.words.enum_type.Goals as goal

pub returns-in_err-enumeration : goal.returns-in_err-enumeration
returns-in_err-enumeration c = λ left.
    at_exit MAX_LEVEL _ _ c.from_residual.ensures.1 (c.in_err-enumeration.ensures left)
    (λ i g. none_node _ (none_skip (none_first (λ n. qualifiers (goes_in c.args.allowed)) g)))

pub qualifiers-requires : goal.qualifiers-requires
qualifiers-requires c = (c.in_ok-enumeration.ensures 0).within

pub returns-in_err-behind : goal.returns-in_err-behind
returns-in_err-behind c = λ left.
    at_exit MAX_LEVEL _ _ c.from_residual-in_err-behind.ensures.1 (c.in_err-behind.ensures left)
    (λ i g. none_node _ (none_skip (none_second steady_tag (c.in_ok-enumeration.ensures left) g)))

pub returns : goal.returns
returns c = λ left.
    reads_node enum_words
    (enum_made _ (leaf_at c.args.source.now c.args.at) _ _ _ _ c.in_ok-words.ensures
    c.place-place.ensures c.as_slice.ensures)
    (reads_skip (reads_pair (c.in_ok-enumeration.ensures left) (c.in_ok-behind.ensures left)))
