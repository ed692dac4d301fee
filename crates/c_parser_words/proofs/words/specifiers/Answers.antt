-- Keywords, and a type that the text declares where no word of a type is among them.
use Rattle.std.proofs.Common.{◌∙◌, ap}
use Rattle.c_grammar_forms.specs.lemmas.Found.{reads_node, reads_then}
use Rattle.c_grammar_forms.specs.lemmas.NotFound.{none_node, none_then, none_then_first}
use Rattle.c_grammar_forms.specs.lemmas.Exits.{at_exit}
use Rattle.c_grammar_symbols.specs.Sources.{leaf_at}
use Rattle.c_grammar_tree.specs.declared.TheConstants.{MAX_LEVEL}
use Rattle.c_grammar_tree.specs.Parts.{have_word}
use Rattle.c_grammar_tree.specs.Declarations.{tag, declared_type, specifiers_of, specifiers}
use Rattle.c_parser_words.specs.Storage.{goes_in}
use Rattle.c_parser_words.proofs.SpecifierWords.{steady_keywords}
use Rattle.c_parser_words.specs.Specified.{specifiers_made}
use Rattle.c_parser_words.proofs.words.specifiers.Goals as goal

pub returns-in_err-front : goal.returns-in_err-front
unfolding specifiers
returns-in_err-front c = λ left.
    at_exit MAX_LEVEL _ _ c.from_residual.ensures.1 (c.in_err-front.ensures left)
    (λ i g. none_node _ (none_then_first
    (λ n front. declared_type tag (goes_in c.args.allowed) (have_word front)) g))

pub declared_type-requires : goal.declared_type-requires
declared_type-requires c = (c.in_ok-front.ensures 0).within

pub returns-in_err-words : goal.returns-in_err-words
unfolding specifiers
returns-in_err-words c = λ left.
    let typed = c.have_word-typed.ensures ∙ ap have_word c.as_slice.ensures in
    at_exit MAX_LEVEL _ _ c.from_residual-in_err-words.ensures.1
    ((rw typed at c.in_err-words.ensures) left)
    (λ i g. none_node _ (none_then
    (λ n front. declared_type tag (goes_in c.args.allowed) (have_word front))
    (steady_keywords (goes_in c.args.allowed)) (c.in_ok-front.ensures left) g))

pub returns : goal.returns
unfolding specifiers
returns c = λ left.
    let typed = c.have_word-typed.ensures ∙ ap have_word c.as_slice.ensures in
    reads_node specifiers_of
    (specifiers_made _ _ (leaf_at c.args.source.now c.args.at) _ _ c.in_ok-specifiers.ensures
    c.place-place.ensures)
    (reads_then (λ n front. declared_type tag (goes_in c.args.allowed) (have_word front))
    (c.in_ok-front.ensures left) ((rw typed at c.in_ok-words.ensures) left))
