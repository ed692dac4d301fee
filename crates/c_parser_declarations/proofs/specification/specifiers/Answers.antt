-- Keywords, and a type that the text declares where no word of a type is among them.
use Rattle.std.proofs.Common.{◌∙◌, ap, arith, true}
use Rattle.c_grammar_forms.specs.lemmas.Found.{reads_node, reads_then}
use Rattle.c_grammar_forms.specs.lemmas.NotFound.{none_node, none_then, none_then_first}
use Rattle.c_grammar_forms.specs.lemmas.Exits.{at_exit}
use Rattle.c_grammar_symbols.specs.Sources.{leaf_at}
use Rattle.c_grammar_tree.specs.declared.TheConstants.{MAX_LEVEL}
use Rattle.c_grammar_tree.specs.Grammar.{grammar}
use Rattle.c_grammar_tree.specs.Parts.{have_word}
use Rattle.c_grammar_tree.specs.Declarations.{enumeration, declared_type, specifiers_of, specifiers}
use Rattle.c_parser_words.specs.Storage.{goes_in}
use Rattle.c_parser_declarations.proofs.Steadies.{steady_keywords}
use Rattle.c_parser_words.specs.Specified.{specifiers_made}
use Rattle.c_parser_declarations.proofs.specification.specifiers.Goals as goal

pub returns-in_err-front : goal.returns-in_err-front
unfolding specifiers
returns-in_err-front c =
    at_exit MAX_LEVEL _ _ c.from_residual.ensures.1 (c.in_err-front.ensures c.args.left)
    (λ i g. none_node _ (none_then_first (λ n front. declared_type (enumeration (grammar n) true)
    (goes_in c.args.allowed) (have_word front)) g))

pub any_type-requires-clause-within : goal.any_type-requires-clause-within
any_type-requires-clause-within c = (c.in_ok-front.ensures 0).within

pub any_type-requires-clause-room : goal.any_type-requires-clause-room
any_type-requires-clause-room c =
    omega (arith, c.requires.room, (c.in_ok-front.ensures 0).onward)

pub returns-in_err-words : goal.returns-in_err-words
unfolding specifiers
returns-in_err-words c =
    let typed = c.have_word-typed.ensures ∙ ap have_word c.as_slice.ensures in
    at_exit MAX_LEVEL _ _ c.from_residual-in_err-words.ensures.1
    (rw typed at c.in_err-words.ensures)
    (λ i g. none_node _ (none_then (λ n front. declared_type (enumeration (grammar n) true)
    (goes_in c.args.allowed) (have_word front))
    (steady_keywords (goes_in c.args.allowed)) (c.in_ok-front.ensures c.args.left) g))

pub returns : goal.returns
unfolding specifiers
returns c =
    let typed = c.have_word-typed.ensures ∙ ap have_word c.as_slice.ensures in
    reads_node specifiers_of
    (specifiers_made _ _ (leaf_at c.args.source.now c.args.at) _ _ c.in_ok-specifiers.ensures
    c.place-place.ensures)
    (reads_then (λ n front. declared_type (enumeration (grammar n) true)
    (goes_in c.args.allowed) (have_word front))
    (c.in_ok-front.ensures c.args.left) (rw typed at c.in_ok-words.ensures))
