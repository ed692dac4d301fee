-- One word more, or no more; a word with which there is no type is the fault, and so is what stands
-- where no word does.
use Rattle.std.proofs.Common.{◌≡◌, ◌==◌, length, vec_len, sym, ◌∙◌, ap, arith}
use Rattle.c_grammar_forms.specs.lemmas.Exits.{at_exit}
use Rattle.c_grammar_tree.specs.declared.TheConstants.{MAX_LEVEL}
use Rattle.c_grammar_tree.specs.Parts.{types}
use Rattle.c_grammar_tree.specs.declared.expression.TypeName.TheVariants as type_name'
use Rattle.c_parser_words.proofs.TypeNames.{type_words_more, type_words_refused, type_words_none}
use Rattle.c_parser_words.proofs.TypeNames.{type_words_found, no_type_word}
use Rattle.c_parser_words.proofs.types.words_of_type.Goals as goal

pub loop-word-preserved : goal.loop-word-preserved
loop-word-preserved c =
    type_words_more _ _ _ _ c.loop-word.invariant _ _ (sym c.in-TypeWord.ensures.value)
    (c.in-TypeWord.ensures.more (λ e. let clash = e in cc)).within c.in_ok-push_type.ensures.pushed

pub returns-in_err-push_type : goal.returns-in_err-push_type
returns-in_err-push_type c = λ left.
    at_exit MAX_LEVEL _ _ c.from_residual-in_err-push_type.ensures.1
    (type_words_refused _ _ _ _ c.loop-word.invariant left _
    (sym c.in-TypeWord.ensures.value) _ c.in_err-push_type.ensures.refused)
    (λ i g. g)

pub returns-then-is_empty : goal.returns-then-is_empty
returns-then-is_empty c = λ left.
    let size : length c.loop-word.words.items ≡ vec_len c.loop-word.words =
    omega (arith, c.loop-word.words.ok.0) in
    type_words_none _ _ _ _ c.loop-word.invariant left
    (ap types (sym c.symbol.ensures.value) ∙ no_type_word c.symbol.result c.in_default.not-TypeWord)
    (ap (λ n. n == 0) size ∙ sym c.if-is_empty.ensures)

pub returns : goal.returns
returns c = λ left.
    let size : length c.loop-word.words.items ≡ vec_len c.loop-word.words =
    omega (arith, c.loop-word.words.ok.0) in
    type_words_found _ _ _ _ c.loop-word.invariant left _
    (λ i. type_name'.Words (c.from_vec-words.ensures i) (c.place-place.ensures i))
    (ap types (sym c.symbol.ensures.value) ∙ no_type_word c.symbol.result c.in_default.not-TypeWord)
    (ap (λ n. n == 0) size ∙ sym c.if-is_empty.ensures)
