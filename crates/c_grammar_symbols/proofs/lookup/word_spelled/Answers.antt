-- What stands at the place of the hash.
use Rattle.std.specs.Prelude.{◌≡◌, length, slice_index_or}
use Rattle.std.proofs.Common.{sym, ◌∙◌, ap, rules}
use Rattle.c_grammar_symbols.specs.declared.symbol.TheConstants.{WORDS}
use Rattle.c_grammar_symbols.specs.declared.lookup.TheConstants.{WORD_PLACES, NO_PLACE}
use Rattle.c_grammar_symbols.specs.Hashes.{spelled_at}
use Rattle.c_grammar_symbols.proofs.HashFacts.{no_empty_word, word_found}
use Rattle.c_grammar_symbols.proofs.lookup.word_spelled.Goals as goal

pub returns-then-is_empty : goal.returns-then-is_empty
returns-then-is_empty c =
    let empty : length c.args.bytes.now ≡ 0 = search rules in
    no_empty_word c.args.bytes.now empty

pub returns-then-place : goal.returns-then-place
returns-then-place c =
    let none : slice_index_or WORD_PLACES c.hash.result 0 ≡ NO_PLACE = search rules in
    let place = sym (ap (λ h. slice_index_or WORD_PLACES h 0) c.hash.ensures.value) ∙ none in
    sym (ap (λ p. spelled_at WORDS p c.args.bytes.now) place) ∙ word_found c.args.bytes.now

pub returns : goal.returns
returns c = c.spelled_at.ensures
    ∙ (ap (λ h. spelled_at WORDS (slice_index_or WORD_PLACES h 0) c.args.bytes.now)
    c.hash.ensures.value
    ∙ word_found c.args.bytes.now)
