-- What stands at the place of the hash.
use Rattle.std.specs.Prelude.{◌≡◌, length, slice_index_or}
use Rattle.std.proofs.Common.{◌∙◌, ap, rules}
use Rattle.c_grammar_symbols.specs.declared.symbol.TheConstants.{MARKS}
use Rattle.c_grammar_symbols.specs.declared.lookup.TheConstants.{MARK_PLACES}
use Rattle.c_grammar_symbols.specs.Hashes.{spelled_at}
use Rattle.c_grammar_symbols.proofs.HashFacts.{no_empty_mark, mark_found}
use Rattle.c_grammar_symbols.proofs.lookup.mark_spelled.Goals as goal

pub returns-then-is_empty : goal.returns-then-is_empty
returns-then-is_empty c =
    let empty : length c.args.bytes.now ≡ 0 = search rules in
    no_empty_mark c.args.bytes.now empty

pub returns : goal.returns
returns c = c.spelled_at.ensures
    ∙ (ap (λ h. spelled_at MARKS (slice_index_or MARK_PLACES h 0) c.args.bytes.now)
    c.hash.ensures.value
    ∙ mark_found c.args.bytes.now)
