-- What is no word of a type is what it is among all keywords.
use Rattle.c_parser_words.proofs.TypeNames.{no_type_word}
use Rattle.c_parser_words.proofs.SpecifierWords.{is_qualifier}
use Rattle.c_parser_words.proofs.words.qualifier_kind.Goals as goal

pub returns-in_default : goal.returns-in_default
returns-in_default c = is_qualifier c.args.allowed c.args.symbol c.specifier_kind.result
    (no_type_word c.args.symbol c.in_default.not-TypeWord) c.specifier_kind.ensures
