-- What is no storage class, no specifier and no word of a type is no keyword of specifiers.
use Rattle.c_parser_words.proofs.SpecifierWords.{no_keyword}
use Rattle.c_parser_words.proofs.words.specifier_kind.Goals as goal

pub returns-in_default : goal.returns-in_default
returns-in_default c = no_keyword c.args.allowed c.args.symbol c.in_default.not-Storage
    c.in_default.not-Specifier c.in_default.not-TypeWord
