use Rattle.c_grammar_symbols.proofs.Tables.{spelled_storage_word, spelled_specifier_word}
use Rattle.c_grammar_symbols.proofs.Tables.{spelled_type_word}
use Rattle.c_grammar_symbols.proofs.Tables.{spelled_outside_word}
use Rattle.c_grammar_symbols.proofs.laws.keywords_stand_for_themselves.Goals as goal

pub returns-clause-storage : goal.returns-clause-storage
returns-clause-storage c = spelled_storage_word

pub returns-clause-specifier : goal.returns-clause-specifier
returns-clause-specifier c = spelled_specifier_word

pub returns-clause-types : goal.returns-clause-types
returns-clause-types c = spelled_type_word

pub returns-clause-outside : goal.returns-clause-outside
returns-clause-outside c = spelled_outside_word
