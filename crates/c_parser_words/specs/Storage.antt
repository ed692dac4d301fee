-- Which storage classes may stand among specifiers (C11 6.7.1 and 6.7.6.3p2).
use Rattle.std.specs.Prelude.{Bool, not, ◌&&◌}
use Rattle.c_grammar_symbols.specs.declared.symbol.Symbol.{Symbol}
use Rattle.c_grammar_symbols.specs.Symbols.{Leaf, symbol_of}
use Rattle.c_grammar_tree.specs.Parts.{specifies, specifies_locally, specifies_in_typedef}
use Rattle.c_grammar_tree.specs.Parts.{begins_declared, types}
use Rattle.c_parser_words.specs.declared.words.AllowedStorage.{AllowedStorage}
use Rattle.c_parser_words.specs.declared.words.AllowedStorage.TheVariants.{Any, Register}
use Rattle.c_parser_words.specs.declared.words.AllowedStorage.TheVariants.{InTypedef}

-- specifiers go on with the symbol
abbrev pub goes : AllowedStorage → Symbol → Bool
goes Any symbol = specifies symbol
goes Register symbol = specifies_locally symbol
goes InTypedef symbol = specifies_in_typedef symbol

-- specifiers go on with the token
abbrev pub goes_in : AllowedStorage → Leaf → Bool
goes_in allowed leaf = goes allowed (symbol_of leaf)

-- the symbol is a keyword with which they go on, and not enum
abbrev pub keeps_on : AllowedStorage → Symbol → Bool
keeps_on allowed symbol = goes allowed symbol && not (begins_declared symbol)

-- the symbol is such a keyword, and no word of a type
abbrev pub qualifies : AllowedStorage → Symbol → Bool
qualifies allowed symbol = keeps_on allowed symbol && not (types symbol)
