-- What the code has for the definitions' parts, bases, ranks and suffixes.
use Rattle.std.specs.Prelude.{ℕ, ◌+◌, List, [], ◌∷◌, length}
use Rattle.c_lexer.specs.declared.token.Token.{Token}
use Rattle.c_lexer.specs.declared.piece.PieceKind.{PieceKind}
use Rattle.c_lexer.specs.declared.piece.PieceKind.TheVariants as piece
use Rattle.c_lexer.specs.declared.integer.Base.{Base as CodeBase}
use Rattle.c_lexer.specs.declared.integer.Base.TheVariants as base
use Rattle.c_lexer.specs.declared.integer.Rank.{Rank as CodeRank}
use Rattle.c_lexer.specs.declared.integer.Rank.TheVariants as rank
use Rattle.c_lexer.specs.declared.integer.Suffix.{Suffix as CodeSuffix}
use Rattle.c_lexer.specs.Numbers.{Base, Decimal, Octal, Hexadecimal, Rank, Int, Long, LongLong}
use Rattle.c_lexer.specs.Numbers.{Suffix}
use Rattle.c_lexer.specs.Parts.{Part, gap, directive, token}

-- the part of this kind with these bytes
abbrev pub part_of : PieceKind → List ℕ → Part
part_of piece.Gap bytes = gap bytes
part_of piece.Directive bytes = directive bytes
part_of (piece.Token kind) bytes = token kind bytes

-- the token that it is, if it is one
abbrev pub tokens_of : ℕ → ℕ → PieceKind → List Token
tokens_of place length piece.Gap = []
tokens_of place length piece.Directive = []
tokens_of place length (piece.Token kind) =
    record { kind = kind; from = place; to = place + length } ∷ []

-- the base that the code names
abbrev pub base_from : CodeBase → Base
base_from base.Decimal = Decimal
base_from base.Octal = Octal
base_from base.Hexadecimal = Hexadecimal

-- the rank that the code names
abbrev pub rank_from : CodeRank → Rank
rank_from rank.Int = Int
rank_from rank.Long = Long
rank_from rank.LongLong = LongLong

-- the suffix that the code names
abbrev pub suffix_from : CodeSuffix → Suffix
suffix_from suffix = record { unsigned = suffix.unsigned; rank = rank_from suffix.rank }
