-- A part and the piece that the code has of it.
use Rattle.std.proofs.Common.{◌≡◌, ℕ, List, [], ◌∷◌, length, refl}
use Rattle.c_lexer.specs.declared.piece.Piece.{Piece}
use Rattle.c_lexer.specs.declared.piece.PieceKind.{PieceKind}
use Rattle.c_lexer.specs.declared.piece.PieceKind.TheVariants as piece
use Rattle.c_lexer.specs.Parts.{Part, gap, directive, token, bytes_of, tokens_from}
use Rattle.c_lexer.specs.Steps.Pieces.{part_of, tokens_of}

abbrev pub kind_of : Part → PieceKind
kind_of (gap bytes) = piece.Gap
kind_of (directive bytes) = piece.Directive
kind_of (token kind bytes) = piece.Token kind

pub part_again : (part : Part) → part_of (kind_of part) (bytes_of part) ≡ part
part_again (gap bytes) = refl
part_again (directive bytes) = refl
part_again (token kind bytes) = refl

pub bytes_again : (kind : PieceKind) (bytes : List ℕ) → bytes_of (part_of kind bytes) ≡ bytes
bytes_again piece.Gap bytes = refl
bytes_again piece.Directive bytes = refl
bytes_again (piece.Token kind) bytes = refl

pub one_token : (place : ℕ) (kind : PieceKind) (bytes : List ℕ) →
    tokens_from place (part_of kind bytes ∷ []) ≡ tokens_of place (length bytes) kind
one_token place piece.Gap bytes = refl
one_token place piece.Directive bytes = refl
one_token place (piece.Token kind) bytes = refl

-- the piece of a part
abbrev pub piece_from : Part → Piece
piece_from part = record { kind = kind_of part; length = length (bytes_of part) }
