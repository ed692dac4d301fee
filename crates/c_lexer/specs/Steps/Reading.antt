-- What reading one part of a text computes. It promises nothing: what it means stands in Parts and
-- Faults, and proofs/Sound and proofs/Complete tie the two.
use Rattle.std.specs.Prelude.{ℕ, ◌+◌, Bool, false, not, ◌&&◌, List, [], ◌∷◌, length, drop, take}
use Rattle.std.specs.Prelude.{◌==◌, Option, Some, None, Result, Ok, Err, cond, option_map}
use Rattle.std.specs.Prelude.{unwrap_or, nat_eq, zero, suc, codes}
use Rattle.std.specs.List.{prefix_len, starts_with}
use Rattle.std.specs.Char.{is_ascii_digit}
use Rattle.c_lexer.specs.declared.byte.TheConstants.{BACKSLASH, DOUBLE_QUOTE, LINE_FEED}
use Rattle.c_lexer.specs.declared.byte.TheConstants.{NUMBER_SIGN, SINGLE_QUOTE, SLASH, STAR}
use Rattle.c_lexer.specs.declared.fault.Rule.{Rule}
use Rattle.c_lexer.specs.declared.fault.Rule.TheVariants.{L1, L2, L4}
use Rattle.c_lexer.specs.declared.token.TokenKind.{TokenKind}
use Rattle.c_lexer.specs.declared.token.TokenKind.TheVariants.{Word, Text, Mark}
use Rattle.c_lexer.specs.declared.piece.Piece.{Piece}
use Rattle.c_lexer.specs.declared.piece.PieceKind.TheVariants.{Gap, Directive, Token}
use Rattle.c_lexer.specs.Bytes.{is_blank, is_word_head, is_word_byte, is_number_byte, is_on_line}
use Rattle.c_lexer.specs.Bytes.{begins_with}
use Rattle.c_lexer.specs.Gaps.{names_directive}
use Rattle.c_lexer.specs.Marks.{is_mark}
use Rattle.c_lexer.specs.Steps.ReadingConstants.{number_of, character_of}
use Rattle.cpa_ints.specs.declared.data_model.DataModel.{DataModel}

-- one more, where there is a number
abbrev pub one_more : Option ℕ → Option ℕ
one_more found = option_map (λ n. n + 1) found

-- how many bytes there are through the first */, where `star` says that a star stands before
abbrev pub close_from : Bool → List ℕ → Option ℕ
close_from star [] = None
close_from star (byte ∷ rest) =
    cond (star && byte == SLASH) (Some 1) (one_more (close_from (byte == STAR) rest))

-- the length of the /* comment that begins the text; None where it has no end, or none begins
abbrev pub comment_length : List ℕ → Option ℕ
comment_length text = option_map (λ n. n + 2) (close_from false (drop 2 text))

-- a /* comment begins the text
abbrev pub opens_comment : List ℕ → Bool
opens_comment text = starts_with nat_eq text (codes "/*")

-- a // comment begins the text
abbrev pub opens_line_comment : List ℕ → Bool
opens_line_comment text = starts_with nat_eq text (codes "//")

-- the length of the blank or finished comment that begins the text
abbrev pub space_of : List ℕ → Option ℕ
space_of text = cond (begins_with is_blank text) (Some 1)
    (cond (opens_comment text) (comment_length text) None)

-- the text behind its blanks and finished comments, of which there are at most `most`
abbrev pub after_spaces : ℕ → List ℕ → List ℕ
after_spaces zero text = text
after_spaces (suc most) text = after_spaces most (drop (unwrap_or (space_of text) 0) text)

-- the text behind all of them
abbrev pub behind_spaces : List ℕ → List ℕ
behind_spaces text = after_spaces (length text) text

-- the line that begins the text, without its first byte
abbrev pub directive_line : List ℕ → List ℕ
directive_line text = drop 1 (take (prefix_len is_on_line text) text)

-- how many bytes there are before the quote that closes the text, where `escaped` says that a
-- backslash stands before
abbrev pub close_quote : ℕ → Bool → List ℕ → Option ℕ
close_quote quote escaped [] = None
close_quote quote escaped (byte ∷ rest) = cond (byte == LINE_FEED) None
    (cond (byte == quote && not escaped) (Some 0)
    (one_more (close_quote quote (byte == BACKSLASH && not escaped) rest)))

-- the length of the longest mark that begins the text, or 0
abbrev pub mark_length : List ℕ → ℕ
mark_length text = cond (is_mark (take 3 text)) (length (take 3 text))
    (cond (is_mark (take 2 text)) (length (take 2 text))
    (cond (is_mark (take 1 text)) (length (take 1 text)) 0))

-- a blank or a comment of this length
abbrev pub gap_piece : ℕ → Result Piece Rule
gap_piece n = Ok (record { kind = Gap; length = n })

-- a token of this length, where there is one
abbrev pub token_piece : ℕ → Result TokenKind Rule → Result Piece Rule
token_piece n (Ok kind) = Ok (record { kind = Token kind; length = n })
token_piece n (Err rule) = Err rule

-- the comment, where it ends
abbrev pub comment_piece : Option ℕ → Result Piece Rule
comment_piece None = Err L2
comment_piece (Some n) = gap_piece n

-- the directive line, where it is the first on its line and one that is known
abbrev pub directive_piece : Bool → List ℕ → Result Piece Rule
directive_piece fresh text = cond fresh
    (cond (names_directive (behind_spaces (directive_line text)))
    (Ok (record { kind = Directive; length = prefix_len is_on_line text })) (Err L4))
    (Err L1)

-- the number that the longest run of a number's bytes is
abbrev pub number_piece : DataModel → List ℕ → Result Piece Rule
number_piece model text = token_piece (prefix_len is_number_byte text)
    (number_of model (take (prefix_len is_number_byte text) text))

-- the character between the quotes, where they are closed
abbrev pub character_in : Option ℕ → List ℕ → Result Piece Rule
character_in None text = Err L2
character_in (Some n) text = token_piece (n + 2) (character_of (take n (drop 1 text)))

-- the string between the quotes, where they are closed
abbrev pub text_in : Option ℕ → Result Piece Rule
text_in None = Err L2
text_in (Some n) = token_piece (n + 2) (Ok Text)

-- a mark of this length, if it has one
abbrev pub mark_piece : ℕ → Result Piece Rule
mark_piece n = cond (n == 0) (Err L1) (token_piece n (Ok Mark))

-- the part that begins a text of this first byte, if it is no blank, directive or comment
abbrev pub token_at : DataModel → ℕ → List ℕ → Result Piece Rule
token_at model byte text =
    cond (is_word_head byte) (token_piece (prefix_len is_word_byte text) (Ok Word)) (
    cond (is_ascii_digit byte) (number_piece model text) (
    cond (byte == SINGLE_QUOTE) (character_in (close_quote SINGLE_QUOTE false (drop 1 text)) text) (
    cond (byte == DOUBLE_QUOTE) (text_in (close_quote DOUBLE_QUOTE false (drop 1 text)))
    (mark_piece (mark_length text)))))

-- the part that begins the text, or the rule that is broken there
abbrev pub piece_of : DataModel → Bool → List ℕ → Result Piece Rule
piece_of model fresh [] = Err L1
piece_of model fresh (byte ∷ rest) = cond (is_blank byte) (gap_piece 1) (
    cond (byte == NUMBER_SIGN) (directive_piece fresh (byte ∷ rest)) (
    cond (opens_comment (byte ∷ rest)) (comment_piece (comment_length (byte ∷ rest))) (
    cond (opens_line_comment (byte ∷ rest)) (gap_piece (prefix_len is_on_line (byte ∷ rest))) (
    token_at model byte (byte ∷ rest)))))
