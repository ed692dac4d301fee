-- Reading finds each part and each fault.
use Rattle.std.proofs.Common.{◌≡◌, ℕ, ◌+◌, ◌<◌, ◌≤◌, Bool, true, false, ◌==◌, List, [], ◌∷◌, ◌++◌}
use Rattle.std.proofs.Common.{length, take, drop, arith, refl, ap, sym, ◌∙◌, inl, inr, Option, Some}
use Rattle.std.proofs.Common.{None, Ok, Err, option_map, append_assoc, length-append, codes, pos, ℤ}
use Rattle.std.proofs.Common.{IsTrue}
use Rattle.std.specs.List.{prefix_len, list_all}
use Rattle.std.specs.Char.{is_ascii_digit}
use Rattle.std.proofs.lemmas.Bool.{and_parts, or_parts, ne_eqb, not-true, true≢false}
use Rattle.std.proofs.lemmas.Bool.{false_from_ne_true, le-leb, lt-leb}
use Rattle.std.proofs.Math.Seq.{take-append_seam}
use Rattle.std.proofs.lemmas.List.{take-append-drop}
use Rattle.c_lexer.specs.declared.fault.Rule.{Rule}
use Rattle.c_lexer.specs.declared.fault.Rule.TheVariants.{L1, L2, L3, L4}
use Rattle.c_lexer.specs.declared.token.TokenKind.{TokenKind}
use Rattle.c_lexer.specs.declared.token.TokenKind.TheVariants.{Word, Number, Character, Text, Mark}
use Rattle.c_lexer.specs.declared.token.TokenKind.TheVariants.{End}
use Rattle.c_lexer.specs.Bytes.{is_blank, is_word_head, is_word_byte, is_number_byte, is_on_line}
use Rattle.c_lexer.specs.Bytes.{begins_with, StopsAt}
use Rattle.c_lexer.specs.Gaps.{IsBlank, IsBlockComment, IsLineComment, IsGap, IsDirective}
use Rattle.c_lexer.specs.Gaps.{names_directive}
use Rattle.c_lexer.specs.Numbers.{IsNumber, IsConstant, type_of}
use Rattle.c_lexer.specs.Quoted.{IsCharacter, IsText, IsQuoted}
use Rattle.c_lexer.specs.Marks.{is_mark, IsLongestMark}
use Rattle.c_lexer.specs.Parts.{Part, gap, directive, token, bytes_of, IsPart, IsToken, is_word}
use Rattle.c_lexer.specs.Faults.{Fails, HasStrayByte, HasMalformedNumber, HasMalformedCharacter}
use Rattle.c_lexer.specs.Faults.{HasOpenComment, HasOpenQuote, HasLargeNumber, HasLargeCharacter}
use Rattle.c_lexer.specs.Faults.{HasUnknownDirective}
use Rattle.c_lexer.specs.Steps.ReadingConstants.{number_of, character_of, typed, held}
use Rattle.c_lexer.specs.Steps.Reading.{piece_of, token_at, token_piece, gap_piece, comment_piece}
use Rattle.c_lexer.specs.Steps.Reading.{comment_length, directive_piece, directive_line}
use Rattle.c_lexer.specs.Steps.Reading.{behind_spaces, number_piece, character_in, text_in}
use Rattle.c_lexer.specs.Steps.Reading.{close_quote, mark_length, mark_piece, opens_comment}
use Rattle.c_lexer.specs.Steps.Reading.{opens_line_comment}
use Rattle.c_lexer.proofs.ByteFacts.{not_blank, not_word_head, word_head_high, digit_low}
use Rattle.c_lexer.proofs.ByteFacts.{digit_high}
use Rattle.c_lexer.proofs.Runs.{run_stops, run_ends}
use Rattle.c_lexer.proofs.Comments.{open_read, lacks_open}
use Rattle.c_lexer.proofs.Directives.{comment_read, directive_read, directive_is, not_opened}
use Rattle.c_lexer.proofs.Constants.{constant_read, constant_bytes, constant_first, constant_is}
use Rattle.c_lexer.proofs.Quotes.{quoted_read, quoted_made, quote_is, character_read, character_is}
use Rattle.c_lexer.proofs.MarkFacts.{mark_first, mark_short, mark_is, mark_read, begins_mark}
use Rattle.c_lexer.proofs.Pieces.{piece_from}
use Rattle.cpa_ints.specs.declared.data_model.DataModel.{DataModel}

-- a text that begins a token
token_first_by : (model : DataModel) (fresh : Bool) (byte : ℕ) (rest : List ℕ) →
    is_blank byte ≡ false →
    (byte == 35) ≡ false → opens_comment (byte ∷ rest) ≡ false →
    opens_line_comment (byte ∷ rest) ≡ false →
    piece_of model fresh (byte ∷ rest) ≡ token_at model byte (byte ∷ rest)
token_first_by model fresh byte rest a b c d = rw (a, b, c, d)

not_line_opened : (first : ℕ) (rest : List ℕ) → (47 ≡ first → ⊥) →
    opens_line_comment (first ∷ rest) ≡ false
not_line_opened first rest h = rw (ne_eqb 47 first h)

token_first : (model : DataModel) (fresh : Bool) (byte : ℕ) (rest : List ℕ) → 32 < byte →
    (byte ≡ 35 → ⊥) →
    (byte ≡ 47 → ⊥) → piece_of model fresh (byte ∷ rest) ≡ token_at model byte (byte ∷ rest)
token_first model fresh byte rest plain no_hash no_slash =
    token_first_by model fresh byte rest (not_blank byte plain) (ne_eqb byte 35 no_hash)
    (not_opened byte rest (λ e. no_slash (sym e)))
    (not_line_opened byte rest (λ e. no_slash (sym e)))

-- gaps

blank_read : (model : DataModel) (fresh : Bool) (bytes rest : List ℕ) → IsBlank bytes →
    piece_of model fresh (bytes ++ rest) ≡ Ok (piece_from (gap bytes))
blank_read model fresh bytes rest is =
    let step : piece_of model fresh (is.byte ∷ rest) ≡ Ok
    (piece_from (gap (is.byte ∷ []))) = rw is.blank
    in
    ap (λ z. piece_of model fresh (z ++ rest)) is.spelled ∙ step
    ∙ ap (λ z. Ok (piece_from (gap z))) (sym is.spelled)

block_read : (model : DataModel) (fresh : Bool) (bytes rest : List ℕ) → IsBlockComment bytes →
    piece_of model fresh (bytes ++ rest) ≡ Ok (piece_from (gap bytes))
block_read model fresh bytes rest is =
    let behind : bytes ++ rest ≡ 47 ∷ 42 ∷ ((is.body ++ codes "*/") ++ rest) = ap (λ z. z ++ rest)
    is.spelled in
    let read = comment_read bytes rest is in
    ap (piece_of model fresh) behind ∙ ap (λ z. comment_piece (comment_length z)) (sym behind)
    ∙ ap comment_piece read.1

line_read : (model : DataModel) (fresh : Bool) (bytes rest : List ℕ) → IsLineComment bytes →
    StopsAt is_on_line rest →
    piece_of model fresh (bytes ++ rest) ≡ Ok (piece_from (gap bytes))
line_read model fresh bytes rest is stop =
    let behind : bytes ++ rest ≡ 47 ∷ 47 ∷ (is.body ++ rest) = ap (λ z. z ++ rest) is.spelled in
    let all : list_all is_on_line bytes ≡ true = ap (list_all is_on_line) is.spelled ∙ is.on_line in
    ap (piece_of model fresh) behind ∙ ap (λ z. gap_piece (prefix_len is_on_line z)) (sym behind)
    ∙ ap gap_piece (run_stops is_on_line bytes rest all stop)

gap_read : (model : DataModel) (fresh : Bool) (bytes rest : List ℕ) → IsGap bytes rest →
    piece_of model fresh (bytes ++ rest) ≡ Ok (piece_from (gap bytes))
gap_read model fresh bytes rest is = elim is [
  | inl b ↦ blank_read model fresh bytes rest b
  | inr other ↦ elim other [
    | inl c ↦ block_read model fresh bytes rest c
    | inr l ↦ line_read model fresh bytes rest l.0 l.1
  ]
]

directive_part : (model : DataModel) (fresh : Bool) (bytes rest : List ℕ) → fresh ≡ true →
    IsDirective bytes →
    StopsAt is_on_line rest → piece_of model fresh (bytes ++ rest) ≡ Ok
    (piece_from (directive bytes))
directive_part model fresh bytes rest first is stop =
    let behind : bytes ++ rest ≡ 35 ∷ ((is.gap ++ is.tail) ++ rest) = ap (λ z. z ++ rest) is.spelled
    in
    let named = directive_read bytes rest is stop in
    let long = run_stops is_on_line bytes rest is.on_line stop in
    let made : directive_piece true (bytes ++ rest) ≡ Ok (piece_from (directive bytes)) = rw (
      named,
      long,
    ) in
    ap (piece_of model fresh) behind ∙ ap (directive_piece fresh) (sym behind)
    ∙ ap (λ z. directive_piece z (bytes ++ rest)) first ∙ made

-- tokens

word_read : (model : DataModel) (fresh : Bool) (bytes rest : List ℕ) → is_word bytes ≡ true →
    StopsAt is_word_byte rest → piece_of model fresh (bytes ++ rest) ≡ Ok
    (piece_from (token Word bytes))
word_read model fresh [] rest is stop = cc
word_read model fresh (byte ∷ more) rest is stop =
    let p = and_parts (is_word_head byte) (list_all is_word_byte (byte ∷ more)) is in
    let high : 64 < byte = word_head_high byte p.0 in
    let first = token_first model fresh byte (more ++ rest) (omega arith) (λ e. omega arith) (λ e.
    omega arith) in
    let long : prefix_len is_word_byte (byte ∷ more ++ rest)
    ≡ length (byte ∷ more) = run_stops is_word_byte (byte ∷ more) rest p.1 stop in
    let word : token_at model byte (byte ∷ more ++ rest)
    ≡ token_piece (prefix_len is_word_byte (byte ∷ more ++ rest)) (Ok Word) = rw p.0 in
    first ∙ word ∙ ap (λ z. token_piece z (Ok Word)) long

-- a text that begins with a number's run
run_read : (model : DataModel) (fresh : Bool) (run rest : List ℕ) →
    begins_with is_ascii_digit run ≡ true →
    list_all is_number_byte run ≡ true → StopsAt is_number_byte rest →
    piece_of model fresh (run ++ rest) ≡ token_piece (length run) (number_of model run)
run_read model fresh [] rest digit all stop = cc
run_read model fresh (byte ∷ more) rest digit all stop =
    let low : 47 < byte = digit_low byte digit in
    let high : byte < 58 = digit_high byte digit in
    let first = token_first model fresh byte (more ++ rest) (omega arith) (λ e. omega arith) (λ e.
    omega arith) in
    let no_word : is_word_head byte ≡ false = not_word_head byte (omega arith) in
    let number : token_at model byte (byte ∷ more ++ rest)
    ≡ number_piece model (byte ∷ more ++ rest) = rw (no_word, digit) in
    let long : prefix_len is_number_byte (byte ∷ more ++ rest)
    ≡ length (byte ∷ more) = run_stops is_number_byte (byte ∷ more) rest all stop in
    let taken : take (length (byte ∷ more)) (byte ∷ more ++ rest)
    ≡ byte ∷ more = take-append_seam (byte ∷ more) rest in
    first ∙ number ∙ ap (λ z. token_piece z (number_of model (take z (byte ∷ more ++ rest)))) long
    ∙ ap (λ z. token_piece (length (byte ∷ more)) (number_of model z)) taken

constant_part : (model : DataModel) (fresh : Bool) (bytes rest : List ℕ) (base : _) (suffix : _)
    (number : ℕ) →
    IsConstant bytes base suffix number → StopsAt is_number_byte rest →
    piece_of model fresh (bytes ++ rest) ≡ token_piece (length bytes)
    (typed (type_of model suffix base number) number)
constant_part model fresh bytes rest base suffix number is stop =
    run_read model fresh bytes rest (constant_first bytes base suffix number is)
    (constant_bytes bytes base suffix number is) stop
    ∙ ap (token_piece (length bytes)) (constant_read model bytes base suffix number is)

number_read : (model : DataModel) (fresh : Bool) (t : _) (value : ℤ) (bytes rest : List ℕ) →
    IsNumber model bytes t value →
    StopsAt is_number_byte rest →
    piece_of model fresh (bytes ++ rest) ≡ Ok (piece_from (token (Number t value) bytes))
number_read model fresh t value bytes rest is stop =
    constant_part model fresh bytes rest is.base is.suffix is.number is.constant stop
    ∙ ap (λ z. token_piece (length bytes) (typed z is.number)) is.first_type
    ∙ ap (λ z. Ok (piece_from (token (Number t z) bytes))) (sym is.valued)

-- a text that begins with a quoted character
enclosed_read : (model : DataModel) (fresh : Bool) (bytes content rest : List ℕ) →
    IsQuoted 39 bytes content →
    piece_of model fresh (bytes ++ rest) ≡ token_piece (length bytes) (character_of content)
enclosed_read model fresh bytes content rest is =
    let behind : bytes ++ rest ≡ 39 ∷ ((content ++ 39 ∷ []) ++ rest) = ap (λ z. z ++ rest)
    is.spelled in
    let closed = quoted_read 39 bytes content rest refl refl is in
    let inside : drop 1 (bytes ++ rest) ≡ content ++ (39 ∷ rest) = ap (drop 1) behind
    ∙ append_assoc content (39 ∷ []) rest in
    let taken : take (length content) (drop 1 (bytes ++ rest))
    ≡ content = ap (take (length content)) inside ∙ take-append_seam content (39 ∷ rest) in
    let long : length content + 2 ≡ length bytes = omega (
      arith,
      ap length is.spelled,
      length-append content (39 ∷ []),
    ) in
    ap (piece_of model fresh) behind
    ∙ ap (λ z. character_in (close_quote 39 false (drop 1 z)) z) (sym behind)
    ∙ ap (λ z. character_in z (bytes ++ rest)) closed
    ∙ ap (λ z. token_piece (length content + 2) (character_of z)) taken
    ∙ ap (λ z. token_piece z (character_of content)) long

held_small : (number : ℕ) → number ≤ 255 →
    held number ≡ Ok (Character (Rattle.cpa_ints.specs.Wrapping.wrapped
    Rattle.cpa_ints.specs.declared.integers.IntType.TheVariants.I8 (pos number)))
held_small number small = rw (le-leb number 255 small)

held_large : (number : ℕ) → 255 < number → held number ≡ Err L3
held_large number large = rw (lt-leb number 255 large)

character_part : (model : DataModel) (fresh : Bool) (value : ℤ) (bytes rest : List ℕ) →
    IsCharacter bytes value →
    piece_of model fresh (bytes ++ rest) ≡ Ok (piece_from (token (Character value) bytes))
character_part model fresh value bytes rest is =
    enclosed_read model fresh bytes is.content rest is.quoted
    ∙ ap (token_piece (length bytes)) (character_read is.content is.number is.stands_for
    ∙ held_small is.number is.fits)
    ∙ ap (λ z. Ok (piece_from (token (Character z) bytes))) (sym is.valued)

text_read : (model : DataModel) (fresh : Bool) (bytes rest : List ℕ) → IsText bytes →
    piece_of model fresh (bytes ++ rest) ≡ Ok (piece_from (token Text bytes))
text_read model fresh bytes rest is =
    let behind : bytes ++ rest ≡ 34 ∷ ((is.content ++ 34 ∷ []) ++ rest) = ap (λ z. z ++ rest)
    is.quoted.spelled in
    let closed = quoted_read 34 bytes is.content rest refl refl is.quoted in
    let long : length is.content + 2 ≡ length bytes = omega (
      arith,
      ap length is.quoted.spelled,
      length-append is.content (34 ∷ []),
    ) in
    ap (piece_of model fresh) behind ∙ ap (λ z. text_in (close_quote 34 false (drop 1 z)))
    (sym behind)
    ∙ ap text_in closed ∙ ap (λ z. token_piece z (Ok Text)) long

-- what a mark's first byte is not
record Plain (byte : ℕ) : Type 0 where
  blank : is_blank byte ≡ false
  hash : (byte == 35) ≡ false
  word : is_word_head byte ≡ false
  digit : is_ascii_digit byte ≡ false
  single : (byte == 39) ≡ false
  double : (byte == 34) ≡ false

plain_of : (byte : ℕ) → begins_mark byte ≡ true → Plain byte
plain_of byte h =
    let a = and_parts _ _ h in
    let b = and_parts _ _ a.0 in
    let c = and_parts _ _ b.0 in
    let d = and_parts _ _ c.0 in
    let e = and_parts _ _ d.0 in
    record {
      blank = not-true (is_blank byte) e.0;
      hash = not-true (byte == 35) e.1;
      word = not-true (is_word_head byte) d.1;
      digit = not-true (is_ascii_digit byte) c.1;
      single = not-true (byte == 39) b.1;
      double = not-true (byte == 34) a.1;
    }

mark_at : (model : DataModel) (byte : ℕ) (text : List ℕ) → is_word_head byte ≡ false →
    is_ascii_digit byte ≡ false →
    (byte == 39) ≡ false → (byte == 34) ≡ false → token_at model byte text ≡ mark_piece
    (mark_length text)
mark_at model byte text a b c d = rw (a, b, c, d)

mark_part : (model : DataModel) (fresh : Bool) (bytes rest : List ℕ) → IsLongestMark bytes rest →
    piece_of model fresh (bytes ++ rest) ≡ Ok (piece_from (token Mark bytes))
mark_part model fresh [] rest is = absurd (true≢false (sym is.marked))
mark_part model fresh (byte ∷ more) rest is =
    let plain = plain_of byte (mark_first byte more is.marked) in
    let comments = or_parts (opens_comment (byte ∷ more ++ rest))
    (opens_line_comment (byte ∷ more ++ rest)) is.no_comment in
    let first = token_first_by model fresh byte (more ++ rest) plain.blank plain.hash comments.0
    comments.1 in
    let at = mark_at model byte (byte ∷ more ++ rest) plain.word plain.digit plain.single
    plain.double in
    let long = mark_read (byte ∷ more) rest is.marked is.longest in
    let some : (length (byte ∷ more) == 0) ≡ false = ne_eqb (length (byte ∷ more)) 0 (λ e.
    omega arith) in
    let made : mark_piece (length (byte ∷ more)) ≡ Ok (piece_from (token Mark (byte ∷ more))) = rw
    some in
    first ∙ at ∙ ap mark_piece long ∙ made

token_read : (model : DataModel) (fresh : Bool) (kind : TokenKind) (bytes rest : List ℕ) →
    IsToken model kind bytes rest →
    piece_of model fresh (bytes ++ rest) ≡ Ok (piece_from (token kind bytes))
token_read model fresh Word bytes rest is = word_read model fresh bytes rest is.0 is.1
token_read model fresh (Number t value) bytes rest is = number_read model fresh t value bytes rest
    is.0 is.1
token_read model fresh (Character value) bytes rest is = character_part model fresh value bytes rest
    is
token_read model fresh Text bytes rest is = text_read model fresh bytes rest is
token_read model fresh Mark bytes rest is = mark_part model fresh bytes rest is
token_read model fresh End bytes rest is = absurd is

-- each part is read
pub part_read : (model : DataModel) (fresh : Bool) (part : Part) (rest : List ℕ) →
    IsPart model fresh part rest →
    piece_of model fresh (bytes_of part ++ rest) ≡ Ok (piece_from part)
part_read model fresh (gap bytes) rest stands = gap_read model fresh bytes rest stands
part_read model fresh (directive bytes) rest stands =
    directive_part model fresh bytes rest stands.0 stands.1 stands.2
part_read model fresh (token kind bytes) rest stands = token_read model fresh kind bytes rest stands

-- faults

stray_hash : (model : DataModel) (fresh : Bool) (text rest : List ℕ) → fresh ≡ false →
    text ≡ 35 ∷ rest →
    piece_of model fresh text ≡ Err L1
stray_hash model fresh text rest first e =
    ap (piece_of model fresh) e ∙ ap (λ z. directive_piece z (35 ∷ rest)) first

no_front : (text : List ℕ) →
    ((mark after : List ℕ) → IsTrue (is_mark mark) → text ≡ mark ++ after → ⊥) →
    mark_length text ≡ 0
no_front text none = elim (mark_is text) [
  | inl f ↦ absurd (none (take (mark_length text) text) (drop (mark_length text) text) f.marked
      (sym (take-append-drop (mark_length text) text)))
  | inr n ↦ n.0
]

stray_byte : (model : DataModel) (fresh : Bool) (text : List ℕ) → HasStrayByte text →
    piece_of model fresh text ≡ Err L1
stray_byte model fresh text has =
    let no_slash : has.byte ≡ 47 →
    ⊥ = λ e. has.no_mark (has.byte ∷ []) has.rest (ap (λ z. is_mark (z ∷ [])) e) has.spelled in
    let first = token_first_by model fresh has.byte has.rest has.no_blank
    (ne_eqb has.byte 35 has.no_hash)
    (not_opened has.byte has.rest (λ e. no_slash (sym e)))
    (not_line_opened has.byte has.rest (λ e. no_slash (sym e))) in
    let at = mark_at model has.byte (has.byte ∷ has.rest) has.no_word has.no_number
    (ne_eqb has.byte 39 (λ e. has.no_quote (inl e)))
    (ne_eqb has.byte 34 (λ e. has.no_quote (inr e))) in
    ap (piece_of model fresh) has.spelled ∙ first ∙ at
    ∙ ap (λ z. mark_piece (mark_length z)) (sym has.spelled)
    ∙ ap mark_piece (no_front text has.no_mark)

malformed_number : (model : DataModel) (fresh : Bool) (text : List ℕ) → HasMalformedNumber text →
    piece_of model fresh text ≡ Err L1
malformed_number model fresh text has =
    let none : number_of model has.run ≡ Err L1 = elim (constant_is model has.run) [
      | inl c ↦ absurd (has.malformed c.base c.suffix c.number c.constant)
      | inr e ↦ e
    ] in
    ap (piece_of model fresh) has.spelled
    ∙ run_read model fresh has.run has.rest has.longest.digit has.longest.all has.longest.longest
    ∙ ap (token_piece (length has.run)) none

malformed_character : (model : DataModel) (fresh : Bool) (text : List ℕ) →
    HasMalformedCharacter text →
    piece_of model fresh text ≡ Err L1
malformed_character model fresh text has =
    let none : character_of has.content ≡ Err L1 = elim (character_is has.content) [
      | inl s ↦ absurd (has.malformed s.number s.stands_for)
      | inr e ↦ e
    ] in
    ap (piece_of model fresh) has.spelled ∙ enclosed_read model fresh has.bytes has.content has.rest
    has.quoted
    ∙ ap (token_piece (length has.bytes)) none

open_comment : (model : DataModel) (fresh : Bool) (text : List ℕ) → HasOpenComment text →
    piece_of model fresh text ≡ Err L2
open_comment model fresh text has =
    let none : comment_length (47 ∷ 42 ∷ has.body)
    ≡ None = ap (option_map (λ n. n + 2)) (open_read false has.body
    (lacks_open has.body has.unclosed)) in
    ap (piece_of model fresh) has.spelled ∙ ap comment_piece none

unclosed_by : (quote : ℕ) (text rest : List ℕ) (found : Option ℕ) → text ≡ quote ∷ rest →
    close_quote quote false rest ≡ found → HasOpenQuote quote text → found ≡ None
unclosed_by quote text rest None e read has = refl
unclosed_by quote text rest (Some n) e read has =
    let c = quote_is quote false rest n read in
    let whole : text ≡ (quote ∷ (c.content ++ quote ∷ [])) ++ c.rest = e
    ∙ ap (λ z. quote ∷ z) (c.spelled ∙ sym (append_assoc c.content (quote ∷ []) c.rest)) in
    absurd (has.unclosed (quote ∷ (c.content ++ quote ∷ [])) c.content c.rest whole
    (quoted_made quote (quote ∷ (c.content ++ quote ∷ [])) c.content refl c.inside))

open_single : (model : DataModel) (fresh : Bool) (text : List ℕ) → HasOpenQuote 39 text →
    piece_of model fresh text ≡ Err L2
open_single model fresh text has =
    let none = unclosed_by 39 text has.begins.0 (close_quote 39 false has.begins.0) has.begins.1
    refl has in
    ap (piece_of model fresh) has.begins.1 ∙ ap (λ z. character_in z (39 ∷ has.begins.0)) none

open_double : (model : DataModel) (fresh : Bool) (text : List ℕ) → HasOpenQuote 34 text →
    piece_of model fresh text ≡ Err L2
open_double model fresh text has =
    let none = unclosed_by 34 text has.begins.0 (close_quote 34 false has.begins.0) has.begins.1
    refl has in
    ap (piece_of model fresh) has.begins.1 ∙ ap text_in none

large_number : (model : DataModel) (fresh : Bool) (text : List ℕ) → HasLargeNumber model text →
    piece_of model fresh text ≡ Err L3
large_number model fresh text has =
    ap (piece_of model fresh) has.spelled
    ∙ constant_part model fresh has.run has.rest has.base has.suffix has.number has.constant
    has.longest
    ∙ ap (λ z. token_piece (length has.run) (typed z has.number)) has.unheld

large_character : (model : DataModel) (fresh : Bool) (text : List ℕ) → HasLargeCharacter text →
    piece_of model fresh text ≡ Err L3
large_character model fresh text has =
    ap (piece_of model fresh) has.spelled ∙ enclosed_read model fresh has.bytes has.content has.rest
    has.quoted
    ∙ ap (token_piece (length has.bytes)) (character_read has.content has.number has.stands_for
    ∙ held_large has.number has.large)

unknown_directive : (model : DataModel) (fresh : Bool) (text : List ℕ) →
    HasUnknownDirective fresh text →
    piece_of model fresh text ≡ Err L4
unknown_directive model fresh text has =
    let rest : List ℕ = has.begins.0 in
    let unnamed : names_directive (behind_spaces (directive_line (35 ∷ rest))) ≡ false =
    false_from_ne_true _ (λ named. has.unknown (take (prefix_len is_on_line (35 ∷ rest))
    (35 ∷ rest)) (drop (prefix_len is_on_line (35 ∷ rest)) (35 ∷ rest))
    (has.begins.1 ∙ sym (take-append-drop (prefix_len is_on_line (35 ∷ rest)) (35 ∷ rest)))
    (directive_is rest named) (run_ends is_on_line (35 ∷ rest))) in
    let made : directive_piece true (35 ∷ rest) ≡ Err L4 = rw unnamed in
    ap (piece_of model fresh) has.begins.1 ∙ ap (λ z. directive_piece z (35 ∷ rest)) has.first
    ∙ made

-- each fault is read
pub fault_read : (model : DataModel) (fresh : Bool) (rule : Rule) (text : List ℕ) →
    Fails model fresh rule text →
    piece_of model fresh text ≡ Err rule
fault_read model fresh L1 text fails = elim fails [
  | inl a ↦ stray_hash model fresh text a.1.0 a.0 a.1.1
  | inr x ↦ elim x [
    | inl b ↦ stray_byte model fresh text b
    | inr y ↦ elim y [
      | inl c ↦ malformed_number model fresh text c
      | inr d ↦ malformed_character model fresh text d
    ]
  ]
]
fault_read model fresh L2 text fails = elim fails [
  | inl a ↦ open_comment model fresh text a
  | inr x ↦ elim x [
    | inl b ↦ open_single model fresh text b
    | inr c ↦ open_double model fresh text c
  ]
]
fault_read model fresh L3 text fails = elim fails [
  | inl a ↦ large_number model fresh text a
  | inr b ↦ large_character model fresh text b
]
fault_read model fresh L4 text fails = unknown_directive model fresh text fails
fault_read model fresh _ text fails = absurd fails

-- a part has a byte, and so has a fault
gap_some : (bytes rest : List ℕ) → IsGap bytes rest → 0 < length bytes
gap_some bytes rest is = elim is [
  | inl b ↦ omega (arith, ap length b.spelled)
  | inr other ↦ elim other [
    | inl c ↦ omega (arith, ap length c.spelled)
    | inr l ↦ omega (arith, ap length l.0.spelled)
  ]
]

first_some : (p : ℕ → Bool) (bytes : List ℕ) → begins_with p bytes ≡ true → 0 < length bytes
first_some p [] h = cc
first_some p (byte ∷ rest) h = omega arith

token_some : (model : DataModel) (kind : TokenKind) (bytes rest : List ℕ) →
    IsToken model kind bytes rest → 0 < length bytes
token_some model Word bytes rest is =
    first_some is_word_head bytes (and_parts (begins_with is_word_head bytes)
    (list_all is_word_byte bytes) is.0).0
token_some model (Number t value) bytes rest is =
    first_some is_ascii_digit bytes (constant_first bytes is.0.base is.0.suffix is.0.number
    is.0.constant)
token_some model (Character value) bytes rest is = omega (arith, ap length is.quoted.spelled)
token_some model Text bytes rest is = omega (arith, ap length is.quoted.spelled)
token_some model Mark bytes rest is = (mark_short bytes is.marked).0
token_some model End bytes rest is = absurd is

pub part_some : (model : DataModel) (fresh : Bool) (part : Part) (rest : List ℕ) →
    IsPart model fresh part rest →
    0 < length (bytes_of part)
part_some model fresh (gap bytes) rest stands = gap_some bytes rest stands
part_some model fresh (directive bytes) rest stands = omega (arith, ap length stands.1.spelled)
part_some model fresh (token kind bytes) rest stands = token_some model kind bytes rest stands

begins_some : (byte : ℕ) (text rest : List ℕ) → text ≡ byte ∷ rest → 0 < length text
begins_some byte text rest e = omega (arith, ap length e)

front_some : (text bytes rest : List ℕ) → text ≡ bytes ++ rest → 0 < length bytes → 0 < length text
front_some text bytes rest e some = omega (arith, ap length e, length-append bytes rest)

quoted_some : (quote : ℕ) (bytes content : List ℕ) → IsQuoted quote bytes content → 0 < length bytes
quoted_some quote bytes content is = omega (arith, ap length is.spelled)

pub fault_some : (model : DataModel) (fresh : Bool) (rule : Rule) (text : List ℕ) →
    Fails model fresh rule text →
    0 < length text
fault_some model fresh L1 text fails = elim fails [
  | inl a ↦ begins_some 35 text a.1.0 a.1.1
  | inr x ↦ elim x [
    | inl b ↦ begins_some b.byte text b.rest b.spelled
    | inr y ↦ elim y [
      | inl c ↦ front_some text c.run c.rest c.spelled
          (first_some is_ascii_digit c.run c.longest.digit)
      | inr d ↦ front_some text d.bytes d.rest d.spelled (quoted_some 39 d.bytes d.content d.quoted)
    ]
  ]
]
fault_some model fresh L2 text fails = elim fails [
  | inl a ↦ begins_some 47 text (42 ∷ a.body) a.spelled
  | inr x ↦ elim x [
    | inl b ↦ begins_some 39 text b.begins.0 b.begins.1
    | inr c ↦ begins_some 34 text c.begins.0 c.begins.1
  ]
]
fault_some model fresh L3 text fails = elim fails [
  | inl a ↦ front_some text a.run a.rest a.spelled
      (first_some is_ascii_digit a.run (constant_first a.run a.base a.suffix a.number a.constant))
  | inr b ↦ front_some text b.bytes b.rest b.spelled (quoted_some 39 b.bytes b.content b.quoted)
]
fault_some model fresh L4 text fails = begins_some 35 text fails.begins.0 fails.begins.1
fault_some model fresh _ text fails = absurd fails
