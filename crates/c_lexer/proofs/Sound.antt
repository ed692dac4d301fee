-- What reading one part computes is right.
use Rattle.std.proofs.Common.{◌≡◌, ℕ, ◌+◌, ◌<◌, Bool, true, false, ◌==◌, List, [], ◌∷◌, ◌++◌}
use Rattle.std.proofs.Common.{length, take, drop, arith, refl, ap, sym, ◌∙◌, subst, inl, inr}
use Rattle.std.proofs.Common.{Option, Some, None, Result, Ok, Err, option_map, append_assoc}
use Rattle.std.proofs.Common.{length-append, nat_le, MatchResult}
use Rattle.std.specs.List.{prefix_len}
use Rattle.std.specs.Char.{is_ascii_digit}
use Rattle.std.proofs.lemmas.Bool.{cond_both, and_from, or_from, eqb-true, eqb-false, false≢true}
use Rattle.std.proofs.lemmas.Bool.{leb-true, leb-false, both_ways}
use Rattle.std.proofs.Math.Seq.{take-append_seam}
use Rattle.std.proofs.lemmas.List.{take-append-drop}
use Rattle.cpa_ints.specs.declared.integers.IntType.{IntType}
use Rattle.c_lexer.specs.declared.fault.Rule.{Rule}
use Rattle.c_lexer.specs.declared.piece.Piece.{Piece}
use Rattle.c_lexer.specs.declared.token.TokenKind.{TokenKind}
use Rattle.c_lexer.specs.declared.token.TokenKind.TheVariants.{Word}
use Rattle.c_lexer.specs.Bytes.{is_blank, is_word_head, is_word_byte, is_number_byte, is_on_line}
use Rattle.c_lexer.specs.Bytes.{begins_with, StopsAt}
use Rattle.c_lexer.specs.Gaps.{IsBlockComment, names_directive}
use Rattle.c_lexer.specs.Numbers.{type_of}
use Rattle.c_lexer.specs.Quoted.{IsQuoted}
use Rattle.c_lexer.specs.Marks.{is_mark}
use Rattle.c_lexer.specs.Parts.{IsPart, IsToken}
use Rattle.c_lexer.specs.Steps.Pieces.{part_of}
use Rattle.c_lexer.specs.Faults.{Fails}
use Rattle.c_lexer.specs.Steps.ReadingConstants.{number_of, character_of, typed, held}
use Rattle.c_lexer.specs.Steps.Reading.{piece_of, token_at, token_piece, gap_piece, comment_piece}
use Rattle.c_lexer.specs.Steps.Reading.{comment_length, directive_piece, directive_line}
use Rattle.c_lexer.specs.Steps.Reading.{behind_spaces, number_piece, character_in, text_in}
use Rattle.c_lexer.specs.Steps.Reading.{close_quote, close_from, mark_length, mark_piece}
use Rattle.c_lexer.specs.Steps.Reading.{opens_comment, opens_line_comment}
use Rattle.c_lexer.proofs.ByteFacts.{word_head_goes_on, digit_goes_on}
use Rattle.c_lexer.proofs.Runs.{run_passes, run_ends, take_more}
use Rattle.c_lexer.proofs.Comments.{close_none, open_lacks}
use Rattle.c_lexer.proofs.Directives.{starts_two, front_take, comment_is, directive_is}
use Rattle.c_lexer.proofs.Directives.{directive_read}
use Rattle.c_lexer.proofs.Constants.{Constant, constant_is, constant_malformed}
use Rattle.c_lexer.proofs.Quotes.{Enclosed, quote_is, quoted_read, quoted_made, Stood, character_is}
use Rattle.c_lexer.proofs.Quotes.{character_malformed}
use Rattle.c_lexer.proofs.MarkFacts.{LongestFront, mark_is}
use Rattle.cpa_ints.specs.declared.data_model.DataModel.{DataModel}

-- what is read is a part that stands, or a rule that is broken
abbrev Right : DataModel → Bool → List ℕ → Result Piece Rule → Type 0
Right model fresh text read =
    MatchResult read (λ (piece : Piece). IsPart model fresh
    (part_of piece.kind (take piece.length text))
    (drop piece.length text)) (λ rule. Fails model fresh rule text)

-- the token of this length stands, or a rule is broken
abbrev TokenRight : DataModel → Bool → List ℕ → ℕ → Result TokenKind Rule → Type 0
TokenRight model fresh text n read =
    MatchResult read (λ kind. IsToken model kind (take n text) (drop n text)) (λ rule.
    Fails model fresh rule text)

token_right : (model : DataModel) (fresh : Bool) (text : List ℕ) (n : ℕ)
    (read : Result TokenKind Rule) →
    TokenRight model fresh text n read → Right model fresh text (token_piece n read)
token_right model fresh text n (Ok kind) right = right
token_right model fresh text n (Err rule) right = right

blank_right : (model : DataModel) (fresh : Bool) (byte : ℕ) (rest : List ℕ) → is_blank byte ≡ true →
    Right model fresh (byte ∷ rest) (gap_piece 1)
blank_right model fresh byte rest blank = inl (record
    { byte = byte; spelled = refl; blank = blank })

directive_right : (model : DataModel) (fresh : Bool) (rest : List ℕ) →
    Right model fresh (35 ∷ rest) (directive_piece fresh (35 ∷ rest))
directive_right model fresh rest = cond_both fresh _ _ (Right model fresh (35 ∷ rest))
    (λ first. cond_both (names_directive (behind_spaces (directive_line (35 ∷ rest)))) _ _
    (Right model fresh (35 ∷ rest))
    (λ named. (first, directive_is rest named, run_ends is_on_line (35 ∷ rest)))
    (λ unnamed. record {
      first = first;
      begins = (rest, refl);
      unknown =
          λ bytes behind e is stop. both_ways _ unnamed
          (ap (λ z. names_directive (behind_spaces (directive_line z))) e
          ∙ directive_read bytes behind is stop);
    }))
    (λ later. inl (later, (rest, refl)))

none_length : (found : Option ℕ) → option_map (λ n. n + 2) found ≡ None → found ≡ None
none_length None e = refl
none_length (Some n) e = cc

comment_right : (model : DataModel) (fresh : Bool) (text : List ℕ) (found : Option ℕ) →
    opens_comment text ≡ true →
    comment_length text ≡ found → Right model fresh text (comment_piece found)
comment_right model fresh text None opens read =
    let two = starts_two 47 42 text opens in
    let none : close_from false two.0 ≡ None = none_length (close_from false two.0)
    (ap comment_length (sym two.1) ∙ read) in
    inl (record {
      body = two.0;
      spelled = two.1;
      unclosed = open_lacks false two.0
          (close_none false two.0 none);
    })
comment_right model fresh text (Some n) opens read =
    inr (inl (front_take IsBlockComment text n (comment_is text n opens read)))

line_right : (model : DataModel) (fresh : Bool) (text : List ℕ) → opens_line_comment text ≡ true →
    Right model fresh text (gap_piece (prefix_len is_on_line text))
line_right model fresh text opens =
    let two = starts_two 47 47 text opens in
    let body : List ℕ = take (prefix_len is_on_line two.0) two.0 in
    let whole : take (prefix_len is_on_line (47 ∷ 47 ∷ two.0)) (47 ∷ 47 ∷ two.0) ≡ 47 ∷ 47 ∷ body =
    take_more is_on_line 47 (47 ∷ two.0) refl
    ∙ ap (λ z. 47 ∷ z) (take_more is_on_line 47 two.0 refl) in
    inr (inr (
      record {
        body = body;
        spelled = ap (λ z. take (prefix_len is_on_line z) z) two.1
            ∙ whole;
        on_line = run_passes is_on_line two.0;
      },
      run_ends is_on_line text,
    ))

word_right : (model : DataModel) (fresh : Bool) (byte : ℕ) (rest : List ℕ) →
    is_word_head byte ≡ true →
    Right model fresh (byte ∷ rest) (token_piece (prefix_len is_word_byte (byte ∷ rest)) (Ok Word))
word_right model fresh byte rest head =
    let front = take_more is_word_byte byte rest (word_head_goes_on byte head) in (
      and_from _ _ (ap (begins_with is_word_head) front
          ∙ head) (run_passes is_word_byte (byte ∷ rest)),
      run_ends is_word_byte (byte ∷ rest),
    )

typed_right : (model : DataModel) (fresh : Bool) (text : List ℕ) (n : ℕ)
    (c : Constant model (take n text))
    (found : Option IntType) → type_of model c.suffix c.base c.number ≡ found →
    StopsAt is_number_byte (drop n text) →
    TokenRight model fresh text n (typed found c.number)
typed_right model fresh text n c None e stop = inl (record {
  run = take n text;
  rest = drop n text;
  spelled = sym (take-append-drop n text);
  longest = stop;
  base = c.base;
  suffix = c.suffix;
  number = c.number;
  constant = c.constant;
  unheld = e;
})
typed_right model fresh text n c (Some t) e stop = (
  record {
    base = c.base;
    suffix = c.suffix;
    number = c.number;
    constant = c.constant;
    first_type = e;
    valued = refl;
  },
  stop,
)

number_right : (model : DataModel) (fresh : Bool) (byte : ℕ) (rest : List ℕ) →
    is_ascii_digit byte ≡ true →
    Right model fresh (byte ∷ rest) (number_piece model (byte ∷ rest))
number_right model fresh byte rest digit =
    let text : List ℕ = byte ∷ rest in
    let n : ℕ = prefix_len is_number_byte text in
    let stop : StopsAt is_number_byte (drop n text) = run_ends is_number_byte text in
    token_right model fresh text n (number_of model (take n text))
    (elim (constant_is model (take n text)) [
      | inl c ↦ subst (TokenRight model fresh text n) (sym c.read)
          (typed_right model fresh text n c (type_of model c.suffix c.base c.number) refl stop)
      | inr e ↦ subst (TokenRight model fresh text n) (sym e) (inr (inr (inl (record {
        run = take n text;
        rest = drop n text;
        spelled = sym (take-append-drop n text);
        longest = record {
          digit =
              ap (begins_with is_ascii_digit) (take_more is_number_byte byte rest
              (digit_goes_on byte digit)) ∙ digit;
          all = run_passes is_number_byte text;
          longest = stop;
        };
        malformed =
            λ base suffix number is. constant_malformed model (take n text) base suffix number e is;
      }))))
    ])

-- the bytes of a quoted part
quoted_front : (quote n : ℕ) (rest : List ℕ) (c : Enclosed quote false rest n) →
    (take (n + 2) (quote ∷ rest) ≡ quote ∷ (c.content ++ quote ∷ []))
    × (quote ∷ rest ≡ (quote ∷ (c.content ++ quote ∷ [])) ++ c.rest) × (take n rest ≡ c.content)
quoted_front quote n rest c =
    let bytes : List ℕ = quote ∷ (c.content ++ quote ∷ []) in
    let whole : quote ∷ rest ≡ bytes ++ c.rest = ap (λ z. quote ∷ z) (c.spelled
    ∙ sym (append_assoc c.content (quote ∷ []) c.rest)) in
    let long : n + 2 ≡ length bytes = omega (
      arith,
      c.long,
      length-append c.content
          (quote ∷ []),
    ) in (
      ap (λ z. take z (quote ∷ rest)) long ∙ ap (take (length bytes)) whole
          ∙ take-append_seam bytes c.rest,
      whole,
      ap (λ z. take z rest) c.long ∙ ap (take (length c.content)) c.spelled
          ∙ take-append_seam c.content (quote ∷ c.rest),
    )

open_right : (quote : ℕ) (rest : List ℕ) → (quote == 10) ≡ false → (92 == quote) ≡ false →
    close_quote quote false rest ≡ None →
    (bytes content behind : List ℕ) → quote ∷ rest ≡ bytes ++ behind →
    IsQuoted quote bytes content → ⊥
open_right quote rest line other none bytes content behind e is =
    let some = ap (λ z. close_quote quote false (drop 1 z)) e
    ∙ quoted_read quote bytes content behind line other is in
    let bad : None ≡ Some (length content) = sym none ∙ some in
    cc

held_right : (model : DataModel) (fresh : Bool) (n : ℕ) (rest : List ℕ)
    (c : Enclosed 39 false rest n)
    (s : Stood c.content) → TokenRight model fresh (39 ∷ rest) (n + 2) (held s.number)
held_right model fresh n rest c s =
    let front = quoted_front 39 n rest c in
    cond_both (nat_le s.number 255) _ _ (TokenRight model fresh (39 ∷ rest) (n + 2))
    (λ small. record {
      content = c.content;
      number = s.number;
      quoted = quoted_made 39 _ c.content front.0 c.inside;
      stands_for = s.stands_for;
      fits = leb-true s.number 255 small;
      valued = refl;
    })
    (λ large. inr (record {
      bytes = 39 ∷ (c.content ++ 39 ∷ []);
      content = c.content;
      rest = c.rest;
      number = s.number;
      spelled = front.1;
      quoted = quoted_made 39 (39 ∷ (c.content ++ 39 ∷ [])) c.content refl c.inside;
      stands_for = s.stands_for;
      large = leb-false s.number 255 large;
    }))

character_right : (model : DataModel) (fresh : Bool) (rest : List ℕ) (found : Option ℕ) →
    close_quote 39 false rest ≡ found → Right model fresh (39 ∷ rest)
    (character_in found (39 ∷ rest))
character_right model fresh rest None read =
    inr (inl (record { begins = (rest, refl); unclosed = open_right 39 rest refl refl read }))
character_right model fresh rest (Some n) read =
    let c = quote_is 39 false rest n read in
    let front = quoted_front 39 n rest c in
    token_right model fresh (39 ∷ rest) (n + 2) (character_of (take n rest))
    (subst (λ z. TokenRight model fresh (39 ∷ rest) (n + 2) (character_of z)) (sym front.2)
    (elim (character_is c.content) [
      | inl s ↦ subst (TokenRight model fresh (39 ∷ rest) (n + 2)) (sym s.read)
          (held_right model fresh n rest c s)
      | inr e ↦ subst (TokenRight model fresh (39 ∷ rest) (n + 2)) (sym e) (inr (inr (inr (record {
        bytes = 39 ∷ (c.content ++ 39 ∷ []);
        content = c.content;
        rest = c.rest;
        spelled = front.1;
        quoted = quoted_made 39 (39 ∷ (c.content ++ 39 ∷ [])) c.content refl c.inside;
        malformed = λ number is. character_malformed c.content number e is;
      }))))
    ]))

text_right : (model : DataModel) (fresh : Bool) (rest : List ℕ) (found : Option ℕ) →
    close_quote 34 false rest ≡ found →
    Right model fresh (34 ∷ rest) (text_in found)
text_right model fresh rest None read =
    inr (inr (record { begins = (rest, refl); unclosed = open_right 34 rest refl refl read }))
text_right model fresh rest (Some n) read =
    let c = quote_is 34 false rest n read in
    let front = quoted_front 34 n rest c in
    record { content = c.content; quoted = quoted_made 34 _ c.content front.0 c.inside }

-- what is known of a first byte with which only a mark can begin
record Other (text : List ℕ) (byte : ℕ) : Type 0 where
  blank : is_blank byte ≡ false
  hash : (byte == 35) ≡ false
  comment : opens_comment text ≡ false
  line_comment : opens_line_comment text ≡ false
  word : is_word_head byte ≡ false
  digit : is_ascii_digit byte ≡ false
  single : (byte == 39) ≡ false
  double : (byte == 34) ≡ false

mark_right_by : (model : DataModel) (fresh : Bool) (text : List ℕ) (n : ℕ) → LongestFront text n →
    opens_comment text ≡ false → opens_line_comment text ≡ false →
    Right model fresh text (mark_piece n)
mark_right_by model fresh text n f a b = cond_both (n == 0) _ _ (Right model fresh text)
    (λ h. (let none : n ≡ 0 = eqb-true n 0 h in absurd
    (false≢true (ap (λ z. is_mark (take z text)) (sym none) ∙ f.marked))))
    (λ h. record {
      marked = f.marked;
      longest = λ longer after is e. f.longest longer after is (sym (take-append-drop n text) ∙ e);
      no_comment =
          or_from _ _ (ap opens_comment (take-append-drop n text)
          ∙ a) (ap opens_line_comment (take-append-drop n text) ∙ b);
    })

mark_right : (model : DataModel) (fresh : Bool) (byte : ℕ) (rest : List ℕ) →
    Other (byte ∷ rest) byte →
    Right model fresh (byte ∷ rest) (mark_piece (mark_length (byte ∷ rest)))
mark_right model fresh byte rest o = elim (mark_is (byte ∷ rest)) [
  | inl f ↦ mark_right_by model fresh (byte ∷ rest)
      (mark_length (byte ∷ rest)) f o.comment o.line_comment
  | inr none ↦ subst (λ z. Right model fresh (byte ∷ rest) (mark_piece z)) (sym none.0)
      (inr (inl (record {
        byte = byte;
        rest = rest;
        spelled = refl;
        no_blank = o.blank;
        no_hash = eqb-false byte 35 o.hash;
        no_quote =
            λ quote. elim quote [
              | inl e ↦ eqb-false byte 39 o.single e
              | inr e ↦ eqb-false byte 34
                  o.double e
            ];
        no_word = o.word;
        no_number = o.digit;
        no_mark = λ mark after is e. none.1 mark after is e;
      })))
]

token_at_right : (model : DataModel) (fresh : Bool) (byte : ℕ) (rest : List ℕ) →
    is_blank byte ≡ false →
    (byte == 35) ≡ false → opens_comment (byte ∷ rest) ≡ false →
    opens_line_comment (byte ∷ rest) ≡ false →
    Right model fresh (byte ∷ rest) (token_at model byte (byte ∷ rest))
token_at_right model fresh byte rest a b c d =
    cond_both (is_word_head byte) _ _ (Right model fresh (byte ∷ rest))
    (λ h. word_right model fresh byte rest h)
    (λ e. cond_both (is_ascii_digit byte) _ _ (Right model fresh (byte ∷ rest))
    (λ h. number_right model fresh byte rest h)
    (λ f. cond_both (byte == 39) _ _ (Right model fresh (byte ∷ rest))
    (λ h. subst (λ z. Right model fresh (z ∷ rest) (character_in (close_quote 39 false rest)
    (z ∷ rest)))
    (sym (eqb-true byte 39 h)) (character_right model fresh rest (close_quote 39 false rest) refl))
    (λ g. cond_both (byte == 34) _ _ (Right model fresh (byte ∷ rest))
    (λ h. subst (λ z. Right model fresh (z ∷ rest) (text_in (close_quote 34 false rest)))
    (sym (eqb-true byte 34 h)) (text_right model fresh rest (close_quote 34 false rest) refl))
    (λ h. mark_right model fresh byte rest (record {
      blank = a;
      hash = b;
      comment = c;
      line_comment = d;
      word = e;
      digit = f;
      single = g;
      double = h;
    })))))

-- what reading one part gives is right
right : (model : DataModel) (fresh : Bool) (byte : ℕ) (rest : List ℕ) →
    Right model fresh (byte ∷ rest) (piece_of model fresh (byte ∷ rest))
right model fresh byte rest = cond_both (is_blank byte) _ _ (Right model fresh (byte ∷ rest))
    (λ h. blank_right model fresh byte rest h)
    (λ a. cond_both (byte == 35) _ _ (Right model fresh (byte ∷ rest))
    (λ h. subst (λ z. Right model fresh (z ∷ rest) (directive_piece fresh (z ∷ rest)))
    (sym (eqb-true byte 35 h)) (directive_right model fresh rest))
    (λ b. cond_both (opens_comment (byte ∷ rest)) _ _ (Right model fresh (byte ∷ rest))
    (λ h. comment_right model fresh (byte ∷ rest) (comment_length (byte ∷ rest)) h refl)
    (λ c. cond_both (opens_line_comment (byte ∷ rest)) _ _ (Right model fresh (byte ∷ rest))
    (λ h. line_right model fresh (byte ∷ rest) h)
    (λ d. token_at_right model fresh byte rest a b c d))))

pub piece_stands : (model : DataModel) (fresh : Bool) (text : List ℕ) (piece : Piece) →
    piece_of model fresh text ≡ Ok piece →
    IsPart model fresh (part_of piece.kind (take piece.length text)) (drop piece.length text)
piece_stands model fresh [] piece e = cc
piece_stands model fresh (byte ∷ rest) piece e =
    subst (Right model fresh (byte ∷ rest)) e (right model fresh byte rest)

pub piece_fails : (model : DataModel) (fresh : Bool) (text : List ℕ) (rule : Rule) →
    0 < length text →
    piece_of model fresh text ≡ Err rule → Fails model fresh rule text
piece_fails model fresh [] rule some e = absurd (omega arith)
piece_fails model fresh (byte ∷ rest) rule some e =
    subst (Right model fresh (byte ∷ rest)) e (right model fresh byte rest)
