-- What stands between quotes, as it is read.
use Rattle.std.proofs.Common.{◌≡◌, ◌≢◌, ℕ, ◌+◌, ◌<◌, ◌≤◌, Bool, true, false, not, cond, ◌&&◌, ◌||◌}
use Rattle.std.proofs.Common.{◌==◌, List, [], ◌∷◌, ◌++◌, length, drop, arith, refl, ap, sym, ◌∙◌}
use Rattle.std.proofs.Common.{subst, ◌⊎◌, inl, inr, Option, Some, None, append_assoc, eq-eqb}
use Rattle.std.proofs.Common.{nat_le, Err}
use Rattle.std.specs.List.{AllByRecursion, concat, list_all}
use Rattle.std.specs.Char.{is_digit}
use Rattle.std.specs.Str.Parse.{digits_value}
use Rattle.std.proofs.lemmas.Bool.Decides.{nat_tests}
use Rattle.std.proofs.lemmas.Bool.{cases_Bool, and_parts, and_from, eqb-true, eqb-false, ne_eqb}
use Rattle.std.proofs.lemmas.Bool.{not-true, not_from_false, leb-true, le-leb}
use Rattle.c_lexer.specs.declared.fault.Rule.TheVariants.{L1}
use Rattle.c_lexer.specs.Bytes.{is_on_line}
use Rattle.c_lexer.specs.Quoted.{IsUnescaped, IsEscaped, IsQuoted, simple_escape, IsPlain}
use Rattle.c_lexer.specs.Quoted.{IsOctalEscape, IsHexEscape, StandsFor}
use Rattle.c_lexer.specs.Steps.Reading.{close_quote, one_more}
use Rattle.c_lexer.specs.Steps.ReadingConstants.{is_plain, single_of, is_numeral, is_hex_escape}
use Rattle.c_lexer.specs.Steps.ReadingConstants.{is_octal_escape, held, numeric_escape, single_or}
use Rattle.c_lexer.specs.Steps.ReadingConstants.{character_of}

-- what may stand up to the closing quote, where `escaped` says that a backslash stands before
abbrev pub is_inside : ℕ → Bool → List ℕ → Bool
is_inside quote escaped [] = not escaped
is_inside quote escaped (byte ∷ rest) =
    is_on_line byte && (escaped || not (byte == quote)) && is_inside quote
    (byte == 92 && not escaped) rest

abbrev pub IsUnit : ℕ → List ℕ → Type 0
IsUnit quote unit = IsUnescaped quote unit ⊎ IsEscaped unit

unescaped_inside : (quote byte : ℕ) (rest : List ℕ) → is_on_line byte ≡ true → byte ≢ quote →
    byte ≢ 92 → is_inside quote false rest ≡ true → is_inside quote false (byte ∷ rest) ≡ true
unescaped_inside quote byte rest line no_quote no_backslash inside =
    let other : (byte == 92 && not false) ≡ false = rw (ne_eqb byte 92 no_backslash) in
    and_from _ _ (and_from _ _ line (not_from_false _ (ne_eqb byte quote no_quote)))
    (rw other inside)

escaped_inside : (quote byte : ℕ) (rest : List ℕ) → (92 == quote) ≡ false → is_on_line byte ≡ true →
    is_inside quote false rest ≡ true → is_inside quote false (92 ∷ byte ∷ rest) ≡ true
escaped_inside quote byte rest other line inside =
    let plain : (byte == 92 && not true) ≡ false = none (byte == 92) in
    and_from _ _ (not_from_false _ other) (and_from _ _ (and_from _ _ line refl) (rw plain inside))
  where
    none : (b : Bool) → (b && false) ≡ false
    none true = refl
    none false = refl

pub units_inside : (quote : ℕ) (units : List (List ℕ)) → (92 == quote) ≡ false →
    AllByRecursion (IsUnit quote) units → is_inside quote false (concat units) ≡ true
units_inside quote [] other each = refl
units_inside quote (unit ∷ units) other each =
    let behind : is_inside quote false (concat units)
    ≡ true = units_inside quote units other each.1 in
    elim each.0 [
      | inl u ↦ ap (λ z. is_inside quote false (z ++ concat units)) u.spelled
          ∙ unescaped_inside quote u.byte (concat units) u.on_line u.no_quote u.no_backslash behind
      | inr u ↦ ap (λ z. is_inside quote false (z ++ concat units)) u.spelled
          ∙ escaped_inside quote u.byte (concat units) other u.on_line behind
    ]

-- the units of what may stand inside, with the backslash before it
record Divided (quote : ℕ) (text : List ℕ) : Type 0 where
  units : List (List ℕ)
  divided : text ≡ concat units
  each : AllByRecursion (IsUnit quote) units

abbrev after_backslash : Bool → List ℕ → List ℕ
after_backslash true text = 92 ∷ text
after_backslash false text = text

inside_units : (quote : ℕ) (escaped : Bool) (content : List ℕ) →
    is_inside quote escaped content ≡ true → Divided quote (after_backslash escaped content)
inside_units quote true [] inside = cc
inside_units quote false [] inside = record { units = []; divided = refl; each = tt }
inside_units quote true (byte ∷ rest) inside =
    let p = and_parts (is_on_line byte && true) (is_inside quote (byte == 92 && false) rest) inside
    in
    let q = and_parts (is_on_line byte) true p.0 in
    let plain : (byte == 92 && false) ≡ false = none (byte == 92) in
    let more : Divided quote rest = inside_units quote false rest
    (subst (λ z. is_inside quote z rest ≡ true) plain p.1) in
    record {
      units = (92 ∷ byte ∷ []) ∷ more.units;
      divided = ap (λ z. 92 ∷ byte ∷ z) more.divided;
      each = (inr (record { byte = byte; spelled = refl; on_line = q.0 }), more.each);
    }
  where
    none : (b : Bool) → (b && false) ≡ false
    none true = refl
    none false = refl
inside_units quote false (byte ∷ rest) inside =
    let p = and_parts (is_on_line byte && not (byte == quote))
    (is_inside quote (byte == 92 && true) rest) inside in
    let q = and_parts (is_on_line byte) (not (byte == quote)) p.0 in
    elim (cases_Bool (byte == 92)) [
      | inl h ↦ (let starred : (byte == 92 && true) ≡ true = rw h in
          let more : Divided quote (92 ∷ rest) = inside_units quote true rest
          (subst (λ z. is_inside quote z rest ≡ true) starred p.1) in
          record {
            units = more.units;
            divided = ap (λ z. z ∷ rest) (eqb-true byte 92 h)
                ∙ more.divided;
            each = more.each;
          })
      | inr h ↦ (let plain : (byte == 92 && true) ≡ false = rw h in
          let more : Divided quote rest = inside_units quote false rest
          (subst (λ z. is_inside quote z rest ≡ true) plain p.1) in
          record {
            units = (byte ∷ []) ∷ more.units;
            divided = ap (λ z. byte ∷ z) more.divided;
            each = (
              inl (record {
                byte = byte;
                spelled = refl;
                no_quote = eqb-false byte quote (not-true (byte == quote) q.1);
                no_backslash = eqb-false byte 92 h;
                on_line = q.0;
              }),
              more.each,
            );
          })
    ]

-- a content that may stand inside, between its quotes
pub quoted_made : (quote : ℕ) (bytes content : List ℕ) → bytes ≡ quote ∷ (content ++ quote ∷ []) →
    is_inside quote false content ≡ true → IsQuoted quote bytes content
quoted_made quote bytes content e inside =
    let d = inside_units quote false content inside in
    record { units = d.units; spelled = e; divided = d.divided; each = d.each }

-- the content before the closing quote
pub record Enclosed (quote : ℕ) (escaped : Bool) (text : List ℕ) (n : ℕ) : Type 0 where
  pub content : List ℕ
  pub rest : List ℕ
  pub spelled : text ≡ content ++ quote ∷ rest
  pub long : n ≡ length content
  pub inside : is_inside quote escaped content ≡ true

enclosed_more : (quote byte : ℕ) (escaped : Bool) (rest : List ℕ) (n : ℕ) (found : Option ℕ) →
    (byte == 10) ≡ false → (byte == quote && not escaped) ≡ false →
    close_quote quote (byte == 92 && not escaped) rest ≡ found → one_more found ≡ Some n →
    ((m : ℕ) → close_quote quote (byte == 92 && not escaped) rest ≡ Some m →
    Enclosed quote (byte == 92 && not escaped) rest m) →
    Enclosed quote escaped (byte ∷ rest) n
enclosed_more quote byte escaped rest n None line kept read e ih = cc
enclosed_more quote byte escaped rest n (Some m) line kept read e ih =
    let c = ih m read in
    let same : m + 1 ≡ n = cc in
    let on_line : is_on_line byte ≡ true = rw line in
    let allowed : (escaped || not (byte == quote)) ≡ true = allow (byte == quote) escaped kept in
    record {
      content = byte ∷ c.content;
      rest = c.rest;
      spelled = ap (λ z. byte ∷ z) c.spelled;
      long = omega (arith, c.long);
      inside = and_from _ _ (and_from _ _ on_line allowed) c.inside;
    }
  where
    allow : (q s : Bool) → (q && not s) ≡ false → (s || not q) ≡ true
    allow true true h = refl
    allow true false h = cc
    allow false true h = refl
    allow false false h = refl

pub quote_is : (quote : ℕ) (escaped : Bool) (text : List ℕ) (n : ℕ) →
    close_quote quote escaped text ≡ Some n → Enclosed quote escaped text n
quote_is quote escaped [] n e = cc
quote_is quote escaped (byte ∷ rest) n e = elim (cases_Bool (byte == 10)) [
  | inl h ↦ (let bad : None ≡ Some n = rw h at e in cc)
  | inr h ↦ elim (cases_Bool (byte == quote && not escaped)) [
    | inl g ↦ (let zero_is : Some 0 ≡ Some n = rw (h, g) at e in
        let same : 0 ≡ n = cc in
        let p = and_parts (byte == quote) (not escaped) g in
        record {
          content = [];
          rest = rest;
          spelled = ap (λ z. z ∷ rest) (eqb-true byte quote p.0);
          long = sym same;
          inside = p.1;
        })
    | inr g ↦ (let more : one_more (close_quote quote (byte == 92 && not escaped) rest)
        ≡ Some n = rw (h, g) at e in
        enclosed_more quote byte escaped rest n (close_quote quote (byte == 92 && not escaped) rest)
        h g refl more (quote_is quote (byte == 92 && not escaped) rest))
  ]
]

-- the quote behind what may stand inside closes it
pub quote_read : (quote : ℕ) (escaped : Bool) (content rest : List ℕ) → (quote == 10) ≡ false →
    is_inside quote escaped content ≡ true →
    close_quote quote escaped (content ++ quote ∷ rest) ≡ Some (length content)
quote_read quote escaped [] rest line inside =
    let closes : (quote == quote && not escaped) ≡ true = and_from _ _ (eq-eqb quote quote refl)
    inside in
    rw (line, closes)
quote_read quote escaped (byte ∷ content) rest line inside =
    let p = and_parts (is_on_line byte && (escaped || not (byte == quote)))
    (is_inside quote (byte == 92 && not escaped) content) inside in
    let q = and_parts (is_on_line byte) (escaped || not (byte == quote)) p.0 in
    let here : (byte == 10) ≡ false = not-true (byte == 10) q.0 in
    let kept : (byte == quote && not escaped) ≡ false = keep (byte == quote) escaped q.1 in
    let ih : close_quote quote (byte == 92 && not escaped) (content ++ quote ∷ rest)
    ≡ Some (length content) = quote_read quote (byte == 92 && not escaped) content rest line p.1
    in
    let more : one_more (Some (length content)) ≡ Some (length (byte ∷ content)) = ap Some
    (omega arith) in
    rw (here, kept, ih) more
  where
    keep : (q s : Bool) → (s || not q) ≡ true → (q && not s) ≡ false
    keep true true h = refl
    keep true false h = cc
    keep false true h = refl
    keep false false h = refl

-- a content and its quotes begin the text
pub quoted_read : (quote : ℕ) (bytes content rest : List ℕ) → (quote == 10) ≡ false →
    (92 == quote) ≡ false → IsQuoted quote bytes content →
    close_quote quote false (drop 1 (bytes ++ rest)) ≡ Some (length content)
quoted_read quote bytes content rest line other is =
    let inside : is_inside quote false content ≡ true = ap (is_inside quote false) is.divided
    ∙ units_inside quote is.units other is.each in
    let behind : drop 1 (bytes ++ rest) ≡ content ++ quote ∷ rest = ap (λ z. drop 1 (z ++ rest))
    is.spelled ∙ append_assoc content (quote ∷ []) rest in
    ap (close_quote quote false) behind ∙ quote_read quote false content rest line inside

-- what a character constant stands for

held_not_malformed : (number : ℕ) → held number ≡ Err L1 → ⊥
held_not_malformed number e = elim (cases_Bool (nat_le number 255)) [
  | inl h ↦ (let bad = rw h at e in cc)
  | inr h ↦ (let bad = rw h at e in cc)
]

plain_read : (number : ℕ) → 32 ≤ number → number ≤ 126 → number ≢ 39 → number ≢ 92 →
    is_plain number ≡ true
plain_read number low high no_quote no_backslash =
    and_from _ _ (and_from _ _ (and_from _ _ (le-leb 32 number low) (le-leb number 126 high))
    (not_from_false _ (ne_eqb number 39 no_quote)))
    (not_from_false _ (ne_eqb number 92 no_backslash))

-- an octal digit is no letter of an escape
octal_low : (byte : ℕ) → is_digit byte 8 ≡ true → (47 < byte) × (byte < 56)
octal_low byte h = (grind (arith, nat_tests), grind (arith, nat_tests))

no_simple : (byte : ℕ) → 47 < byte → byte < 56 → simple_escape byte ≡ None
no_simple byte low high =
    let a : (byte == 39) ≡ false = ne_eqb byte 39 (λ e. omega arith) in
    let b : (byte == 34) ≡ false = ne_eqb byte 34 (λ e. omega arith) in
    let c : (byte == 63) ≡ false = ne_eqb byte 63 (λ e. omega arith) in
    let d : (byte == 92) ≡ false = ne_eqb byte 92 (λ e. omega arith) in
    let e : (byte == 97) ≡ false = ne_eqb byte 97 (λ e. omega arith) in
    let f : (byte == 98) ≡ false = ne_eqb byte 98 (λ e. omega arith) in
    let g : (byte == 102) ≡ false = ne_eqb byte 102 (λ e. omega arith) in
    let h : (byte == 110) ≡ false = ne_eqb byte 110 (λ e. omega arith) in
    let i : (byte == 114) ≡ false = ne_eqb byte 114 (λ e. omega arith) in
    let j : (byte == 116) ≡ false = ne_eqb byte 116 (λ e. omega arith) in
    let k : (byte == 118) ≡ false = ne_eqb byte 118 (λ e. omega arith) in
    rw (a, b, c, d, e, f, g, h, i, j, k)

octal_single : (digits : List ℕ) → list_all (λ byte. is_digit byte 8) digits ≡ true →
    0 < length digits → (single_of (92 ∷ digits) ≡ None) × (is_hex_escape (92 ∷ digits) ≡ false)
octal_single [] octal some = absurd (omega arith)
octal_single (byte ∷ []) octal some =
    let p = and_parts (is_digit byte 8) true octal in
    let range = octal_low byte p.0 in
    let no_x : (byte == 120) ≡ false = ne_eqb byte 120 (λ e. omega (arith, range.1)) in
    (no_simple byte range.0 range.1, rw no_x)
octal_single (byte ∷ next ∷ rest) octal some =
    let p = and_parts (is_digit byte 8) (list_all (λ b. is_digit b 8) (next ∷ rest)) octal in
    let range = octal_low byte p.0 in
    let no_x : (byte == 120) ≡ false = ne_eqb byte 120 (λ e. omega (arith, range.1)) in
    (refl, rw no_x)

numeral_read : (radix : ℕ) (digits : List ℕ) →
    list_all (λ byte. is_digit byte radix) digits ≡ true → 0 < length digits →
    is_numeral radix digits ≡ true
numeral_read radix digits all some =
    and_from _ _ (not_from_false _ (ne_eqb (length digits) 0 (λ e. omega arith))) all

-- a number that is read so is read whole
single_first : (content : List ℕ) (number : ℕ) → single_of content ≡ Some number →
    character_of content ≡ held number
single_first content number e = ap (λ z. single_or z content) e

simple_read : (content : List ℕ) (byte number : ℕ) → content ≡ 92 ∷ byte ∷ [] →
    simple_escape byte ≡ Some number → character_of content ≡ held number
simple_read content byte number spelled stands =
    single_first content number (ap single_of spelled ∙ stands)

octal_read : (digits : List ℕ) → list_all (λ byte. is_digit byte 8) digits ≡ true →
    0 < length digits → length digits ≤ 3 →
    character_of (92 ∷ digits) ≡ held (digits_value 8 digits)
octal_read digits octal some few =
    let single = octal_single digits octal some in
    let is : is_octal_escape (92 ∷ digits) ≡ true = and_from _ _ (le-leb (length digits) 3 few)
    (numeral_read 8 digits octal some) in
    let numeric : numeric_escape (92 ∷ digits) ≡ held (digits_value 8 digits) = rw (single.1, is) in
    ap (λ z. single_or z (92 ∷ digits)) single.0 ∙ numeric

hex_read : (digits : List ℕ) → list_all (λ byte. is_digit byte 16) digits ≡ true →
    0 < length digits → character_of (92 ∷ 120 ∷ digits) ≡ held (digits_value 16 digits)
hex_read [] hex some = absurd (omega arith)
hex_read (digit ∷ digits) hex some =
    let is : is_hex_escape (92 ∷ 120 ∷ digit ∷ digits)
    ≡ true = numeral_read 16 (digit ∷ digits) hex some in
    let numeric : numeric_escape (92 ∷ 120 ∷ digit ∷ digits)
    ≡ held (digits_value 16 (digit ∷ digits)) = rw is in
    numeric

pub character_read : (content : List ℕ) (number : ℕ) → StandsFor content number →
    character_of content ≡ held number
character_read content number is = elim is [
  | inl p ↦ single_first content number (ap single_of p.spelled
      ∙ ap (λ z. cond z (Some number) None) (plain_read number p.from_space p.to_tilde p.no_quote
      p.no_backslash))
  | inr other ↦ elim other [
    | inl s ↦ simple_read content s.byte number s.spelled s.stands_for
    | inr numeric ↦ elim numeric [
      | inl o ↦ ap character_of o.spelled ∙ octal_read o.digits o.octal o.some o.few
          ∙ ap held (sym o.valued)
      | inr x ↦ ap character_of x.spelled ∙ hex_read x.digits x.hexadecimal x.some
          ∙ ap held (sym x.valued)
    ]
  ]
]

-- what is read stands for its number
pub record Stood (content : List ℕ) : Type 0 where
  pub number : ℕ
  pub stands_for : StandsFor content number
  pub read : character_of content ≡ held number

single_plain : (byte : ℕ) → is_plain byte ≡ true → IsPlain (byte ∷ []) byte
single_plain byte h =
    let p = and_parts _ _ h in
    let q = and_parts _ _ p.0 in
    let r = and_parts _ _ q.0 in
    record {
      spelled = refl;
      from_space = leb-true 32 byte r.0;
      to_tilde = leb-true byte 126 r.1;
      no_quote = eqb-false byte 39 (not-true (byte == 39) q.1);
      no_backslash = eqb-false byte 92 (not-true (byte == 92) p.1);
    }

-- a single byte or a simple escape
single_is : (content : List ℕ) (number : ℕ) → single_of content ≡ Some number →
    StandsFor content number
single_is [] number e = cc
single_is (first ∷ []) number e = elim (cases_Bool (is_plain first)) [
  | inl h ↦ (let some : Some first ≡ Some number = rw h at e in let same : first ≡ number = cc in
      inl (subst (IsPlain (first ∷ [])) same (single_plain first h)))
  | inr h ↦ (let bad : None ≡ Some number = rw h at e in cc)
]
single_is (first ∷ second ∷ []) number e = elim (cases_Bool (first == 92)) [
  | inl h ↦ (let stands : simple_escape second ≡ Some number = rw h at e in
      inr (inl (record {
        byte = second;
        spelled = ap (λ z. z ∷ second ∷ []) (eqb-true first 92 h);
        stands_for = stands;
      })))
  | inr h ↦ (let bad : None ≡ Some number = rw h at e in cc)
]
single_is (first ∷ second ∷ third ∷ rest) number e = cc

numeral_parts : (radix : ℕ) (digits : List ℕ) → is_numeral radix digits ≡ true →
    (0 < length digits) × (list_all (λ byte. is_digit byte radix) digits ≡ true)
numeral_parts radix digits h =
    let p = and_parts _ _ h in
    let some = eqb-false (length digits) 0 (not-true (length digits == 0) p.0) in
    (omega arith, p.1)

hex_is : (content : List ℕ) → is_hex_escape content ≡ true →
    IsHexEscape content (digits_value 16 (drop 2 content))
hex_is [] h = cc
hex_is (first ∷ []) h = cc
hex_is (first ∷ second ∷ digits) h =
    let p = and_parts (first == 92 && second == 120) (is_numeral 16 digits) h in
    let q = and_parts (first == 92) (second == 120) p.0 in
    let n = numeral_parts 16 digits p.1 in
    let one : first ≡ 92 = eqb-true first 92 q.0 in
    let two : second ≡ 120 = eqb-true second 120 q.1 in
    record { digits = digits; spelled = cc; hexadecimal = n.1; some = n.0; valued = refl }

octal_is : (content : List ℕ) → is_octal_escape content ≡ true →
    IsOctalEscape content (digits_value 8 (drop 1 content))
octal_is [] h = cc
octal_is (first ∷ digits) h =
    let p = and_parts (first == 92 && nat_le (length digits) 3) (is_numeral 8 digits) h in
    let q = and_parts (first == 92) (nat_le (length digits) 3) p.0 in
    let n = numeral_parts 8 digits p.1 in
    let one : first ≡ 92 = eqb-true first 92 q.0 in
    record {
      digits = digits;
      spelled = cc;
      octal = n.1;
      some = n.0;
      few = leb-true (length digits) 3 q.1;
      valued = refl;
    }

stood : (content : List ℕ) (number : ℕ) → StandsFor content number → Stood content
stood content number is =
    record { number = number; stands_for = is; read = character_read content number is }

numeric_stood : (content : List ℕ) → single_of content ≡ None →
    Stood content ⊎ (character_of content ≡ Err L1)
numeric_stood content none = elim (cases_Bool (is_hex_escape content)) [
  | inl h ↦ inl (stood content (digits_value 16 (drop 2 content))
      (inr (inr (inr (hex_is content h)))))
  | inr h ↦ elim (cases_Bool (is_octal_escape content)) [
    | inl g ↦ inl (stood content (digits_value 8 (drop 1 content))
        (inr (inr (inl (octal_is content g)))))
    | inr g ↦ (let numeric : numeric_escape content ≡ Err L1 = rw (h, g) in
        inr (ap (λ z. single_or z content) none ∙ numeric))
  ]
]

stood_by : (content : List ℕ) (found : Option ℕ) → single_of content ≡ found →
    Stood content ⊎ (character_of content ≡ Err L1)
stood_by content None e = numeric_stood content e
stood_by content (Some number) e = inl (stood content number (single_is content number e))

pub character_is : (content : List ℕ) → Stood content ⊎ (character_of content ≡ Err L1)
character_is content = stood_by content (single_of content) refl

pub character_malformed : (content : List ℕ) (number : ℕ) → character_of content ≡ Err L1 →
    StandsFor content number → ⊥
character_malformed content number e is =
    held_not_malformed number (sym (character_read content number is) ∙ e)
