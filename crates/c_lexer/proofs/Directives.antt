-- Blanks, comments and directive lines, as they are read.
use Rattle.std.proofs.Common.{◌≡◌, ℕ, ◌+◌, ◌<◌, ◌≤◌, zero, suc, true, false, ◌&&◌, ◌||◌, List, []}
use Rattle.std.proofs.Common.{◌∷◌, ◌++◌, length, take, drop, arith, refl, ap, sym, ◌∙◌, subst, ◌⊎◌}
use Rattle.std.proofs.Common.{inl, inr, Option, Some, None, option_map, codes, nat_eq, append_assoc}
use Rattle.std.proofs.Common.{length-append, eqb}
use Rattle.std.specs.List.{prefix_len, starts_with, AllByRecursion, concat}
use Rattle.std.specs.Char.{is_ascii_digit}
use Rattle.std.proofs.lemmas.Bool.{cases_Bool, and_parts, or_cases, eqb-true, ne_eqb}
use Rattle.std.proofs.Math.Seq.{take-append_seam, drop-append_seam}
use Rattle.c_lexer.specs.Bytes.{is_blank, is_on_line, begins_with, StopsAt}
use Rattle.c_lexer.specs.Gaps.{IsBlank, IsBlockComment, IsDirective, names_directive}
use Rattle.c_lexer.specs.Steps.Reading.{close_from, comment_length, opens_comment, space_of}
use Rattle.c_lexer.specs.Steps.Reading.{behind_spaces, directive_line}
use Rattle.c_lexer.proofs.ByteFacts.{not_blank, digit_low}
use Rattle.c_lexer.proofs.Runs.{run_stops, run_passes, take_more}
use Rattle.c_lexer.proofs.Comments.{stays_open, open_lacks, lacks_open, close_some, close_read}
use Rattle.c_lexer.proofs.Comments.{front_body}
use Rattle.c_lexer.proofs.Spaces.{behind_more, behind_none}

-- a text that begins with two bytes
pub starts_two : (x y : ℕ) (text : List ℕ) → starts_with nat_eq text (x ∷ y ∷ []) ≡ true →
    (rest : List ℕ) × (text ≡ x ∷ y ∷ rest)
starts_two x y [] e = cc
starts_two x y (a ∷ []) e =
    let p = and_parts (eqb x a) false e in let bad : false ≡ true = p.1 in cc
starts_two x y (a ∷ b ∷ rest) e =
    let p = and_parts (eqb x a) (eqb y b && true) e in
    let q = and_parts (eqb y b) true p.1 in
    let first : x ≡ a = eqb-true x a p.0 in
    let second : y ≡ b = eqb-true y b q.0 in
    (rest, cc)

pub not_opened : (first : ℕ) (rest : List ℕ) → (47 ≡ first → ⊥) →
    opens_comment (first ∷ rest) ≡ false
not_opened first rest h = rw (ne_eqb 47 first h)

-- the text begins with a part of this length
pub record Front (P : List ℕ → Type 0) (text : List ℕ) (n : ℕ) : Type 0 where
  pub bytes : List ℕ
  pub rest : List ℕ
  pub spelled : text ≡ bytes ++ rest
  pub long : n ≡ length bytes
  pub is : P bytes

pub front_take : (P : List ℕ → Type 0) (text : List ℕ) (n : ℕ) → Front P text n → P (take n text)
front_take P text n f =
    let same : take n text ≡ f.bytes = ap (λ z. take z text) f.long
    ∙ ap (take (length f.bytes)) f.spelled ∙ take-append_seam f.bytes f.rest in
    subst P (sym same) f.is

pub front_drop : (P : List ℕ → Type 0) (text : List ℕ) (n : ℕ) (f : Front P text n) →
    drop n text ≡ f.rest
front_drop P text n f =
    ap (λ z. drop z text) f.long ∙ ap (drop (length f.bytes)) f.spelled
    ∙ drop-append_seam f.bytes f.rest

comment_made : (body : List ℕ) (n : ℕ) (found : Option ℕ) → close_from false body ≡ found →
    option_map (λ k. k + 2) found ≡ Some n → Front IsBlockComment (47 ∷ 42 ∷ body) n
comment_made body n None read e = cc
comment_made body n (Some m) read e =
    let c = close_some false body m read in
    let inner = front_body c.front c.last in
    let total : m + 2 ≡ n = cc in
    let behind : body ≡ inner.0 ++ (codes "*/" ++ c.rest) = c.spelled
    ∙ ap (λ z. z ++ 47 ∷ c.rest) inner.1 ∙ append_assoc inner.0 (codes "*") (47 ∷ c.rest) in
    let bytes : List ℕ = codes "/*" ++ (inner.0 ++ codes "*/") in
    let whole : 47 ∷ 42 ∷ body ≡ bytes ++ c.rest = ap (λ z. 47 ∷ 42 ∷ z) (behind
    ∙ sym (append_assoc inner.0 (codes "*/") c.rest)) in
    record {
      bytes = bytes;
      rest = c.rest;
      spelled = whole;
      long =
          omega (
            arith,
            c.long,
            ap length inner.1,
            length-append inner.0 (codes "*"),
            length-append inner.0 (codes "*/"),
          );
      is = record {
        body = inner.0;
        spelled = refl;
        first = open_lacks false (inner.0 ++ codes "*")
            (subst (λ z. stays_open false z ≡ true) inner.1 c.first);
      };
    }

-- a comment that ends
pub comment_is : (text : List ℕ) (n : ℕ) → opens_comment text ≡ true →
    comment_length text ≡ Some n → Front IsBlockComment text n
comment_is text n opens e =
    let two = starts_two 47 42 text opens in
    let length_is : comment_length (47 ∷ 42 ∷ two.0)
    ≡ Some n = subst (λ z. comment_length z ≡ Some n) two.1 e in
    subst (λ z. Front IsBlockComment z n) (sym two.1)
    (comment_made two.0 n (close_from false two.0) refl length_is)

pub comment_read : (bytes rest : List ℕ) → IsBlockComment bytes →
    (opens_comment (bytes ++ rest) ≡ true) × (comment_length (bytes ++ rest) ≡ Some (length bytes))
comment_read bytes rest is =
    let behind : bytes ++ rest ≡ 47 ∷ 42 ∷ ((is.body ++ codes "*/") ++ rest) = ap (λ z. z ++ rest)
    is.spelled in
    let read : close_from false ((is.body ++ codes "*/") ++ rest)
    ≡ Some (length is.body + 2) = close_read false is.body rest
    (lacks_open (is.body ++ codes "*") is.first) in
    let long : length is.body + 2 + 2 ≡ length bytes = omega (
      arith,
      ap length is.spelled,
      length-append is.body (codes "*/"),
    ) in (
      ap opens_comment behind,
      ap comment_length behind ∙ ap (option_map (λ k. k + 2)) read
          ∙ ap Some long,
    )

abbrev pub IsSpace : List ℕ → Type 0
IsSpace piece = IsBlank piece ⊎ IsBlockComment piece

blank_front : (text : List ℕ) (n : ℕ) → begins_with is_blank text ≡ true → 1 ≡ n →
    Front IsSpace text n
blank_front [] n h one = cc
blank_front (byte ∷ rest) n h one =
    record {
      bytes = byte ∷ [];
      rest = rest;
      spelled = refl;
      long = sym one;
      is = inl (record { byte = byte; spelled = refl; blank = h });
    }

pub space_is : (text : List ℕ) (n : ℕ) → space_of text ≡ Some n → Front IsSpace text n
space_is text n e = elim (cases_Bool (begins_with is_blank text)) [
  | inl h ↦ (let one : Some 1 ≡ Some n = rw h at e in let same : 1 ≡ n = cc in
      blank_front text n h same)
  | inr h ↦ elim (cases_Bool (opens_comment text)) [
    | inl g ↦ (let length_is : comment_length text ≡ Some n = rw (h, g) at e in
        let f = comment_is text n g length_is in
        record {
          bytes = f.bytes;
          rest = f.rest;
          spelled = f.spelled;
          long = f.long;
          is = inr f.is;
        })
    | inr g ↦ (let bad : None ≡ Some n = rw (h, g) at e in cc)
  ]
]

blank_read : (bytes rest : List ℕ) (byte : ℕ) → bytes ≡ byte ∷ [] → is_blank byte ≡ true →
    space_of (bytes ++ rest) ≡ Some (length bytes)
blank_read bytes rest byte e blank = rw (e, blank)

comment_first : (rest : List ℕ) (n : ℕ) → opens_comment (47 ∷ rest) ≡ true →
    comment_length (47 ∷ rest) ≡ Some n → space_of (47 ∷ rest) ≡ Some n
comment_first rest n opens e = rw (opens, e)

pub space_read : (bytes rest : List ℕ) → IsSpace bytes →
    space_of (bytes ++ rest) ≡ Some (length bytes)
space_read bytes rest is = elim is [
  | inl b ↦ blank_read bytes rest b.byte b.spelled b.blank
  | inr b ↦ (let behind : bytes ++ rest ≡ 47 ∷ 42 ∷ ((b.body ++ codes "*/") ++ rest) = ap (λ z.
      z ++ rest) b.spelled in
      let read = comment_read bytes rest b in
      ap space_of behind ∙ comment_first (42 ∷ ((b.body ++ codes "*/") ++ rest)) (length bytes)
      (ap opens_comment (sym behind) ∙ read.0) (ap comment_length (sym behind) ∙ read.1))
]

-- spaces before what begins with none are all the spaces
pub spaced_read : (pieces : List (List ℕ)) (tail : List ℕ) → AllByRecursion IsSpace pieces →
    space_of tail ≡ None → behind_spaces (concat pieces ++ tail) ≡ tail
spaced_read [] tail each none = behind_none tail none
spaced_read (piece ∷ pieces) tail each none =
    let split : (piece ++ concat pieces) ++ tail ≡ piece ++ (concat pieces ++ tail) = append_assoc
    piece (concat pieces) tail in
    let read = space_read piece (concat pieces ++ tail) each.0 in
    let step = behind_more (piece ++ (concat pieces ++ tail)) (length piece) read in
    ap behind_spaces split ∙ sym step
    ∙ ap behind_spaces (drop-append_seam piece (concat pieces ++ tail))
    ∙ spaced_read pieces tail each.1 none

-- the spaces before the rest
pub record Split (text : List ℕ) : Type 0 where
  pub pieces : List (List ℕ)
  pub spelled : text ≡ concat pieces ++ behind_spaces text
  pub each : AllByRecursion IsSpace pieces

split_by : (m : ℕ) → ((text : List ℕ) → length text ≤ m → Split text) →
    (text : List ℕ) (found : Option ℕ) → space_of text ≡ found → length text ≤ suc m → Split text
split_by m ih text None e small =
    record { pieces = []; spelled = sym (behind_none text e); each = tt }
split_by m ih text (Some n) e small =
    let f = space_is text n e in
    let some : 0 < n = Rattle.c_lexer.proofs.Spaces.space_some text n e in
    let more = ih f.rest (omega (arith, ap length f.spelled, length-append f.bytes f.rest, f.long))
    in
    let same : behind_spaces f.rest ≡ behind_spaces text = ap behind_spaces
    (sym (front_drop IsSpace text n f)) ∙ behind_more text n e in
    record {
      pieces = f.bytes ∷ more.pieces;
      spelled =
          f.spelled ∙ ap (λ z. f.bytes ++ z) (more.spelled ∙ ap (λ z. concat more.pieces ++ z) same)
          ∙ sym (append_assoc f.bytes (concat more.pieces) (behind_spaces text));
      each = (f.is, more.each);
    }

spaces_split_of : (m : ℕ) (text : List ℕ) → length text ≤ m → Split text
spaces_split_of zero [] small = record { pieces = []; spelled = refl; each = tt }
spaces_split_of zero (x ∷ xs) small = absurd (omega arith)
spaces_split_of (suc m) text small = split_by m (spaces_split_of m) text (space_of text) refl small

pub spaces_split : (text : List ℕ) → Split text
spaces_split text = spaces_split_of (length text) text (omega arith)

-- what a directive is named by is no space
first_no_space : (byte : ℕ) (rest : List ℕ) → 47 < byte → space_of (byte ∷ rest) ≡ None
first_no_space byte rest high =
    let plain : is_blank byte ≡ false = not_blank byte (omega arith) in
    let shut : opens_comment (byte ∷ rest) ≡ false = not_opened byte rest (λ e. omega arith) in
    rw (plain, shut)

pub named_no_space : (tail : List ℕ) → names_directive tail ≡ true → space_of tail ≡ None
named_no_space [] named = refl
named_no_space (byte ∷ rest) named =
    first_no_space byte rest (elim (or_cases (is_ascii_digit byte || starts_with nat_eq
    (byte ∷ rest) (codes "line")) (starts_with nat_eq (byte ∷ rest) (codes "pragma")) named) [
      | inl h ↦ elim (or_cases (is_ascii_digit byte) (starts_with nat_eq (byte ∷ rest)
          (codes "line")) h) [
            | inl g ↦ digit_low byte g
            | inr g ↦ (let p = and_parts (eqb 108 byte) _ g in
                let e : 108 ≡ byte = eqb-true 108 byte p.0 in omega arith)
          ]
      | inr h ↦ (let p = and_parts (eqb 112 byte) _ h in
          let e : 112 ≡ byte = eqb-true 112 byte p.0 in omega arith)
    ])

-- a directive line
pub directive_is : (rest : List ℕ) →
    names_directive (behind_spaces (directive_line (35 ∷ rest))) ≡ true →
    IsDirective (take (prefix_len is_on_line (35 ∷ rest)) (35 ∷ rest))
directive_is rest named =
    let line : take (prefix_len is_on_line (35 ∷ rest)) (35 ∷ rest)
    ≡ 35 ∷ take (prefix_len is_on_line rest) rest = take_more is_on_line 35 rest refl in
    let behind : directive_line (35 ∷ rest) ≡ take (prefix_len is_on_line rest) rest = ap (drop 1)
    line in
    let split = spaces_split (directive_line (35 ∷ rest)) in
    record {
      gap = concat split.pieces;
      tail = behind_spaces (directive_line (35 ∷ rest));
      spelled = line ∙ ap (λ z. 35 ∷ z) (sym behind ∙ split.spelled);
      spaced = record { pieces = split.pieces; spelled = refl; each = split.each };
      named = named;
      on_line = run_passes is_on_line (35 ∷ rest);
    }

pub directive_read : (bytes rest : List ℕ) → IsDirective bytes → StopsAt is_on_line rest →
    names_directive (behind_spaces (directive_line (bytes ++ rest))) ≡ true
directive_read bytes rest is stop =
    let long : prefix_len is_on_line (bytes ++ rest)
    ≡ length bytes = run_stops is_on_line bytes rest is.on_line stop in
    let line : take (prefix_len is_on_line (bytes ++ rest)) (bytes ++ rest)
    ≡ bytes = ap (λ z. take z (bytes ++ rest)) long ∙ take-append_seam bytes rest in
    let behind : directive_line (bytes ++ rest) ≡ is.gap ++ is.tail = ap (drop 1) (line
    ∙ is.spelled) in
    let spaces : is.gap ++ is.tail ≡ concat is.spaced.pieces ++ is.tail = ap (λ z. z ++ is.tail)
    is.spaced.spelled in
    let tail_is : behind_spaces (directive_line (bytes ++ rest)) ≡ is.tail =
    ap behind_spaces (behind ∙ spaces)
    ∙ spaced_read is.spaced.pieces is.tail is.spaced.each (named_no_space is.tail is.named) in
    ap names_directive tail_is ∙ is.named
