-- Text behind its blanks and comments: how many of them are allowed for does not matter, if they
-- are enough.
use Rattle.std.proofs.Common.{◌≡◌, ℕ, ◌+◌, ◌-◌, ◌<◌, ◌≤◌, zero, suc, List, [], ◌∷◌, drop, length}
use Rattle.std.proofs.Common.{length-drop, arith, refl, sym, ◌∙◌, Option, Some, None, false}
use Rattle.std.proofs.Common.{option_map, inl, inr}
use Rattle.std.proofs.lemmas.Bool.{cases_Bool}
use Rattle.c_lexer.specs.Bytes.{is_blank, begins_with}
use Rattle.c_lexer.specs.Steps.Reading.{space_of, after_spaces, behind_spaces, opens_comment}
use Rattle.c_lexer.specs.Steps.Reading.{comment_length, close_from}

-- what begins with no space stays
pub none_stays : (most : ℕ) (text : List ℕ) → space_of text ≡ None → after_spaces most text ≡ text
none_stays zero text none = refl
none_stays (suc most) text none = rw (none, after_spaces) (none_stays most text none)

-- a space or a comment has at least one byte
pub space_some : (text : List ℕ) (n : ℕ) → space_of text ≡ Some n → 0 < n
space_some text n e = elim (cases_Bool (begins_with is_blank text)) [
  | inl h ↦ (let one : Some 1 ≡ Some n = rw h at e in let same : 1 ≡ n = cc in omega arith)
  | inr h ↦ elim (cases_Bool (opens_comment text)) [
    | inl g ↦ (let two : comment_length text ≡ Some n = rw (h, g) at e in
        more (close_from false (drop 2 text)) two)
    | inr g ↦ (let bad : None ≡ Some n = rw (h, g) at e in cc)
  ]
]
  where
    more : (found : Option ℕ) → option_map (λ k. k + 2) found ≡ Some n → 0 < n
    more None bad = cc
    more (Some k) same = let e2 : k + 2 ≡ n = cc in omega arith

-- one space less, where there is one
enough_by : (m : ℕ) →
    ((n : ℕ) (text : List ℕ) → length text ≤ m → length text ≤ n →
    after_spaces m text ≡ after_spaces n text) →
    (n : ℕ) (text : List ℕ) (found : Option ℕ) → space_of text ≡ found → length text ≤ suc m →
    length text ≤ n → after_spaces (suc m) text ≡ after_spaces n text
enough_by m ih n text None e lm ln = none_stays (suc m) text e ∙ sym (none_stays n text e)
enough_by m ih zero [] (Some k) e lm ln = none_stays (suc m) [] refl
enough_by m ih zero (x ∷ xs) (Some k) e lm ln = absurd (omega arith)
enough_by m ih (suc n) text (Some k) e lm ln =
    let some : 0 < k = space_some text k e in
    let shorter : length (drop k text) ≤ length text - k = omega (arith, length-drop k text) in
    rw (e, after_spaces) (ih n (drop k text) (omega (arith, length-drop k text)) (omega (
      arith,
      length-drop k text,
    )))

-- a text has no more spaces than bytes
pub enough : (m n : ℕ) (text : List ℕ) → length text ≤ m → length text ≤ n →
    after_spaces m text ≡ after_spaces n text
enough zero n [] lm ln = sym (none_stays n [] refl)
enough zero n (x ∷ xs) lm ln = absurd (omega arith)
enough (suc m) n text lm ln = enough_by m (enough m) n text (space_of text) refl lm ln

-- behind the first space the text goes on as it did
pub behind_more : (text : List ℕ) (n : ℕ) → space_of text ≡ Some n →
    behind_spaces (drop n text) ≡ behind_spaces text
behind_more text n e =
    let whole : after_spaces (suc (length text)) text
    ≡ after_spaces (length text) text = enough (suc (length text)) (length text) text
    (omega arith) (omega arith) in
    let step : after_spaces (suc (length text)) text
    ≡ after_spaces (length text) (drop n text) = rw (e, after_spaces) in
    let fewer : after_spaces (length (drop n text)) (drop n text)
    ≡ after_spaces (length text) (drop n text) = enough (length (drop n text)) (length text)
    (drop n text) (omega arith) (omega (arith, length-drop n text)) in
    fewer ∙ sym step ∙ whole

pub behind_none : (text : List ℕ) → space_of text ≡ None → behind_spaces text ≡ text
behind_none text e = none_stays (length text) text e
