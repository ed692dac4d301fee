-- Blanks, comments and directive lines (C11 6.4p3, 6.4.9 and 6.10).
use Rattle.std.specs.Prelude.{◌≡◌, ℕ, Bool, ◌||◌, ◌⊎◌, ◌++◌, List, [], ◌∷◌, IsTrue, codes, nat_eq}
use Rattle.std.specs.List.{AllByRecursion, concat, list_all, starts_with}
use Rattle.std.specs.Char.{is_ascii_digit}
use Rattle.c_lexer.specs.Bytes.{is_blank, is_on_line, begins_with, StopsAt}

-- one blank
pub record IsBlank (bytes : List ℕ) : Type 0 where
  pub byte : ℕ
  pub spelled : bytes ≡ byte ∷ []
  pub blank : IsTrue (is_blank byte)

-- nowhere in the text do these bytes stand one after another
abbrev pub Lacks : List ℕ → List ℕ → Type 0
Lacks bytes text = (before after : List ℕ) → text ≡ before ++ (bytes ++ after) → ⊥

-- /* up to the first */ behind it
pub record IsBlockComment (bytes : List ℕ) : Type 0 where
  pub body : List ℕ
  pub spelled : bytes ≡ codes "/*" ++ (body ++ codes "*/")
  pub first : Lacks (codes "*/") (body ++ codes "*")

-- // and more of its line
pub record IsLineComment (bytes : List ℕ) : Type 0 where
  pub body : List ℕ
  pub spelled : bytes ≡ codes "//" ++ body
  pub on_line : IsTrue (list_all is_on_line body)

-- a blank or a comment, before the rest of the text; a // comment goes to the end of its line
abbrev pub IsGap : List ℕ → List ℕ → Type 0
IsGap bytes rest = IsBlank bytes ⊎
    (IsBlockComment bytes ⊎ (IsLineComment bytes × StopsAt is_on_line rest))

-- blanks and /* */ comments, one after another
pub record IsSpaced (gap : List ℕ) : Type 0 where
  pub pieces : List (List ℕ)
  pub spelled : gap ≡ concat pieces
  pub each : AllByRecursion (λ piece. IsBlank piece ⊎ IsBlockComment piece) pieces

-- what a line marker, #line and #pragma have behind the # and its blanks: a digit, or the word's
-- letters
abbrev pub names_directive : List ℕ → Bool
names_directive tail = begins_with is_ascii_digit tail ||
    starts_with nat_eq tail (codes "line") || starts_with nat_eq tail (codes "pragma")

-- a line marker, #line or #pragma, on one line
pub record IsDirective (bytes : List ℕ) : Type 0 where
  pub gap : List ℕ
  pub tail : List ℕ
  pub spelled : bytes ≡ codes "#" ++ (gap ++ tail)
  pub spaced : IsSpaced gap
  pub named : IsTrue (names_directive tail)
  pub on_line : IsTrue (list_all is_on_line bytes)
