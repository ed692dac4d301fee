-- Punctuators (C11 6.4.6), without those of the preprocessor and the digraphs.
use Rattle.std.specs.Prelude.{◌≡◌, ℕ, ◌≤◌, Bool, false, ◌++◌, List, [], ◌∷◌, length, IsTrue, codes}
use Rattle.std.specs.Prelude.{nat_eq, ◌==◌, ◌||◌}
use Rattle.std.specs.Str.{bytes_eq}
use Rattle.std.specs.List.{list_any, starts_with}

-- the marks of one byte
abbrev pub single_marks : List ℕ
single_marks = codes "[](){}.&*+-~!/%<>^|?:;=,"

-- the marks of two bytes
abbrev pub double_marks : List (List ℕ)
double_marks =
    codes "->" ∷ codes "++" ∷ codes "--" ∷ codes "<<" ∷ codes ">>" ∷ codes "&&" ∷ codes "||" ∷
    codes "<=" ∷ codes ">=" ∷ codes "==" ∷ codes "!=" ∷ codes "*=" ∷ codes "/=" ∷ codes "%=" ∷
    codes "+=" ∷ codes "-=" ∷ codes "&=" ∷ codes "^=" ∷ codes "|=" ∷ []

-- the marks of three bytes
abbrev pub triple_marks : List (List ℕ)
triple_marks = codes "..." ∷ codes "<<=" ∷ codes ">>=" ∷ []

-- one of the marks
abbrev pub is_mark : List ℕ → Bool
is_mark [] = false
is_mark (first ∷ []) = list_any (λ mark. mark == first) single_marks
is_mark (first ∷ second ∷ []) = list_any (bytes_eq (first ∷ second ∷ [])) double_marks
is_mark (first ∷ second ∷ third ∷ []) =
    list_any (bytes_eq (first ∷ second ∷ third ∷ [])) triple_marks
is_mark (first ∷ second ∷ third ∷ fourth ∷ rest) = false

-- a comment begins here
abbrev pub begins_comment : List ℕ → Bool
begins_comment text = starts_with nat_eq text (codes "/*") || starts_with nat_eq text (codes "//")

-- no longer mark, and no comment, begins where the mark does
pub record IsLongestMark (bytes rest : List ℕ) : Type 0 where
  pub marked : IsTrue (is_mark bytes)
  pub longest : (longer after : List ℕ) → IsTrue (is_mark longer) →
      bytes ++ rest ≡ longer ++ after → length longer ≤ length bytes
  pub no_comment : begins_comment (bytes ++ rest) ≡ false
