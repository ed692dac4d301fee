-- The line and the column behind a text, and behind one more byte.
use Rattle.std.proofs.Common.{◌≡◌, ℕ, ◌+◌, ◌<◌, Bool, true, false, List, [], ◌∷◌, ◌++◌, length}
use Rattle.std.proofs.Common.{take, reverse, refl, sym, ap, ◌∙◌, cond, get_or, length-append, arith}
use Rattle.std.specs.Prelude.{not}
use Rattle.std.specs.List.{filter, prefix_len}
use Rattle.std.proofs.lemmas.List.{take_more, reverse-append}
use Rattle.std.proofs.lemmas.List.Elements.{filter-append}
use Rattle.cpa_top_jobs.specs.Lines.{is_line_feed, line_behind, column_behind}

feeds_of : (b : Bool) (byte : ℕ) → length (cond b (byte ∷ []) []) ≡ cond b 1 0
feeds_of true byte = refl
feeds_of false byte = refl

-- behind one more byte
line_more : (text : List ℕ) (byte : ℕ)
    → line_behind (text ++ byte ∷ []) ≡ line_behind text + cond (is_line_feed byte) 1 0
line_more text byte =
    let parts : length (filter is_line_feed (text ++ byte ∷ []))
    ≡ length (filter is_line_feed text) + length (filter is_line_feed (byte ∷ [])) =
    ap (λ (xs : List ℕ). length xs) (filter-append is_line_feed text (byte ∷ []))
    ∙ length-append (filter is_line_feed text) (filter is_line_feed (byte ∷ [])) in
    let last : length (filter is_line_feed (byte ∷ [])) ≡ cond (is_line_feed byte) 1 0 =
    feeds_of (is_line_feed byte) byte in
    omega (arith, parts, last)

column_more : (text : List ℕ) (byte : ℕ)
    → column_behind (text ++ byte ∷ [])
    ≡ cond (is_line_feed byte) 1 (column_behind text + 1)
column_more text byte =
    ap (λ (xs : List ℕ). prefix_len (λ b. not (is_line_feed b)) xs + 1)
    (reverse-append text (byte ∷ [])) ∙ first (is_line_feed byte) refl where
      first : (b : Bool) → is_line_feed byte ≡ b
          → prefix_len (λ b. not (is_line_feed b)) (byte ∷ reverse text) + 1
          ≡ cond b 1 (column_behind text + 1)
      first true is = rw is refl
      first false is = rw is (omega arith)

-- at a line feed, and at another byte, on the way through a text
module _ (text : List ℕ) (i : ℕ) (byte : ℕ) (inside : i < length text)
    (is : byte ≡ get_or text i byte) where
  more : take (i + 1) text ≡ take i text ++ byte ∷ []
  more = take_more text i byte inside ∙ ap (λ b. take i text ++ b ∷ []) (sym is)

  pub line_at : (b : Bool) → is_line_feed byte ≡ b
      → line_behind (take (i + 1) text) ≡ line_behind (take i text) + cond b 1 0
  line_at b feed =
      ap line_behind more ∙ line_more (take i text) byte
      ∙ ap (λ (x : Bool). line_behind (take i text) + cond x 1 0) feed

  pub column_at : (b : Bool) → is_line_feed byte ≡ b
      → column_behind (take (i + 1) text) ≡ cond b 1 (column_behind (take i text) + 1)
  column_at b feed =
      ap column_behind more ∙ column_more (take i text) byte
      ∙ ap (λ (x : Bool). cond x 1 (column_behind (take i text) + 1)) feed
