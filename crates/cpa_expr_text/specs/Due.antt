-- Texts of expressions of any height, and words that are those of so many expressions, one behind
-- the other (this project's own).
use Rattle.std.specs.Prelude.{◌≡◌, ℕ, List, [], ◌∷◌, length, drop, Option, MatchOption}
use Rattle.std.specs.Borrow.{Bor}
use Rattle.std.specs.List.{AllByRecursion}
use Rattle.cpa_expr.specs.declared.tree.Expr.{Expr}
use Rattle.cpa_expr.specs.Spelling.{expr_text}
use Rattle.cpa_expr_text.specs.Kinds.{head_onto, FitsHead}
use Rattle.cpa_expr_text.specs.Reading.{Word, words_onto, Fits, texts}
use Rattle.cpa_expr_text.specs.declared.heads.Head.{Head}
use Rattle.cpa_expr_text.specs.declared.heads.Head.TheVariants as head
use Rattle.cpa_expr_text.specs.declared.heads.One.TheVariants as one
use Rattle.cpa_expr_text.specs.declared.heads.Two.TheVariants as two

-- the text is that of some expression whose numbers fit, of any height
abbrev pub IsExprText : List ℕ → Type 0
IsExprText bytes = (e : Expr) × Fits e × (bytes ≡ expr_text e)

-- ---- steps of the code

-- how many parts a node has
abbrev pub parts_of : Head → ℕ
parts_of (head.Leaf t n) = 0
parts_of (head.One h) = 1
parts_of (head.Two h) = 2
parts_of (head.Three t) = 3

-- how many words of its own a node has
abbrev pub own_of : Head → ℕ
own_of (head.Leaf t n) = 3
own_of (head.One (one.Read t base len)) = 4
own_of (head.One (one.Un o t)) = 2
own_of (head.One (one.Cast t)) = 2
own_of (head.One one.Not) = 1
own_of (head.Two (two.Bin o t)) = 2
own_of (head.Two (two.Cmp o t)) = 2
own_of (head.Two two.Both) = 1
own_of (head.Two two.Either) = 1
own_of (head.Three t) = 2

-- the words of expressions, one behind the other, in front of others
abbrev pub words_of : List Expr → List Word → List Word
words_of [] ws = ws
words_of (e ∷ es) ws = words_onto e (words_of es ws)

-- the words are those of so many expressions whose numbers fit
pub record AreDue (count : ℕ) (words : List Word) : Type 0 where
  pub trees : List Expr
  pub many : length trees ≡ count
  pub fit : AllByRecursion Fits trees
  pub spelled : words ≡ words_of trees []

-- what stands behind a front, where the words begin with it
abbrev pub Behind : (List Word → List Word) → List Word → Option (Bor (List (Bor Word))) → Type 0
Behind front words r =
    MatchOption r ((ws : List Word) → words ≡ front ws → ⊥) (λ left. words ≡ front (texts left.now))

-- the node that comes first and the words behind its own, and there is no other
pub record IsNext (words : List Word) (h : Head) (left : List Word) : Type 0 where
  pub fit : FitsHead h
  pub spelled : words ≡ head_onto h left
  pub one : (k : Head) (ws : List Word) → FitsHead k → words ≡ head_onto k ws
      → (h ≡ k) × (left ≡ ws)

abbrev pub HasNext : List Word → Option Head → Type 0
HasNext words r =
    MatchOption r ((h : Head) (ws : List Word) → FitsHead h → words ≡ head_onto h ws → ⊥)
    (λ h. IsNext words h (drop (own_of h) words))
