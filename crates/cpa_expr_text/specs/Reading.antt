-- Which expressions are read back from their texts (this project's own), and what a reader of words
-- takes.
use Rattle.std.specs.Prelude.{◌≡◌, ℕ, ◌^◌, ◌<◌, ◌≤◌, ⊤, List, ◌∷◌, codes, decimal, map}
use Rattle.std.specs.Prelude.{FitsSigned, Option, MatchOption, Result, MatchResult}
use Rattle.std.specs.Borrow.{Bor}
use Rattle.std.specs.Fmt.{signed_decimal}
use Rattle.std.specs.Int.{w128}
use Rattle.cpa_ints.specs.declared.integers.IntType.{IntType}
use Rattle.cpa_expr.specs.declared.shape.TheConstants.{MAX_HEIGHT}
use Rattle.cpa_expr.specs.declared.tree.Expr.{Expr}
use Rattle.cpa_expr.specs.declared.tree.Expr.TheVariants as expr
use Rattle.cpa_expr.specs.declared.tree.Expr.TheOpen.{Expr-F}
use Rattle.cpa_expr.specs.declared.tree.Expr.TheFolds.{fold-Expr, every-Expr}
use Rattle.cpa_expr.specs.Shape.{height}
use Rattle.cpa_expr.specs.Spelling.{expr_text}
use Rattle.cpa_expr.specs.Words.{type_word, un_word, bin_word, cmp_word}
use Rattle.cpa_expr_text.specs.declared.fault.ReadFault.{ReadFault}
use Rattle.cpa_expr_text.specs.declared.fault.ReadFault.TheVariants.{OutOfMemory}
use Rattle.cpa_expr_text.specs.declared.heads.One.{One}
use Rattle.cpa_expr_text.specs.declared.heads.One.TheVariants as one
use Rattle.cpa_expr_text.specs.declared.heads.Two.{Two}
use Rattle.cpa_expr_text.specs.declared.heads.Two.TheVariants as two

-- the numbers of a node fit what holds them: 128 bits with a sign, or 32 bits without
abbrev pub FitsHere : Expr-F Expr → Type 0
FitsHere (Expr-F.Const t n) = FitsSigned w128 n
FitsHere (Expr-F.Read t base len index) = (base < 2 ^ 32) × (len < 2 ^ 32)
FitsHere (Expr-F.Un o t arg) = ⊤
FitsHere (Expr-F.Bin o t left right) = ⊤
FitsHere (Expr-F.Cmp o t left right) = ⊤
FitsHere (Expr-F.Cast t arg) = ⊤
FitsHere (Expr-F.And left right) = ⊤
FitsHere (Expr-F.Or left right) = ⊤
FitsHere (Expr-F.Not arg) = ⊤
FitsHere (Expr-F.Cond t test first second) = ⊤

abbrev pub Fits : Expr → Type 0
Fits = every-Expr FitsHere

-- the text is that of the expression, whose numbers fit and which is no higher than MAX_HEIGHT
pub record IsSpelled (bytes : List ℕ) (e : Expr) : Type 0 where
  pub text : bytes ≡ expr_text e
  pub fit : Fits e
  pub low : height e ≤ MAX_HEIGHT

-- ---- steps of the code

abbrev pub Word : Type 0
Word = List ℕ

-- the words of a node with those of its parts in their places, in front of others
abbrev pub words_step : Expr-F (List Word → List Word) → List Word → List Word
words_step (Expr-F.Const t n) ws = codes "const" ∷ type_word t ∷ signed_decimal n ∷ ws
words_step (Expr-F.Read t base len index) ws =
    codes "read" ∷ type_word t ∷ decimal base ∷ decimal len ∷ index ws
words_step (Expr-F.Un o t arg) ws = un_word o ∷ type_word t ∷ arg ws
words_step (Expr-F.Bin o t left right) ws = bin_word o ∷ type_word t ∷ left (right ws)
words_step (Expr-F.Cmp o t left right) ws = cmp_word o ∷ type_word t ∷ left (right ws)
words_step (Expr-F.Cast t arg) ws = codes "cast" ∷ type_word t ∷ arg ws
words_step (Expr-F.And left right) ws = codes "both" ∷ left (right ws)
words_step (Expr-F.Or left right) ws = codes "either" ∷ left (right ws)
words_step (Expr-F.Not arg) ws = codes "not" ∷ arg ws
words_step (Expr-F.Cond t test first second) ws =
    codes "cond" ∷ type_word t ∷ test (first (second ws))

-- the words of an expression, in front of others
abbrev pub words_onto : Expr → List Word → List Word
words_onto = fold-Expr (List Word → List Word) words_step

-- the node of one part, and that of two
abbrev pub one_of : One → Expr → Expr
one_of (one.Read t base len) a = expr.Read t base len a
one_of (one.Un o t) a = expr.Un o t a
one_of (one.Cast t) a = expr.Cast t a
one_of one.Not a = expr.Not a

abbrev pub two_of : Two → Expr → Expr → Expr
two_of (two.Bin o t) a b = expr.Bin o t a b
two_of (two.Cmp o t) a b = expr.Cmp o t a b
two_of two.Both a b = expr.And a b
two_of two.Either a b = expr.Or a b

abbrev pub texts : List (Bor Word) → List Word
texts = map (λ s. s.now)

-- this was passed, and these words are left
abbrev pub Passed : {A : Type 0} → A → List Word → Option (A × Bor (List (Bor Word))) → Type 0
Passed x rest r = MatchOption r ⊥ (λ p. (p.0 ≡ x) × (texts p.1.now ≡ rest))

-- the same, or memory was short
abbrev pub Took : {A : Type 0} → A → List Word → Result (A × Bor (List (Bor Word))) ReadFault
    → Type 0
Took x rest r = MatchResult r (λ p. (p.0 ≡ x) × (texts p.1.now ≡ rest)) (λ e. e ≡ OutOfMemory)
