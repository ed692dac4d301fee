-- How an expression is spelled in reports and messages (this project's own): in prefix order, its
-- words with one space between.
use Rattle.std.specs.Prelude.{ℕ, ◌++◌, List, codes, decimal}
use Rattle.std.specs.List.{flat_map}
use Rattle.std.specs.Fmt.{signed_decimal}
use Rattle.cpa_expr.specs.declared.tree.Expr.{Expr}
use Rattle.cpa_expr.specs.declared.tree.Expr.TheOpen.{Expr-F}
use Rattle.cpa_expr.specs.declared.tree.Expr.TheFolds.{fold-Expr}
use Rattle.cpa_expr.specs.Shape.{parts}
use Rattle.cpa_expr.specs.Words.{type_word, un_word, bin_word, cmp_word}

-- the words of a node before those of its parts
abbrev pub head_text : {A : Type 0} → Expr-F A → List ℕ
head_text (Expr-F.Const t n) = codes "const " ++ type_word t ++ codes " " ++ signed_decimal n
head_text (Expr-F.Read t base len index) =
    codes "read " ++ type_word t ++ codes " " ++ decimal base ++ codes " " ++ decimal len
head_text (Expr-F.Un o t arg) = un_word o ++ codes " " ++ type_word t
head_text (Expr-F.Bin o t left right) = bin_word o ++ codes " " ++ type_word t
head_text (Expr-F.Cmp o t left right) = cmp_word o ++ codes " " ++ type_word t
head_text (Expr-F.Cast t arg) = codes "cast " ++ type_word t
head_text (Expr-F.And left right) = codes "both"
head_text (Expr-F.Or left right) = codes "either"
head_text (Expr-F.Not arg) = codes "not"
head_text (Expr-F.Cond t test first second) = codes "cond " ++ type_word t

-- a node with the text of each part in its place
abbrev pub text_step : Expr-F (List ℕ) → List ℕ
text_step node = head_text node ++ flat_map (λ part. codes " " ++ part) (parts node)

-- the text of an expression
abbrev pub expr_text : Expr → List ℕ
expr_text = fold-Expr (List ℕ) text_step
