-- Whether two expressions are the same tree, as a test (this project's own).
use Rattle.std.specs.Prelude.{◌==◌, ◌&&◌, Bool, true, false, List, [], ◌∷◌}
use Rattle.std.specs.Ordering.{int_eq}
use denote.Enum.Bare.{sameb}
use Rattle.cpa_ints.specs.declared.integers.IntType.{IntType}
use Rattle.cpa_ints.specs.contracts.integers.IntType as int_type
use Rattle.cpa_expr.specs.declared.tree.UnOp.{UnOp}
use Rattle.cpa_expr.specs.declared.tree.BinOp.{BinOp}
use Rattle.cpa_expr.specs.declared.tree.CmpOp.{CmpOp}
use Rattle.cpa_expr.specs.contracts.tree.UnOp as un_op
use Rattle.cpa_expr.specs.contracts.tree.BinOp as bin_op
use Rattle.cpa_expr.specs.contracts.tree.CmpOp as cmp_op
use Rattle.cpa_expr.specs.declared.tree.Expr.{Expr, out-Expr}
use Rattle.cpa_expr.specs.declared.tree.Expr.TheOpen.{Expr-F}
use Rattle.cpa_expr.specs.declared.tree.Expr.TheFolds.{fold-Expr}
use Rattle.cpa_expr.specs.Shape.{parts}

-- two types, or two operators, have one name
abbrev pub same_type : IntType → IntType → Bool
same_type = sameb int_type.the_type

abbrev pub same_un : UnOp → UnOp → Bool
same_un = sameb un_op.the_type

abbrev pub same_bin : BinOp → BinOp → Bool
same_bin = sameb bin_op.the_type

abbrev pub same_cmp : CmpOp → CmpOp → Bool
same_cmp = sameb cmp_op.the_type

-- two nodes are the same but for their parts
abbrev pub same_head : {A B : Type 0} → Expr-F A → Expr-F B → Bool
same_head (Expr-F.Const t n) (Expr-F.Const u m) = same_type t u && int_eq n m
same_head (Expr-F.Read t base len index) (Expr-F.Read u first count place) =
    same_type t u && (base == first) && (len == count)
same_head (Expr-F.Un o t arg) (Expr-F.Un p u other) = same_un o p && same_type t u
same_head (Expr-F.Bin o t left right) (Expr-F.Bin p u one two) = same_bin o p && same_type t u
same_head (Expr-F.Cmp o t left right) (Expr-F.Cmp p u one two) = same_cmp o p && same_type t u
same_head (Expr-F.Cast t arg) (Expr-F.Cast u other) = same_type t u
same_head (Expr-F.And left right) (Expr-F.And one two) = true
same_head (Expr-F.Or left right) (Expr-F.Or one two) = true
same_head (Expr-F.Not arg) (Expr-F.Not other) = true
same_head (Expr-F.Cond t test first second) (Expr-F.Cond u check one two) = same_type t u
same_head _ _ = false

-- each test holds of the expression at its place, and there are as many
abbrev pub all_hold : List (Expr → Bool) → List Expr → Bool
all_hold [] [] = true
all_hold (test ∷ tests) (e ∷ es) = test e && all_hold tests es
all_hold _ _ = false

-- two nodes are the same, where a test stands for each part of the first one
abbrev pub same_node : Expr-F (Expr → Bool) → Expr-F Expr → Bool
same_node node other = same_head node other && all_hold (parts node) (parts other)

-- two expressions are the same tree
abbrev pub same_expr : Expr → Expr → Bool
same_expr = fold-Expr (Expr → Bool) (λ node other. same_node node (out-Expr other))
