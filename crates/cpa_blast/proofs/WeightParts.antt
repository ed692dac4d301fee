-- The weight of a node is its own and those of its parts.
use Rattle.std.proofs.Common.{◌≡◌, ℕ, ◌+◌, List, map, sum, refl, sym, ap, ◌∙◌}
use Rattle.cpa_expr.specs.declared.tree.Expr.{Expr, out-Expr}
use Rattle.cpa_expr.specs.declared.tree.Expr.TheViews.{roll-out-Expr}
use Rattle.cpa_expr.specs.declared.tree.Expr.TheOpen.{Expr-F}
use Rattle.cpa_expr.specs.declared.tree.Expr.TheFolds.{map-Expr, fold-roll-Expr}
use Rattle.cpa_expr.specs.Shape.{parts}
use Rattle.cpa_expr.specs.lemmas.Parts.{parts_mapped}
use Rattle.cpa_blast.specs.Weights.{own_weight, weight_step, weight}

-- the node's own weight does not look at what stands for its parts
own_mapped : (x : Expr-F Expr) → own_weight (map-Expr Expr ℕ weight x) ≡ own_weight x
own_mapped (Expr-F.Const t n) = refl
own_mapped (Expr-F.Read t base len index) = refl
own_mapped (Expr-F.Un o t arg) = refl
own_mapped (Expr-F.Bin o t left right) = refl
own_mapped (Expr-F.Cmp o t left right) = refl
own_mapped (Expr-F.Cast t arg) = refl
own_mapped (Expr-F.And left right) = refl
own_mapped (Expr-F.Or left right) = refl
own_mapped (Expr-F.Not arg) = refl
own_mapped (Expr-F.Cond t test first second) = refl

pub weight_parts : (e : Expr) (ps : List Expr) → ps ≡ parts (out-Expr e)
    → weight e ≡ own_weight (out-Expr e) + sum (map weight ps)
weight_parts e ps are =
    ap weight (sym (roll-out-Expr e)) ∙ fold-roll-Expr ℕ weight_step (out-Expr e)
    ∙ ap (λ k. k + sum (parts (map-Expr Expr ℕ weight (out-Expr e)))) (own_mapped (out-Expr e))
    ∙ ap (λ ns. own_weight (out-Expr e) + sum ns)
    (parts_mapped ℕ weight (out-Expr e) ∙ ap (map weight) (sym are))
