-- Facts of the parts of a node, as lists.
use Rattle.std.proofs.Common.{◌≡◌, ℕ, Bool, true, false, ◌||◌, IsTrue, List, [], ◌∷◌, map, refl, ap}
use Rattle.std.proofs.Common.{◌∙◌}
use Rattle.std.specs.List.{AllByRecursion, list_all, list_any}
use Rattle.std.proofs.lemmas.Bool.{and_parts}
use Rattle.cpa_expr.specs.declared.tree.Expr.{Expr, roll-Expr}
use Rattle.cpa_expr.specs.declared.tree.Expr.TheOpen.{Expr-F}
use Rattle.cpa_expr.specs.declared.tree.Expr.TheFolds.{map-Expr}
use Rattle.cpa_expr.specs.Shape.{parts}
use Rattle.cpa_expr.specs.Cells.{reads_here, may_read}
use Rattle.cpa_expr.specs.lemmas.Parts.{parts_mapped}
use Rattle.cpa_expr.specs.lemmas.Layers.{reads_rolled}

pub applied : (P Q : Expr → Type 0) (es : List Expr) → AllByRecursion (λ e. P e → Q e) es
    → AllByRecursion P es → AllByRecursion Q es
applied P Q [] h p = tt
applied P Q (e ∷ es) h p = (h.0 p.0, applied P Q es h.1 p.1)

pub all_mapped : (P : Expr → Type 0) (f : Expr → Expr) (es : List Expr)
    → AllByRecursion (λ e. P (f e)) es → AllByRecursion P (map f es)
all_mapped P f [] h = tt
all_mapped P f (e ∷ es) h = (h.0, all_mapped P f es h.1)

pub all_true : (f : Expr → Bool) (es : List Expr) → list_all (λ b. b) (map f es) ≡ true
    → AllByRecursion (λ e. IsTrue (f e)) es
all_true f [] h = tt
all_true f (e ∷ es) h =
    let both = and_parts (f e) (list_all (λ b. b) (map f es)) h in
    (both.0, all_true f es both.1)

pub or_cases : {Q : Type 0} (a b : Bool) → IsTrue (a || b) → (IsTrue a → Q) → (IsTrue b → Q) → Q
or_cases true b h k l = k refl
or_cases false b h k l = l h

-- what a node reads, by itself and by its parts
pub reads_of : (n : ℕ) (x : Expr-F Expr) (es : List Expr) → parts x ≡ es
    → may_read (roll-Expr x) n
    ≡ (reads_here n x || list_any (λ b. b) (map (λ e. may_read e n) es))
reads_of n x es is =
    reads_rolled n x
    ∙ (ap (λ b. b || list_any (λ c. c) (parts (map-Expr Expr Bool (λ e. may_read e n) x)))
    (here x)
    ∙ ap (λ bs. reads_here n x || list_any (λ c. c) bs)
    (parts_mapped Bool (λ e. may_read e n) x ∙ ap (map (λ e. may_read e n)) is))
  where
    here : (x : Expr-F Expr)
        → reads_here n (map-Expr Expr Bool (λ e. may_read e n) x) ≡ reads_here n x
    here (Expr-F.Const t n) = refl
    here (Expr-F.Read t base len index) = refl
    here (Expr-F.Un o t arg) = refl
    here (Expr-F.Bin o t left right) = refl
    here (Expr-F.Cmp o t left right) = refl
    here (Expr-F.Cast t arg) = refl
    here (Expr-F.And left right) = refl
    here (Expr-F.Or left right) = refl
    here (Expr-F.Not arg) = refl
    here (Expr-F.Cond t test first second) = refl
