-- The parts of a node: facts of all nodes, and induction.
use Rattle.std.proofs.Common.{◌≡◌, ◌↔◌, ℕ, ◌+◌, List, map, sum, refl, sym, ap, ◌∙◌, subst}
use Rattle.cpa_expr.specs.declared.tree.Expr.{Expr, out-Expr, roll-Expr}
use Rattle.cpa_expr.specs.declared.tree.Expr.TheViews.{roll-out-Expr, out-roll-Expr}
use Rattle.cpa_expr.specs.declared.tree.Expr.TheOpen.{Expr-F}
use Rattle.cpa_expr.specs.declared.tree.Expr.TheFolds.{map-Expr, ind-Expr, every-Expr}
use Rattle.cpa_expr.specs.declared.tree.Expr.TheFolds.{every_here-Expr, every_held-Expr}
use Rattle.cpa_expr.specs.declared.tree.Expr.TheFolds.{every_made-Expr, fold-roll-Expr}
use Rattle.cpa_expr.specs.Shape.{parts, OfParts, greatest, size_step, size, height_step, height}

-- an expression that has P
abbrev Held : (Expr → Type 0) → Type 0
Held P = (e : Expr) × P e

abbrev firsts : (P : Expr → Type 0) → Expr-F (Held P) → Expr-F Expr
firsts P = map-Expr (Held P) Expr (λ e. e.0)

held_parts : (P : Expr → Type 0) (y : Expr-F (Held P)) → OfParts P (firsts P y)
held_parts P (Expr-F.Const t n) = tt
held_parts P (Expr-F.Read t base len index) = (index.1, tt)
held_parts P (Expr-F.Un o t arg) = (arg.1, tt)
held_parts P (Expr-F.Bin o t left right) = (left.1, (right.1, tt))
held_parts P (Expr-F.Cmp o t left right) = (left.1, (right.1, tt))
held_parts P (Expr-F.Cast t arg) = (arg.1, tt)
held_parts P (Expr-F.And left right) = (left.1, (right.1, tt))
held_parts P (Expr-F.Or left right) = (left.1, (right.1, tt))
held_parts P (Expr-F.Not arg) = (arg.1, tt)
held_parts P (Expr-F.Cond t test first second) = (test.1, (first.1, (second.1, tt)))

parts_held : (P : Expr → Type 0) (x : Expr-F Expr) → OfParts P x →
    (y : Expr-F (Held P)) × (firsts P y ≡ x)
parts_held P (Expr-F.Const t n) h = (Expr-F.Const t n, refl)
parts_held P (Expr-F.Read t base len index) h = (Expr-F.Read t base len (index, h.0), refl)
parts_held P (Expr-F.Un o t arg) h = (Expr-F.Un o t (arg, h.0), refl)
parts_held P (Expr-F.Bin o t left right) h = (Expr-F.Bin o t (left, h.0) (right, (h.1).0), refl)
parts_held P (Expr-F.Cmp o t left right) h = (Expr-F.Cmp o t (left, h.0) (right, (h.1).0), refl)
parts_held P (Expr-F.Cast t arg) h = (Expr-F.Cast t (arg, h.0), refl)
parts_held P (Expr-F.And left right) h = (Expr-F.And (left, h.0) (right, (h.1).0), refl)
parts_held P (Expr-F.Or left right) h = (Expr-F.Or (left, h.0) (right, (h.1).0), refl)
parts_held P (Expr-F.Not arg) h = (Expr-F.Not (arg, h.0), refl)
parts_held P (Expr-F.Cond t test first second) h =
    (Expr-F.Cond t (test, h.0) (first, (h.1).0) (second, ((h.1).1).0), refl)

-- a fact of every node holds of the node and of every node of its parts, and so the other way round
pub every_parts : (Q : Expr-F Expr → Type 0) (e : Expr) → every-Expr Q e →
    OfParts (every-Expr Q) (out-Expr e)
every_parts Q e h =
    let held = every_held-Expr Q e h in
    subst (OfParts (every-Expr Q)) held.1 (held_parts (every-Expr Q) held.0)

pub every_of_parts : (Q : Expr-F Expr → Type 0) (x : Expr-F Expr) → Q x → OfParts (every-Expr Q) x →
    every-Expr Q (roll-Expr x)
every_of_parts Q x here parts =
    let held = parts_held (every-Expr Q) x parts in every_made-Expr Q x held.0 held.1 here

pub every_iff : (Q : Expr-F Expr → Type 0) (e : Expr) → every-Expr Q e ↔
    (Q (out-Expr e) × OfParts (every-Expr Q) (out-Expr e))
every_iff Q e = (
  λ h. (every_here-Expr Q e h, every_parts Q e h),
  λ h. subst (every-Expr Q) (roll-out-Expr e) (every_of_parts Q (out-Expr e) h.0 h.1),
)

-- the same at a node that is given by its layer
pub every_rolled : (Q : Expr-F Expr → Type 0) (x : Expr-F Expr) → every-Expr Q (roll-Expr x) →
    Q x × OfParts (every-Expr Q) x
every_rolled Q x h =
    subst (λ y. Q y × OfParts (every-Expr Q) y) (out-roll-Expr x)
    (every_here-Expr Q (roll-Expr x) h, every_parts Q (roll-Expr x) h)

-- induction: what holds of a node where it holds of its parts holds of every expression
pub by_parts : (P : Expr → Type 0) → ((x : Expr-F Expr) → OfParts P x → P (roll-Expr x)) →
    (e : Expr) → P e
by_parts P step = ind-Expr P (λ x y is. step x (subst (OfParts P) is (held_parts P y)))

-- the parts of a node, as what a function makes of them
pub parts_mapped : (A : Type 0) (f : Expr → A) (x : Expr-F Expr) →
    parts (map-Expr Expr A f x) ≡ map f (parts x)
parts_mapped A f (Expr-F.Const t n) = refl
parts_mapped A f (Expr-F.Read t base len index) = refl
parts_mapped A f (Expr-F.Un o t arg) = refl
parts_mapped A f (Expr-F.Bin o t left right) = refl
parts_mapped A f (Expr-F.Cmp o t left right) = refl
parts_mapped A f (Expr-F.Cast t arg) = refl
parts_mapped A f (Expr-F.And left right) = refl
parts_mapped A f (Expr-F.Or left right) = refl
parts_mapped A f (Expr-F.Not arg) = refl
parts_mapped A f (Expr-F.Cond t test first second) = refl

-- the folds, by the parts
pub size_parts : (e : Expr) (ps : List Expr) → ps ≡ parts (out-Expr e) →
    size e ≡ 1 + sum (map size ps)
size_parts e ps are =
    ap size (sym (roll-out-Expr e)) ∙ fold-roll-Expr ℕ size_step (out-Expr e) ∙
    ap (λ ns. 1 + sum ns) (parts_mapped ℕ size (out-Expr e) ∙ ap (map size) (sym are))

pub height_parts : (e : Expr) (ps : List Expr) → ps ≡ parts (out-Expr e) →
    height e ≡ 1 + greatest (map height ps)
height_parts e ps are =
    ap height (sym (roll-out-Expr e)) ∙ fold-roll-Expr ℕ height_step (out-Expr e) ∙
    ap (λ ns. 1 + greatest ns) (parts_mapped ℕ height (out-Expr e) ∙ ap (map height) (sym are))

-- of a test of a node
pub parts_at : (P : Expr → Type 0) (e : Expr) (x : Expr-F Expr) (R : Type 0) → out-Expr e ≡ x →
    (R ↔ OfParts P x) → (R ↔ OfParts P (out-Expr e))
parts_at P e x R is h = subst (λ y. R ↔ OfParts P y) (sym is) h

pub iff_at : (P : Expr → Type 0) (e d : Expr) (R : Type 0) → e ≡ d → (R ↔ P e) → (R ↔ P d)
iff_at P e d R is h = subst (λ y. R ↔ P y) is h

pub iff_pair : (R A B P Q : Type 0) → (R ↔ (A × B)) → (A ↔ P) → (B ↔ Q) → (R ↔ (P × Q))
iff_pair R A B P Q r a b = (λ h. (a.0 ((r.0 h).0), b.0 ((r.0 h).1)), λ h. r.1 (a.1 h.0, b.1 h.1))
