-- An expression whose numbers fit is a constant, or a node of one, two or three parts.
use Rattle.std.proofs.Common.{◌≡◌, ℕ, suc, ◌+◌, ◌<◌, ◌≤◌, ◌^◌, max, ℤ, List, ◌∷◌, refl, sym, ap}
use Rattle.std.proofs.Common.{subst}
use Rattle.std.proofs.Common.{arith}
use Rattle.std.specs.Prelude.{FitsSigned}
use Rattle.std.specs.Int.{w128}
use Rattle.cpa_ints.specs.declared.integers.IntType.{IntType}
use Rattle.cpa_expr.specs.declared.tree.Expr.{Expr, out-Expr, roll-Expr}
use Rattle.cpa_expr.specs.declared.tree.Expr.TheVariants.{Const, Cond, rolls-Const, rolls-Read}
use Rattle.cpa_expr.specs.declared.tree.Expr.TheVariants.{rolls-Un, rolls-Bin, rolls-Cmp}
use Rattle.cpa_expr.specs.declared.tree.Expr.TheVariants.{rolls-Cast, rolls-And, rolls-Or}
use Rattle.cpa_expr.specs.declared.tree.Expr.TheVariants.{rolls-Not, rolls-Cond}
use Rattle.cpa_expr.specs.declared.tree.Expr.TheViews.{roll-out-Expr}
use Rattle.cpa_expr.specs.declared.tree.Expr.TheOpen.{Expr-F}
use Rattle.cpa_expr.specs.declared.tree.Expr.TheFolds.{map-Expr, fold-roll-Expr}
use Rattle.cpa_expr.specs.Shape.{height, OfParts}
use Rattle.cpa_expr.specs.lemmas.Layers.{height_rolled}
use Rattle.cpa_expr.specs.lemmas.Parts.{every_rolled, every_of_parts}
use Rattle.cpa_expr_text.specs.declared.heads.Head.TheVariants as head
use Rattle.cpa_expr_text.specs.declared.heads.One.{One}
use Rattle.cpa_expr_text.specs.declared.heads.One.TheVariants as one
use Rattle.cpa_expr_text.specs.declared.heads.Two.{Two}
use Rattle.cpa_expr_text.specs.declared.heads.Two.TheVariants as two
use Rattle.cpa_expr_text.specs.Kinds.{head_onto, FitsHead}
use Rattle.cpa_expr_text.specs.Reading.{Word, words_step, words_onto, one_of, two_of}
use Rattle.cpa_expr_text.specs.Reading.{FitsHere, Fits}

-- what an expression is
pub data Form (e : Expr) : Type 0 where
  leaf : (t : IntType) (n : ℤ) → Const t n ≡ e → FitsSigned w128 n
      → ((ws : List Word) → words_onto e ws ≡ head_onto (head.Leaf t n) ws)
      → 0 < height e → Form e
  one_part : (h : One) (a : Expr) → one_of h a ≡ e → FitsHead (head.One h) → Fits a
      → ((ws : List Word) → words_onto e ws ≡ head_onto (head.One h) (words_onto a ws))
      → height a < height e → Form e
  two_parts : (h : Two) (a b : Expr) → two_of h a b ≡ e → Fits a → Fits b
      → ((ws : List Word)
      → words_onto e ws ≡ head_onto (head.Two h) (words_onto a (words_onto b ws)))
      → height a < height e → height b < height e → Form e
  three_parts : (t : IntType) (a b d : Expr) → Cond t a b d ≡ e → Fits a → Fits b → Fits d
      → ((ws : List Word) → words_onto e ws
      ≡ head_onto (head.Three t) (words_onto a (words_onto b (words_onto d ws))))
      → height a < height e → height b < height e → height d < height e → Form e

pub words_rolled : (x : Expr-F Expr) (ws : List Word) → words_onto (roll-Expr x) ws
    ≡ words_step (map-Expr Expr (List Word → List Word) words_onto x) ws
words_rolled x ws = ap (λ f. f ws) (fold-roll-Expr (List Word → List Word) words_step x)

of_layer : (x : Expr-F Expr) → Fits (roll-Expr x) → Form (roll-Expr x)
of_layer (Expr-F.Const t n) h =
    let k = every_rolled FitsHere (Expr-F.Const t n) h in
    let high = height_rolled (Expr-F.Const t n) in
    leaf t n (sym (rolls-Const t n)) k.0 (words_rolled (Expr-F.Const t n)) (omega arith)
of_layer (Expr-F.Read t base len a) h =
    let x : Expr-F Expr = Expr-F.Read t base len a in
    let k = every_rolled FitsHere x h in
    let high = height_rolled x in
    one_part (one.Read t base len) a (sym (rolls-Read t base len a)) k.0 (k.1).0 (words_rolled x)
    (omega arith)
of_layer (Expr-F.Un o t a) h =
    let x : Expr-F Expr = Expr-F.Un o t a in
    let k = every_rolled FitsHere x h in
    let high = height_rolled x in
    one_part (one.Un o t) a (sym (rolls-Un o t a)) k.0 (k.1).0 (words_rolled x) (omega arith)
of_layer (Expr-F.Bin o t a b) h =
    let x : Expr-F Expr = Expr-F.Bin o t a b in
    let k = every_rolled FitsHere x h in
    let high = height_rolled x in
    two_parts (two.Bin o t) a b (sym (rolls-Bin o t a b)) (k.1).0 ((k.1).1).0 (words_rolled x)
    (omega arith) (omega arith)
of_layer (Expr-F.Cmp o t a b) h =
    let x : Expr-F Expr = Expr-F.Cmp o t a b in
    let k = every_rolled FitsHere x h in
    let high = height_rolled x in
    two_parts (two.Cmp o t) a b (sym (rolls-Cmp o t a b)) (k.1).0 ((k.1).1).0 (words_rolled x)
    (omega arith) (omega arith)
of_layer (Expr-F.Cast t a) h =
    let x : Expr-F Expr = Expr-F.Cast t a in
    let k = every_rolled FitsHere x h in
    let high = height_rolled x in
    one_part (one.Cast t) a (sym (rolls-Cast t a)) k.0 (k.1).0 (words_rolled x) (omega arith)
of_layer (Expr-F.And a b) h =
    let x : Expr-F Expr = Expr-F.And a b in
    let k = every_rolled FitsHere x h in
    let high = height_rolled x in
    two_parts two.Both a b (sym (rolls-And a b)) (k.1).0 ((k.1).1).0 (words_rolled x)
    (omega arith) (omega arith)
of_layer (Expr-F.Or a b) h =
    let x : Expr-F Expr = Expr-F.Or a b in
    let k = every_rolled FitsHere x h in
    let high = height_rolled x in
    two_parts two.Either a b (sym (rolls-Or a b)) (k.1).0 ((k.1).1).0 (words_rolled x)
    (omega arith) (omega arith)
of_layer (Expr-F.Not a) h =
    let x : Expr-F Expr = Expr-F.Not a in
    let k = every_rolled FitsHere x h in
    let high = height_rolled x in
    one_part one.Not a (sym (rolls-Not a)) k.0 (k.1).0 (words_rolled x) (omega arith)
of_layer (Expr-F.Cond t a b d) h =
    let x : Expr-F Expr = Expr-F.Cond t a b d in
    let k = every_rolled FitsHere x h in
    let high = height_rolled x in
    three_parts t a b d (sym (rolls-Cond t a b d)) (k.1).0 ((k.1).1).0 (((k.1).1).1).0
    (words_rolled x) (omega arith) (omega arith) (omega arith)

pub form_of : (e : Expr) → Fits e → Form e
form_of e h =
    let same = roll-out-Expr e in
    subst Form same (of_layer (out-Expr e) (subst Fits (sym same) h))

-- and such nodes have numbers that fit

pub one_fits : (h : One) (a : Expr) → FitsHead (head.One h) → Fits a → Fits (one_of h a)
one_fits (one.Read t base len) a h k =
    subst Fits (rolls-Read t base len a)
    (every_of_parts FitsHere (Expr-F.Read t base len a) h (k, tt))
one_fits (one.Un o t) a h k =
    subst Fits (rolls-Un o t a) (every_of_parts FitsHere (Expr-F.Un o t a) tt (k, tt))
one_fits (one.Cast t) a h k =
    subst Fits (rolls-Cast t a) (every_of_parts FitsHere (Expr-F.Cast t a) tt (k, tt))
one_fits one.Not a h k =
    subst Fits (rolls-Not a) (every_of_parts FitsHere (Expr-F.Not a) tt (k, tt))

pub two_fits : (h : Two) (a b : Expr) → Fits a → Fits b → Fits (two_of h a b)
two_fits (two.Bin o t) a b k l =
    subst Fits (rolls-Bin o t a b) (every_of_parts FitsHere (Expr-F.Bin o t a b) tt (k, (l, tt)))
two_fits (two.Cmp o t) a b k l =
    subst Fits (rolls-Cmp o t a b) (every_of_parts FitsHere (Expr-F.Cmp o t a b) tt (k, (l, tt)))
two_fits two.Both a b k l =
    subst Fits (rolls-And a b) (every_of_parts FitsHere (Expr-F.And a b) tt (k, (l, tt)))
two_fits two.Either a b k l =
    subst Fits (rolls-Or a b) (every_of_parts FitsHere (Expr-F.Or a b) tt (k, (l, tt)))

pub leaf_fits : (t : IntType) (n : ℤ) → FitsSigned w128 n → Fits (Const t n)
leaf_fits t n h = subst Fits (rolls-Const t n) (every_of_parts FitsHere (Expr-F.Const t n) h tt)

pub three_fits : (t : IntType) (a b d : Expr) → Fits a → Fits b → Fits d → Fits (Cond t a b d)
three_fits t a b d k l m =
    subst Fits (rolls-Cond t a b d)
    (every_of_parts FitsHere (Expr-F.Cond t a b d) tt (k, (l, (m, tt))))
