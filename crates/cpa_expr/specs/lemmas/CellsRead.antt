-- A value depends on the cells that the expression may read.
use Rattle.std.proofs.Common.{◌≡◌, ℕ, ◌+◌, nat_lt, ℤ, pos, negsuc, Bool, true, false, ◌||◌, IsTrue}
use Rattle.std.proofs.Common.{List, Option, None, Some, slice_get, option_map, option_and_then}
use Rattle.std.proofs.Common.{refl, sym, ap, ◌∙◌, arith}
use Rattle.std.specs.Prelude.{if◌then◌else◌}
use Rattle.std.proofs.lemmas.Bool.Decides.{nat_tests}
use Rattle.cpa_expr.specs.declared.tree.Expr.{Expr, roll-Expr}
use Rattle.cpa_expr.specs.declared.tree.Expr.TheOpen.{Expr-F}
use Rattle.cpa_expr.specs.declared.tree.Expr.TheFolds.{map-Expr}
use Rattle.cpa_expr.specs.Shape.{OfParts}
use Rattle.cpa_expr.specs.Values.{un_value, bin_value, compares, truth, cell_at, evaluated}
use Rattle.cpa_expr.specs.Values.{value_step, value_of}
use Rattle.cpa_expr.specs.Cells.{is_within, reads_step, may_read, AgreesWhereRead}
use Rattle.cpa_expr.specs.lemmas.Parts.{by_parts}
use Rattle.cpa_expr.specs.lemmas.Layers.{values_in, value_rolled, reads_rolled}

pub or_left : (a b : Bool) → IsTrue a → IsTrue (a || b)
or_left true b h = refl
or_left false b h = absurd (cc)

pub or_right : (a b : Bool) → IsTrue b → IsTrue (a || b)
or_right true b h = refl
or_right false b h = h

-- equal values of the parts give equal values
pub same_read : (values : List ℤ) (base len : ℕ) (o p : Option ℤ) → o ≡ p →
    option_and_then (cell_at values base len) o ≡ option_and_then (cell_at values base len) p
same_read values base len o p e = ap (option_and_then (cell_at values base len)) e

pub both_same : (A : Type 0) (f : Option ℤ → Option ℤ → A) (a b c d : Option ℤ) → a ≡ b → c ≡ d →
    f a c ≡ f b d
both_same A f a b c d e h = ap (λ z. f z c) e ∙ ap (f b) h

-- a read finds the same where the cells are the same
pub same_cells : (values others : List ℤ) (base len : ℕ) →
    ((cell : ℕ) → IsTrue (is_within base len cell) → slice_get values cell ≡ slice_get others cell)
    → (o : Option ℤ) → option_and_then (cell_at values base len) o
    ≡ option_and_then (cell_at others base len) o
same_cells values others base len same None = refl
same_cells values others base len same (Some (negsuc i)) = refl
same_cells values others base len same (Some (pos i)) = by (nat_lt i len) refl
  where
    by : (b : Bool) → nat_lt i len ≡ b →
        (if b then slice_get values (base + i) else None) ≡ (if b then slice_get others (base + i)
        else None)
    by false e = refl
    by true e =
        let within : IsTrue (is_within base len (base + i)) = grind (arith, nat_tests) in
        same (base + i) within

module _ (values others : List ℤ) where
  abbrev Agreed : Expr → Type 0
  Agreed e = AgreesWhereRead e values others → value_of e values ≡ value_of e others

  abbrev LayerAgrees : Expr-F Expr → Type 0
  LayerAgrees x =
      (cell : ℕ) → IsTrue (reads_step cell (map-Expr Expr Bool (λ e. may_read e cell) x)) →
      slice_get values cell ≡ slice_get others cell

  layer_agrees : (x : Expr-F Expr) → OfParts Agreed x → LayerAgrees x →
      value_step values (values_in values x) ≡ value_step others (values_in others x)
  layer_agrees (Expr-F.Const t n) h a = refl
  layer_agrees (Expr-F.Read t base len index) h a =
      same_read values base len (value_of index values) (value_of index others)
      (h.0 (λ c r. a c (or_right (is_within base len c) (may_read index c || false)
      (or_left (may_read index c) false r)))) ∙
      same_cells values others base len (λ c r. a c
      (or_left (is_within base len c) (may_read index c || false) r)) (value_of index others)
  layer_agrees (Expr-F.Un o t arg) h a =
      ap (option_map (un_value o t)) (h.0 (λ c r. a c (or_left (may_read arg c) false r)))
  layer_agrees (Expr-F.Bin o t left right) h a =
      both_same (Option ℤ) (evaluated (bin_value o t)) (value_of left values) (value_of left others)
      (value_of right values) (value_of right others)
      (h.0 (λ c r. a c (or_left (may_read left c) (may_read right c || false) r)))
      ((h.1).0 (λ c r. a c (or_right (may_read left c) (may_read right c || false)
      (or_left (may_read right c) false r))))
  layer_agrees (Expr-F.Cmp o t left right) h a =
      both_same (Option ℤ) (evaluated (λ p q. Some (truth (compares o p q)))) (value_of left values)
      (value_of left others) (value_of right values) (value_of right others)
      (h.0 (λ c r. a c (or_left (may_read left c) (may_read right c || false) r)))
      ((h.1).0 (λ c r. a c (or_right (may_read left c) (may_read right c || false)
      (or_left (may_read right c) false r))))
  layer_agrees (Expr-F.Cast t arg) h a =
      ap (λ o. value_step values (Expr-F.Cast t o))
      (h.0 (λ c r. a c (or_left (may_read arg c) false r)))
  layer_agrees (Expr-F.And left right) h a =
      both_same (Option ℤ) (λ p q. value_step values (Expr-F.And p q)) (value_of left values)
      (value_of left others) (value_of right values) (value_of right others)
      (h.0 (λ c r. a c (or_left (may_read left c) (may_read right c || false) r)))
      ((h.1).0 (λ c r. a c (or_right (may_read left c) (may_read right c || false)
      (or_left (may_read right c) false r))))
  layer_agrees (Expr-F.Or left right) h a =
      both_same (Option ℤ) (λ p q. value_step values (Expr-F.Or p q)) (value_of left values)
      (value_of left others) (value_of right values) (value_of right others)
      (h.0 (λ c r. a c (or_left (may_read left c) (may_read right c || false) r)))
      ((h.1).0 (λ c r. a c (or_right (may_read left c) (may_read right c || false)
      (or_left (may_read right c) false r))))
  layer_agrees (Expr-F.Not arg) h a =
      ap (λ o. value_step values (Expr-F.Not o)) (h.0 (λ c r.
      a c (or_left (may_read arg c) false r)))
  layer_agrees (Expr-F.Cond t test first second) h a =
      let reads_test = λ (c : ℕ) (r : IsTrue (may_read test c)). a c
      (or_left (may_read test c) (may_read first c || (may_read second c || false)) r) in
      let reads_first = λ (c : ℕ) (r : IsTrue (may_read first c)). a c
      (or_right (may_read test c) (may_read first c || (may_read second c || false))
      (or_left (may_read first c) (may_read second c || false) r)) in
      let reads_second = λ (c : ℕ) (r : IsTrue (may_read second c)). a c
      (or_right (may_read test c) (may_read first c || (may_read second c || false))
      (or_right (may_read first c) (may_read second c || false)
      (or_left (may_read second c) false r))) in
      ap (λ o. value_step values (Expr-F.Cond t o (value_of first values) (value_of second values)))
      (h.0 reads_test) ∙
      ap (λ o. value_step values (Expr-F.Cond t (value_of test others) o (value_of second values)))
      ((h.1).0 reads_first) ∙
      ap (λ o. value_step values (Expr-F.Cond t (value_of test others) (value_of first others) o))
      (((h.1).1).0 reads_second)

  agreed_at : (x : Expr-F Expr) → OfParts Agreed x → Agreed (roll-Expr x)
  agreed_at x h a =
      value_rolled values x ∙ layer_agrees x h (λ c r. a c (reads_rolled c x ∙ r))
      ∙ sym (value_rolled others x)

pub value_agrees : (e : Expr) (values others : List ℤ) → AgreesWhereRead e values others →
    value_of e values ≡ value_of e others
value_agrees e values others = by_parts (Agreed values others) (agreed_at values others) e
