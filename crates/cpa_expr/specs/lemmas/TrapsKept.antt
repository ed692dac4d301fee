-- A cell replaced by an expression that traps: the result traps, or is what it is whatever the cell
-- holds.
use Rattle.std.proofs.Common.{◌≡◌, ◌⊎◌, inl, inr, ℕ, ℤ, pos, Bool, true, false, not, IsTrue, List}
use Rattle.std.proofs.Common.{Option, None, Some, slice_get, option_map, option_and_then, refl, sym}
use Rattle.std.proofs.Common.{ap, subst, ◌∙◌}
use Rattle.std.specs.Prelude.{if◌then◌else◌, slice_set}
use Rattle.cpa_ints.specs.Wrapping.{wrapped}
use Rattle.cpa_expr.specs.declared.tree.Expr.{Expr, roll-Expr}
use Rattle.cpa_expr.specs.declared.tree.Expr.TheOpen.{Expr-F}
use Rattle.cpa_expr.specs.Shape.{OfParts}
use Rattle.cpa_expr.specs.Values.{un_value, bin_value, compares, truth, is_nonzero, truth_of}
use Rattle.cpa_expr.specs.Values.{cell_at, evaluated, value_step, value_of}
use Rattle.cpa_expr.specs.Cells.{is_within, is_scalar_read, replaced, ReadsAsScalar}
use Rattle.cpa_expr.specs.lemmas.Parts.{by_parts, every_rolled}
use Rattle.cpa_expr.specs.lemmas.Layers.{values_in, value_rolled}
use Rattle.cpa_expr.specs.lemmas.CellsRead.{both_same, same_cells}
use Rattle.cpa_expr.specs.lemmas.Substitution.{new, news, new_cases, AsScalar, get_set_other}

-- a trap, or the same
abbrev TrapsOr : Option ℤ → Option ℤ → Type 0
TrapsOr x w = (x ≡ None) ⊎ (x ≡ w)

strict : (f : Option ℤ → Option ℤ) → f None ≡ None → (x w : Option ℤ) → TrapsOr x w →
    TrapsOr (f x) (f w)
strict f none x w (inl e) = inl (ap f e ∙ none)
strict f none x w (inr e) = inr (ap f e)

trap_right : (f : ℤ → ℤ → Option ℤ) (x : Option ℤ) → evaluated f x None ≡ None
trap_right f None = refl
trap_right f (Some a) = refl

strict_both : (f : ℤ → ℤ → Option ℤ) (x w y z : Option ℤ) → TrapsOr x w → TrapsOr y z →
    TrapsOr (evaluated f x y) (evaluated f w z)
strict_both f x w y z (inl e) k = inl (ap (λ o. evaluated f o y) e)
strict_both f x w y z (inr e) (inl d) = inl (ap (evaluated f x) d ∙ trap_right f x)
strict_both f x w y z (inr e) (inr d) = inr (both_same (Option ℤ) (evaluated f) x w y z e d)

-- one of two values, picked by a test
abbrev tested : Option ℤ → Option ℤ → Option ℤ → Option ℤ
tested x p q = option_and_then (λ a. if is_nonzero a then p else q) x

picked : (b : Bool) (p q r s : Option ℤ) → TrapsOr p r → TrapsOr q s →
    TrapsOr (if b then p else q) (if b then r else s)
picked true p q r s h k = h
picked false p q r s h k = k

strict_at : (w p q r s : Option ℤ) → TrapsOr p r → TrapsOr q s →
    TrapsOr (tested w p q) (tested w r s)
strict_at None p q r s h k = inl refl
strict_at (Some a) p q r s h k = picked (is_nonzero a) p q r s h k

strict_tested : (x w p q r s : Option ℤ) → TrapsOr x w → TrapsOr p r → TrapsOr q s →
    TrapsOr (tested x p q) (tested w r s)
strict_tested x w p q r s (inl e) h k = inl (ap (λ o. tested o p q) e)
strict_tested x w p q r s (inr e) h k =
    subst (λ o. TrapsOr (tested o p q) (tested w r s)) (sym e) (strict_at w p q r s h k)

module _ (cell : ℕ) (by : Expr) (values : List ℤ) (w : ℤ) (traps : value_of by values ≡ None) where
  abbrev after : List ℤ
  after = slice_set values cell w

  abbrev IsKept : Expr → Type 0
  IsKept e = ReadsAsScalar cell e → TrapsOr (value_of (new cell by e) values) (value_of e after)

  layer_kept : (x : Expr-F Expr) → OfParts IsKept x → AsScalar cell x →
      OfParts (ReadsAsScalar cell) x → is_scalar_read cell x ≡ false →
      TrapsOr (value_step values (values_in values (news cell by x)))
      (value_step after (values_in after x))
  layer_kept (Expr-F.Const t n) h here q e = inr refl
  layer_kept (Expr-F.Read t base len index) h here q e =
      let apart : IsTrue (is_within base len cell) → ⊥ = λ r. let one = here r in cc in
      let other : (c : ℕ) → IsTrue (is_within base len c) → slice_get values c ≡ slice_get after c =
      λ c r. sym (get_set_other values cell c w (λ f.
      apart (subst (λ k. IsTrue (is_within base len k)) f r))) in
      subst (λ o. TrapsOr (option_and_then (cell_at values base len)
      (value_of (new cell by index) values)) o)
      (same_cells values after base len other (value_of index after))
      (strict (option_and_then (cell_at values base len)) refl (value_of (new cell by index) values)
      (value_of index after) (h.0 q.0))
  layer_kept (Expr-F.Un o t arg) h here q e =
      strict (option_map (un_value o t)) refl (value_of (new cell by arg) values)
      (value_of arg after) (h.0 q.0)
  layer_kept (Expr-F.Bin o t left right) h here q e =
      strict_both (bin_value o t) (value_of (new cell by left) values) (value_of left after)
      (value_of (new cell by right) values) (value_of right after) (h.0 q.0) ((h.1).0 (q.1).0)
  layer_kept (Expr-F.Cmp o t left right) h here q e =
      strict_both (λ m n. Some (truth (compares o m n))) (value_of (new cell by left) values)
      (value_of left after) (value_of (new cell by right) values) (value_of right after)
      (h.0 q.0) ((h.1).0 (q.1).0)
  layer_kept (Expr-F.Cast t arg) h here q e =
      strict (option_map (wrapped t)) refl (value_of (new cell by arg) values) (value_of arg after)
      (h.0 q.0)
  layer_kept (Expr-F.And left right) h here q e =
      strict_tested (value_of (new cell by left) values) (value_of left after)
      (truth_of (value_of (new cell by right) values)) (Some (pos 0))
      (truth_of (value_of right after)) (Some (pos 0)) (h.0 q.0)
      (strict truth_of refl (value_of (new cell by right) values) (value_of right after)
      ((h.1).0 (q.1).0)) (inr refl)
  layer_kept (Expr-F.Or left right) h here q e =
      strict_tested (value_of (new cell by left) values) (value_of left after) (Some (pos 1))
      (truth_of (value_of (new cell by right) values)) (Some (pos 1))
      (truth_of (value_of right after)) (h.0 q.0)
      (inr refl) (strict truth_of refl (value_of (new cell by right) values) (value_of right after)
      ((h.1).0 (q.1).0))
  layer_kept (Expr-F.Not arg) h here q e =
      strict (option_map (λ a. truth (not (is_nonzero a)))) refl (value_of (new cell by arg) values)
      (value_of arg after) (h.0 q.0)
  layer_kept (Expr-F.Cond t test first second) h here q e =
      strict_tested (value_of (new cell by test) values) (value_of test after)
      (value_of (new cell by first) values) (value_of (new cell by second) values)
      (value_of first after) (value_of second after)
      (h.0 q.0) ((h.1).0 (q.1).0) (((h.1).1).0 ((q.1).1).0)

  kept_at : (x : Expr-F Expr) → OfParts IsKept x → IsKept (roll-Expr x)
  kept_at x h r =
      let q = every_rolled (AsScalar cell) x r in
      new_cases cell by (λ d. TrapsOr (value_of d values) (value_of (roll-Expr x) after)) x (λ e.
      inl traps)
      (λ e. subst (λ o. TrapsOr o (value_of (roll-Expr x) after))
      (sym (value_rolled values (news cell by x)))
      (subst (TrapsOr (value_step values (values_in values (news cell by x))))
      (sym (value_rolled after x)) (layer_kept x h q.0 q.1 e)))

pub replaced_trap : (e : Expr) (cell : ℕ) (by : Expr) (values : List ℤ) (w : ℤ) →
    ReadsAsScalar cell e → value_of by values ≡ None
    → (value_of (replaced e cell by) values ≡ None)
    ⊎ (value_of (replaced e cell by) values ≡ value_of e (slice_set values cell w))
replaced_trap e cell by values w scalar traps =
    by_parts (IsKept cell by values w traps) (kept_at cell by values w traps) e scalar
