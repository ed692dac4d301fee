-- An expression with a cell replaced: its value, type and height.
use Rattle.std.proofs.Common.{◌≡◌, ◌≢◌, ℕ, zero, suc, ◌+◌, ◌≤◌, ◌<◌, ◌==◌, ℤ, pos, Bool, true}
use Rattle.std.proofs.Common.{false, ◌&&◌, IsTrue, List, [], ◌∷◌, length, Option, Some, slice_get}
use Rattle.std.proofs.Common.{option_map, option_and_then, refl, sym, ap, subst, ◌∙◌, arith}
use Rattle.std.specs.Prelude.{if◌then◌else◌, slice_set}
use Rattle.std.proofs.lemmas.Bool.{and_parts}
use Rattle.std.proofs.lemmas.Bool.Decides.{nat_tests}
use Rattle.std.proofs.lemmas.Int.{ints}
use Rattle.cpa_ints.specs.declared.integers.IntType.{IntType}
use Rattle.cpa_ints.specs.declared.integers.IntType.TheVariants as ty
use Rattle.cpa_expr.specs.declared.tree.Expr.{Expr, out-Expr, roll-Expr}
use Rattle.cpa_expr.specs.declared.tree.Expr.TheViews.{roll-out-Expr}
use Rattle.cpa_expr.specs.declared.tree.Expr.TheOpen.{Expr-F}
use Rattle.cpa_expr.specs.declared.tree.Expr.TheFolds.{map-Expr, fold-Expr, fold-roll-Expr}
use Rattle.cpa_expr.specs.Shape.{OfParts, node_type, type_of, height_step, height, IsTypedHere}
use Rattle.cpa_expr.specs.Shape.{IsTyped}
use Rattle.cpa_expr.specs.Values.{un_value, bin_value, compares, truth, cell_at, evaluated}
use Rattle.cpa_expr.specs.Values.{value_step, value_of}
use Rattle.cpa_expr.specs.Cells.{is_within, is_zero, is_scalar_read, Replacement, replace_step}
use Rattle.cpa_expr.specs.Cells.{replaced, reads_here, ReadsAsScalar, with_parts}
use Rattle.cpa_expr.specs.lemmas.Parts.{by_parts, every_rolled, every_of_parts}
use Rattle.cpa_expr.specs.lemmas.Layers.{values_in, value_rolled, type_rolled, height_rolled}
use Rattle.cpa_expr.specs.lemmas.CellsRead.{same_read, both_same, same_cells}

-- the list at the place that is set, and at another
get_set : (xs : List ℤ) (i : ℕ) (v : ℤ) → i < length xs → slice_get (slice_set xs i v) i ≡ Some v
get_set [] i v h = absurd (omega arith)
get_set (x ∷ xs) zero v h = refl
get_set (x ∷ xs) (suc i) v h = get_set xs i v (omega arith)

pub get_set_other : (xs : List ℤ) (i k : ℕ) (v : ℤ) → k ≢ i →
    slice_get (slice_set xs i v) k ≡ slice_get xs k
get_set_other [] i k v h = refl
get_set_other (x ∷ xs) zero zero v h = absurd (h refl)
get_set_other (x ∷ xs) zero (suc k) v h = refl
get_set_other (x ∷ xs) (suc i) zero v h = refl
get_set_other (x ∷ xs) (suc i) (suc k) v h = get_set_other xs i k v (λ e. h (ap suc e))

-- the number 0 has the value 0
zero_layer : (x : Expr-F Expr) (values : List ℤ) → is_zero x ≡ true →
    value_of (roll-Expr x) values ≡ Some (pos 0)
zero_layer (Expr-F.Const ty.I32 n) values h =
    let none : n ≡ pos 0 = grind (arith, ints) in value_rolled values (Expr-F.Const ty.I32 n)
    ∙ ap Some none
zero_layer (Expr-F.Const ty.Bool n) values h = absurd (cc)
zero_layer (Expr-F.Const ty.I8 n) values h = absurd (cc)
zero_layer (Expr-F.Const ty.U8 n) values h = absurd (cc)
zero_layer (Expr-F.Const ty.I16 n) values h = absurd (cc)
zero_layer (Expr-F.Const ty.U16 n) values h = absurd (cc)
zero_layer (Expr-F.Const ty.U32 n) values h = absurd (cc)
zero_layer (Expr-F.Const ty.I64 n) values h = absurd (cc)
zero_layer (Expr-F.Const ty.U64 n) values h = absurd (cc)
zero_layer (Expr-F.Read t base len index) values h = absurd (cc)
zero_layer (Expr-F.Un o t arg) values h = absurd (cc)
zero_layer (Expr-F.Bin o t left right) values h = absurd (cc)
zero_layer (Expr-F.Cmp o t left right) values h = absurd (cc)
zero_layer (Expr-F.Cast t arg) values h = absurd (cc)
zero_layer (Expr-F.And left right) values h = absurd (cc)
zero_layer (Expr-F.Or left right) values h = absurd (cc)
zero_layer (Expr-F.Not arg) values h = absurd (cc)
zero_layer (Expr-F.Cond t test first second) values h = absurd (cc)

zero_value : (e : Expr) (values : List ℤ) → is_zero (out-Expr e) ≡ true →
    value_of e values ≡ Some (pos 0)
zero_value e values h =
    subst (λ d. value_of d values ≡ Some (pos 0)) (roll-out-Expr e)
    (zero_layer (out-Expr e) values h)

module _ (cell : ℕ) (by : Expr) where
  abbrev pair : Expr → Replacement
  pair = fold-Expr Replacement (replace_step cell by)

  abbrev Kept : Expr → Type 0
  Kept e = (pair e).before ≡ e

  abbrev befores : Expr-F Expr → Expr-F Expr
  befores x = map-Expr Replacement Expr (λ p. p.before) (map-Expr Expr Replacement pair x)

  layer_kept : (x : Expr-F Expr) → OfParts Kept x → befores x ≡ x
  layer_kept (Expr-F.Const t n) h = refl
  layer_kept (Expr-F.Read t base len index) h = ap (λ z. Expr-F.Read t base len z) h.0
  layer_kept (Expr-F.Un o t arg) h = ap (λ z. Expr-F.Un o t z) h.0
  layer_kept (Expr-F.Bin o t left right) h =
      ap (λ z. Expr-F.Bin o t z (pair right).before) h.0 ∙ ap (λ z. Expr-F.Bin o t left z) (h.1).0
  layer_kept (Expr-F.Cmp o t left right) h =
      ap (λ z. Expr-F.Cmp o t z (pair right).before) h.0 ∙ ap (λ z. Expr-F.Cmp o t left z) (h.1).0
  layer_kept (Expr-F.Cast t arg) h = ap (λ z. Expr-F.Cast t z) h.0
  layer_kept (Expr-F.And left right) h =
      ap (λ z. Expr-F.And z (pair right).before) h.0 ∙ ap (λ z. Expr-F.And left z) (h.1).0
  layer_kept (Expr-F.Or left right) h =
      ap (λ z. Expr-F.Or z (pair right).before) h.0 ∙ ap (λ z. Expr-F.Or left z) (h.1).0
  layer_kept (Expr-F.Not arg) h = ap (λ z. Expr-F.Not z) h.0
  layer_kept (Expr-F.Cond t test first second) h =
      ap (λ z. Expr-F.Cond t z (pair first).before (pair second).before) h.0 ∙
      ap (λ z. Expr-F.Cond t test z (pair second).before) (h.1).0
      ∙ ap (λ z. Expr-F.Cond t test first z) ((h.1).1).0

  pair_rolled : (x : Expr-F Expr) →
      pair (roll-Expr x) ≡ replace_step cell by (map-Expr Expr Replacement pair x)
  pair_rolled x = fold-roll-Expr Replacement (replace_step cell by) x

  kept : (e : Expr) → Kept e
  kept = by_parts Kept (λ x h. ap (λ p. p.before) (pair_rolled x) ∙ ap roll-Expr (layer_kept x h))

  all_kept : (x : Expr-F Expr) → OfParts Kept x
  all_kept (Expr-F.Const t n) = tt
  all_kept (Expr-F.Read t base len index) = (kept index, tt)
  all_kept (Expr-F.Un o t arg) = (kept arg, tt)
  all_kept (Expr-F.Bin o t left right) = (kept left, (kept right, tt))
  all_kept (Expr-F.Cmp o t left right) = (kept left, (kept right, tt))
  all_kept (Expr-F.Cast t arg) = (kept arg, tt)
  all_kept (Expr-F.And left right) = (kept left, (kept right, tt))
  all_kept (Expr-F.Or left right) = (kept left, (kept right, tt))
  all_kept (Expr-F.Not arg) = (kept arg, tt)
  all_kept (Expr-F.Cond t test first second) = (kept test, (kept first, (kept second, tt)))

  abbrev pub new : Expr → Expr
  new e = replaced e cell by

  -- the node with each part replaced
  abbrev pub news : Expr-F Expr → Expr-F Expr
  news = map-Expr Expr Expr new

  afters : (x : Expr-F Expr) →
      map-Expr Replacement Expr (λ p. p.after) (map-Expr Expr Replacement pair x) ≡ news x
  afters (Expr-F.Const t n) = refl
  afters (Expr-F.Read t base len index) = refl
  afters (Expr-F.Un o t arg) = refl
  afters (Expr-F.Bin o t left right) = refl
  afters (Expr-F.Cmp o t left right) = refl
  afters (Expr-F.Cast t arg) = refl
  afters (Expr-F.And left right) = refl
  afters (Expr-F.Or left right) = refl
  afters (Expr-F.Not arg) = refl
  afters (Expr-F.Cond t test first second) = refl

  pub new_rolled : (x : Expr-F Expr) →
      new (roll-Expr x) ≡ (if is_scalar_read cell x then by else roll-Expr (news x))
  new_rolled x =
      ap (λ p. p.after) (pair_rolled x) ∙
      ap (λ y. if is_scalar_read cell y then by
      else roll-Expr (map-Expr Replacement Expr (λ p. p.after)
      (map-Expr Expr Replacement pair x))) (layer_kept x (all_kept x)) ∙
      ap (λ y. if is_scalar_read cell x then by else roll-Expr y) (afters x)

  -- by whether the node is a scalar read of the cell
  pub new_cases : (P : Expr → Type 0) (x : Expr-F Expr) → (is_scalar_read cell x ≡ true → P by) →
      (is_scalar_read cell x ≡ false → P (roll-Expr (news x))) → P (new (roll-Expr x))
  new_cases P x scalar other = subst P (sym (new_rolled x)) (choose (is_scalar_read cell x) refl)
    where
      choose : (b : Bool) → is_scalar_read cell x ≡ b → P (if b then by else roll-Expr (news x))
      choose true e = scalar e
      choose false e = other e

pub replaced_node : (e : Expr) (cell : ℕ) (by : Expr)
    → replaced e cell by ≡ (if is_scalar_read cell (out-Expr e) then by
    else with_parts (λ part. replaced part cell by) e)
replaced_node e cell by = ap (new cell by) (sym (roll-out-Expr e)) ∙ new_rolled cell by (out-Expr e)

-- what a scalar read of the cell is
pub record IsScalar (cell base len : ℕ) (index : Expr) : Type 0 where
  pub at_cell : base ≡ cell
  pub alone : len ≡ 1
  pub at_zero : is_zero (out-Expr index) ≡ true

pub scalar_parts : (cell : ℕ) (t : IntType) (base len : ℕ) (index : Expr) →
    is_scalar_read cell (Expr-F.Read t base len index) ≡ true → IsScalar cell base len index
scalar_parts cell t base len index h =
    let whole = and_parts (base == cell && len == 1) (is_zero (out-Expr index)) h in
    let place = and_parts (base == cell) (len == 1) whole.0 in
    record {
      at_cell = grind (arith, nat_tests, place.0);
      alone = grind (arith, nat_tests, place.1);
      at_zero = whole.1;
    }

-- a node that reads the cell at most as a scalar
abbrev pub AsScalar : ℕ → Expr-F Expr → Type 0
AsScalar cell x = IsTrue (reads_here cell x) → IsTrue (is_scalar_read cell x)

-- ---- the value

module _ (cell : ℕ) (by : Expr) (values : List ℤ) (v : ℤ) (inside : cell < length values)
    (is : value_of by values ≡ Some v) where
  abbrev after : List ℤ
  after = slice_set values cell v

  abbrev IsSet : Expr → Type 0
  IsSet e = ReadsAsScalar cell e → value_of (new cell by e) values ≡ value_of e after

  scalar_value : (x : Expr-F Expr) → is_scalar_read cell x ≡ true →
      value_step after (values_in after x) ≡ Some v
  scalar_value (Expr-F.Read t base len index) e =
      let parts = scalar_parts cell t base len index e in
      let at : slice_get after (cell + 0) ≡ Some v = ap (slice_get after) (omega arith)
      ∙ get_set values cell v inside in
      ap (option_and_then (cell_at after base len)) (zero_value index after parts.at_zero)
      ∙ ap (λ b. cell_at after b len (pos 0)) parts.at_cell
      ∙ ap (λ n. cell_at after cell n (pos 0)) parts.alone ∙ at
  scalar_value (Expr-F.Const t n) e = absurd (cc)
  scalar_value (Expr-F.Un o t arg) e = absurd (cc)
  scalar_value (Expr-F.Bin o t left right) e = absurd (cc)
  scalar_value (Expr-F.Cmp o t left right) e = absurd (cc)
  scalar_value (Expr-F.Cast t arg) e = absurd (cc)
  scalar_value (Expr-F.And left right) e = absurd (cc)
  scalar_value (Expr-F.Or left right) e = absurd (cc)
  scalar_value (Expr-F.Not arg) e = absurd (cc)
  scalar_value (Expr-F.Cond t test first second) e = absurd (cc)

  layer_set : (x : Expr-F Expr) → OfParts IsSet x → AsScalar cell x →
      OfParts (ReadsAsScalar cell) x → is_scalar_read cell x ≡ false →
      value_step values (values_in values (news cell by x)) ≡ value_step after (values_in after x)
  layer_set (Expr-F.Const t n) h here q e = refl
  layer_set (Expr-F.Read t base len index) h here q e =
      let apart : IsTrue (is_within base len cell) → ⊥ = λ w. let one = here w in cc in
      let other : (c : ℕ) → IsTrue (is_within base len c) → slice_get values c ≡ slice_get after c =
      λ c r. sym (get_set_other values cell c v (λ f.
      apart (subst (λ k. IsTrue (is_within base len k)) f r))) in
      same_read values base len (value_of (new cell by index) values) (value_of index after)
      (h.0 q.0) ∙ same_cells values after base len other (value_of index after)
  layer_set (Expr-F.Un o t arg) h here q e = ap (option_map (un_value o t)) (h.0 q.0)
  layer_set (Expr-F.Bin o t left right) h here q e =
      both_same (Option ℤ) (evaluated (bin_value o t)) (value_of (new cell by left) values)
      (value_of left after) (value_of (new cell by right) values) (value_of right after)
      (h.0 q.0) ((h.1).0 (q.1).0)
  layer_set (Expr-F.Cmp o t left right) h here q e =
      both_same (Option ℤ) (evaluated (λ m n. Some (truth (compares o m n))))
      (value_of (new cell by left) values) (value_of left after)
      (value_of (new cell by right) values) (value_of right after) (h.0 q.0) ((h.1).0 (q.1).0)
  layer_set (Expr-F.Cast t arg) h here q e = ap (λ o. value_step values (Expr-F.Cast t o)) (h.0 q.0)
  layer_set (Expr-F.And left right) h here q e =
      both_same (Option ℤ) (λ m n. value_step values (Expr-F.And m n))
      (value_of (new cell by left) values) (value_of left after)
      (value_of (new cell by right) values) (value_of right after) (h.0 q.0) ((h.1).0 (q.1).0)
  layer_set (Expr-F.Or left right) h here q e =
      both_same (Option ℤ) (λ m n. value_step values (Expr-F.Or m n))
      (value_of (new cell by left) values) (value_of left after)
      (value_of (new cell by right) values) (value_of right after) (h.0 q.0) ((h.1).0 (q.1).0)
  layer_set (Expr-F.Not arg) h here q e = ap (λ o. value_step values (Expr-F.Not o)) (h.0 q.0)
  layer_set (Expr-F.Cond t test first second) h here q e =
      ap (λ o. value_step values (Expr-F.Cond t o (value_of (new cell by first) values)
      (value_of (new cell by second) values))) (h.0 q.0) ∙
      ap (λ o. value_step values (Expr-F.Cond t (value_of test after) o
      (value_of (new cell by second) values))) ((h.1).0 (q.1).0) ∙
      ap (λ o. value_step values (Expr-F.Cond t (value_of test after) (value_of first after) o))
      (((h.1).1).0 ((q.1).1).0)

  set_at : (x : Expr-F Expr) → OfParts IsSet x → IsSet (roll-Expr x)
  set_at x h r =
      let q = every_rolled (AsScalar cell) x r in
      new_cases cell by (λ d. value_of d values ≡ value_of (roll-Expr x) after) x
      (λ e. is ∙ sym (value_rolled after x ∙ scalar_value x e))
      (λ e. value_rolled values (news cell by x) ∙ layer_set x h q.0 q.1 e
      ∙ sym (value_rolled after x))

pub replaced_value : (e : Expr) (cell : ℕ) (by : Expr) (values : List ℤ) (v : ℤ) →
    ReadsAsScalar cell e → cell < length values → value_of by values ≡ Some v
    → value_of (replaced e cell by) values ≡ value_of e (slice_set values cell v)
replaced_value e cell by values v scalar inside is =
    by_parts (IsSet cell by values v inside is) (set_at cell by values v inside is) e scalar

-- ---- the type

module _ (cells : List IntType) (cell : ℕ) (by : Expr)
    (is : slice_get cells cell ≡ Some (type_of by)) where
  scalar_type : (x : Expr-F Expr) → IsTypedHere cells x → is_scalar_read cell x ≡ true →
      type_of by ≡ node_type (map-Expr Expr IntType type_of x)
  scalar_type (Expr-F.Read t base len index) here e =
      let parts = scalar_parts cell t base len index e in
      let l = parts.alone in
      let b = parts.at_cell in
      let found : slice_get cells (base + 0) ≡ Some t = here.1 0 (omega arith) in
      let place : base + 0 ≡ cell = omega arith in
      let same : Some (type_of by) ≡ Some t = sym is ∙ ap (slice_get cells) (sym place) ∙ found in
      cc
  scalar_type (Expr-F.Const t n) here e = absurd (cc)
  scalar_type (Expr-F.Un o t arg) here e = absurd (cc)
  scalar_type (Expr-F.Bin o t left right) here e = absurd (cc)
  scalar_type (Expr-F.Cmp o t left right) here e = absurd (cc)
  scalar_type (Expr-F.Cast t arg) here e = absurd (cc)
  scalar_type (Expr-F.And left right) here e = absurd (cc)
  scalar_type (Expr-F.Or left right) here e = absurd (cc)
  scalar_type (Expr-F.Not arg) here e = absurd (cc)
  scalar_type (Expr-F.Cond t test first second) here e = absurd (cc)

  same_type : (x : Expr-F Expr) →
      node_type (map-Expr Expr IntType type_of (news cell by x))
      ≡ node_type (map-Expr Expr IntType type_of x)
  same_type (Expr-F.Const t n) = refl
  same_type (Expr-F.Read t base len index) = refl
  same_type (Expr-F.Un o t arg) = refl
  same_type (Expr-F.Bin o t left right) = refl
  same_type (Expr-F.Cmp o t left right) = refl
  same_type (Expr-F.Cast t arg) = refl
  same_type (Expr-F.And left right) = refl
  same_type (Expr-F.Or left right) = refl
  same_type (Expr-F.Not arg) = refl
  same_type (Expr-F.Cond t test first second) = refl

  type_at : (x : Expr-F Expr) → IsTyped cells (roll-Expr x) →
      type_of (new cell by (roll-Expr x)) ≡ type_of (roll-Expr x)
  type_at x h =
      let here = (every_rolled (IsTypedHere cells) x h).0 in
      new_cases cell by (λ d. type_of d ≡ type_of (roll-Expr x)) x
      (λ e. scalar_type x here e ∙ sym (type_rolled x)) (λ e. type_rolled (news cell by x)
      ∙ same_type x ∙ sym (type_rolled x))

  new_type : (e : Expr) → IsTyped cells e → type_of (new cell by e) ≡ type_of e
  new_type e h =
      subst (λ d. type_of (new cell by d) ≡ type_of d) (roll-out-Expr e)
      (type_at (out-Expr e) (subst (IsTyped cells) (sym (roll-out-Expr e)) h))

  here_new : (x : Expr-F Expr) → IsTypedHere cells x → OfParts (IsTyped cells) x →
      IsTypedHere cells (news cell by x)
  here_new (Expr-F.Const t n) here q = here
  here_new (Expr-F.Read t base len index) here q = here
  here_new (Expr-F.Un o t arg) here q = (here.0, new_type arg q.0 ∙ here.1)
  here_new (Expr-F.Bin o t left right) here q =
      (here.0, new_type left q.0 ∙ here.1, λ s. new_type right (q.1).0 ∙ here.2 s)
  here_new (Expr-F.Cmp o t left right) here q =
      (new_type left q.0 ∙ here.0, new_type right (q.1).0 ∙ here.1)
  here_new (Expr-F.Cast t arg) here q = tt
  here_new (Expr-F.And left right) here q = tt
  here_new (Expr-F.Or left right) here q = tt
  here_new (Expr-F.Not arg) here q = tt
  here_new (Expr-F.Cond t test first second) here q =
      (new_type first (q.1).0 ∙ here.0, new_type second ((q.1).1).0 ∙ here.1)

  abbrev StaysTyped : Expr → Type 0
  StaysTyped e = IsTyped cells e → IsTyped cells (new cell by e)

  parts_new : (x : Expr-F Expr) → OfParts StaysTyped x → OfParts (IsTyped cells) x →
      OfParts (IsTyped cells) (news cell by x)
  parts_new (Expr-F.Const t n) h q = tt
  parts_new (Expr-F.Read t base len index) h q = (h.0 q.0, tt)
  parts_new (Expr-F.Un o t arg) h q = (h.0 q.0, tt)
  parts_new (Expr-F.Bin o t left right) h q = (h.0 q.0, ((h.1).0 (q.1).0, tt))
  parts_new (Expr-F.Cmp o t left right) h q = (h.0 q.0, ((h.1).0 (q.1).0, tt))
  parts_new (Expr-F.Cast t arg) h q = (h.0 q.0, tt)
  parts_new (Expr-F.And left right) h q = (h.0 q.0, ((h.1).0 (q.1).0, tt))
  parts_new (Expr-F.Or left right) h q = (h.0 q.0, ((h.1).0 (q.1).0, tt))
  parts_new (Expr-F.Not arg) h q = (h.0 q.0, tt)
  parts_new (Expr-F.Cond t test first second) h q =
      (h.0 q.0, ((h.1).0 (q.1).0, (((h.1).1).0 ((q.1).1).0, tt)))

  typed_at : IsTyped cells by → (x : Expr-F Expr) → OfParts StaysTyped x → StaysTyped (roll-Expr x)
  typed_at typed x h r =
      let q = every_rolled (IsTypedHere cells) x r in
      new_cases cell by (IsTyped cells) x (λ e. typed) (λ e.
      every_of_parts (IsTypedHere cells) (news cell by x) (here_new x q.0 q.1)
      (parts_new x h q.1))

pub replaced_type : (cells : List IntType) (e : Expr) (cell : ℕ) (by : Expr) → IsTyped cells e →
    slice_get cells cell ≡ Some (type_of by) → type_of (replaced e cell by) ≡ type_of e
replaced_type cells e cell by h is = new_type cells cell by is e h

pub replaced_typed : (cells : List IntType) (e : Expr) (cell : ℕ) (by : Expr) → IsTyped cells e →
    IsTyped cells by → slice_get cells cell ≡ Some (type_of by) → IsTyped cells (replaced e cell by)
replaced_typed cells e cell by h typed is =
    by_parts (StaysTyped cells cell by is) (typed_at cells cell by is typed) e h

-- ---- the height

module _ (cell : ℕ) (by : Expr) where
  abbrev IsBounded : Expr → Type 0
  IsBounded e = height (new cell by e) ≤ height e + height by

  layer_bound : (x : Expr-F Expr) → OfParts IsBounded x →
      height_step (map-Expr Expr ℕ height (news cell by x)) ≤ height_step
      (map-Expr Expr ℕ height x) + height by
  layer_bound (Expr-F.Const t n) h = omega arith
  layer_bound (Expr-F.Read t base len index) h = let a = h.0 in omega arith
  layer_bound (Expr-F.Un o t arg) h = let a = h.0 in omega arith
  layer_bound (Expr-F.Bin o t left right) h = let a = h.0 in let b = (h.1).0 in omega arith
  layer_bound (Expr-F.Cmp o t left right) h = let a = h.0 in let b = (h.1).0 in omega arith
  layer_bound (Expr-F.Cast t arg) h = let a = h.0 in omega arith
  layer_bound (Expr-F.And left right) h = let a = h.0 in let b = (h.1).0 in omega arith
  layer_bound (Expr-F.Or left right) h = let a = h.0 in let b = (h.1).0 in omega arith
  layer_bound (Expr-F.Not arg) h = let a = h.0 in omega arith
  layer_bound (Expr-F.Cond t test first second) h =
      let a = h.0 in let b = (h.1).0 in let d = ((h.1).1).0 in omega arith

  bounded_at : (x : Expr-F Expr) → OfParts IsBounded x → IsBounded (roll-Expr x)
  bounded_at x h =
      let whole = height_rolled x in
      let layer = layer_bound x h in
      new_cases cell by (λ d. height d ≤ height (roll-Expr x) + height by) x (λ e. omega arith)
      (λ e. let parts = height_rolled (news cell by x) in omega arith)

pub replaced_height : (e : Expr) (cell : ℕ) (by : Expr) →
    height (replaced e cell by) ≤ height e + height by
replaced_height e cell by = by_parts (IsBounded cell by) (bounded_at cell by) e
