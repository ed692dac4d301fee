-- An expression over some cells means the same where cells are added behind them.
use Rattle.std.proofs.Common.{◌≡◌, ℕ, zero, suc, ◌+◌, ◌-◌, ◌<◌, ◌≤◌, nat_le, nat_lt, ℤ}
use Rattle.std.proofs.Common.{IsTrue, List, [], ◌∷◌, ◌++◌, map, length, slice_get}
use Rattle.std.proofs.Common.{refl, sym, ◌∙◌, subst, arith}
use Rattle.std.specs.List.{AllByRecursion, list_any}
use Rattle.std.proofs.lemmas.Bool.{and_parts}
use Rattle.std.proofs.lemmas.Bool.Decides.{nat_tests}
use Rattle.std.proofs.lemmas.Option.{slice_get_within}
use Rattle.cpa_ints.specs.declared.integers.IntType.{IntType}
use Rattle.cpa_expr.specs.declared.tree.Expr.{Expr}
use Rattle.cpa_expr.specs.declared.tree.Expr.TheOpen.{Expr-F}
use Rattle.cpa_expr.specs.Shape.{parts, IsTypedHere, IsTyped}
use Rattle.cpa_expr.specs.Values.{value_of}
use Rattle.cpa_expr.specs.Cells.{reads_here, may_read}
use Rattle.cpa_expr.specs.lemmas.Parts.{by_parts, every_rolled, every_of_parts}
use Rattle.cpa_expr.specs.lemmas.CellsRead.{value_agrees}
use Rattle.cpa_form_renaming.specs.lemmas.Nodes.{applied, reads_of, or_cases}

-- the items of a list, where others are added behind it
pub get_front : {A : Type 0} (xs ys : List A) (i : ℕ) → i < length xs
    → slice_get (xs ++ ys) i ≡ slice_get xs i
get_front [] ys i h = absurd (omega (arith, h))
get_front (x ∷ xs) ys zero h = refl
get_front (x ∷ xs) ys (suc i) h = get_front xs ys i (omega (arith, h))

module _ (cells : List IntType) where
  -- a well-typed expression reads cells that are there
  abbrev Inside : ℕ → Expr → Type 0
  Inside n e = IsTyped cells e → IsTrue (may_read e n) → n < length cells

  here_inside : (n : ℕ) (x : Expr-F Expr) → IsTypedHere cells x → IsTrue (reads_here n x)
      → n < length cells
  here_inside n (Expr-F.Read t base len index) here h =
      let both = and_parts (nat_le base n) (nat_lt n (base + len)) h in
      let above : base ≤ n = grind (arith, nat_tests, both.0) in
      let below : n < base + len = grind (arith, nat_tests, both.1) in
      let i = n - base in
      let within : i < len = omega (arith, above, below) in
      let last = slice_get_within cells (base + i) t (here.1 i within) in
      omega (arith, above, last)
  here_inside n (Expr-F.Const t m) here h = absurd (cc)
  here_inside n (Expr-F.Un o t arg) here h = absurd (cc)
  here_inside n (Expr-F.Bin o t left right) here h = absurd (cc)
  here_inside n (Expr-F.Cmp o t left right) here h = absurd (cc)
  here_inside n (Expr-F.Cast t arg) here h = absurd (cc)
  here_inside n (Expr-F.And left right) here h = absurd (cc)
  here_inside n (Expr-F.Or left right) here h = absurd (cc)
  here_inside n (Expr-F.Not arg) here h = absurd (cc)
  here_inside n (Expr-F.Cond t test first second) here h = absurd (cc)

  some_inside : (n : ℕ) (es : List Expr)
      → AllByRecursion (λ e. IsTrue (may_read e n) → n < length cells) es
      → IsTrue (list_any (λ b. b) (map (λ e. may_read e n) es)) → n < length cells
  some_inside n [] h k = absurd (cc)
  some_inside n (e ∷ es) h k =
      or_cases (may_read e n) (list_any (λ b. b) (map (λ e. may_read e n) es)) k h.0
      (some_inside n es h.1)

  pub inside : (n : ℕ) (e : Expr) → IsTyped cells e → IsTrue (may_read e n) → n < length cells
  inside n = by_parts (Inside n) (λ x h typed read.
      let whole = every_rolled (IsTypedHere cells) x typed in
      or_cases (reads_here n x) (list_any (λ b. b) (map (λ e. may_read e n) (parts x)))
      (sym (reads_of n x (parts x) refl) ∙ read) (here_inside n x whole.0)
      (some_inside n (parts x)
      (applied (IsTyped cells) (λ e. IsTrue (may_read e n) → n < length cells) (parts x) h
      whole.1)))

  module _ (more : List IntType) where
    here_more : (x : Expr-F Expr) → IsTypedHere cells x → IsTypedHere (cells ++ more) x
    here_more (Expr-F.Read t base len index) here = (
      here.0,
      λ i below. get_front cells more (base + i)
          (slice_get_within cells (base + i) t (here.1 i below)) ∙ here.1 i below,
    )
    here_more (Expr-F.Const t n) here = here
    here_more (Expr-F.Un o t arg) here = here
    here_more (Expr-F.Bin o t left right) here = here
    here_more (Expr-F.Cmp o t left right) here = here
    here_more (Expr-F.Cast t arg) here = here
    here_more (Expr-F.And left right) here = here
    here_more (Expr-F.Or left right) here = here
    here_more (Expr-F.Not arg) here = here
    here_more (Expr-F.Cond t test first second) here = here

    pub typed_more : (e : Expr) → IsTyped cells e → IsTyped (cells ++ more) e
    typed_more = by_parts (λ e. IsTyped cells e → IsTyped (cells ++ more) e) (λ x h typed.
        let whole = every_rolled (IsTypedHere cells) x typed in
        every_of_parts (IsTypedHere (cells ++ more)) x (here_more x whole.0)
        (applied (IsTyped cells) (IsTyped (cells ++ more)) (parts x) h whole.1))

  pub value_more : (e : Expr) (values more : List ℤ) → IsTyped cells e
      → length values ≡ length cells → value_of e (values ++ more) ≡ value_of e values
  value_more e values more typed long =
      value_agrees e (values ++ more) values (λ cell read.
      get_front values more cell (subst (λ n. cell < n) (sym long) (inside cell e typed read)))
