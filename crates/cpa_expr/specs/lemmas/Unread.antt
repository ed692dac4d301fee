-- An expression that does not read the cell stays as it is.
use Rattle.std.proofs.Common.{◌≡◌, ℕ, Bool, true, false, ◌||◌, refl, sym, ap, ◌∙◌, arith}
use Rattle.std.proofs.lemmas.Bool.Decides.{nat_tests}
use Rattle.cpa_expr.specs.declared.tree.Expr.{Expr, roll-Expr}
use Rattle.cpa_expr.specs.declared.tree.Expr.TheOpen.{Expr-F}
use Rattle.cpa_expr.specs.declared.tree.Expr.TheFolds.{map-Expr}
use Rattle.cpa_expr.specs.Shape.{OfParts}
use Rattle.cpa_expr.specs.Cells.{is_within, reads_step, may_read, is_scalar_read, replaced}
use Rattle.cpa_expr.specs.lemmas.Parts.{by_parts}
use Rattle.cpa_expr.specs.lemmas.Layers.{reads_rolled}
use Rattle.cpa_expr.specs.lemmas.Substitution.{new, news, new_cases, scalar_parts}

neither : (a b : Bool) → (a || b) ≡ false → (a ≡ false) × (b ≡ false)
neither true b h = absurd (cc)
neither false b h = (refl, h)

alone : (b : Bool) → (b || false) ≡ false → b ≡ false
alone b h = (neither b false h).0

module _ (cell : ℕ) (by : Expr) where
  abbrev Stays : Expr → Type 0
  Stays e = may_read e cell ≡ false → new cell by e ≡ e

  abbrev reads : Expr-F Expr → Bool
  reads x = reads_step cell (map-Expr Expr Bool (λ e. may_read e cell) x)

  layer_stays : (x : Expr-F Expr) → OfParts Stays x → reads x ≡ false → news cell by x ≡ x
  layer_stays (Expr-F.Const t n) h r = refl
  layer_stays (Expr-F.Read t base len index) h r =
      ap (λ z. Expr-F.Read t base len z) (h.0 (alone (may_read index cell)
      ((neither (is_within base len cell) (may_read index cell || false) r).1)))
  layer_stays (Expr-F.Un o t arg) h r =
      ap (λ z. Expr-F.Un o t z) (h.0 (alone (may_read arg cell) r))
  layer_stays (Expr-F.Bin o t left right) h r =
      let s = neither (may_read left cell) (may_read right cell || false) r in
      ap (λ z. Expr-F.Bin o t z (new cell by right)) (h.0 s.0)
      ∙ ap (λ z. Expr-F.Bin o t left z) ((h.1).0 (alone (may_read right cell) s.1))
  layer_stays (Expr-F.Cmp o t left right) h r =
      let s = neither (may_read left cell) (may_read right cell || false) r in
      ap (λ z. Expr-F.Cmp o t z (new cell by right)) (h.0 s.0)
      ∙ ap (λ z. Expr-F.Cmp o t left z) ((h.1).0 (alone (may_read right cell) s.1))
  layer_stays (Expr-F.Cast t arg) h r =
      ap (λ z. Expr-F.Cast t z) (h.0 (alone (may_read arg cell) r))
  layer_stays (Expr-F.And left right) h r =
      let s = neither (may_read left cell) (may_read right cell || false) r in
      ap (λ z. Expr-F.And z (new cell by right)) (h.0 s.0)
      ∙ ap (λ z. Expr-F.And left z) ((h.1).0 (alone (may_read right cell) s.1))
  layer_stays (Expr-F.Or left right) h r =
      let s = neither (may_read left cell) (may_read right cell || false) r in
      ap (λ z. Expr-F.Or z (new cell by right)) (h.0 s.0)
      ∙ ap (λ z. Expr-F.Or left z) ((h.1).0 (alone (may_read right cell) s.1))
  layer_stays (Expr-F.Not arg) h r = ap (λ z. Expr-F.Not z) (h.0 (alone (may_read arg cell) r))
  layer_stays (Expr-F.Cond t test first second) h r =
      let s = neither (may_read test cell) (may_read first cell || (may_read second cell || false))
      r in
      let u = neither (may_read first cell) (may_read second cell || false) s.1 in
      ap (λ z. Expr-F.Cond t z (new cell by first) (new cell by second)) (h.0 s.0)
      ∙ ap (λ z. Expr-F.Cond t test z (new cell by second)) ((h.1).0 u.0)
      ∙ ap (λ z. Expr-F.Cond t test first z) (((h.1).1).0 (alone (may_read second cell) u.1))

  -- a scalar read of the cell reads it
  scalar_reads : (x : Expr-F Expr) → is_scalar_read cell x ≡ true → reads x ≡ false → ⊥
  scalar_reads (Expr-F.Read t base len index) e r =
      let parts = scalar_parts cell t base len index e in
      let a = parts.at_cell in
      let b = parts.alone in
      let out = (neither (is_within base len cell) (may_read index cell || false) r).0 in
      let within : is_within base len cell ≡ true = grind (arith, nat_tests) in
      cc
  scalar_reads (Expr-F.Const t n) e r = absurd (cc)
  scalar_reads (Expr-F.Un o t arg) e r = absurd (cc)
  scalar_reads (Expr-F.Bin o t left right) e r = absurd (cc)
  scalar_reads (Expr-F.Cmp o t left right) e r = absurd (cc)
  scalar_reads (Expr-F.Cast t arg) e r = absurd (cc)
  scalar_reads (Expr-F.And left right) e r = absurd (cc)
  scalar_reads (Expr-F.Or left right) e r = absurd (cc)
  scalar_reads (Expr-F.Not arg) e r = absurd (cc)
  scalar_reads (Expr-F.Cond t test first second) e r = absurd (cc)

  stays_at : (x : Expr-F Expr) → OfParts Stays x → Stays (roll-Expr x)
  stays_at x h r =
      let s = sym (reads_rolled cell x) ∙ r in
      new_cases cell by (λ d. d ≡ roll-Expr x) x (λ e. absurd (scalar_reads x e s)) (λ e.
      ap roll-Expr (layer_stays x h s))

pub replaced_unread : (e : Expr) (cell : ℕ) (by : Expr) → may_read e cell ≡ false →
    replaced e cell by ≡ e
replaced_unread e cell by = by_parts (Stays cell by) (stays_at cell by) e
