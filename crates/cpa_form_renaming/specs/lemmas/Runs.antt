-- An expression is whole where each run of cells that it reads stands one behind the other.
use Rattle.std.proofs.Common.{ℕ, ◌+◌, ◌<◌, Bool}
use Rattle.std.proofs.Common.{IsTrue, List, [], ◌∷◌, map, refl, ◌∙◌, arith}
use Rattle.std.specs.List.{AllByRecursion, list_all, list_any}
use Rattle.std.proofs.lemmas.Bool.Decides.{nat_tests}
use Rattle.cpa_expr.specs.declared.tree.Expr.{Expr}
use Rattle.cpa_expr.specs.declared.tree.Expr.TheOpen.{Expr-F}
use Rattle.cpa_expr.specs.Shape.{parts}
use Rattle.cpa_expr.specs.Cells.{is_within, reads_here, may_read}
use Rattle.cpa_expr.specs.lemmas.Parts.{by_parts}
use Rattle.cpa_expr.specs.lemmas.CellsRead.{or_left, or_right}
use Rattle.cpa_form_renaming.specs.declared.places.Place.{Place}
use Rattle.cpa_form_renaming.specs.Places.{stand_together}
use Rattle.cpa_form_renaming.specs.Renaming.{is_whole_here, is_whole}
use Rattle.cpa_form_renaming.specs.lemmas.Together.{both_true}
use Rattle.cpa_form_renaming.specs.lemmas.Nodes.{reads_of}
use Rattle.cpa_form_renaming.specs.lemmas.Renamed.{whole_rolled}

module _ (places : List Place) where
  -- each run of cells that are read stands one behind the other
  abbrev pub RunsStand : (ℕ → Bool) → Type 0
  RunsStand read =
      (base len : ℕ) → ((i : ℕ) → i < len → IsTrue (read (base + i)))
      → IsTrue (stand_together places base len)

  abbrev Whole : Expr → Type 0
  Whole e = RunsStand (may_read e) → IsTrue (is_whole places e)

  here_whole : (x : Expr-F Expr) → RunsStand (λ cell. reads_here cell x)
      → IsTrue (is_whole_here places x)
  here_whole (Expr-F.Read t base len index) runs =
      runs base len (λ i below. within base len i below)
    where
      within : (base len i : ℕ) → i < len → IsTrue (is_within base len (base + i))
      within base len i below = grind (arith, nat_tests, below)
  here_whole (Expr-F.Const t n) runs = refl
  here_whole (Expr-F.Un o t arg) runs = refl
  here_whole (Expr-F.Bin o t left right) runs = refl
  here_whole (Expr-F.Cmp o t left right) runs = refl
  here_whole (Expr-F.Cast t arg) runs = refl
  here_whole (Expr-F.And left right) runs = refl
  here_whole (Expr-F.Or left right) runs = refl
  here_whole (Expr-F.Not arg) runs = refl
  here_whole (Expr-F.Cond t test first second) runs = refl

  parts_whole : (es : List Expr) → AllByRecursion Whole es
      → RunsStand (λ cell. list_any (λ b. b) (map (λ e. may_read e cell) es))
      → IsTrue (list_all (λ b. b) (map (is_whole places) es))
  parts_whole [] h runs = refl
  parts_whole (e ∷ es) h runs =
      both_true (is_whole places e) (list_all (λ b. b) (map (is_whole places) es))
      (h.0 (λ base len read. runs base len (λ i below. or_left (may_read e (base + i))
      (list_any (λ b. b) (map (λ d. may_read d (base + i)) es)) (read i below))))
      (parts_whole es h.1 (λ base len read. runs base len (λ i below.
      or_right (may_read e (base + i))
      (list_any (λ b. b) (map (λ d. may_read d (base + i)) es)) (read i below))))

  pub whole_by_runs : (e : Expr) → RunsStand (may_read e) → IsTrue (is_whole places e)
  whole_by_runs = by_parts Whole (λ x h runs.
      whole_rolled places x
      ∙ both_true (is_whole_here places x) (list_all (λ b. b) (map (is_whole places) (parts x)))
      (here_whole x (λ base len read. runs base len (λ i below.
      reads_of (base + i) x (parts x) refl
      ∙ or_left (reads_here (base + i) x)
      (list_any (λ b. b) (map (λ e. may_read e (base + i)) (parts x))) (read i below))))
      (parts_whole (parts x) h (λ base len read. runs base len (λ i below.
      reads_of (base + i) x (parts x) refl
      ∙ or_right (reads_here (base + i) x)
      (list_any (λ b. b) (map (λ e. may_read e (base + i)) (parts x))) (read i below)))))
