-- A program whose tables are right is well formed (`fitted`).
use Rattle.std.proofs.Common.{◌≡◌, ℕ, ◌+◌, List, [], ◌∷◌, Some}
use Rattle.std.specs.List.{AllByRecursion, slice_get}
use Rattle.cpa_model.specs.declared.program.Program.{Program}
use Rattle.cpa_model.specs.Programs.{IsNumbered, IsWellFormed, Tiles, parts_of}
use Rattle.cpa_model.specs.TreeLaws.{TreeLaws}
use Rattle.cases_programs.specs.Samples.{Each, IsGood, Tables, TablesSuffice}
use Rattle.cases_programs.specs.declared.table.Table.{Table}
use Rattle.cases_programs.specs.Fits.{entry_of, FitsStmt, FitsTable}

-- what holds of each item, in parts
each_weaker : {X : Type 0} (P Q : ℕ → X → Type 0) → ((n : ℕ) (x : X) → P n x → Q n x) → (i : ℕ)
    (xs : List X) → Each P i xs → Each Q i xs
each_weaker P Q f i [] each = tt
each_weaker P Q f i (x ∷ xs) each = (f i x each.0, each_weaker P Q f (i + 1) xs each.1)

tables : (t : Table) → FitsTable t
    → Tables t.program t.ends (entry_of t.owners) (entry_of t.levels)
tables t fits = record {
  each = fits.each;
  trees = fits.trees;
  parts = each_weaker (FitsStmt t)
      (λ n s. (end : ℕ) × (slice_get t.ends n ≡ Some end) × Tiles t.ends (n + 1) (parts_of s) end)
      (λ n s f. f.parts) 0 t.program.stmts fits.stmts;
  bodies = fits.bodies;
  owns = each_weaker (FitsStmt t)
      (λ n s. AllByRecursion (λ c. entry_of t.owners c ≡ entry_of t.owners n) (parts_of s))
      (λ n s f. f.owns) 0 t.program.stmts fits.stmts;
  good = each_weaker (FitsStmt t) (IsGood t.program (entry_of t.owners) (entry_of t.levels))
      (λ n s f. f.good) 0 t.program.stmts fits.stmts;
}

pub fitted : (t : Table) → FitsTable t → ((P : Program) → IsNumbered P → TreeLaws P)
    → TablesSuffice → IsWellFormed t.program
fitted t fits trees suffice =
    suffice t.program t.ends (entry_of t.owners) (entry_of t.levels) (tables t fits)
    (trees t.program) fits.starts fits.few_cells fits.few_points fits.main
