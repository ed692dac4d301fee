-- Which reports speak of a program: their counts are its own and they tell its data model, and what
-- they name is there (this project's own).
use Rattle.std.specs.Prelude.{◌≡◌, ⊤, length}
use Rattle.std.specs.List.{AllByRecursion}
use Rattle.cpa_iface.specs.Meanings.{AreShaped, IsPathOf, IsPrecision}
use Rattle.cpa_iface.specs.declared.entries.Refined.{Refined}
use Rattle.cpa_ints.specs.declared.data_model.DataModel.{DataModel}
use Rattle.cpa_model.specs.declared.automaton.Cfa.{Cfa}
use Rattle.cpa_report_print.specs.declared.report.Body.{Body}
use Rattle.cpa_report_print.specs.declared.report.Body.TheVariants as body
use Rattle.cpa_report_print.specs.declared.report.Listed.{Listed}
use Rattle.cpa_report_print.specs.declared.report.Report.{Report}

-- the four counts are the program's, and the data model is the one in which it was read
pub record Counts (m : DataModel) (cfa : Cfa) (r : Report) : Type 0 where
  pub text : r.text ≡ cfa.text_len
  pub points : r.points ≡ cfa.points
  pub cells : r.cells ≡ length cfa.cells
  pub edges : r.edges ≡ length cfa.edges
  pub model : r.model ≡ m

-- what an entry, a refinement and a body name is there
abbrev pub IsListedIn : Cfa → Listed → Type 0
IsListedIn cfa entry = AreShaped cfa entry.elems

abbrev pub IsRefinedIn : Cfa → Refined → Type 0
IsRefinedIn cfa refined =
    IsPathOf cfa refined.path × AllByRecursion (IsPrecision cfa) refined.precisions

abbrev pub IsBodyIn : Cfa → Body → Type 0
IsBodyIn cfa (body.True entries) = AllByRecursion (IsListedIn cfa) entries
IsBodyIn cfa (body.False inputs steps) = ⊤
IsBodyIn cfa (body.Turns journal) = ⊤
IsBodyIn cfa (body.Rounds path history) =
    IsPathOf cfa path × AllByRecursion (IsRefinedIn cfa) history
IsBodyIn cfa (body.Learnt path lines) = IsPathOf cfa path
IsBodyIn cfa (body.Gates path weight) = IsPathOf cfa path
IsBodyIn cfa (body.NoNew path precisions) =
    IsPathOf cfa path × AllByRecursion (IsPrecision cfa) precisions
IsBodyIn cfa (body.Proof entries logs) = AllByRecursion (IsListedIn cfa) entries
