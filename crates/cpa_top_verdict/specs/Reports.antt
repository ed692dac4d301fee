-- What the reports of TRUE and of FALSE show of a program, and which analyses a configuration names
-- (this project's own).
use Rattle.std.specs.Prelude.{◌≡◌, ℕ, ℤ, List, length, map}
use Rattle.std.specs.List.{AllByRecursion}
use Rattle.cpa_ints.specs.declared.data_model.DataModel.{DataModel}
use Rattle.cpa_model.specs.declared.automaton.Cfa.{Cfa}
use Rattle.cpa_model.specs.declared.program.Program.{Program}
use Rattle.cpa_model.specs.Ascending.{AreAscending}
use Rattle.cpa_model.specs.Automata.{IsAutomatonOf}
use Rattle.cpa_model.specs.Covers.{IsCover, IsSafe}
use Rattle.cpa_iface.specs.Meanings.{AreShaped}
use Rattle.cpa_path.specs.Paths.{ReplaysTo}
use Rattle.cpa_report_print.specs.declared.report.Body.TheVariants as body
use Rattle.cpa_report_print.specs.declared.report.Listed.{Listed}
use Rattle.cpa_report_print.specs.declared.report.Report.{Report}
use Rattle.cpa_report_print.specs.Reports.{report_text}

-- The report has the counts of the program and of its automaton, and tells the data model.
pub record IsReportOn (m : DataModel) (P : Program) (cfa : Cfa) (report : Report) : Type 0 where
  pub text_is : report.text ≡ P.text_len
  pub points_are : report.points ≡ cfa.points
  pub cells_are : report.cells ≡ length P.cells
  pub edges_are : report.edges ≡ length cfa.edges
  pub model_is : report.model ≡ m

-- The report is that of a program that is safe: its verdict is TRUE, and its entries cover the
-- program, so that each reachable state lies in one of them and no execution calls reach_error.
-- Their numbers ascend, and each has so many elements, which are shaped.
pub record IsSafeReport (m : DataModel) (count : ℕ) (P : Program) (report : Report) : Type 0 where
  pub automaton : Cfa
  pub edges : IsAutomatonOf P automaton
  pub counts : IsReportOn m P automaton report
  pub entries : List Listed
  pub body_is : report.body ≡ body.True entries
  pub ascending : AreAscending (map (λ entry. entry.number) entries)
  pub shaped : AllByRecursion (λ entry. AreShaped automaton entry.elems) entries
  pub one_each : AllByRecursion (λ entry. length entry.elems ≡ count) entries
  pub cover : IsCover P (map (λ entry. entry.elems) entries)
  pub safe : IsSafe P (map (λ entry. entry.elems) entries)

-- The report is that of a program that calls reach_error: its verdict is FALSE, and the execution
-- that takes exactly its inputs calls reach_error after so many steps.
pub record IsErrorReport (m : DataModel) (P : Program) (report : Report) : Type 0 where
  pub automaton : Cfa
  pub edges : IsAutomatonOf P automaton
  pub counts : IsReportOn m P automaton report
  pub inputs : List ℤ
  pub steps : ℕ
  pub body_is : report.body ≡ body.False inputs steps
  pub replays : ReplaysTo P inputs steps

-- the text is that of a report of which this holds
abbrev pub IsTextOf : (Report → Type 0) → List ℕ → Type 0
IsTextOf holds text = (report : Report) × (text ≡ report_text report) × holds report
