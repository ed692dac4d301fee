-- What comes of the text of a TRUE report of a program whose entries are checked again (this
-- project's own).
use Rattle.std.specs.Prelude.{◌≡◌, ℕ, List, ⊤}
use Rattle.cpa_iface.specs.declared.analysis.Settings.{Settings}
use Rattle.cpa_ints.specs.declared.data_model.DataModel.{DataModel}
use Rattle.cpa_model.specs.declared.automaton.Cfa.{Cfa}
use Rattle.cpa_model.specs.declared.program.Program.{Program}
use Rattle.cpa_model.specs.Automata.{IsAutomatonOf}
use Rattle.cpa_recheck.specs.declared.checking.Budget.{Budget}
use Rattle.cpa_recheck.specs.declared.checking.Why.{Why}
use Rattle.cpa_recheck.specs.declared.checking.Why.TheVariants as why
use Rattle.cpa_recheck.specs.declared.rechecking.Confirmation.{Confirmation}
use Rattle.cpa_recheck.specs.declared.rechecking.Confirmation.TheVariants as checked
use Rattle.cpa_recheck.specs.Checks.{IsConfirming, entries_in}
use Rattle.cpa_report.specs.Faults.{Breaks, IsFound, IsTold}
use Rattle.cpa_report.specs.declared.fault.ReportError.{ReportError}
use Rattle.cpa_report.specs.declared.fault.ReportError.TheVariants as error
use Rattle.cpa_report.specs.declared.fault.ReportRule.{ReportRule}
use Rattle.cpa_report_print.specs.declared.report.Report.{Report}
use Rattle.cpa_report_print.specs.declared.report.Verdict.TheVariants as verdict
use Rattle.cpa_top_recheck.specs.declared.finding.Finding.{Finding}
use Rattle.cpa_top_recheck.specs.declared.finding.Finding.TheVariants as finding
use Rattle.cpa_top_recheck.specs.declared.finding.Rechecked.{Rechecked}
use Rattle.cpa_top_recheck.specs.Lines.{checked_text}

-- ---- the text

-- the text is that of a TRUE report which speaks of the program as it was read in the data model
pub record HasReport (m : DataModel) (P : Program) (text : List ℕ) : Type 0 where
  pub automaton : Cfa
  pub is : IsAutomatonOf P automaton
  pub report : Report
  pub found : IsFound m text automaton verdict.True report

-- the text breaks the rule as that of a TRUE report of the program, and none that is tried before
pub record BreaksFor (m : DataModel) (P : Program) (text : List ℕ) (rule : ReportRule) : Type 0
  where
    pub automaton : Cfa
    pub is : IsAutomatonOf P automaton
    pub breaks : Breaks m text automaton verdict.True rule

-- want of memory says nothing
abbrev pub IsReportRefused : DataModel → Program → List ℕ → ReportError → Type 0
IsReportRefused m P text (error.Fault rule) = BreaksFor m P text rule
IsReportRefused m P text error.OutOfMemory = ⊤

-- ---- the entries

-- where an obligation is not shown to hold
abbrev pub finding_at : Why → Finding
finding_at (why.Refused state next) = finding.Refused
finding_at (why.Learnt lines) = finding.Open
finding_at (why.Gates weight) = finding.Open

-- which of the three a check comes to
abbrev pub finding_of : Confirmation → Finding
finding_of (checked.Confirmed count) = finding.Confirmed
finding_of (checked.Stopped number reason) = finding_at reason

-- what may be spent on an obligation, by one thread
abbrev pub budget_of : Settings → Budget
budget_of settings =
    record { learnt = settings.learnt; gates = settings.gates; workers = 1 }

-- The text is that of one TRUE report, which speaks of the program, and what is told is what comes
-- of a check of its entries.
pub record IsRechecked (m : DataModel) (P : Program) (settings : Settings) (text : List ℕ)
    (told : Rechecked) : Type 0 where
  pub automaton : Cfa
  pub is : IsAutomatonOf P automaton
  pub report : Report
  pub found : IsFound m text automaton verdict.True report
  pub one : (other : Report) → IsTold text verdict.True other → other ≡ report
  pub checked : Confirmation
  pub says : IsConfirming automaton (entries_in report.body) (budget_of settings) checked
  pub finding : told.finding ≡ finding_of checked
  pub text_is : told.text.items ≡ checked_text checked
