-- What a text is as a report of a program in a data model, and which rule it breaks (this project's
-- own). The rules are tried in the order P1, P6, P2, P3, P5, P4. Expressions of a report may have
-- any height: one of more than MAX_HEIGHT levels is none of the program's.
use Rattle.std.specs.Prelude.{◌≡◌, ℕ, ◌==◌, false, List, ◌++◌, Some, IsUtf8, ⊤}
use Rattle.std.specs.List.{list_any}
use Rattle.serde_json.specs.Data.{Data}
use Rattle.serde_json.specs.Read.{read}
use Rattle.cpa_ints.specs.declared.data_model.DataModel.{DataModel}
use Rattle.cpa_model.specs.declared.automaton.Cfa.{Cfa}
use Rattle.cpa_report_json.specs.Fits.{IsLow, ReportFits, ReportFitsBy}
use Rattle.cpa_report_print.specs.Reports.{report_text, verdict_of, verdict_words, with_feed}
use Rattle.cpa_report_print.specs.declared.report.Report.{Report}
use Rattle.cpa_report_print.specs.declared.report.Verdict.{Verdict}
use Rattle.cpa_report.specs.Ranges.{Counts, IsBodyIn}
use Rattle.cpa_report.specs.declared.fault.ReportError.{ReportError}
use Rattle.cpa_report.specs.declared.fault.ReportError.TheVariants as error
use Rattle.cpa_report.specs.declared.fault.ReportRule.{ReportRule}
use Rattle.cpa_report.specs.declared.fault.ReportRule.TheVariants.{P1, P2, P3, P4, P5, P6}

-- the text is the line of the verdict and one line more
pub record IsLined (text : List ℕ) (verdict : Verdict) (line : List ℕ) : Type 0 where
  pub spelled : text ≡ with_feed (verdict_words verdict) ++ with_feed line
  pub one : list_any (λ b. b == 10) line ≡ false

-- the line is JSON that serde_json reads
pub record IsJson (line : List ℕ) : Type 0 where
  pub utf8 : IsUtf8 line
  pub value : Data
  pub read : read line ≡ Some value

-- the text is that of the report, whose numbers fit their fields, and which is of the verdict
pub record IsTold (text : List ℕ) (verdict : Verdict) (r : Report) : Type 0 where
  pub fit : ReportFits r
  pub kind : verdict_of r.body ≡ verdict
  pub spelled : text ≡ report_text r

-- and it speaks of the program, with no expression of more than MAX_HEIGHT levels
pub record IsFound (m : DataModel) (text : List ℕ) (cfa : Cfa) (verdict : Verdict) (r : Report)
    : Type 0 where
  pub told : IsTold text verdict r
  pub low : ReportFitsBy IsLow r
  pub counts : Counts m cfa r
  pub inside : IsBodyIn cfa r.body

abbrev pub Breaks : DataModel → List ℕ → Cfa → Verdict → ReportRule → Type 0
-- it has not the form of two lines
Breaks m text cfa take P1 = (verdict : Verdict) (line : List ℕ) → IsLined text verdict line → ⊥
-- its verdict is another
Breaks m text cfa take P6 =
    (verdict : Verdict) × (line : List ℕ) × IsLined text verdict line × (verdict ≡ take → ⊥)
-- its second line is no JSON
Breaks m text cfa take P2 = (line : List ℕ) × IsLined text take line × (IsJson line → ⊥)
-- it is the text of no report
Breaks m text cfa take P3 =
    (line : List ℕ) × IsLined text take line × IsJson line
    × ((r : Report) → IsTold text take r → ⊥)
-- it is that of a report with other counts or another data model than the program's
Breaks m text cfa take P5 = (r : Report) × IsTold text take r × (Counts m cfa r → ⊥)
-- it is that of a report which names what the program lacks, or an expression that is too high
Breaks m text cfa take P4 =
    (r : Report) × IsTold text take r × Counts m cfa r × (IsBodyIn cfa r.body → ⊥)

-- want of memory says nothing
abbrev pub IsRefused : DataModel → List ℕ → Cfa → Verdict → ReportError → Type 0
IsRefused m text cfa take (error.Fault rule) = Breaks m text cfa take rule
IsRefused m text cfa take error.OutOfMemory = ⊤
