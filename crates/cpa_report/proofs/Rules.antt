-- What a text breaks in which no report with low expressions was found, and that the report of a
-- text is found.
use Rattle.std.proofs.Common.{◌≡◌, ℕ, List, ◌++◌, Option, Some, None, refl}
use Rattle.std.proofs.Common.{sym, ap, ◌∙◌, subst}
use Rattle.std.specs.Prelude.{IsUtf8, IfSome}
use Rattle.serde_json.specs.Written.{compact_text}
use Rattle.cpa_expr_text.specs.Laws.{TextIsOfOne}
use Rattle.cpa_ints.specs.declared.data_model.DataModel.{DataModel}
use Rattle.cpa_model.specs.declared.automaton.Cfa.{Cfa}
use Rattle.cpa_report.specs.Faults.{IsLined, IsTold, Breaks}
use Rattle.cpa_report.specs.Heights.{IsLineOf, IsLineLike, HasNoLow}
use Rattle.cpa_report.specs.Ranges.{Counts}
use Rattle.cpa_report.specs.declared.fault.ReportRule.TheVariants as rule
use Rattle.cpa_report.proofs.Lowness.{low_inside, low_too}
use Rattle.cpa_report.proofs.Plainness.{line_of_told}
use Rattle.cpa_report.proofs.Shown.{line_utf8, line_is_one}
use Rattle.cpa_report_json.specs.Fits.{IsLow, ReportFitsBy}
use Rattle.cpa_report_print.specs.Reports.{report_data, verdict_of, verdict_words, with_feed}
use Rattle.cpa_report_print.specs.Steps.{told}
use Rattle.cpa_report_print.specs.declared.report.Report.{Report}
use Rattle.cpa_report_print.specs.declared.report.Verdict.{Verdict}

abbrev text_with : Verdict → List ℕ → List ℕ
text_with verdict line = with_feed (verdict_words verdict) ++ with_feed line

-- ---- a text and its line

told_of_line : (text line : List ℕ) (verdict : Verdict) (r : Report) → IsLined text verdict line
    → IsLineOf line verdict r → IsTold text verdict r
told_of_line text line verdict r lined of = record {
  fit = of.fit;
  kind = of.kind;
  spelled = lined.spelled ∙ ap (λ v. text_with v line) (sym of.kind)
      ∙ ap (λ l. text_with (verdict_of r.body) l) of.spelled;
}

pub line_of : (text line : List ℕ) (verdict : Verdict) (r : Report) → IsLined text verdict line
    → IsTold text verdict r → IsLineOf line verdict r
line_of text line verdict r lined told = record {
  fit = told.fit;
  kind = told.kind;
  spelled = line_of_told text line verdict r lined.spelled told;
}

-- the text of a report is two lines
pub lined_of : (text : List ℕ) (verdict : Verdict) (r : Report) → IsTold text verdict r
    → IsLined text verdict (compact_text (report_data r))
lined_of text verdict r told = record {
  spelled = told.spelled ∙ ap (λ v. text_with v (compact_text (report_data r))) told.kind;
  one = line_is_one r told.fit;
}

pub utf8_of : (text line : List ℕ) (verdict : Verdict) (r : Report) → IsLined text verdict line
    → IsTold text verdict r → IsUtf8 line
utf8_of text line verdict r lined told =
    subst IsUtf8 (sym (line_of_told text line verdict r lined.spelled told)) (line_utf8 r told.fit)

-- ---- expressions that are too high

pub breaks_counts : (m : DataModel) (text line : List ℕ) (cfa : Cfa) (take : Verdict)
    (low : Report) → IsLined text take line → IsLineLike line take low → (Counts m cfa low → ⊥)
    → Breaks m text cfa take rule.P5
breaks_counts m text line cfa take low lined like differ = (
  told low.text low.points low.cells low.edges low.model like.body,
  told_of_line text line take _ lined like.is,
  λ counts. differ (record {
    text = counts.text;
    points = counts.points;
    cells = counts.cells;
    edges = counts.edges;
    model = counts.model;
  }),
)

pub breaks_range : (m : DataModel) (text line : List ℕ) (cfa : Cfa) (take : Verdict)
    (low : Report) → IsLined text take line → HasNoLow text take line → IsUtf8 line
    → IsLineLike line take low → Counts m cfa low → Breaks m text cfa take rule.P4
breaks_range m text line cfa take low lined none utf8 like counts =
    let high : Report = told low.text low.points low.cells low.edges low.model like.body in
    let is = told_of_line text line take high lined like.is in (
      high,
      is,
      record {
        text = counts.text;
        points = counts.points;
        cells = counts.cells;
        edges = counts.edges;
        model = counts.model;
      },
      λ inside. none utf8 high is (low_inside cfa high is.fit inside),
    )

-- no report has a text in which none with low expressions was found, here and with others in place
pub no_report : (o : Option Report) (text line : List ℕ) (take : Verdict)
    → ((s : Report) → o ≡ Some s → ⊥)
    → ((r : Report) → IsUtf8 line → IsLineOf line take r → o ≡ None → ⊥)
    → IsLined text take line → IsUtf8 line → (r : Report) → IsTold text take r → ⊥
no_report None text line take some every lined utf8 r is =
    every r utf8 (line_of text line take r lined is) refl
no_report (Some s) text line take some every lined utf8 r is = some s refl

-- the report that was found is the one
pub one_found : TextIsOfOne → (o : Option Report) (text line : List ℕ) (take : Verdict)
    (found : Report) → o ≡ Some found → IfSome o (IsTold text take)
    → IfSome o (ReportFitsBy IsLow)
    → (IsUtf8 line → (r : Report) → IsTold text take r → ReportFitsBy IsLow r → o ≡ Some r)
    → IsLined text take line → (s : Report) → IsTold text take s → s ≡ found
one_found law None text line take found is told low every lined s other = absurd (cc)
one_found law (Some r) text line take found is told low every lined s other =
    let same : Some r ≡ Some s =
    every (utf8_of text line take s lined other) s other
    (low_too law text take r s told low other) in
    cc
