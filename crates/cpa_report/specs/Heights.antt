-- Steps of the code: a text is read again with the text of a low expression in place of that of any
-- expression, so that its heights count no more (this project's own). Nothing here is promised to a
-- caller.
use Rattle.std.specs.Prelude.{◌≡◌, ℕ, List, [], ◌∷◌, ◌⊎◌, IsUtf8, ⊤, codes}
use Rattle.std.specs.List.{AllByRecursion}
use Rattle.json.specs.Lex.{tokens}
use Rattle.json.specs.Print.{print}
use Rattle.json.specs.Token.{Token}
use Rattle.json.specs.Token as token
use Rattle.serde_json.specs.Written.{compact_text}
use Rattle.cpa_expr_text.specs.Due.{IsExprText}
use Rattle.cpa_report.specs.Faults.{IsTold}
use Rattle.cpa_report_json.specs.Fits.{IsLow, ReportFits, ReportFitsBy}
use Rattle.cpa_report_print.specs.Reports.{report_data, verdict_of}
use Rattle.cpa_report_print.specs.Steps.{told}
use Rattle.cpa_report_print.specs.declared.report.Body.{Body}
use Rattle.cpa_report_print.specs.declared.report.Report.{Report}
use Rattle.cpa_report_print.specs.declared.report.Verdict.{Verdict}

-- the text that takes the place of another one
abbrev pub Lowers : List ℕ → List ℕ → Type 0
Lowers text low =
    (IsExprText text × (low ≡ codes "const i32 0")) ⊎ ((IsExprText text → ⊥) × (low ≡ text))

abbrev pub LowersToken : Token → Token → Type 0
LowersToken (token.string text) t = (low : List ℕ) × (t ≡ token.string low) × Lowers text low
LowersToken t u = u ≡ t

-- one by one, in two lists of tokens
abbrev pub Along : (Token → Token → Type 0) → List Token → List Token → Type 0
Along P [] [] = ⊤
Along P [] (u ∷ us) = ⊥
Along P (t ∷ ts) [] = ⊥
Along P (t ∷ ts) (u ∷ us) = P t u × Along P ts us

-- none of the tokens says that the text is no JSON
abbrev pub AreGood : List Token → Type 0
AreGood = AllByRecursion (λ t. t ≡ token.bad → ⊥)

-- the line is spelled as its tokens are printed, and so is the one with low expressions
pub record IsLowered (line low : List ℕ) : Type 0 where
  pub spelled : line ≡ print (tokens line)
  pub low_spelled : low ≡ print (tokens low)
  pub along : Along LowersToken (tokens line) (tokens low)
  pub utf8 : IsUtf8 low

-- the line is that of the report, which is of the verdict
pub record IsLineOf (line : List ℕ) (verdict : Verdict) (r : Report) : Type 0 where
  pub fit : ReportFits r
  pub kind : verdict_of r.body ≡ verdict
  pub spelled : line ≡ compact_text (report_data r)

-- it is that of a report with the counts and the data model of this one, whose expressions may have
-- any height
pub record IsLineLike (line : List ℕ) (verdict : Verdict) (low : Report) : Type 0 where
  pub body : Body
  pub is : IsLineOf line verdict (told low.text low.points low.cells low.edges low.model body)

-- no report with low expressions has the text
abbrev pub HasNoLow : List ℕ → Verdict → List ℕ → Type 0
HasNoLow text verdict line =
    IsUtf8 line → (r : Report) → IsTold text verdict r → ReportFitsBy IsLow r → ⊥
