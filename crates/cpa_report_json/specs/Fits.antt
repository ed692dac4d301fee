-- Which reports have a text that is read back: each number is one of its field's type, and one that
-- serde_json keeps whole; clauses are sorted, the numbers of entries ascend. What is asked of
-- expressions is a parameter (this project's own).
use Rattle.std.specs.Prelude.{ℕ, ◌^◌, ◌<◌, ◌≤◌, ℤ, pos, negsuc, List, map}
use Rattle.std.specs.List.{AllByRecursion}
use Rattle.cpa_cnf.specs.Clauses.{IsClause}
use Rattle.cpa_cnf.specs.declared.formula.Line.{Line}
use Rattle.cpa_cnf.specs.declared.formula.Step.{Step}
use Rattle.cpa_expr.specs.Shape.{height}
use Rattle.cpa_expr.specs.declared.shape.TheConstants.{MAX_HEIGHT}
use Rattle.cpa_expr.specs.declared.tree.Expr.{Expr}
use Rattle.cpa_expr_text.specs.Reading.{Fits}
use Rattle.cpa_iface.specs.declared.entries.Refined.{Refined}
use Rattle.cpa_iface.specs.declared.entries.Turn.{Turn}
use Rattle.cpa_iface.specs.declared.precisions.Precision.{Precision}
use Rattle.cpa_model.specs.Ascending.{AreAscending}
use Rattle.cpa_model.specs.declared.automaton.Path.{Path}
use Rattle.cpa_model.specs.declared.facts.Elem.{Elem}
use Rattle.cpa_facts.specs.declared.fact.Fact.{Fact}
use Rattle.cpa_facts.specs.declared.fact.Fact.TheVariants.{At, Stack, Equals, Within, Truth}
use Rattle.cpa_report_print.specs.declared.report.Body.{Body}
use Rattle.cpa_report_print.specs.declared.report.Body.TheVariants as body
use Rattle.cpa_report_print.specs.declared.report.Listed.{Listed}
use Rattle.cpa_report_print.specs.declared.report.Report.{Report}

-- the numbers that JSON keeps whole: those of 64 bits, with a sign or without
abbrev pub IsWhole : ℤ → Type 0
IsWhole (pos n) = n < 2 ^ 64
IsWhole (negsuc n) = n < 2 ^ 63

abbrev pub AreSmall : List ℕ → Type 0
AreSmall = AllByRecursion (λ n. n < 2 ^ 32)

abbrev pub FactFits : (Expr → Type 0) → Fact → Type 0
FactFits E (At point) = point < 2 ^ 32
FactFits E (Stack sites) = AreSmall sites
FactFits E (Equals cell value) = (cell < 2 ^ 32) × IsWhole value
FactFits E (Within cell lo hi) = (cell < 2 ^ 32) × IsWhole lo × IsWhole hi
FactFits E (Truth expr holds) = E expr

abbrev pub ElemFits : (Expr → Type 0) → Elem → Type 0
ElemFits E e = AllByRecursion (FactFits E) e.facts

abbrev pub ListedFits : (Expr → Type 0) → Listed → Type 0
ListedFits E entry = AllByRecursion (ElemFits E) entry.elems × (entry.number < 2 ^ 32)

abbrev pub PairFits : ℕ × ℕ → Type 0
PairFits p = (p.0 < 2 ^ 32) × (p.1 < 2 ^ 32)

abbrev pub TurnFits : Turn → Type 0
TurnFits turn =
    (turn.taken < 2 ^ 32) × AreSmall turn.added × AllByRecursion PairFits turn.replaced

abbrev pub PathFits : Path → Type 0
PathFits path = AreSmall path.edges

abbrev pub PrecisionFits : (Expr → Type 0) → Precision → Type 0
PrecisionFits E p = (p.limit < 2 ^ 32) × AllByRecursion E p.preds × AreSmall p.tracked

abbrev pub RefinedFits : (Expr → Type 0) → Refined → Type 0
RefinedFits E refined =
    PathFits refined.path × AllByRecursion (PrecisionFits E) refined.precisions

-- the variable of a literal has 32 bits
abbrev pub LiteralFits : ℕ → Type 0
LiteralFits literal = literal < 2 ^ 33

abbrev pub ClauseFits : List ℕ → Type 0
ClauseFits clause = IsClause clause × AllByRecursion LiteralFits clause

abbrev pub StepFits : Step → Type 0
StepFits step = (step.pivot < 2 ^ 32) × (step.clause < 2 ^ 32)

abbrev pub LineFits : Line → Type 0
LineFits line =
    ClauseFits line.clause × (line.first < 2 ^ 32) × AllByRecursion StepFits line.steps

abbrev pub EntriesFit : (Expr → Type 0) → List Listed → Type 0
EntriesFit E entries =
    AllByRecursion (ListedFits E) entries × AreAscending (map (λ entry. entry.number) entries)

abbrev pub BodyFits : (Expr → Type 0) → Body → Type 0
BodyFits E (body.True entries) = EntriesFit E entries
BodyFits E (body.False inputs steps) = AllByRecursion IsWhole inputs × (steps < 2 ^ 64)
BodyFits E (body.Turns journal) = AllByRecursion TurnFits journal
BodyFits E (body.Rounds path history) = PathFits path × AllByRecursion (RefinedFits E) history
BodyFits E (body.Learnt path lines) = PathFits path × AllByRecursion LineFits lines
BodyFits E (body.Gates path weight) = PathFits path × (weight < 2 ^ 64)
BodyFits E (body.NoNew path precisions) =
    PathFits path × AllByRecursion (PrecisionFits E) precisions
BodyFits E (body.Proof entries logs) =
    EntriesFit E entries × AllByRecursion (AllByRecursion LineFits) logs

-- the four counts of a program that a report tells
abbrev pub CountsFit : Report → Type 0
CountsFit r =
    (r.text < 2 ^ 32) × (r.points < 2 ^ 32) × (r.cells < 2 ^ 32) × (r.edges < 2 ^ 32)

abbrev pub ReportFitsBy : (Expr → Type 0) → Report → Type 0
ReportFitsBy E r = CountsFit r × BodyFits E r.body

-- its text is read back, but for the height of its expressions
abbrev pub ReportFits : Report → Type 0
ReportFits = ReportFitsBy Fits

-- the numbers of the expression fit, and it has at most so many levels as a reader goes down
abbrev pub IsLow : Expr → Type 0
IsLow e = Fits e × (height e ≤ MAX_HEIGHT)
