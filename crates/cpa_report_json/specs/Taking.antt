-- What a reader of values takes.
use Rattle.std.specs.Prelude.{◌≡◌, ℕ, ◌+◌, ◌/◌, ◌%◌, ◌==◌, ℤ, pos, negsuc, List, [], ◌∷◌}
use Rattle.std.specs.Prelude.{Option, Some, None, Result, MatchResult, if◌then◌else◌, map, ⊤, ◌<◌}
use Rattle.std.specs.List.{flat_map}
use Rattle.std.specs.Borrow.{Bor}
use Rattle.json.specs.Token.{Token}
use Rattle.json.specs.Token as token
use Rattle.cpa_cnf.specs.declared.formula.Line.{Line}
use Rattle.cpa_cnf.specs.declared.formula.Step.{Step}
use Rattle.cpa_iface.specs.declared.entries.Refined.{Refined}
use Rattle.cpa_iface.specs.declared.entries.Turn.{Turn}
use Rattle.cpa_iface.specs.declared.precisions.Precision.{Precision}
use Rattle.cpa_model.specs.declared.automaton.Path.{Path}
use Rattle.serde_json.specs.Data.{object}
use Rattle.cpa_ints.specs.declared.data_model.DataModel.{DataModel}
use Rattle.cpa_report_print.specs.Steps.{ordered, told}
use Rattle.cpa_report_print.specs.Tokens.{onto}
use Rattle.cpa_report_print.specs.declared.report.Body.{Body}
use Rattle.cpa_report_print.specs.declared.report.Body.TheVariants as body
use Rattle.cpa_report_print.specs.declared.report.Listed.{Listed}
use Rattle.cpa_report_print.specs.declared.report.Report.{Report}
use Rattle.cpa_report_print.specs.declared.report.Verdict.{Verdict}
use Rattle.cpa_report_print.specs.declared.report.Verdict.TheVariants as verdict
use Rattle.cpa_report_json.specs.Fits.{IsLow, ReportFitsBy}
use Rattle.cpa_report_json.specs.declared.fault.ReadFault.{ReadFault}
use Rattle.cpa_report_json.specs.declared.fault.ReadFault.TheVariants.{OutOfMemory}

-- the value was taken, and these tokens are left; or memory was short
abbrev pub Took : {A : Type 0} → A → List Token → Result A ReadFault → List Token → Type 0
Took x rest r new = MatchResult r (λ y. (y ≡ x) × (new ≡ rest)) (λ e. e ≡ OutOfMemory)

abbrev pub TookText : List ℕ → List Token → Result (Bor (List ℕ)) ReadFault → List Token → Type 0
TookText s rest r new = MatchResult r (λ t. (t.now ≡ s) × (new ≡ rest)) (λ e. e ≡ OutOfMemory)

abbrev pub Passed : {A : Type 0} → List Token → Result A ReadFault → List Token → Type 0
Passed rest r new = MatchResult r (λ _. new ≡ rest) (λ e. e ≡ OutOfMemory)

abbrev pub number_in : Token → Option (List ℕ)
number_in (token.number s) = Some s
number_in _ = None

abbrev pub text_in : Token → Option (List ℕ)
text_in (token.string s) = Some s
text_in _ = None

-- this was made, or memory was short
abbrev pub Made : {A : Type 0} → A → Result A ReadFault → Type 0
Made x r = MatchResult r (λ y. y ≡ x) (λ e. e ≡ OutOfMemory)

-- the number of a literal in a report, and those of the steps of a chain
abbrev pub literal_integer : ℕ → ℤ
literal_integer literal =
    if literal % 2 == 1 then negsuc (literal / 2) else pos (literal / 2 + 1)

abbrev pub numbers_of : List Step → List ℕ
numbers_of steps = flat_map (λ step. step.pivot ∷ step.clause ∷ []) steps

-- what a report of a verdict tells besides, and the body that tells it
abbrev pub Parts : Verdict → Type 0
Parts verdict.True = List Listed
Parts verdict.False = List ℤ × ℕ
Parts verdict.Turns = List Turn
Parts verdict.Rounds = Path × List Refined
Parts verdict.Learnt = Path × List Line
Parts verdict.Gates = Path × ℕ
Parts verdict.NoNew = Path × List Precision
Parts verdict.Proof = List Listed × List (List Line)

abbrev pub body_of : (verdict : Verdict) → Parts verdict → Body
body_of verdict.True entries = body.True entries
body_of verdict.False p = body.False p.0 p.1
body_of verdict.Turns journal = body.Turns journal
body_of verdict.Rounds p = body.Rounds p.0 p.1
body_of verdict.Learnt p = body.Learnt p.0 p.1
body_of verdict.Gates p = body.Gates p.0 p.1
body_of verdict.NoNew p = body.NoNew p.0 p.1
body_of verdict.Proof p = body.Proof p.0 p.1

-- a report of the verdict is taken, whose members come next in their order, and no token more
abbrev pub TakesReport : Verdict → List Token → List Token → Result Report ReadFault → Type 0
TakesReport verdict old new result =
    (text points cells edges : ℕ) (model : DataModel) (x : Parts verdict) (rest : List Token)
    → ReportFitsBy IsLow (told text points cells edges model (body_of verdict x))
    → old ≡ onto (object (ordered (told text points cells edges model (body_of verdict x)))) rest
    → Took (told text points cells edges model (body_of verdict x)) rest result new

-- the numbers of entries, and that one is below the first of some
abbrev pub numbers_in : List Listed → List ℕ
numbers_in = map (λ entry. entry.number)

abbrev pub IsBelowFirst : ℕ → List ℕ → Type 0
IsBelowFirst n [] = ⊤
IsBelowFirst n (m ∷ ms) = n < m
