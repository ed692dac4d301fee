-- The text of a report (this project's own): the line of its verdict, and one line of compact JSON
-- (RFC 8259) with its keys in byte order. The data is that of serde_json, and so is its text.
use Rattle.std.specs.Prelude.{ℕ, ◌+◌, ◌/◌, ◌%◌, ◌==◌, ℤ, pos, negsuc, Bool, true, false, Option}
use Rattle.std.specs.Prelude.{Some, None}
use Rattle.std.specs.Prelude.{List, [], ◌∷◌, ◌++◌, map, codes}
use Rattle.std.specs.Prelude.{if◌then◌else◌}
use Rattle.std.specs.List.{fold, flat_map}
use Rattle.serde_json.specs.Data.{Data, null, number, unsigned, negative, string, array, object}
use Rattle.serde_json.specs.Data.{Members, no_members, put}
use Rattle.serde_json.specs.View.{items_of}
use Rattle.serde_json.specs.Written.{compact_text}
use Rattle.cpa_expr.specs.declared.tree.Expr.{Expr}
use Rattle.cpa_expr.specs.Spelling.{expr_text}
use Rattle.cpa_cnf.specs.declared.formula.Line.{Line}
use Rattle.cpa_model.specs.declared.automaton.Path.{Path}
use Rattle.cpa_model.specs.declared.facts.Elem.{Elem}
use Rattle.cpa_facts.specs.declared.fact.Fact.{Fact}
use Rattle.cpa_facts.specs.declared.fact.Fact.TheVariants.{At, Stack, Equals, Within, Truth}
use Rattle.cpa_model.specs.declared.states.State.{State}
use Rattle.cpa_iface.specs.declared.entries.Refined.{Refined}
use Rattle.cpa_iface.specs.declared.entries.Turn.{Turn}
use Rattle.cpa_iface.specs.declared.precisions.Precision.{Precision}
use Rattle.cpa_ints.specs.declared.data_model.DataModel.{DataModel}
use Rattle.cpa_ints.specs.declared.data_model.DataModel.TheVariants.{Lp64, Ilp32}
use Rattle.cpa_report_print.specs.declared.report.Body.{Body}
use Rattle.cpa_report_print.specs.declared.report.Body.TheVariants as body
use Rattle.cpa_report_print.specs.declared.report.Listed.{Listed}
use Rattle.cpa_report_print.specs.declared.report.Report.{Report}
use Rattle.cpa_report_print.specs.declared.report.Verdict.{Verdict}
use Rattle.cpa_report_print.specs.declared.report.Verdict.TheVariants as verdict

abbrev pub number_data : ℕ → Data
number_data n = number (unsigned n)

abbrev pub integer_data : ℤ → Data
integer_data (pos n) = number (unsigned n)
integer_data (negsuc n) = number (negative (negsuc n))

-- a JSON list of unlike items, and one of items of one kind
abbrev pub row : List Data → Data
row ds = array (items_of ds)

abbrev pub list_data : {X : Type 0} → (X → Data) → List X → Data
list_data data_of xs = row (map data_of xs)

abbrev pub numbers_data : List ℕ → Data
numbers_data = list_data number_data

-- a member of a JSON object: its key and its value
pub record Member : Type 0 where
  pub key : List ℕ
  pub value : Data

abbrev pub at_key : List ℕ → Data → Member
at_key key value = record { key = key; value = value }

-- the object of these members, in byte order of their keys
abbrev pub members_in_order : List Member → Members
members_in_order = fold (λ found m. put m.key m.value found) no_members

abbrev pub object_data : List Member → Data
object_data ms = object (members_in_order ms)

abbrev pub expr_data : Expr → Data
expr_data e = string (expr_text e)

-- 1 where it holds, else 0
abbrev pub truth_data : Bool → Data
truth_data true = number_data 1
truth_data false = number_data 0

abbrev pub fact_data : Fact → Data
fact_data (At point) = row (string (codes "at") ∷ number_data point ∷ [])
fact_data (Stack sites) = row (string (codes "stack") ∷ numbers_data sites ∷ [])
fact_data (Equals cell value) =
    row (string (codes "equals") ∷ number_data cell ∷ integer_data value ∷ [])
fact_data (Within cell lo hi) =
    row (string (codes "within") ∷ number_data cell ∷ integer_data lo ∷ integer_data hi ∷ [])
fact_data (Truth expr holds) =
    row (string (codes "truth") ∷ expr_data expr ∷ truth_data holds ∷ [])

-- an element is the list of its facts
abbrev pub elem_data : Elem → Data
elem_data e = list_data fact_data e.facts

abbrev pub listed_data : Listed → Data
listed_data entry = object_data (
    at_key (codes "elems") (list_data elem_data entry.elems)
    ∷ at_key (codes "number") (number_data entry.number) ∷ [])

abbrev pub pair_data : ℕ × ℕ → Data
pair_data p = row (number_data p.0 ∷ number_data p.1 ∷ [])

abbrev pub turn_data : Turn → Data
turn_data turn =
    row (number_data turn.taken ∷ numbers_data turn.added ∷ list_data pair_data turn.replaced ∷ [])

abbrev pub path_data : Path → Data
path_data path = numbers_data path.edges

abbrev pub precision_data : Precision → Data
precision_data p = object_data (
    at_key (codes "limit") (number_data p.limit)
    ∷ at_key (codes "preds") (list_data expr_data p.preds)
    ∷ at_key (codes "tracked") (numbers_data p.tracked) ∷ [])

abbrev pub refined_data : Refined → Data
refined_data refined = object_data (
    at_key (codes "path") (path_data refined.path)
    ∷ at_key (codes "precisions") (list_data precision_data refined.precisions) ∷ [])

-- the literal of variable v is v + 1, its negation -(v + 1)
abbrev pub literal_data : ℕ → Data
literal_data literal = integer_data (
    if literal % 2 == 1 then negsuc (literal / 2) else pos (literal / 2 + 1))

-- a line: its clause, and its chain as one list
abbrev pub line_data : Line → Data
line_data line = row (
    list_data literal_data line.clause
    ∷ numbers_data (line.first ∷ flat_map (λ step. step.pivot ∷ step.clause ∷ []) line.steps) ∷ [])

-- the verdict that a body is of
abbrev pub verdict_of : Body → Verdict
verdict_of (body.True entries) = verdict.True
verdict_of (body.False inputs steps) = verdict.False
verdict_of (body.Turns journal) = verdict.Turns
verdict_of (body.Rounds path history) = verdict.Rounds
verdict_of (body.Learnt path lines) = verdict.Learnt
verdict_of (body.Gates path weight) = verdict.Gates
verdict_of (body.NoNew path precisions) = verdict.NoNew
verdict_of (body.Proof entries logs) = verdict.Proof

-- the words of a verdict
abbrev pub verdict_words : Verdict → List ℕ
verdict_words verdict.True = codes "TRUE"
verdict_words verdict.False = codes "FALSE"
verdict_words verdict.Turns = codes "UNKNOWN turns"
verdict_words verdict.Rounds = codes "UNKNOWN rounds"
verdict_words verdict.Learnt = codes "UNKNOWN learnt"
verdict_words verdict.Gates = codes "UNKNOWN gates"
verdict_words verdict.NoNew = codes "UNKNOWN new"
verdict_words verdict.Proof = codes "PROOF"

-- the form of the reports of a data model
abbrev pub form_of : DataModel → ℕ
form_of Lp64 = 1
form_of Ilp32 = 2

-- what tells the data model, which is LP64 where a report tells none
abbrev pub model_members : DataModel → List Member
model_members Lp64 = []
model_members Ilp32 = at_key (codes "model") (string (codes "ilp32")) ∷ []

-- what reports of every verdict tell
abbrev pub common_members : Report → List Member
common_members r =
    at_key (codes "cells") (number_data r.cells) ∷ at_key (codes "edges") (number_data r.edges)
    ∷ at_key (codes "form") (number_data (form_of r.model))
    ∷ at_key (codes "points") (number_data r.points)
    ∷ at_key (codes "text") (number_data r.text) ∷ []

-- what those of one verdict tell besides
abbrev pub body_members : Body → List Member
body_members (body.True entries) = at_key (codes "entries") (list_data listed_data entries) ∷ []
body_members (body.False inputs steps) =
    at_key (codes "inputs") (list_data integer_data inputs)
    ∷ at_key (codes "steps") (number_data steps) ∷ []
body_members (body.Turns journal) = at_key (codes "journal") (list_data turn_data journal) ∷ []
body_members (body.Rounds path history) =
    at_key (codes "path") (path_data path)
    ∷ at_key (codes "history") (list_data refined_data history) ∷ []
body_members (body.Learnt path lines) =
    at_key (codes "path") (path_data path) ∷ at_key (codes "lines") (list_data line_data lines) ∷ []
body_members (body.Gates path weight) =
    at_key (codes "path") (path_data path) ∷ at_key (codes "weight") (number_data weight) ∷ []
body_members (body.NoNew path precisions) =
    at_key (codes "path") (path_data path)
    ∷ at_key (codes "precisions") (list_data precision_data precisions) ∷ []
body_members (body.Proof entries logs) =
    at_key (codes "entries") (list_data listed_data entries)
    ∷ at_key (codes "logs") (list_data (list_data line_data) logs) ∷ []

abbrev pub report_data : Report → Data
report_data r = object_data (common_members r ++ model_members r.model ++ body_members r.body)

-- a line of a text
abbrev pub with_feed : List ℕ → List ℕ
with_feed line = line ++ codes "\n"

abbrev pub report_text : Report → List ℕ
report_text r =
    with_feed (verdict_words (verdict_of r.body)) ++ with_feed (compact_text (report_data r))

-- the line behind the verdict REFUSED: a state that breaks an obligation, and its successor
abbrev pub state_data : State → Data
state_data s = object_data (
    at_key (codes "point") (number_data s.point) ∷ at_key (codes "stack") (numbers_data s.stack)
    ∷ at_key (codes "store") (list_data integer_data s.store.values) ∷ [])

abbrev pub some_state_data : Option State → Data
some_state_data None = null
some_state_data (Some s) = state_data s

abbrev pub break_data : State → Option State → Data
break_data s next = object_data (
    at_key (codes "next") (some_state_data next) ∷ at_key (codes "state") (state_data s) ∷ [])

abbrev pub break_text : State → Option State → List ℕ
break_text s next = with_feed (compact_text (break_data s next))
