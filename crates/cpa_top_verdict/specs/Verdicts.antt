-- What is told of a program: the verdict of an answer, and the text of the report that says it
-- (this project's own).
use Rattle.std.specs.Prelude.{◌≡◌, List, length, map}
use Rattle.cpa_ints.specs.declared.data_model.DataModel.{DataModel}
use Rattle.cpa_model.specs.declared.automaton.Cfa.{Cfa}
use Rattle.cpa_model.specs.declared.program.Program.{Program}
use Rattle.cpa_model.specs.Automata.{IsAutomatonOf}
use Rattle.cpa_iface.specs.declared.entries.Entry.{Entry}
use Rattle.cpa_composite.specs.Components.{Component}
use Rattle.cpa_config.specs.declared.config.Config.{Config}
use Rattle.cpa_engine.specs.declared.answers.Answer.{Answer}
use Rattle.cpa_engine.specs.declared.answers.Answer.TheVariants as answer
use Rattle.cpa_engine.specs.declared.answers.Why.{Why}
use Rattle.cpa_engine.specs.declared.answers.Why.TheVariants as why
use Rattle.cpa_engine.specs.Answers.{IsAnswer}
use Rattle.cpa_engine.specs.Decided.{IsDecided}
use Rattle.cpa_report_print.specs.declared.report.Body.{Body}
use Rattle.cpa_report_print.specs.declared.report.Body.TheVariants as body
use Rattle.cpa_report_print.specs.declared.report.Listed.{Listed}
use Rattle.cpa_report_print.specs.declared.report.Report.{Report}
use Rattle.cpa_report_print.specs.Reports.{report_text, verdict_of}
use Rattle.cpa_top_verdict.specs.declared.reporting.Told.{Told}

-- an entry as a report lists it
abbrev pub listed_entry : Entry → Listed
listed_entry e = record { number = e.number; elems = e.elems }

abbrev pub listed : List Entry → List Listed
listed entries = map listed_entry entries

-- what a report tells where the analysis gives up
abbrev pub body_of_why : Why → Body
body_of_why (why.Turns journal) = body.Turns journal
body_of_why (why.Rounds path history) = body.Rounds path history
body_of_why (why.Learnt path lines) = body.Learnt path lines
body_of_why (why.Gates path weight) = body.Gates path weight
body_of_why (why.NoNew path precisions) = body.NoNew path precisions

-- what a report tells of an answer
abbrev pub body_of : Answer → Body
body_of (answer.True entries) = body.True (listed entries)
body_of (answer.False inputs steps) = body.False inputs steps
body_of (answer.Unknown why) = body_of_why why

-- the report of an answer on a program with this automaton, read in this data model
abbrev pub report_of : DataModel → Program → Cfa → Answer → Report
report_of m P cfa a = record {
  text = P.text_len;
  points = cfa.points;
  cells = length P.cells;
  edges = length cfa.edges;
  model = m;
  body = body_of a;
}

-- The verdict and the text are those of an answer on the program, by these components and under
-- this configuration.
pub record IsTold (P : Program) (cs : List Component) (config : Config) (told : Told) : Type 0
  where
    pub automaton : Cfa
    pub is : IsAutomatonOf P automaton
    pub answer : Answer
    pub says : IsAnswer automaton cs config answer
    pub decided : IsDecided automaton cs config answer
    pub verdict : told.verdict ≡ verdict_of (body_of answer)
    pub text : told.text.items ≡ report_text (report_of config.model P automaton answer)
