-- What was read is a TRUE report of the program's automaton, so that its entries can be checked.
use Rattle.std.proofs.Common.{◌≡◌, ℕ, List, [], ◌∷◌, map}
use Rattle.std.specs.List.{AllByRecursion}
use Rattle.cpa_iface.specs.declared.analysis.Settings.{Settings}
use Rattle.cpa_iface.specs.Meanings.{AreShaped}
use Rattle.cpa_ints.specs.declared.data_model.DataModel.{DataModel}
use Rattle.cpa_model.specs.declared.automaton.Cfa.{Cfa}
use Rattle.cpa_model.specs.declared.program.Program.{Program}
use Rattle.cpa_model.specs.Automata.{IsAutomaton, IsAutomatonOf}
use Rattle.cpa_model.specs.Programs.{IsWellFormed}
use Rattle.cpa_recheck.specs.declared.rechecking.Confirmation.{Confirmation}
use Rattle.cpa_recheck.specs.Checks.{IsConfirming, IsTrueBody, entries_in}
use Rattle.cpa_report.specs.Faults.{IsFound, IsRefused, IsTold}
use Rattle.cpa_report.specs.Ranges.{IsBodyIn, IsListedIn}
use Rattle.cpa_report.specs.declared.fault.ReportError.{ReportError}
use Rattle.cpa_report.specs.declared.fault.ReportError.TheVariants as error
use Rattle.cpa_report_print.specs.declared.report.Body.{Body}
use Rattle.cpa_report_print.specs.declared.report.Body.TheVariants as body
use Rattle.cpa_report_print.specs.declared.report.Listed.{Listed}
use Rattle.cpa_report_print.specs.declared.report.Report.{Report}
use Rattle.cpa_report_print.specs.declared.report.Verdict.TheVariants as verdict
use Rattle.cpa_report_print.specs.Reports.{verdict_of}
use Rattle.cpa_top_recheck.specs.declared.finding.Rechecked.{Rechecked}
use Rattle.cpa_top_recheck.specs.Lines.{checked_text}
use Rattle.cpa_top_recheck.specs.Rechecks.{IsRechecked, IsReportRefused, budget_of, finding_of}

pub is_automaton : (P : Program) (cfa : Cfa) → IsWellFormed P → IsAutomatonOf P cfa
    → IsAutomaton cfa
is_automaton P cfa well of = record { program = P; well_formed = well; automaton = of }

pub is_true : (b : Body) → verdict_of b ≡ verdict.True → IsTrueBody b
is_true (body.True entries) e = tt
is_true (body.False inputs steps) e = absurd (cc)
is_true (body.Turns journal) e = absurd (cc)
is_true (body.Rounds path history) e = absurd (cc)
is_true (body.Learnt path lines) e = absurd (cc)
is_true (body.Gates path weight) e = absurd (cc)
is_true (body.NoNew path precisions) e = absurd (cc)
is_true (body.Proof entries logs) e = absurd (cc)

all_shaped : (cfa : Cfa) (entries : List Listed) → AllByRecursion (IsListedIn cfa) entries
    → AllByRecursion (AreShaped cfa) (map (λ (entry : Listed). entry.elems) entries)
all_shaped cfa [] all = tt
all_shaped cfa (entry ∷ entries) all = (all.0, all_shaped cfa entries all.1)

pub are_shaped : (cfa : Cfa) (b : Body) → verdict_of b ≡ verdict.True → IsBodyIn cfa b
    → AllByRecursion (AreShaped cfa) (entries_in b)
are_shaped cfa (body.True entries) e inside = all_shaped cfa entries inside
are_shaped cfa (body.False inputs steps) e inside = absurd (cc)
are_shaped cfa (body.Turns journal) e inside = absurd (cc)
are_shaped cfa (body.Rounds path history) e inside = absurd (cc)
are_shaped cfa (body.Learnt path lines) e inside = absurd (cc)
are_shaped cfa (body.Gates path weight) e inside = absurd (cc)
are_shaped cfa (body.NoNew path precisions) e inside = absurd (cc)
are_shaped cfa (body.Proof entries logs) e inside = absurd (cc)

-- the text is refused as that of a report of the program
pub refused_for : (m : DataModel) (P : Program) (cfa : Cfa) (text : List ℕ) (why : ReportError)
    → IsAutomatonOf P cfa → IsRefused m text cfa verdict.True why
    → IsReportRefused m P text why
refused_for m P cfa text (error.Fault rule) of refused =
    record { automaton = cfa; is = of; breaks = refused }
refused_for m P cfa text error.OutOfMemory of refused = tt

-- what is told of a check of its entries
pub is_rechecked : (m : DataModel) (P : Program) (cfa : Cfa) (settings : Settings) (text : List ℕ)
    (report : Report) (c : Confirmation) (told : Rechecked) → IsAutomatonOf P cfa
    → IsFound m text cfa verdict.True report
    → ((other : Report) → IsTold text verdict.True other → other ≡ report)
    → IsConfirming cfa (entries_in report.body) (budget_of settings) c
    → told.finding ≡ finding_of c → told.text.items ≡ checked_text c
    → IsRechecked m P settings text told
is_rechecked m P cfa settings text report c told of found one says finding spelled = record {
  automaton = cfa;
  is = of;
  report = report;
  found = found;
  one = one;
  checked = c;
  says = says;
  finding = finding;
  text_is = spelled;
}
