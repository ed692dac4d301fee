-- What CONFIRMED, REFUSED and UNKNOWN of a recheck say of a program and of the entries of a report
-- (of a cover: CAV 2007, section 2; the three answers: this project's own).
use Rattle.std.specs.Prelude.{◌≡◌, ◌⊎◌, ℕ, ◌<◌, ◌≤◌, List, ◌++◌, length, take, slice_get}
use Rattle.std.specs.Prelude.{Option, Some, codes}
use Rattle.std.specs.List.{AllByRecursion}
use Rattle.cpa_blast.specs.Formulas.{formula}
use Rattle.cpa_cnf.specs.declared.formula.Line.{Line}
use Rattle.cpa_iface.specs.declared.analysis.Settings.{Settings}
use Rattle.cpa_ints.specs.declared.data_model.DataModel.{DataModel}
use Rattle.cpa_model.specs.declared.automaton.Cfa.{Cfa}
use Rattle.cpa_model.specs.declared.facts.Elem.{Elem}
use Rattle.cpa_model.specs.declared.program.Program.{Program}
use Rattle.cpa_model.specs.declared.states.State.{State}
use Rattle.cpa_model.specs.Automata.{IsAutomatonOf}
use Rattle.cpa_model.specs.Covers.{IsCover, IsSafe}
use Rattle.cpa_recheck.specs.Checks.{entries_in}
use Rattle.cpa_recheck_obligations.specs.declared.listing.Obligation.{Obligation}
use Rattle.cpa_recheck_obligations.specs.Forms.{form_at}
use Rattle.cpa_recheck_obligations.specs.Meeting.{Breaks, IsMet}
use Rattle.cpa_recheck_obligations.specs.Obligations.{obligations}
use Rattle.cpa_recheck_obligations.specs.Spots.{as_one}
use Rattle.cpa_report.specs.Faults.{IsFound, IsTold}
use Rattle.cpa_report_print.specs.declared.report.Report.{Report}
use Rattle.cpa_report_print.specs.declared.report.Verdict.TheVariants as verdict
use Rattle.cpa_report_print.specs.Reports.{break_text}
use Rattle.cpa_sat.specs.Outcomes.{IsSpent}
use Rattle.cpa_top_recheck.specs.Lines.{numbered_line}

-- The text is that of one TRUE report of the program in the data model, whose entries are these, as
-- the automaton of the program has them.
pub record Lists (m : DataModel) (P : Program) (text : List ℕ) (automaton : Cfa)
    (entries : List (List Elem)) : Type 0 where
  pub edges : IsAutomatonOf P automaton
  pub report : Report
  pub found : IsFound m text automaton verdict.True report
  pub one : (other : Report) → IsTold text verdict.True other → other ≡ report
  pub entries_are : entries ≡ entries_in report.body

-- CONFIRMED: the entries of the text are a cover of the program, so that each reachable state lies
-- in one of them and no execution calls reach_error. The line says how many obligations they have.
pub record IsConfirmation (m : DataModel) (P : Program) (text line : List ℕ) : Type 0 where
  pub automaton : Cfa
  pub entries : List (List Elem)
  pub lists : Lists m P text automaton entries
  pub cover : IsCover P entries
  pub safe : IsSafe P entries
  pub line_is : line
      ≡ numbered_line (codes "CONFIRMED ") (length (obligations automaton (as_one entries)))

-- the obligation has this number among those of the entries, and all of lesser numbers are met
pub record IsLeast (automaton : Cfa) (entries : List (List Elem)) (number : ℕ)
    (obligation : Obligation) : Type 0 where
  pub is : slice_get (obligations automaton (as_one entries)) number ≡ Some obligation
  pub lesser : AllByRecursion (IsMet automaton entries)
      (take number (obligations automaton (as_one entries)))

-- REFUSED: the state of the line, with its successor for an edge, breaks the least obligation of
-- the entries that is not met. So the entries are no cover, and no TRUE answer on the program has
-- them.
pub record IsRefutation (m : DataModel) (P : Program) (text line : List ℕ) : Type 0 where
  pub automaton : Cfa
  pub entries : List (List Elem)
  pub lists : Lists m P text automaton entries
  pub number : ℕ
  pub obligation : Obligation
  pub least : IsLeast automaton entries number obligation
  pub state : State
  pub next : Option State
  pub breaks : Breaks automaton entries obligation state next
  pub unmet : IsMet automaton entries obligation → ⊥
  pub no_cover : IsCover P entries → ⊥
  pub line_is : line ≡ numbered_line (codes "REFUSED ") number ++ break_text state next

-- the line, and why: exactly so many good lines as were allowed did not decide the query of the
-- obligation, or it weighs more than was allowed
abbrev pub IsSpentFor : Settings → Cfa → List (List Elem) → ℕ → Obligation → List ℕ → Type 0
IsSpentFor settings automaton entries number obligation line =
    ((lines : List Line)
    × ((form_at automaton (as_one entries) obligation).weight ≤ settings.gates)
    × IsSpent (formula (form_at automaton (as_one entries) obligation).query) settings.learnt lines
    × (line ≡ numbered_line (codes "UNKNOWN learnt ") number))
    ⊎ ((settings.gates < (form_at automaton (as_one entries) obligation).weight)
    × (line ≡ numbered_line (codes "UNKNOWN gates ") number))

-- UNKNOWN: what may be spent did not settle the obligation of this number, and all lesser ones are
-- met.
pub record IsUndecided (m : DataModel) (P : Program) (settings : Settings) (text line : List ℕ)
    : Type 0 where
  pub automaton : Cfa
  pub entries : List (List Elem)
  pub lists : Lists m P text automaton entries
  pub number : ℕ
  pub obligation : Obligation
  pub least : IsLeast automaton entries number obligation
  pub spent : IsSpentFor settings automaton entries number obligation line
