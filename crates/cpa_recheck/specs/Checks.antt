-- What a check of a reached set has found (this project's own): each obligation refuted, or the
-- least one that is not shown to hold, and why.
use Rattle.std.specs.Prelude.{◌≡◌, ℕ, ◌+◌, ◌<◌, ◌≤◌, ⊤, List, [], Some, slice_get, take, map}
use Rattle.std.specs.Prelude.{length}
use Rattle.std.specs.List.{AllByRecursion, AllZip}
use Rattle.cpa_cnf.specs.declared.formula.Line.{Line}
use Rattle.cpa_model.specs.declared.facts.Elem.{Elem}
use Rattle.cpa_model.specs.declared.automaton.Cfa.{Cfa}
use Rattle.cpa_model.specs.Covers.{CoversAutomaton}
use Rattle.cpa_sat.specs.Outcomes.{IsRefutedWithin, IsSpent}
use Rattle.cpa_blast.specs.Formulas.{formula}
use Rattle.cpa_recheck_obligations.specs.declared.listing.Obligation.{Obligation}
use Rattle.cpa_recheck_obligations.specs.Spots.{as_one}
use Rattle.cpa_recheck_obligations.specs.Obligations.{obligations}
use Rattle.cpa_recheck_obligations.specs.Meeting.{IsMet, Breaks}
use Rattle.cpa_recheck_obligations.specs.Forms.{form_at, IsRunless}
use Rattle.cpa_report_print.specs.declared.report.Listed.{Listed}
use Rattle.cpa_report_print.specs.declared.report.Body.{Body}
use Rattle.cpa_report_print.specs.declared.report.Body.TheVariants as body
use Rattle.cpa_recheck.specs.declared.checking.Budget.{Budget}
use Rattle.cpa_recheck.specs.declared.checking.Keeping.{Keeping}
use Rattle.cpa_recheck.specs.declared.checking.Keeping.TheVariants.{Refutations, Nothing}
use Rattle.cpa_recheck.specs.declared.checking.Why.{Why}
use Rattle.cpa_recheck.specs.declared.checking.Why.TheVariants as why
use Rattle.cpa_recheck.specs.declared.checking.Settled.{Settled}
use Rattle.cpa_recheck.specs.declared.checking.Settled.TheVariants as settled
use Rattle.cpa_recheck.specs.declared.checking.Part.{Part}
use Rattle.cpa_recheck.specs.declared.checking.Part.TheVariants as part
use Rattle.cpa_recheck.specs.declared.rechecking.Confirmation.{Confirmation}
use Rattle.cpa_recheck.specs.declared.rechecking.Confirmation.TheVariants as confirmation
use Rattle.cpa_recheck.specs.declared.rechecking.Checked.{Checked}
use Rattle.cpa_recheck.specs.declared.rechecking.Checked.TheVariants as checked

-- the obligation is met: the lines refute the formula of its query, at most so many
pub record IsShown (cfa : Cfa) (entries : List (List Elem)) (learnt : ℕ) (o : Obligation)
    (log : List Line) : Type 0 where
  pub refuted : IsRefutedWithin (formula (form_at cfa (as_one entries) o).query) learnt log
  pub met : IsMet cfa entries o

-- the obligation is met, weighs no more than is allowed, and a line may be written about it: so it
-- is met within the budget, whether or not its query was asked
pub record IsMetWithin (cfa : Cfa) (entries : List (List Elem)) (budget : Budget)
    (o : Obligation) : Type 0 where
  pub met : IsMet cfa entries o
  pub light : (form_at cfa (as_one entries) o).weight ≤ budget.gates
  pub allowed : 0 < budget.learnt

-- no query is asked: no refutation is kept, a line may be written, and no run meets what is asked
pub record IsSpared (cfa : Cfa) (xs : List Elem) (budget : Budget) (keeping : Keeping)
    (o : Obligation) : Type 0 where
  pub nothing : keeping ≡ Nothing
  pub allowed : 0 < budget.learnt
  pub runless : IsRunless cfa xs o

-- Why an obligation is not shown to hold: a state breaks it, with its successor for an edge; as
-- many lines as were allowed did not decide its query; or it weighs more than was allowed.
abbrev pub StopsAt : Cfa → List (List Elem) → Budget → Obligation → Why → Type 0
StopsAt cfa entries budget o (why.Refused state next) = Breaks cfa entries o state next
StopsAt cfa entries budget o (why.Learnt lines) =
    ((form_at cfa (as_one entries) o).weight ≤ budget.gates)
    × IsSpent (formula (form_at cfa (as_one entries) o).query) budget.learnt lines.items
StopsAt cfa entries budget o (why.Gates weight) =
    (weight ≡ (form_at cfa (as_one entries) o).weight) × (budget.gates < weight)

-- what one obligation comes to
abbrev pub IsSettled : Cfa → List (List Elem) → Budget → Obligation → Settled → Type 0
IsSettled cfa entries budget o (settled.Shown lines) =
    IsShown cfa entries budget.learnt o lines.items
IsSettled cfa entries budget o (settled.Open reason) = StopsAt cfa entries budget o reason

-- the same where a refutation is kept, or nothing
abbrev pub IsSettledFor : Cfa → List (List Elem) → Budget → Keeping → Obligation → Settled → Type 0
IsSettledFor cfa entries budget keeping o (settled.Shown lines) =
    IsMetWithin cfa entries budget o
    × (keeping ≡ Refutations → IsShown cfa entries budget.learnt o lines.items)
IsSettledFor cfa entries budget keeping o (settled.Open reason) = StopsAt cfa entries budget o
    reason

-- the obligation at this place of a list is not shown to hold, and all before it are met
pub record StopsIn (cfa : Cfa) (entries : List (List Elem)) (budget : Budget)
    (os : List Obligation) (place : ℕ) (reason : Why) : Type 0 where
  pub obligation : Obligation
  pub is : slice_get os place ≡ Some obligation
  pub lesser : AllByRecursion (IsMet cfa entries) (take place os)
  pub stops : StopsAt cfa entries budget obligation reason

-- What a run of obligations comes to, whose first one has this number: a log for each, or the least
-- one that is not shown to hold.
abbrev pub IsPart : Cfa → List (List Elem) → Budget → ℕ → List Obligation → Part → Type 0
IsPart cfa entries budget first os (part.Whole logs) =
    AllZip (IsShown cfa entries budget.learnt) os (map (λ log. log.items) logs.items)
IsPart cfa entries budget first os (part.Stopped number reason) =
    (place : ℕ) × (number ≡ first + place) × StopsIn cfa entries budget os place reason

-- the same where refutations are kept, or nothing; what comes before is met within the budget
abbrev pub IsWalk : Cfa → List (List Elem) → Budget → Keeping → ℕ → List Obligation → Part → Type 0
IsWalk cfa entries budget keeping first os (part.Whole logs) =
    AllByRecursion (IsMetWithin cfa entries budget) os
    × (keeping ≡ Refutations → AllZip (IsShown cfa entries budget.learnt) os
    (map (λ log. log.items) logs.items))
IsWalk cfa entries budget keeping first os (part.Stopped number reason) =
    (place : ℕ) × (number ≡ first + place) × StopsIn cfa entries budget os place reason
    × AllByRecursion (IsMetWithin cfa entries budget) (take place os)

-- ---- the whole list

-- the elements of each entry of a TRUE report
abbrev pub entries_in : Body → List (List Elem)
entries_in (body.True entries) = map (λ (entry : Listed). entry.elems) entries
entries_in _ = []

abbrev pub IsTrueBody : Body → Type 0
IsTrueBody (body.True entries) = ⊤
IsTrueBody _ = ⊥

-- each obligation of the entries has a log that refutes its query, and the entries are a cover
pub record IsConfirmed (cfa : Cfa) (entries : List (List Elem)) (learnt : ℕ)
    (logs : List (List Line)) : Type 0 where
  pub logs_are : AllZip (IsShown cfa entries learnt) (obligations cfa (as_one entries)) logs
  pub cover : CoversAutomaton cfa entries

-- What a check of entries comes to: they are a cover, shown by a log for each obligation; or the
-- obligation of this number is not shown to hold, for this reason, and all lesser ones are met.
abbrev pub IsChecked : Cfa → List (List Elem) → Budget → Checked → Type 0
IsChecked cfa entries budget (checked.Confirmed logs) =
    IsConfirmed cfa entries budget.learnt (map (λ log. log.items) logs.items)
IsChecked cfa entries budget (checked.Refused number state next) =
    StopsIn cfa entries budget (obligations cfa (as_one entries)) number (why.Refused state next)
IsChecked cfa entries budget (checked.Learnt number lines) =
    StopsIn cfa entries budget (obligations cfa (as_one entries)) number (why.Learnt lines)
IsChecked cfa entries budget (checked.Gates number weight) =
    StopsIn cfa entries budget (obligations cfa (as_one entries)) number (why.Gates weight)

-- ---- without refutations

-- each obligation of the entries is met within the budget, so many there are, and the entries are a
-- cover
pub record AreMet (cfa : Cfa) (entries : List (List Elem)) (budget : Budget)
    (count : ℕ) : Type 0 where
  pub count_is : count ≡ length (obligations cfa (as_one entries))
  pub within : AllByRecursion (IsMetWithin cfa entries budget) (obligations cfa (as_one entries))
  pub cover : CoversAutomaton cfa entries

-- What a check that keeps no refutation comes to: they are a cover, each obligation met within the
-- budget; or the obligation of this number is not shown to hold, for this reason, and all lesser
-- ones are met within the budget.
abbrev pub IsConfirming : Cfa → List (List Elem) → Budget → Confirmation → Type 0
IsConfirming cfa entries budget (confirmation.Confirmed count) = AreMet cfa entries budget count
IsConfirming cfa entries budget (confirmation.Stopped number reason) =
    StopsIn cfa entries budget (obligations cfa (as_one entries)) number reason
    × AllByRecursion (IsMetWithin cfa entries budget)
    (take number (obligations cfa (as_one entries)))
