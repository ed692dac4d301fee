-- What the findings of a check say of the program: `confirmed_tells`, `refused_tells`,
-- `open_tells`.
use Rattle.std.proofs.Common.{◌≡◌, ◌↔◌, ℕ, zero, suc, ◌<◌, List, [], ◌∷◌, map, ap, sym, ◌∙◌}
use Rattle.std.proofs.Common.{Some, slice_get, refl, subst, inl, inr}
use Rattle.std.specs.List.{AllByRecursion}
use Rattle.std.proofs.Common.{codes}
use Rattle.cpa_iface.specs.declared.analysis.Settings.{Settings}
use Rattle.cpa_ints.specs.declared.data_model.DataModel.{DataModel}
use Rattle.cpa_model.specs.declared.automaton.Cfa.{Cfa}
use Rattle.cpa_model.specs.declared.facts.Elem.{Elem}
use Rattle.cpa_model.specs.declared.program.Program.{Program}
use Rattle.cpa_model.specs.Automata.{IsAutomatonOf}
use Rattle.cpa_model.specs.Covers.{CoversAutomaton, IsCover, IsSafe}
use Rattle.cpa_model.specs.Programs.{IsWellFormed}
use Rattle.cpa_recheck.specs.declared.checking.Why.TheVariants as why
use Rattle.cpa_recheck.specs.declared.rechecking.Confirmation.{Confirmation}
use Rattle.cpa_recheck.specs.declared.rechecking.Confirmation.TheVariants as checked
use Rattle.cpa_recheck.specs.Checks.{IsConfirming, entries_in}
use Rattle.cpa_recheck_obligations.specs.Laws.{BrokenIsUnmet, ObligationsAreCovers}
use Rattle.cpa_recheck_obligations.specs.Meeting.{IsMet}
use Rattle.cpa_recheck_obligations.specs.Obligations.{obligations}
use Rattle.cpa_recheck_obligations.specs.Spots.{as_one}
use Rattle.cpa_top_recheck.specs.declared.finding.Finding.TheVariants as finding
use Rattle.cpa_top_recheck.specs.declared.finding.Rechecked.{Rechecked}
use Rattle.cpa_top_recheck.specs.Findings.{IsConfirmation, IsRefutation, IsUndecided}
use Rattle.cpa_top_recheck.specs.Findings.{Lists}
use Rattle.cpa_top_recheck.specs.Lines.{checked_text, numbered_line}
use Rattle.cpa_top_recheck.specs.Rechecks.{IsRechecked, budget_of, finding_of}

-- ---- the laws that are called

-- an automaton is covered by the covers of its program
abbrev pub CoversAgree : Type 0
CoversAgree =
    (P : Program) (cfa : Cfa) (entries : List (List Elem)) → IsAutomatonOf P cfa
    → CoversAutomaton cfa entries ↔ IsCover P entries

-- a program with a cover is safe
abbrev pub CoversAreSafe : Type 0
CoversAreSafe =
    (P : Program) (entries : List (List Elem)) → IsWellFormed P → IsCover P entries
    → IsSafe P entries

-- ---- what a report lists

lists : (m : DataModel) (P : Program) (settings : Settings) (text : List ℕ) (told : Rechecked)
    (is : IsRechecked m P settings text told)
    → Lists m P text is.automaton (entries_in is.report.body)
lists m P settings text told is =
    record { edges = is.is; report = is.report; found = is.found; one = is.one; entries_are = refl }

-- what holds of all holds at a place
holds_at : {A : Type 0} (Q : A → Type 0) (xs : List A) (i : ℕ) (x : A) → slice_get xs i ≡ Some x
    → AllByRecursion Q xs → Q x
holds_at Q [] i x at all = absurd (cc)
holds_at Q (y ∷ ys) zero x at all = let same : y ≡ x = cc in subst Q same all.0
holds_at Q (y ∷ ys) (suc i) x at all = holds_at Q ys i x at all.1

module _ (m : DataModel) (P : Program) (settings : Settings) (text line : List ℕ) (cfa : Cfa)
    (entries : List (List Elem)) (is : Lists m P text cfa entries) where
  -- ---- CONFIRMED

  confirmed : CoversAgree → CoversAreSafe → IsWellFormed P → (c : Confirmation)
      → IsConfirming cfa entries (budget_of settings) c → finding_of c ≡ finding.Confirmed
      → line ≡ checked_text c → IsConfirmation m P text line
  confirmed agree safe well (checked.Confirmed count) says found spelled =
      let cover = (agree P cfa entries is.edges).0 says.cover in
      record {
        automaton = cfa;
        entries = entries;
        lists = is;
        cover = cover;
        safe = safe P entries well cover;
        line_is = spelled ∙ ap (numbered_line (codes "CONFIRMED ")) says.count_is;
      }
  confirmed agree safe well (checked.Stopped number (why.Refused state next)) says found spelled =
      absurd (cc)
  confirmed agree safe well (checked.Stopped number (why.Learnt lines)) says found spelled =
      absurd (cc)
  confirmed agree safe well (checked.Stopped number (why.Gates weight)) says found spelled =
      absurd (cc)

  -- ---- where it stops

  refused : CoversAgree → ObligationsAreCovers → BrokenIsUnmet → (c : Confirmation)
      → IsConfirming cfa entries (budget_of settings) c → finding_of c ≡ finding.Refused
      → line ≡ checked_text c → IsRefutation m P text line
  refused agree covers unmet (checked.Stopped number (why.Refused state next)) says found spelled =
      let stop = says.0 in
      let not_met = unmet cfa entries stop.obligation state next stop.stops in
      record {
        automaton = cfa;
        entries = entries;
        lists = is;
        number = number;
        obligation = stop.obligation;
        least = record { is = stop.is; lesser = stop.lesser };
        state = state;
        next = next;
        breaks = stop.stops;
        unmet = not_met;
        no_cover = λ cover.
            not_met (holds_at (IsMet cfa entries) (obligations cfa (as_one entries)) number
            stop.obligation stop.is
            ((covers cfa entries).1 ((agree P cfa entries is.edges).1 cover)));
        line_is = spelled;
      }
  refused agree covers unmet (checked.Confirmed count) says found spelled = absurd (cc)
  refused agree covers unmet (checked.Stopped number (why.Learnt lines)) says found spelled =
      absurd (cc)
  refused agree covers unmet (checked.Stopped number (why.Gates weight)) says found spelled =
      absurd (cc)

  open_for : (c : Confirmation) → IsConfirming cfa entries (budget_of settings) c
      → finding_of c ≡ finding.Open → line ≡ checked_text c → IsUndecided m P settings text line
  open_for (checked.Stopped number (why.Learnt lines)) says found spelled =
      let stop = says.0 in
      record {
        automaton = cfa;
        entries = entries;
        lists = is;
        number = number;
        obligation = stop.obligation;
        least = record { is = stop.is; lesser = stop.lesser };
        spent = inl (lines.items, stop.stops.0, stop.stops.1, spelled);
      }
  open_for (checked.Stopped number (why.Gates weight)) says found spelled =
      let stop = says.0 in
      record {
        automaton = cfa;
        entries = entries;
        lists = is;
        number = number;
        obligation = stop.obligation;
        least = record { is = stop.is; lesser = stop.lesser };
        spent = inr (subst (λ (w : ℕ). settings.gates < w) stop.stops.0 stop.stops.1, spelled);
      }
  open_for (checked.Confirmed count) says found spelled = absurd (cc)
  open_for (checked.Stopped number (why.Refused state next)) says found spelled = absurd (cc)

-- ---- what is told

pub confirmed_tells : CoversAgree → CoversAreSafe → (m : DataModel) (P : Program)
    (settings : Settings) (text : List ℕ) (told : Rechecked) → IsWellFormed P
    → IsRechecked m P settings text told
    → told.finding ≡ finding.Confirmed → IsConfirmation m P text told.text.items
confirmed_tells agree safe m P settings text told well is found =
    confirmed m P settings text told.text.items is.automaton (entries_in is.report.body)
    (lists m P settings text told is) agree safe well is.checked is.says (sym is.finding ∙ found)
    is.text_is

pub refused_tells : CoversAgree → ObligationsAreCovers → BrokenIsUnmet → (m : DataModel)
    (P : Program) (settings : Settings) (text : List ℕ) (told : Rechecked)
    → IsRechecked m P settings text told
    → told.finding ≡ finding.Refused → IsRefutation m P text told.text.items
refused_tells agree covers unmet m P settings text told is found =
    refused m P settings text told.text.items is.automaton (entries_in is.report.body)
    (lists m P settings text told is) agree covers unmet is.checked is.says
    (sym is.finding ∙ found) is.text_is

pub open_tells : (m : DataModel) (P : Program) (settings : Settings) (text : List ℕ)
    (told : Rechecked)
    → IsRechecked m P settings text told → told.finding ≡ finding.Open
    → IsUndecided m P settings text told.text.items
open_tells m P settings text told is found =
    open_for m P settings text told.text.items is.automaton (entries_in is.report.body)
    (lists m P settings text told is) is.checked is.says (sym is.finding ∙ found) is.text_is
