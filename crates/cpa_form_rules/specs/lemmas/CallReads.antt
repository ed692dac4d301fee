-- What each call reads, and where it leaves the places of cells.
use Rattle.std.proofs.Common.{◌≡◌, ◌≢◌, ℕ, ◌+◌, ◌<◌, ◌≤◌, ◌^◌, ◌==◌, Bool, true, false, IsTrue}
use Rattle.std.proofs.Common.{List, [], ◌∷◌, ◌++◌, map, length, refl, sym, arith, ◌⊎◌, inl, inr}
use Rattle.std.specs.Prelude.{if◌then◌else◌, sum}
use Rattle.std.specs.List.{AllByRecursion, flat_map}
use Rattle.std.proofs.lemmas.Bool.{eq-eqb}
use Rattle.std.proofs.lemmas.Bool.Decides.{nat_tests}
use Rattle.std.proofs.lemmas.List.{append-nil}
use Rattle.cpa_expr.specs.declared.tree.Expr.{Expr}
use Rattle.cpa_expr.specs.Shape.{type_of}
use Rattle.cpa_expr.specs.Cells.{may_read, scalar_read}
use Rattle.cpa_model.specs.declared.program.Cell.{Cell}
use Rattle.cpa_model.specs.declared.automaton.Act.{Act}
use Rattle.cpa_model.specs.declared.automaton.Act.TheVariants as act
use Rattle.cpa_model.specs.declared.facts.Elem.{Elem}
use Rattle.cpa_model.specs.Expressions.{types_of}
use Rattle.cpa_model.specs.Facts.{IsElem}
use Rattle.cpa_query.specs.Queries.{wanted_reads}
use Rattle.cpa_form_renaming.specs.Places.{number_at}
use Rattle.cpa_form_renaming.specs.Renaming.{renamed}
use Rattle.cpa_form_renaming.specs.lemmas.Nodes.{or_cases}
use Rattle.cpa_form_rules.specs.Runs.{Added, taken, holding, failing}
use Rattle.cpa_form_rules.specs.Drafts.{next, fresh, named, Placed, settled, want_all, block}
use Rattle.cpa_form_rules.specs.Drafts.{cell_written, array_written}
use Rattle.cpa_form_rules.specs.Tests.{type_at, tests_of, denials_of, want_each}
use Rattle.cpa_form_rules.specs.Forms.{Form, draft_of, joined, weighed, with_added, place_now}
use Rattle.cpa_form_rules.specs.Forms.{with_act, with_tests, with_failing, with_write}
use Rattle.cpa_form_rules.specs.Forms.{act_weight}
use Rattle.cpa_form_rules.specs.Forms.{elem_weight}
use Rattle.cpa_form_rules.specs.Reading.{AddedReads}
use Rattle.cpa_form_rules.specs.lemmas.Failures.{all_flat, flat_all}
use Rattle.cpa_form_rules.specs.lemmas.Places.{same_or}
use Rattle.cpa_form_rules.specs.lemmas.Calls.{Fitted, Askable, settles}
use Rattle.cpa_form_rules.specs.lemmas.Steps.{each_askable}
use Rattle.cpa_form_rules.specs.lemmas.Formed.{ActFits, AddedFits, facts_low, low_askable}
use Rattle.cpa_form_rules.specs.lemmas.Formed.{elems_low}
use Rattle.cpa_form_rules.specs.lemmas.Readings.{Only, Drafted, AllRenamed, next_new}
use Rattle.cpa_form_rules.specs.lemmas.Readings.{drafted_fresh}
use Rattle.cpa_form_rules.specs.lemmas.Readings.{drafted_named, only_new, wanted_only}
use Rattle.cpa_form_rules.specs.lemmas.Readings.{each_only}
use Rattle.cpa_form_rules.specs.lemmas.Readings.{block_only, written_only}
use Rattle.cpa_form_rules.specs.lemmas.SettledReads.{PlaceOf, SettledReads, settled_reads}
use Rattle.cpa_form_rules.specs.lemmas.SettledReads.{new_or_named, all_renamed, set_new}
use Rattle.cpa_form_rules.specs.lemmas.SettledReads.{moved_new}
use Rattle.cpa_form_rules.specs.lemmas.SettledReads.{goes_on}
use Rattle.cpa_form_rules.specs.lemmas.TestReads.{tests_read, denials_read, reads_one}

-- what a call adds reads new cells, and places of cells that the call reads; a place is new, or is
-- the one that it was
pub record CallReads (one : Added) (before after : Form) : Type 0 where
  pub wanted : List (Expr × Bool)
  pub wanted_are : after.query.wanted ≡ before.query.wanted ++ wanted
  pub reads : AllByRecursion (λ (w : Expr × Bool).
      Only (length before.query.cells) (PlaceOf before.places (AddedReads one)) w.0) wanted
  pub goes : (cell : ℕ) → (length before.query.cells ≤ place_now after cell)
      ⊎ (place_now after cell ≡ place_now before cell)

-- a call that adds nothing and moves nothing
still : (one : Added) (form : Form) (n : ℕ) → CallReads one form (weighed n form)
still one form n = record {
  wanted = [];
  wanted_are = sym (append-nil form.query.wanted);
  reads = tt;
  goes = λ cell. inr refl;
}

module _ (cells : List Cell) (form : Form) (fitted : Fitted cells form) (one : Added) where
  abbrev first : ℕ
  first = length form.query.cells

  abbrev Named : ℕ → Type 0
  Named = PlaceOf form.places (AddedReads one)

  module _ (asked : List (Expr × Bool)) (fits : AllByRecursion (Askable cells form fitted) asked)
      (all : (cell : ℕ) → IsTrue (wanted_reads asked cell) → AddedReads one cell) where
    abbrev at : Placed
    at = settled asked form.places (draft_of form)

    pub at_reads : SettledReads first form.places (AddedReads one) at
    at_reads = settled_reads first form.places (AddedReads one) asked (draft_of form)
        (record { behind = omega arith; wanted = tt }) all

    pub asked_there : AllRenamed first Named at.places asked
    asked_there =
        all_renamed first form.places (AddedReads one) at (types_of cells) at_reads asked
        (settles cells form fitted asked fits).reads all

    -- expressions that have their truths
    pub tests_call : (n : ℕ) → CallReads one form (weighed n (with_tests asked form))
    tests_call n =
        let made = wanted_only first Named at.places asked at.draft asked_there at_reads.drafted in
        record {
          wanted = (want_all at.places asked at.draft).wanted;
          wanted_are = refl;
          reads = made.wanted;
          goes = at_reads.goes;
        }

-- ---- a write

module _ (cells : List Cell) (form : Form) (fitted : Fitted cells form) (base len : ℕ)
    (index value : Expr) where
  abbrev write : Added
  write = taken (act.Assign base len index value)

  abbrev both : List (Expr × Bool)
  both = (index, true) ∷ (value, true) ∷ []

  abbrev read_at : ℕ → Type 0
  read_at = PlaceOf form.places (AddedReads write)

  abbrev begun_at : Placed
  begun_at = settled both form.places (draft_of form)

  operands : (cell : ℕ) → IsTrue (wanted_reads both cell) → AddedReads write cell
  operands cell h =
      or_cases (may_read index cell) (wanted_reads ((value, true) ∷ []) cell) h
      (λ here. inl here) (λ there. inr (inl (reads_one value true cell there)))

  -- a cell of an array of more than one
  written_cell : (j : ℕ) → (len == 1) ≡ false → j < len → AddedReads write (base + j)
  written_cell j apart below = inr (inr (more (same_or len 1), grind (arith, nat_tests, below)))
    where
      more : (len ≡ 1) ⊎ (len ≢ 1) → 1 < len
      more (inl is) = let same = eq-eqb len 1 is in absurd (cc)
      more (inr other) = grind (arith, other, below)

  module _ (fits : Askable cells form fitted (index, true))
      (also : Askable cells form fitted (value, true)) where
    reads_so : SettledReads (length form.query.cells) form.places (AddedReads write) begun_at
    reads_so = at_reads cells form fitted write both (fits, (also, tt)) operands

    there : AllRenamed (length form.query.cells) read_at begun_at.places both
    there = asked_there cells form fitted write both (fits, (also, tt)) operands

    abbrev index_there : Expr
    index_there = renamed begun_at.places index

    abbrev value_there : Expr
    value_there = renamed begun_at.places value

    one_drafted : Drafted (length form.query.cells) read_at
        (cell_written base index_there value_there begun_at).draft
    one_drafted =
        let low = length form.query.cells in
        let t = type_of value_there in
        written_only low read_at (next begun_at.draft) 1 index_there value_there
        (fresh t begun_at.draft) (next_new low read_at begun_at.draft reads_so.drafted) there.0
        there.1.0
        (drafted_fresh low read_at t begun_at.draft reads_so.drafted)

    array_drafted : (len == 1) ≡ false → Drafted (length form.query.cells) read_at
        (array_written base len index_there value_there begun_at).draft
    array_drafted apart =
        let low = length form.query.cells in
        let t = type_of value_there in let u = type_of index_there in
        let begun = named index_there begun_at.draft in
        let read = scalar_read u (next begun_at.draft) in
        let named_so = drafted_named low read_at index_there begun_at.draft there.0
        reads_so.drafted in
        let read_so = only_new low read_at u (next begun_at.draft)
        (next_new low read_at begun_at.draft reads_so.drafted) in
        written_only low read_at (next begun) len read value_there
        (block begun_at.places base t read len begun) (next_new low read_at begun named_so)
        read_so there.1.0
        (block_only low read_at begun_at.places base t read len begun
        (λ j below. new_or_named low form.places (AddedReads write) begun_at reads_so (base + j)
        (written_cell j apart below)) read_so named_so)

    one_goes : (cell : ℕ) → (length form.query.cells ≤ number_at (cell_written base index_there
        value_there begun_at).places cell)
        ⊎ (number_at (cell_written base index_there value_there begun_at).places cell
        ≡ number_at form.places cell)
    one_goes cell =
        let low = length form.query.cells in
        goes_on low (number_at form.places cell) (number_at begun_at.places cell)
        (number_at (cell_written base index_there value_there begun_at).places cell)
        (reads_so.goes cell)
        (moved_new low begun_at.places base (next begun_at.draft) (type_of value_there) 1 cell
        (next_new low read_at begun_at.draft reads_so.drafted))

    array_goes : (cell : ℕ) → (length form.query.cells ≤ number_at (array_written base len
        index_there value_there begun_at).places cell)
        ⊎ (number_at (array_written base len index_there value_there begun_at).places cell
        ≡ number_at form.places cell)
    array_goes cell =
        let low = length form.query.cells in
        let begun = named index_there begun_at.draft in
        goes_on low (number_at form.places cell) (number_at begun_at.places cell)
        (number_at (array_written base len index_there value_there begun_at).places cell)
        (reads_so.goes cell)
        (moved_new low begun_at.places base (next begun) (type_of value_there) len cell
        (next_new low read_at begun
        (drafted_named low read_at index_there begun_at.draft there.0 reads_so.drafted)))

    by_length : (b : Bool) → (len == 1) ≡ b → (n : ℕ) → CallReads write form
        (weighed n (joined form (if b then cell_written base index_there value_there begun_at
        else array_written base len index_there value_there begun_at)))
    by_length true e n = record {
      wanted = (cell_written base index_there value_there begun_at).draft.wanted;
      wanted_are = refl;
      reads = one_drafted.wanted;
      goes = one_goes;
    }
    by_length false e n = record {
      wanted = (array_written base len index_there value_there begun_at).draft.wanted;
      wanted_are = refl;
      reads = (array_drafted e).wanted;
      goes = array_goes;
    }

    pub write_call_reads : (n : ℕ)
        → CallReads write form (weighed n (with_write base len index value form))
    write_call_reads n = by_length (len == 1) refl n

-- ---- the calls

module _ (cells : List Cell) (points : ℕ) (few : length (types_of cells) < 2 ^ 63) (form : Form)
    (fitted : Fitted cells form) where
  input_call_reads : (cell n : ℕ) → CallReads (taken (act.Input cell)) form
      (weighed n (with_act (act.Input cell) form))
  input_call_reads cell n = record {
    wanted = [];
    wanted_are = refl;
    reads = tt;
    goes = λ other.
        set_new (length form.query.cells) form.places cell (next (draft_of form))
        (type_at form.places cell) other (omega arith);
  }

  act_call_reads : (a : Act) → ActFits cells points few a → (n : ℕ)
      → CallReads (taken a) form (weighed n (with_act a form))
  act_call_reads act.Skip is n = still (taken act.Skip) form n
  act_call_reads (act.Assign base len index value) is n =
      write_call_reads cells form fitted base len index value
      (is.1.typed, let low = is.1.height in omega (arith, low))
      (is.2.typed, let low = is.2.height in omega (arith, low)) n
  act_call_reads (act.Assume test holds) is n =
      tests_call cells form fitted (taken (act.Assume test holds)) ((test, holds) ∷ [])
      ((is.typed, let low = is.height in omega (arith, low)), tt)
      (λ cell h. reads_one test holds cell h) n
  act_call_reads (act.Input cell) is n = input_call_reads cell n
  act_call_reads (act.Call site) is n = still (taken (act.Call site)) form n
  act_call_reads (act.Return site) is n = still (taken (act.Return site)) form n

  holding_call_reads : (elem : Elem) → IsElem cells points elem → (n : ℕ)
      → CallReads (holding elem) form
      (weighed n (with_tests (tests_of form.places elem.facts) form))
  holding_call_reads elem is n =
      let asked = tests_of form.places elem.facts in
      tests_call cells form fitted (holding elem) asked
      (low_askable cells points few form fitted asked
      (facts_low cells points few form fitted elem.facts is))
      (λ cell h. tests_read form.places elem.facts cell h) n

  failing_call_reads : (elems : List Elem) → AllByRecursion (IsElem cells points) elems → (n : ℕ)
      → CallReads (failing elems) form (weighed n (with_failing elems form))
  failing_call_reads elems is n =
      let lists = map (λ (elem : Elem). denials_of form.places elem.facts) elems in
      let flat = flat_map (λ (tests : List (Expr × Bool)). tests) lists in
      let at = settled flat form.places (draft_of form) in
      let fits = flat_all (Askable cells form fitted) lists
      (each_askable cells form fitted few elems (elems_low cells points few form fitted elems is))
      in
      let all = λ (cell : ℕ) (h : IsTrue (wanted_reads flat cell)).
      denials_read form.places elems cell h in
      let named_at = PlaceOf form.places (AddedReads (failing elems)) in
      let low = length form.query.cells in
      let so = at_reads cells form fitted (failing elems) flat fits all in
      record {
        wanted = (want_each at.places lists at.draft).wanted;
        wanted_are = refl;
        reads = (each_only low named_at at.places lists at.draft
            (all_flat (λ (one : Expr × Bool). Only low named_at (renamed at.places one.0)) lists
            (asked_there cells form fitted (failing elems) flat fits all)) so.drafted).wanted;
        goes = so.goes;
      }

  pub call_reads : (one : Added) → AddedFits cells points few one
      → CallReads one form (with_added one form)
  call_reads (taken a) is = act_call_reads a is (act_weight a)
  call_reads (holding elem) is = holding_call_reads elem is (elem_weight form.places elem)
  call_reads (failing elems) is =
      failing_call_reads elems is (sum (map (elem_weight form.places) elems))
