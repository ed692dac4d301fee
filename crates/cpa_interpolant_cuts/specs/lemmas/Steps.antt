-- Where each call leaves the places of cells.
use Rattle.std.proofs.Common.{◌≡◌, ℕ, ◌+◌, ◌<◌, ◌==◌, Bool, true, false, IsTrue, List, []}
use Rattle.std.proofs.Common.{◌∷◌, map, length, refl, sym, ap, ◌∙◌, arith}
use Rattle.std.proofs.Common.{inl, inr, zero-add}
use Rattle.std.specs.Prelude.{if◌then◌else◌}
use Rattle.std.specs.List.{list_all, range_with_len}
use Rattle.std.proofs.lemmas.Bool.{eqb-true}
use Rattle.std.proofs.lemmas.Bool.Decides.{nat_tests}
use Rattle.std.proofs.lemmas.List.{length-map}
use Rattle.std.proofs.lemmas.List.FromFn.{length-map-range_with_len}
use Rattle.std.proofs.lemmas.Option.{slice_get_within}
use Rattle.cpa_expr.specs.declared.tree.Expr.{Expr}
use Rattle.cpa_expr.specs.Shape.{type_of}
use Rattle.cpa_expr.specs.Cells.{is_within, may_read}
use Rattle.cpa_model.specs.declared.automaton.Act.{Act}
use Rattle.cpa_model.specs.declared.automaton.Act.TheVariants as act
use Rattle.cpa_query.specs.Queries.{wanted_reads, reads}
use Rattle.cpa_blast.specs.lemmas.Stores.{mark_at}
use Rattle.cpa_blast_circuits.specs.lemmas.Facts.{same_some}
use Rattle.cpa_form_renaming.specs.declared.places.Place.{Place}
use Rattle.cpa_form_renaming.specs.Renaming.{renamed, is_whole}
use Rattle.cpa_form_renaming.specs.lemmas.Nodes.{or_cases}
use Rattle.cpa_form_rules.specs.declared.drafts.Draft.{Draft}
use Rattle.cpa_form_rules.specs.Runs.{Added, taken, holding, failing}
use Rattle.cpa_form_rules.specs.Drafts.{next, named, Placed, placed, copied, asked_of, settled}
use Rattle.cpa_form_rules.specs.Drafts.{assigned, cell_written, array_written}
use Rattle.cpa_form_rules.specs.Tests.{type_at, tests_of}
use Rattle.cpa_form_rules.specs.Forms.{Form, draft_of, with_added}
use Rattle.cpa_form_rules.specs.lemmas.TestReads.{tests_read, reads_one}
use Rattle.cpa_interpolant_cuts.specs.Touching.{IsGone, AddedTouches}
use Rattle.cpa_interpolant_cuts.specs.lemmas.Moves.{StandBelow, Moves, Marked, none_move}
use Rattle.cpa_interpolant_cuts.specs.lemmas.Moves.{moves_wider, one_set, all_set, next_named}
use Rattle.cpa_interpolant_cuts.specs.lemmas.Moves.{copies_move}

-- a mark says that some expression reads the cell
marked_reads : (asked : List (Expr × Bool)) (n c : ℕ)
    → Marked (map (wanted_reads asked) (range_with_len 0 n)) c → IsTrue (wanted_reads asked c)
marked_reads asked n c is =
    let all = length-map-range_with_len (wanted_reads asked) 0 n in
    let inside = slice_get_within (map (wanted_reads asked) (range_with_len 0 n)) c true is in
    ap (wanted_reads asked) (sym (zero-add c))
    ∙ same_some (wanted_reads asked (0 + c)) true
    (sym (mark_at (wanted_reads asked) 0 n c (omega (arith, inside, all))) ∙ is)

-- where arrays are not in one piece, the cells that are read move
settled_move : (asked : List (Expr × Bool)) (places : List Place) (d : Draft)
    → StandBelow (next d) places → Moves (next d) (next (settled asked places d).draft)
    (λ c. IsTrue (wanted_reads asked c)) places (settled asked places d).places
settled_move asked places d below =
    by (list_all (λ (one : Expr × Bool). is_whole places one.0) asked)
  where
    by : (b : Bool) → Moves (next d) (next (if b then placed d places
        else copied (reads (asked_of places asked)) places d).draft)
        (λ c. IsTrue (wanted_reads asked c)) places (if b then placed d places
        else copied (reads (asked_of places asked)) places d).places
    by true = none_move (next d) (λ c. IsTrue (wanted_reads asked c)) places below
    by false =
        let marks = reads (asked_of places asked) in
        let types = map (λ (p : Place). p.ty) places in
        moves_wider (next d) (next (copied marks places d).draft)
        (next (copied marks places d).draft) (Marked marks) (λ c. IsTrue (wanted_reads asked c))
        places (copied marks places d).places (omega arith)
        (λ c is. marked_reads asked (length types) c is)
        (copies_move marks places d
        (length-map-range_with_len (wanted_reads asked) 0 (length types)
        ∙ length-map places (λ p. p.ty)) below)

-- where a call leaves the places
pub record CallMoves (one : Added) (before : Form) (after : List Place) : Type 0 where
  pub last : ℕ
  pub moves : Moves (next (draft_of before)) last (AddedTouches one) before.places after

module _ (form : Form) (below : StandBelow (next (draft_of form)) form.places) where
  -- tests that the call reads
  tests_move : (one : Added) (asked : List (Expr × Bool))
      → ((c : ℕ) → IsTrue (wanted_reads asked c) → AddedTouches one c)
      → CallMoves one form (settled asked form.places (draft_of form)).places
  tests_move one asked all =
      let at = settled asked form.places (draft_of form) in
      record {
        last = next at.draft;
        moves = moves_wider (next (draft_of form)) (next at.draft) (next at.draft)
            (λ c. IsTrue (wanted_reads asked c)) (AddedTouches one) form.places at.places
            (omega arith) all (settled_move asked form.places (draft_of form) below);
      }

  module _ (base len : ℕ) (index value : Expr) where
    abbrev write : Added
    write = taken (act.Assign base len index value)

    abbrev both : List (Expr × Bool)
    both = (index, true) ∷ (value, true) ∷ []

    abbrev at : Placed
    at = settled both form.places (draft_of form)

    read_both : (c : ℕ) → IsTrue (wanted_reads both c) → AddedTouches write c
    read_both c h =
        or_cases (may_read index c) (wanted_reads ((value, true) ∷ []) c) h
        (λ here. inl (inl here)) (λ there. inl (inr (inl (reads_one value true c there))))

    at_move : Moves (next (draft_of form)) (next at.draft) (AddedTouches write) form.places
        at.places
    at_move =
        moves_wider (next (draft_of form)) (next at.draft) (next at.draft)
        (λ c. IsTrue (wanted_reads both c)) (AddedTouches write) form.places at.places
        (omega arith) read_both (settled_move both form.places (draft_of form) below)

    written_cell : (i : ℕ) → i < len → AddedTouches write (base + i)
    written_cell i h = inr (inside base len i h)
      where
        inside : (base len i : ℕ) → i < len → IsTrue (is_within base len (base + i))
        inside base len i h = grind (arith, nat_tests, h)

    write_move : CallMoves write form (assigned base len index value at).places
    write_move = by (len == 1) refl
      where
        by : (b : Bool) → (len == 1) ≡ b → CallMoves write form
            (if b then cell_written base (renamed at.places index) (renamed at.places value) at
            else array_written base len (renamed at.places index) (renamed at.places value)
            at).places
        by true e = record {
          last = next at.draft + 1;
          moves = all_set (next (draft_of form)) (next at.draft) (AddedTouches write) form.places
              at.places below at_move base (next at.draft) (type_of (renamed at.places value))
              (omega arith) 1 (λ i h. written_cell i
              (let one = eqb-true len 1 e in omega (arith, one, h)));
        }
        by false e =
            let begun = named (renamed at.places index) at.draft in
            let more = next_named at.draft (renamed at.places index) in
            record {
              last = next begun + len;
              moves = all_set (next (draft_of form)) (next at.draft) (AddedTouches write)
                  form.places at.places below at_move base (next begun)
                  (type_of (renamed at.places value)) (omega (arith, more)) len written_cell;
            }

  still_move : (one : Added) → CallMoves one form form.places
  still_move one = record {
    last = next (draft_of form);
    moves = none_move (next (draft_of form)) (AddedTouches one) form.places below;
  }

  act_move : (a : Act) → CallMoves (taken a) form (with_added (taken a) form).places
  act_move act.Skip = still_move (taken act.Skip)
  act_move (act.Assign base len index value) = write_move base len index value
  act_move (act.Assume test holds) =
      tests_move (taken (act.Assume test holds)) ((test, holds) ∷ [])
      (λ c h. inl (reads_one test holds c h))
  act_move (act.Input cell) = record {
    last = next (draft_of form) + 1;
    moves = one_set (next (draft_of form)) (next (draft_of form))
        (AddedTouches (taken (act.Input cell))) form.places form.places below
        (none_move (next (draft_of form)) (AddedTouches (taken (act.Input cell))) form.places
        below) cell (next (draft_of form)) (type_at form.places cell) (omega arith) (inr refl);
  }
  act_move (act.Call site) = still_move (taken (act.Call site))
  act_move (act.Return site) = still_move (taken (act.Return site))

  pub call_moves : (one : Added) → IsGone one → CallMoves one form (with_added one form).places
  call_moves (taken a) gone = act_move a
  call_moves (holding elem) gone =
      tests_move (holding elem) (tests_of form.places elem.facts)
      (λ c h. inl (tests_read form.places elem.facts c h))
  call_moves (failing elems) gone = absurd gone
