-- The new cells of a write: one cell, or those of an array behind one with the index.
use Rattle.std.proofs.Common.{◌≡◌, ◌≢◌, ℕ, ◌+◌, ◌<◌, ◌≤◌, ◌^◌, ◌==◌, ℤ, pos, true, List, [], ◌∷◌}
use Rattle.std.proofs.Common.{◌++◌, length, Some, slice_get, refl, sym, ap, ◌∙◌, subst, arith, inl}
use Rattle.std.proofs.Common.{inr, get_or}
use Rattle.std.specs.Prelude.{if◌then◌else◌}
use Rattle.std.proofs.lemmas.Bool.{eq-eqb, ne_eqb}
use Rattle.std.proofs.lemmas.Option.{slice_get_within, slice_get-get_or}
use Rattle.std.proofs.lemmas.Slice.Zip.{AllZip-long}
use Rattle.cpa_ints.specs.declared.integers.IntType.{IntType}
use Rattle.cpa_ints.specs.Integers.{IsInRange}
use Rattle.cpa_expr.specs.declared.tree.Expr.{Expr}
use Rattle.cpa_expr.specs.Shape.{type_of, AreCells}
use Rattle.cpa_expr.specs.Values.{value_of}
use Rattle.cpa_expr.specs.Cells.{AreValues, scalar_read}
use Rattle.cpa_expr.specs.Laws.{a_scalar_is_its_cell}
use Rattle.cpa_model.specs.declared.program.Cell.{Cell}
use Rattle.cpa_model.specs.Expressions.{types_of}
use Rattle.cpa_query.specs.Queries.{IsModel}
use Rattle.cpa_form_renaming.specs.Places.{number_at, Shows}
use Rattle.cpa_form_renaming.specs.Renaming.{renamed}
use Rattle.cpa_form_renaming.specs.Laws.{renaming_keeps_meanings}
use Rattle.cpa_form_rules.specs.declared.drafts.Draft.{Draft}
use Rattle.cpa_form_rules.specs.Drafts.{next, behind, fresh, named, Placed, block}
use Rattle.cpa_form_rules.specs.Forms.{Form}
use Rattle.cpa_form_rules.specs.lemmas.Lists.{Front, front_of_front}
use Rattle.cpa_form_rules.specs.lemmas.Models.{Fine, all_cells, model_long, Fits, fine_fresh}
use Rattle.cpa_form_rules.specs.lemmas.Models.{fresh_back, fresh_forth, fresh_value, fresh_type}
use Rattle.cpa_form_rules.specs.lemmas.Models.{cells_more, fine_named, named_back, named_forth}
use Rattle.cpa_form_rules.specs.lemmas.Models.{scalar_fits}
use Rattle.cpa_form_rules.specs.lemmas.Copies.{stand_front, shows_same, same_front}
use Rattle.cpa_form_rules.specs.lemmas.Copies.{get_in_front}
use Rattle.cpa_form_rules.specs.lemmas.Wants.{reads_fit}
use Rattle.cpa_form_rules.specs.lemmas.Places.{same_or}
use Rattle.cpa_form_rules.specs.lemmas.Blocks.{IsReady, HasBlock, has_block, block_back}
use Rattle.cpa_form_rules.specs.lemmas.Blocks.{block_forth}
use Rattle.cpa_form_rules.specs.lemmas.Calls.{Fitted, before_is, behind_is, Settles}
use Rattle.cpa_form_rules.specs.lemmas.Calls.{places_long}
use Rattle.cpa_form_rules.specs.lemmas.Failures.{range_at, shown_values}
use Rattle.cpa_form_rules.specs.lemmas.Changes.{BlockStep, index_reads, shows_in}

module _ (cells : List Cell) (form : Form) (fitted : Fitted cells form) (base : ℕ)
    (index value : Expr) (at : Placed) where
  abbrev own_types : List IntType
  own_types = types_of cells

  abbrev Asked : Type 0
  Asked = Settles cells form fitted ((index, true) ∷ (value, true) ∷ []) at

  -- ---- one cell

  module _ (are : Asked) where
    abbrev t : IntType
    t = type_of (renamed at.places value)

    abbrev index_there : Expr
    index_there = renamed at.places index

    abbrev first : ℕ
    first = next at.draft

    fine : Fine form.query at.draft
    fine = are.settled.replaces.fine

    only : (j : ℕ) → j < 1 → j ≡ 0
    only j below = omega (arith, below)

    nothing_more : (n : ℕ) → n + 0 ≡ n
    nothing_more n = omega arith

    -- no other cell
    alone : (values store : List ℤ) (k : ℕ) → k < 1
        → (j : ℕ) → j < 1 → j ≢ k → slice_get values (first + j) ≡ slice_get store (base + j)
    alone values store k below j inside apart =
        absurd (apart (only j inside ∙ sym (only k below)))

    pub one_cell : BlockStep cells form fitted base 1 index value at are first index_there
        (fresh t at.draft)
    one_cell =
        let q = form.query in
        let d = fresh t at.draft in
        let more : Front (all_cells q at.draft) (all_cells q d) =
        (t ∷ [], cells_more q at.draft t fine) in
        let stand = stand_front (all_cells q at.draft) (all_cells q d) at.places more
        are.settled.replaces.stand in
        record {
          fine = fine_fresh q at.draft t fine;
          stand = stand;
          cells_are = λ j below. ap (slice_get (all_cells q d)) (ap (λ i. first + i) (only j below)
              ∙ nothing_more first) ∙ fresh_type q at.draft t fine;
          fits = reads_fit at.places (all_cells q d) own_types index
              (index_reads cells form fitted base 1 index value at are)
              (shows_in cells form fitted base 1 index value at are (all_cells q d) stand);
          back = λ values is.
              let last = fresh_back q at.draft t fine values is in
              let found = are.settled.replaces.back last.0 last.3 in
              let front : Front last.0 values = (last.1 ∷ [], last.2) in (
                found.0,
                front_of_front found.0 last.0 values found.1 front,
                before_is cells form fitted found.0 found.2,
                λ store shows.
                    let there = shows_same last.0 values store at.places at.places
                    (same_front (all_cells q at.draft) at.places last.0 values
                    are.settled.replaces.stand (model_long (behind q at.draft) last.0 last.3) front)
                    (shows_same found.0 last.0 store form.places at.places found.3 shows) in (
                      there,
                      λ k index_is below. (
                        sym (renaming_keeps_meanings.value at.places own_types index values store
                            (index_reads cells form fitted base 1 index value at are).readable
                            are.long there)
                            ∙ index_is,
                        alone values store k below,
                      ),
                    ),
              );
          forth = λ old store k w model shows below index_is within.
              let found = are.settled.replaces.forth old (behind_is cells form fitted old model) in
              let values = found.0 ++ w ∷ [] in
              let front : Front found.0 values = (w ∷ [], refl) in
              let there = shows_same found.0 values store at.places at.places
              (same_front (all_cells q at.draft) at.places found.0 values
              are.settled.replaces.stand (model_long (behind q at.draft) found.0 found.2) front)
              (shows_same old found.0 store form.places at.places found.3 shows) in (
                values,
                front_of_front old found.0 values found.1 front,
                fresh_forth q at.draft t fine found.0 w found.2 within,
                there,
                renaming_keeps_meanings.value at.places own_types index values store
                    (index_reads cells form fitted base 1 index value at are).readable are.long
                    there
                    ∙ index_is,
                ap (slice_get values) (ap (λ i. first + i) (only k below) ∙ nothing_more first)
                    ∙ fresh_value q at.draft t fine found.0 w found.2,
                alone values store k below,
              );
        }

  -- ---- an array

  module _ (are : Asked) (len : ℕ) (few : len < 2 ^ 63)
      (are_cells : AreCells (types_of cells) base len (type_of value)) where
    abbrev u : IntType
    u = type_of (renamed at.places index)

    abbrev index_cell : ℕ
    index_cell = next at.draft

    abbrev read : Expr
    read = scalar_read u index_cell

    abbrev begun : Draft
    begun = named (renamed at.places index) at.draft

    abbrev cells_from : ℕ
    cells_from = next begun

    abbrev block_draft : Draft
    block_draft = block at.places base (type_of (renamed at.places value)) read len begun

    same_type : type_of (renamed at.places value) ≡ type_of value
    same_type = renaming_keeps_meanings.same_type at.places value

    settled_fine : Fine form.query at.draft
    settled_fine = are.settled.replaces.fine

    index_fits : Fits (all_cells form.query at.draft) (renamed at.places index)
    index_fits =
        reads_fit at.places (all_cells form.query at.draft) own_types index are.reads.0 are.shows

    begun_longer : Front (all_cells form.query at.draft) (all_cells form.query begun)
    begun_longer = (u ∷ [], cells_more form.query at.draft u settled_fine)

    -- a cell of the array is one of the program
    inside_at : (j : ℕ) → j < len → base + j < length at.places
    inside_at j below =
        subst (λ n. base + j < n) are.long
        (slice_get_within own_types (base + j) (type_of value) (are_cells j below))

    ready : IsReady form.query at.places base len (type_of (renamed at.places value)) u index_cell
        few
        begun
    ready = record {
      fine = fine_named form.query at.draft (renamed at.places index) settled_fine index_fits;
      index = fresh_type form.query at.draft u settled_fine;
      olds = λ j below.
          let here : slice_get (all_cells form.query at.draft) (number_at at.places (base + j))
          ≡ Some (type_of (renamed at.places value)) =
          are.shows.at (base + j) (inside_at j below)
          ∙ (are_cells j below ∙ ap Some (sym same_type)) in
          get_in_front (all_cells form.query at.draft) (all_cells form.query begun)
          (number_at at.places (base + j)) begun_longer
          (slice_get_within (all_cells form.query at.draft) (number_at at.places (base + j))
          (type_of (renamed at.places value)) here) ∙ here;
    }

    has : HasBlock form.query at.places base len (type_of (renamed at.places value)) u index_cell
        few
        begun len
    has = has_block form.query at.places base len (type_of (renamed at.places value)) u index_cell
        few
        begun ready len (least len)
      where
        least : (n : ℕ) → n ≤ n
        least n = omega arith

    longer : Front (all_cells form.query at.draft) (all_cells form.query block_draft)
    longer = front_of_front (all_cells form.query at.draft) (all_cells form.query begun)
        (all_cells form.query block_draft) begun_longer has.longer

    -- what a model behind shows, where the settled one showed it
    shown_on : (old values store : List ℤ) → IsModel (behind form.query at.draft) old
        → Front old values → Shows at.places old store → Shows at.places values store
    shown_on old values store is front shows =
        shows_same old values store at.places at.places
        (same_front (all_cells form.query at.draft) at.places old values
        are.settled.replaces.stand (model_long (behind form.query at.draft) old is) front) shows

    store_values : (old store : List ℤ) → IsModel form.query old → Shows form.places old store
        → AreValues own_types store
    store_values old store is shows =
        subst (λ ts. AreValues ts store) fitted.types
        (shown_values form.query.cells old form.places store is.values_are fitted.stand shows)

    -- the values of the new cells: the written one at k, and else the old ones
    abbrev chosen : List ℤ → ℕ → ℤ → ℕ → ℤ
    chosen store k w j = if k == j then w else get_or store (base + j) (pos 0)

    chosen_here : (store : List ℤ) (k : ℕ) (w : ℤ) → chosen store k w k ≡ w
    chosen_here store k w =
        ap (λ b. if b then w else get_or store (base + k) (pos 0)) (eq-eqb k k refl)

    chosen_other : (store : List ℤ) (k : ℕ) (w : ℤ) (j : ℕ) → k ≢ j
        → chosen store k w j ≡ get_or store (base + j) (pos 0)
    chosen_other store k w j apart =
        ap (λ b. if b then w else get_or store (base + j) (pos 0)) (ne_eqb k j apart)

    own : (store : List ℤ) (j : ℕ) → j < len → {old : List ℤ} → Shows form.places old store
        → slice_get store (base + j) ≡ Some (get_or store (base + j) (pos 0))
    own store j below shows =
        slice_get-get_or store (base + j) (pos 0)
        (subst (λ n. base + j < n) (sym (shows.long ∙ sym (places_long cells form fitted)))
        (slice_get_within own_types (base + j) (type_of value) (are_cells j below)))

    in_range : (store : List ℤ) (k : ℕ) (w : ℤ) → IsInRange (type_of (renamed at.places value)) w
        → AreValues own_types store → (j : ℕ) → j < len
        → IsInRange (type_of (renamed at.places value)) (chosen store k w j)
    in_range store k w within fit j below =
        elim (same_or k j) [
          | inl is ↦ subst (λ i. IsInRange (type_of (renamed at.places value)) (chosen store k w i))
              is
              (subst (IsInRange (type_of (renamed at.places value))) (sym (chosen_here store k w))
              within)
          | inr apart ↦ subst (IsInRange (type_of (renamed at.places value)))
              (sym (chosen_other store k w j apart))
              (range_at own_types store fit (base + j) (type_of (renamed at.places value))
              (get_or store (base + j) (pos 0)) (are_cells j below ∙ ap Some (sym same_type))
              (slice_get-get_or store (base + j) (pos 0)
              (subst (λ n. base + j < n) (sym (AllZip-long IsInRange own_types store fit))
              (slice_get_within own_types (base + j) (type_of value) (are_cells j below)))))
        ]

    pub array_cells : BlockStep cells form fitted base len index value at are cells_from read
        block_draft
    array_cells = record {
      fine = has.fine;
      stand = stand_front (all_cells form.query at.draft) (all_cells form.query block_draft)
          at.places
          longer are.settled.replaces.stand;
      cells_are = has.types;
      fits = scalar_fits (all_cells form.query block_draft) u index_cell
          (get_in_front (all_cells form.query begun) (all_cells form.query block_draft) index_cell
          has.longer (slice_get_within (all_cells form.query begun) index_cell u ready.index)
          ∙ ready.index);
      back = array_back;
      forth = array_forth;
    }
      where
        least : (n : ℕ) → n ≤ n
        least n = omega arith

        array_back : (values : List ℤ) → IsModel (behind form.query block_draft) values
            → (old : List ℤ) × Front old values × IsModel form.query old
            × ((store : List ℤ) → Shows form.places old store
            → Shows at.places values store
            × ((k : ℕ) → value_of read values ≡ Some (pos k) → k < len
            → (value_of index store ≡ Some (pos k))
            × ((j : ℕ) → j < len → j ≢ k
            → slice_get values (cells_from + j) ≡ slice_get store (base + j))))
        array_back values is =
            let q = form.query in
            let t = type_of (renamed at.places value) in
            let mid = block_back q at.places base len t u index_cell few begun ready len (least len)
            values is in
            let first = named_back q at.draft (renamed at.places index) settled_fine index_fits
            mid.0
            mid.2 in
            let found = are.settled.replaces.back first.0 first.3 in
            let front : Front first.0 mid.0 = (first.1 ∷ [], first.2) in
            let whole = front_of_front first.0 mid.0 values front mid.1 in (
              found.0,
              front_of_front found.0 first.0 values found.1 whole,
              before_is cells form fitted found.0 found.2,
              λ store shows.
                  let settled_shows = shows_same found.0 first.0 store form.places at.places found.3
                  shows
                  in (
                    shown_on first.0 values store first.3 whole settled_shows,
                    λ k index_is below.
                        let at_mid : slice_get mid.0 index_cell ≡ Some first.1 =
                        ap (λ l. slice_get l index_cell) first.2
                        ∙ fresh_value q at.draft u settled_fine first.0 first.1 first.3 in
                        let there : slice_get values index_cell ≡ Some first.1 =
                        get_in_front mid.0 values index_cell mid.1
                        (slice_get_within mid.0 index_cell first.1 at_mid) ∙ at_mid in
                        let number : Some first.1 ≡ Some (pos k) =
                        sym there ∙ (sym (a_scalar_is_its_cell.value u index_cell values) ∙
                        index_is) in (
                          sym (renaming_keeps_meanings.value at.places own_types index first.0 store
                              are.reads.0.readable are.long settled_shows) ∙ (first.4 ∙ number),
                          λ j inside apart.
                              let other = mid.3 k (omega (arith, below, few)) (at_mid ∙ number) in
                              elim (other j inside) [
                                | inl kept ↦ kept ∙ (shown_on first.0 mid.0 store first.3 front
                                    settled_shows).at
                                    (base + j) (inside_at j inside)
                                | inr here ↦ absurd (apart (sym here))
                              ],
                        ),
                  ),
            )

        array_forth : (old store : List ℤ) (k : ℕ) (w : ℤ) → IsModel form.query old
            → Shows form.places old store → k < len → value_of index store ≡ Some (pos k)
            → IsInRange (type_of (renamed at.places value)) w
            → (values : List ℤ) × Front old values × IsModel (behind form.query block_draft) values
            × Shows at.places values store × (value_of read values ≡ Some (pos k))
            × (slice_get values (cells_from + k) ≡ Some w)
            × ((j : ℕ) → j < len → j ≢ k
            → slice_get values (cells_from + j) ≡ slice_get store (base + j))
        array_forth old store k w model shows below index_is within =
            let q = form.query in
            let t = type_of (renamed at.places value) in
            let found = are.settled.replaces.forth old (behind_is cells form fitted old model) in
            let settled_shows = shows_same old found.0 store form.places at.places found.3 shows in
            let there : value_of (renamed at.places index) found.0 ≡ Some (pos k) =
            renaming_keeps_meanings.value at.places own_types index found.0 store
            are.reads.0.readable are.long settled_shows ∙ index_is in
            let mid = found.0 ++ pos k ∷ [] in
            let front : Front found.0 mid = (pos k ∷ [], refl) in
            let mid_is = named_forth q at.draft (renamed at.places index) settled_fine index_fits
            found.0 (pos k) found.2 there in
            let at_mid = fresh_value q at.draft u settled_fine found.0 (pos k) found.2 in
            let mid_shows = shown_on found.0 mid store found.2 front settled_shows in
            let fit = store_values old store model shows in
            let made = block_forth q at.places base len t u index_cell few begun ready (chosen store
            k w)
            k mid (omega (arith, below, few)) mid_is at_mid (in_range store k w within fit)
            (λ j inside. (
              get_or store (base + j) (pos 0),
              mid_shows.at (base + j) (inside_at j inside) ∙ own store j inside shows,
              λ apart. sym (chosen_other store k w j apart),
            )) len (least len) in
            let whole = front_of_front found.0 mid made.0 front made.1 in (
              made.0,
              front_of_front old found.0 made.0 found.1 whole,
              made.2,
              shown_on found.0 made.0 store found.2 whole settled_shows,
              a_scalar_is_its_cell.value u index_cell made.0
                  ∙ (get_in_front mid made.0 index_cell made.1
                  (slice_get_within mid index_cell (pos k) at_mid) ∙ at_mid),
              made.3 k below ∙ ap Some (chosen_here store k w),
              λ j inside apart. made.3 j inside
                  ∙ (ap Some (chosen_other store k w j (λ e. apart (sym e)))
                  ∙ sym (own store j inside shows)),
            )
