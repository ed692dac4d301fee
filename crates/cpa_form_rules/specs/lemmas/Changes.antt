-- What an input and a write do to the models.
use Rattle.std.proofs.Common.{◌≡◌, ◌≢◌, ℕ, zero, suc, ◌+◌, ◌<◌, ◌≤◌, ℤ, pos, true, List, [], ◌∷◌}
use Rattle.std.proofs.Common.{◌++◌, map, length, Some, slice_get, refl, sym, ap, ◌∙◌, subst, arith}
use Rattle.std.proofs.Common.{get_or}
use Rattle.std.specs.Prelude.{IfSome, slice_set}
use Rattle.std.specs.List.{AllByRecursion}
use Rattle.std.proofs.Math.Nat.{max-le}
use Rattle.std.proofs.lemmas.Option.{slice_get_within, slice_get-get_or}
use Rattle.cpa_ints.specs.declared.integers.IntType.{IntType}
use Rattle.cpa_ints.specs.Integers.{IsInRange}
use Rattle.cpa_expr.specs.declared.tree.CmpOp.TheVariants as cmp
use Rattle.cpa_expr.specs.declared.tree.Expr.{Expr}
use Rattle.cpa_expr.specs.declared.tree.Expr.TheVariants.{Read}
use Rattle.cpa_expr.specs.Shape.{type_of, height, AreCells}
use Rattle.cpa_expr.specs.Values.{value_of, HasTruth}
use Rattle.cpa_expr.specs.Cells.{AreValues}
use Rattle.cpa_expr.specs.Laws.{typed_at_variants, height_at_variants, type_at_variants}
use Rattle.cpa_expr.specs.Laws.{values_lie_in_range}
use Rattle.cpa_model.specs.declared.program.Cell.{Cell}
use Rattle.cpa_model.specs.Expressions.{types_of}
use Rattle.cpa_query.specs.Queries.{IsAsked, IsModel}
use Rattle.cpa_form_renaming.specs.declared.places.Place.{Place}
use Rattle.cpa_form_renaming.specs.Places.{Shows}
use Rattle.cpa_form_renaming.specs.Renaming.{renamed}
use Rattle.cpa_form_renaming.specs.Laws.{renaming_keeps_meanings}
use Rattle.cpa_form_rules.specs.declared.drafts.Draft.{Draft}
use Rattle.cpa_form_rules.specs.Drafts.{next, behind, fresh, want, Placed, placed, place_at}
use Rattle.cpa_form_rules.specs.Drafts.{written, moved}
use Rattle.cpa_form_rules.specs.Tests.{type_at}
use Rattle.cpa_form_rules.specs.Forms.{Form, draft_of, joined, with_input, or_zero, value_in}
use Rattle.cpa_form_rules.specs.Forms.{inputs_at}
use Rattle.cpa_form_rules.specs.lemmas.Heights.{inner_height}
use Rattle.cpa_form_rules.specs.lemmas.Lists.{Front, all_both}
use Rattle.cpa_form_rules.specs.lemmas.Models.{Fine, all_cells, model_long, Fits, fine_want}
use Rattle.cpa_form_rules.specs.lemmas.Models.{want_back, want_forth, fine_fresh, fresh_back}
use Rattle.cpa_form_rules.specs.lemmas.Models.{fresh_forth, fresh_value, fresh_type, cells_more}
use Rattle.cpa_form_rules.specs.lemmas.Models.{equal_back, equal_forth}
use Rattle.cpa_form_rules.specs.lemmas.Copies.{Stand, stand_front, types_at, shows_same}
use Rattle.cpa_form_rules.specs.lemmas.Copies.{same_front}
use Rattle.cpa_form_rules.specs.lemmas.Copies.{shows_types}
use Rattle.cpa_form_rules.specs.lemmas.Failures.{shown_values}
use Rattle.cpa_form_rules.specs.lemmas.Wants.{Reads, reads_fit}
use Rattle.cpa_form_rules.specs.lemmas.Places.{shows_set, stand_set, types_set, shows_moved}
use Rattle.cpa_form_rules.specs.lemmas.Places.{stand_moved, types_moved, patched_is}
use Rattle.cpa_form_rules.specs.lemmas.Writes.{read_back, read_forth}
use Rattle.cpa_form_rules.specs.lemmas.Calls.{Fitted, fitted_joined, inputs_stay, fine_none}
use Rattle.cpa_form_rules.specs.lemmas.Calls.{stand_none, before_is, behind_is, Settles}

-- ---- an input

pub type_there : (places : List Place) (cell : ℕ) → cell < length places
    → slice_get (types_at places) cell ≡ Some (type_at places cell)
type_there [] cell h = absurd (omega (arith, h))
type_there (p ∷ places) zero h = refl
type_there (p ∷ places) (suc cell) h = type_there places cell (omega (arith, h))

map_last : (f : ℕ → ℤ) (ns : List ℕ) (n : ℕ) → map f (ns ++ n ∷ []) ≡ map f ns ++ f n ∷ []
map_last f [] n = refl
map_last f (m ∷ ns) n = ap (λ vs. f m ∷ vs) (map_last f ns n)

module _ (cells : List Cell) (form : Form) (fitted : Fitted cells form) where
  pub record InputStep (cell : ℕ) (after : Form) : Type 0 where
    pub keeps : Fitted cells after
    pub longer : Front form.query.cells after.query.cells
    pub back : (values : List ℤ) → IsModel after.query values
        → (old : List ℤ) × Front old values × IsModel form.query old
        × ((store : List ℤ) → Shows form.places old store
        → (v : ℤ) × IsInRange (type_at form.places cell) v
        × Shows after.places values (slice_set store cell v)
        × (inputs_at after values ≡ inputs_at form old ++ v ∷ []))
    pub forth : (old store : List ℤ) (v : ℤ) → IsModel form.query old → Shows form.places old store
        → IsInRange (type_at form.places cell) v
        → (values : List ℤ) × Front old values × IsModel after.query values
        × Shows after.places values (slice_set store cell v)
        × (inputs_at after values ≡ inputs_at form old ++ v ∷ [])

  module _ (cell : ℕ) (inside : cell < length form.places) where
    abbrev t : IntType
    t = type_at form.places cell

    abbrev none : Draft
    none = draft_of form

    abbrev n : ℕ
    n = next none

    abbrev at : Placed
    at = placed (fresh t none) (slice_set form.places cell (place_at n t))

    fine : Fine form.query none
    fine = fine_none cells form fitted

    stand_after : Stand (all_cells form.query (fresh t none)) at.places
    stand_after =
        stand_set (all_cells form.query (fresh t none)) form.places cell n t
        (stand_front (all_cells form.query none) (all_cells form.query (fresh t none)) form.places
        (t ∷ [], cells_more form.query none t fine) (stand_none cells form fitted))
        (fresh_type form.query none t fine)

    -- the store and the inputs behind the new value
    shown : (old : List ℤ) (v : ℤ) (store : List ℤ) → IsModel (behind form.query none) old
        → Shows form.places old store
        → Shows at.places (old ++ v ∷ []) (slice_set store cell v)
        × (map (value_in (old ++ v ∷ [])) (form.inputs ++ n ∷ [])
        ≡ map (value_in old) form.inputs ++ v ∷ [])
    shown old v store is shows =
        let values = old ++ v ∷ [] in
        let front : Front old values = (v ∷ [], refl) in
        let long = model_long form.query old (before_is cells form fitted old is) in (
          shows_set form.places values store cell n t v
              (shows_same old values store form.places form.places
              (same_front (all_cells form.query none) form.places old values
              (stand_none cells form fitted) (model_long (behind form.query none) old is) front)
              shows)
              (fresh_value form.query none t fine old v is),
          map_last (value_in values) form.inputs n
              ∙ (ap (λ vs. vs ++ value_in values n ∷ [])
              (inputs_stay form.inputs old values
              (subst (λ k. AllByRecursion (λ m. m < k) form.inputs) (sym long) fitted.inputs) front)
              ∙ ap (λ w. map (value_in old) form.inputs ++ w ∷ [])
              (ap or_zero (fresh_value form.query none t fine old v is))),
        )

    pub input_step : InputStep cell (with_input cell form)
    input_step =
        let whole = fitted_joined cells form fitted at (fine_fresh form.query none t fine)
        stand_after
        (types_set form.places cell n t (type_there form.places cell inside)) in
        record {
          keeps = record {
            asked = whole.asked;
            stand = whole.stand;
            types = whole.types;
            many = whole.many;
            inputs = all_both (λ k. k < length (all_cells form.query (fresh t none))) form.inputs
                (n ∷ []) whole.inputs (
                  slice_get_within (all_cells form.query (fresh t none)) n t
                      (fresh_type form.query none t fine),
                  tt,
                );
          };
          longer = (t ∷ [], refl);
          back = λ values is.
              let last = fresh_back form.query none t fine values is in (
                last.0,
                (last.1 ∷ [], last.2),
                before_is cells form fitted last.0 last.3,
                λ store shows.
                    let both = shown last.0 last.1 store last.3 shows in (
                      last.1,
                      last.4,
                      subst (λ vs. Shows at.places vs (slice_set store cell last.1)) (sym last.2)
                          both.0,
                      subst (λ vs. map (value_in vs) (form.inputs ++ n ∷ [])
                          ≡ map (value_in last.0) form.inputs ++ last.1 ∷ []) (sym last.2) both.1,
                    ),
              );
          forth = λ old store v model shows within.
              let is = behind_is cells form fitted old model in
              let both = shown old v store is shows in (
                old ++ v ∷ [],
                (v ∷ [], refl),
                fresh_forth form.query none t fine old v is within,
                both.0,
                both.1,
              );
        }

-- ---- a write

-- the expression that says what was written may be asked
written_asked : (cells : List IntType) (first len : ℕ) (index value : Expr) → 1 ≤ len
    → AreCells cells first len (type_of value) → Fits cells index → Fits cells value
    → IsAsked cells (written first len index value)
written_asked cells first len index value some are fit also =
    let t = type_of value in
    let read = Read t first len index in
    record {
      typed = (typed_at_variants.comparison cells cmp.Eq t read value).1 (
        type_at_variants.read t first len index,
        refl,
        (typed_at_variants.read cells t first len index).1 (some, are, fit.typed),
        also.typed,
      );
      height =
          let high = height_at_variants.read t first len index in
          let low = fit.height in
          let read_low : height read ≤ inner_height + 1 = omega (arith, high, low) in
          let value_low : height value ≤ inner_height + 1 =
          let l = also.height in omega (arith, l) in
          let whole = height_at_variants.comparison cmp.Eq t read value in
          let most = max-le read_low value_low in omega (arith, whole, most);
    }

-- what was written, read off a model
written_back : (first len : ℕ) (index value : Expr) (values : List ℤ)
    → HasTruth values (written first len index value) true
    → (k : ℕ) × (v : ℤ) × (k < len) × (value_of index values ≡ Some (pos k))
    × (value_of value values ≡ Some v) × (slice_get values (first + k) ≡ Some v)
written_back first len index value values h =
    let t = type_of value in
    let both = equal_back t (Read t first len index) value values h in
    let read = read_back t first len index values both.0 both.1 in
    (read.0, both.0, read.1, read.2, both.2, read.3)

written_forth : (first len : ℕ) (index value : Expr) (values : List ℤ) (k : ℕ) (v : ℤ) → k < len
    → value_of index values ≡ Some (pos k) → value_of value values ≡ Some v
    → slice_get values (first + k) ≡ Some v → HasTruth values (written first len index value) true
written_forth first len index value values k v below index_is value_is is =
    let t = type_of value in
    equal_forth t (Read t first len index) value values v
    (read_forth t first len index values k v below index_is is) value_is

-- A write from settled places: what it does to the models behind the settled draft.
module _ (cells : List Cell) (form : Form) (fitted : Fitted cells form) where
  abbrev own_types : List IntType
  own_types = types_of cells

  pub record WriteStep (base len : ℕ) (index value : Expr) (after : Form) : Type 0 where
    pub keeps : Fitted cells after
    pub longer : Front form.query.cells after.query.cells
    pub back : (values : List ℤ) → IsModel after.query values
        → (old : List ℤ) × Front old values × IsModel form.query old
        × ((store : List ℤ) → Shows form.places old store
        → (k : ℕ) × (v : ℤ) × (k < len) × (value_of index store ≡ Some (pos k))
        × (value_of value store ≡ Some v)
        × Shows after.places values (slice_set store (base + k) v))
    pub forth : (old store : List ℤ) (k : ℕ) (v : ℤ) → IsModel form.query old
        → Shows form.places old store → k < len → value_of index store ≡ Some (pos k)
        → value_of value store ≡ Some v
        → (values : List ℤ) × Front old values × IsModel after.query values
        × Shows after.places values (slice_set store (base + k) v)

  module _ (base len : ℕ) (index value : Expr) (at : Placed)
      (are : Settles cells form fitted ((index, true) ∷ (value, true) ∷ []) at) where
    abbrev pub value_there : Expr
    value_there = renamed at.places value

    abbrev pub ty_there : IntType
    ty_there = type_of value_there

    -- the new cells of an array keep the values of the old ones but at k
    abbrev pub OthersKept : List ℤ → List ℤ → ℕ → ℕ → Type 0
    OthersKept values store first k =
        (j : ℕ) → j < len → j ≢ k → slice_get values (first + j) ≡ slice_get store (base + j)

    -- new cells of an array, of which the one that the index names may have any value
    pub record BlockStep (first : ℕ) (e : Expr) (d : Draft) : Type 0 where
      pub fine : Fine form.query d
      pub stand : Stand (all_cells form.query d) at.places
      pub cells_are : AreCells (all_cells form.query d) first len ty_there
      pub fits : Fits (all_cells form.query d) e
      pub back : (values : List ℤ) → IsModel (behind form.query d) values
          → (old : List ℤ) × Front old values × IsModel form.query old
          × ((store : List ℤ) → Shows form.places old store
          → Shows at.places values store
          × ((k : ℕ) → value_of e values ≡ Some (pos k) → k < len
          → (value_of index store ≡ Some (pos k)) × OthersKept values store first k))
      pub forth : (old store : List ℤ) (k : ℕ) (w : ℤ) → IsModel form.query old
          → Shows form.places old store → k < len → value_of index store ≡ Some (pos k)
          → IsInRange ty_there w
          → (values : List ℤ) × Front old values × IsModel (behind form.query d) values
          × Shows at.places values store × (value_of e values ≡ Some (pos k))
          × (slice_get values (first + k) ≡ Some w) × OthersKept values store first k

    -- the places of the new cells show the store that is set
    block_shows : (values store : List ℤ) (first k : ℕ) (v : ℤ) (cs : List IntType)
        → AreCells cs first len ty_there → length values ≡ length cs → k < len
        → Shows at.places values store → slice_get values (first + k) ≡ Some v
        → OthersKept values store first k
        → Shows (moved base first ty_there len at.places) values (slice_set store (base + k) v)
    block_shows values store first k v cs cells_are long below shows here others =
        subst (Shows (moved base first ty_there len at.places) values)
        (patched_is f base len store k below (λ j inside apart. sym (others j inside apart)
        ∙ each j inside) len below (same_size len)
        ∙ ap (slice_set store (base + k)) (got (f k) v (sym (each k below) ∙ here)))
        (shows_moved at.places values store base first ty_there f len shows each)
      where
        f : ℕ → ℤ
        f j = get_or values (first + j) (pos 0)

        each : (j : ℕ) → j < len → slice_get values (first + j) ≡ Some (f j)
        each j inside =
            slice_get-get_or values (first + j) (pos 0)
            (subst (λ n. first + j < n) (sym long)
            (slice_get_within cs (first + j) ty_there (cells_are j inside)))

        got : (a b : ℤ) → Some a ≡ Some b → a ≡ b
        got a b e = cc

        same_size : (n : ℕ) → n ≤ n
        same_size n = omega arith

    pub value_reads : Reads at.places own_types value
    value_reads = are.reads.1.0

    pub index_reads : Reads at.places own_types index
    index_reads = are.reads.0

    pub shows_in : (cs : List IntType) → Stand cs at.places → Shows at.places cs own_types
    shows_in cs stand =
        subst (Shows at.places cs) are.types_are (shows_types cs at.places stand)

    abbrev written_draft : ℕ → Expr → Draft → Draft
    written_draft first e d = want (written first len e value_there) true d

    -- a write is such cells, and that the array has the value at the index
    pub write_of_block : (first : ℕ) (e : Expr) (d : Draft) → 1 ≤ len
        → AreCells own_types base len (type_of value) → BlockStep first e d
        → WriteStep base len index value
        (joined form (placed (written_draft first e d) (moved base first ty_there len at.places)))
    write_of_block first e d some are_cells block =
        let q = form.query in
        let cs = all_cells q d in
        let same = renaming_keeps_meanings.same_type at.places value in
        let fit = reads_fit at.places cs own_types value value_reads (shows_in cs block.stand) in
        record {
          keeps = fitted_joined cells form fitted
              (placed (written_draft first e d) (moved base first ty_there len at.places))
              (fine_want q d (written first len e value_there) true block.fine
              (written_asked cs first len e value_there some block.cells_are block.fits fit))
              (stand_moved cs at.places base first ty_there len block.stand block.cells_are)
              (types_moved at.places base first ty_there len (λ j inside.
              ap (λ ts. slice_get ts (base + j)) are.types_are
              ∙ (are_cells j inside ∙ ap Some (sym same)))
              ∙ are.settled.replaces.types);
          longer = (d.cells, refl);
          back = λ values is.
              let both = want_back q d (written first len e value_there) true values is in
              let found = block.back values both.0 in
              let what = written_back first len e value_there values both.1 in (
                found.0,
                found.1,
                found.2,
                λ store shows.
                    let here = found.3 store shows in
                    let rest = here.1 what.0 what.3 what.2 in (
                      what.0,
                      what.1,
                      what.2,
                      rest.0,
                      sym (renaming_keeps_meanings.value at.places own_types value values store
                          value_reads.readable are.long here.0) ∙ what.4,
                      block_shows values store first what.0 what.1 cs block.cells_are
                          (model_long (behind q d) values both.0) what.2 here.0 what.5 rest.1,
                    ),
              );
          forth = λ old store k v model shows below index_is value_is.
              let typed = value_reads.readable.typed in
              let fits_store = store_values old store model shows in
              let within = subst (λ o. IfSome o (IsInRange (type_of value))) value_is
              (values_lie_in_range own_types value store typed fits_store) in
              let made = block.forth old store k v model shows below index_is
              (subst (λ u. IsInRange u v) (sym same) within) in (
                made.0,
                made.1,
                want_forth q d (written first len e value_there) true made.0 made.2
                    (written_forth first len e value_there made.0 k v below made.4
                    (renaming_keeps_meanings.value at.places own_types value made.0 store
                    value_reads.readable are.long made.3 ∙ value_is) made.5),
                block_shows made.0 store first k v cs block.cells_are
                    (model_long (behind q d) made.0 made.2) below made.3 made.5 made.6,
              );
        }
      where
        store_values : (old store : List ℤ) → IsModel form.query old → Shows form.places old store
            → AreValues own_types store
        store_values old store is shows =
            subst (λ ts. AreValues ts store) fitted.types
            (shown_values form.query.cells old form.places store is.values_are fitted.stand shows)
