-- Where any number of calls leave the places of cells, and what they read.
use Rattle.std.proofs.Common.{◌≡◌, ℕ, zero, suc, ◌+◌, ◌<◌, ◌≤◌, ◌++◌, ◌^◌, Bool, false, IsTrue}
use Rattle.std.proofs.Common.{List, [], ◌∷◌, length, Some, slice_get, refl, sym, ap, ◌∙◌, subst}
use Rattle.std.proofs.Common.{arith, ◌⊎◌, inl, inr, append_assoc}
use Rattle.std.specs.List.{AllByRecursion}
use Rattle.std.proofs.lemmas.List.{append-nil, length-map}
use Rattle.std.proofs.lemmas.Option.{slice_get_within}
use Rattle.cpa_ints.specs.declared.integers.IntType.{IntType}
use Rattle.cpa_ints.specs.Integers.{IsInRange}
use Rattle.cpa_expr.specs.declared.tree.Expr.{Expr}
use Rattle.cpa_expr.specs.Cells.{may_read}
use Rattle.cpa_model.specs.declared.program.Cell.{Cell}
use Rattle.cpa_model.specs.declared.automaton.Cfa.{Cfa}
use Rattle.cpa_model.specs.Automata.{IsAutomaton}
use Rattle.cpa_model.specs.Expressions.{types_of}
use Rattle.cpa_query.specs.Queries.{wanted_reads}
use Rattle.cpa_form_renaming.specs.declared.places.Place.{Place}
use Rattle.cpa_form_renaming.specs.Places.{number_at}
use Rattle.cpa_form_renaming.specs.lemmas.Nodes.{or_cases}
use Rattle.cpa_form_rules.specs.Runs.{Added}
use Rattle.cpa_form_rules.specs.Drafts.{next}
use Rattle.cpa_form_rules.specs.Forms.{Form, begun, draft_of, with_added, form_from, form_of}
use Rattle.cpa_form_rules.specs.Forms.{place_now, places_from}
use Rattle.cpa_form_rules.specs.Laws.{IsAddedOf, starts_fit, added_fits}
use Rattle.cpa_form_rules.specs.lemmas.Beginnings.{begun_fitted, places_from_long}
use Rattle.cpa_form_rules.specs.lemmas.Calls.{Fitted, front_long, places_long}
use Rattle.cpa_form_rules.specs.lemmas.CallReads.{call_reads}
use Rattle.cpa_form_rules.specs.lemmas.Copies.{Stand, types_at}
use Rattle.cpa_form_rules.specs.lemmas.Formed.{AddedFits, call_is}
use Rattle.cpa_form_rules.specs.lemmas.Lists.{all_both}
use Rattle.cpa_interpolant_cuts.specs.Touching.{IsGone, SomeAddedReads, SomeAddedTouches}
use Rattle.cpa_interpolant_cuts.specs.lemmas.Moves.{StandBelow, AreOwn, still_own}
use Rattle.cpa_interpolant_cuts.specs.lemmas.Steps.{call_moves}
use Rattle.cpa_interpolant_cuts.specs.lemmas.Inside.{reads_inside}

for_each : {A : Type 0} (P Q : A → Type 0) (xs : List A) → ((x : A) → P x → Q x)
    → AllByRecursion P xs → AllByRecursion Q xs
for_each P Q [] f all = tt
for_each P Q (x ∷ xs) f all = (f x all.0, for_each P Q xs f all.1)

-- a place that is a cell of its type stands before the end
stand_below : (cells : List IntType) (places : List Place) → Stand cells places
    → StandBelow (length cells) places
stand_below cells [] stand c h = absurd (omega (arith, h))
stand_below cells (p ∷ places) stand zero h = slice_get_within cells p.number p.ty stand.0
stand_below cells (p ∷ places) stand (suc c) h =
    stand_below cells places stand.1 c (omega (arith, h))

-- and has the type of the program's cell
stand_types : (cells : List IntType) (places : List Place) (c : ℕ) (t : IntType)
    → Stand cells places → slice_get (types_at places) c ≡ Some t
    → slice_get cells (number_at places c) ≡ Some t
stand_types cells [] c t stand is = absurd (cc)
stand_types cells (p ∷ places) zero t stand is = stand.0 ∙ is
stand_types cells (p ∷ places) (suc c) t stand is = stand_types cells places c t stand.1 is

-- the number of a cell is new, or was the place of a cell that is read
abbrev IsRead : List Cell → List Added → Form → ℕ → Type 0
IsRead cells added form number =
    (length form.query.cells ≤ number)
    ⊎ ((c : ℕ) × (c < length cells) × SomeAddedReads added c × (number ≡ place_now form c))

-- what calls leave of a form
pub record Leaves (cells : List Cell) (added : List Added) (form last : Form) : Type 0 where
  pub fitted : Fitted cells last
  pub long : length form.query.cells ≤ length last.query.cells
  pub own : AreOwn last.places
  pub moves : (c : ℕ) → c < length cells → (place_now last c ≡ place_now form c)
      ⊎ ((length form.query.cells ≤ place_now last c) × SomeAddedTouches added c)
  pub wanted : List (Expr × Bool)
  pub wanted_are : last.query.wanted ≡ form.query.wanted ++ wanted
  pub reads : AllByRecursion (λ (w : Expr × Bool). (number : ℕ) → IsTrue (may_read w.0 number)
      → IsRead cells added form number) wanted

module _ (cells : List Cell) (points : ℕ) (few : length (types_of cells) < 2 ^ 63) where
  inside_places : (form : Form) (fitted : Fitted cells form) (c : ℕ) → c < length cells
      → c < length form.places
  inside_places form fitted c h =
      let types = length-map cells (λ (cell : Cell). cell.ty) in
      let long = places_long cells form fitted in omega (arith, h, types, long)

  next_none : (form : Form) → next (draft_of form) ≡ length form.query.cells
  next_none form = omega arith

  all_leave : (form : Form) (added : List Added) → Fitted cells form → AreOwn form.places
      → AllByRecursion (AddedFits cells points few) added → AllByRecursion IsGone added
      → Leaves cells added form (form_from form added)
  all_leave form [] fitted own fits gone = record {
    fitted = fitted;
    long = omega arith;
    own = own;
    moves = λ c h. inl refl;
    wanted = [];
    wanted_are = sym (append-nil form.query.wanted);
    reads = tt;
  }
  all_leave form (one ∷ later) fitted own fits gone =
      let next_form = with_added one form in
      let none = next_none form in
      let below : StandBelow (next (draft_of form)) form.places =
      subst (λ n. StandBelow n form.places) (sym none)
      (stand_below form.query.cells form.places fitted.stand) in
      let call = call_is cells points few one form fits.0 fitted in
      let here = call_reads cells points few form fitted one fits.0 in
      let step = call_moves form below one gone.0 in
      let more = front_long form.query.cells next_form.query.cells call.longer in
      let rest = all_leave next_form later call.fitted
      (still_own (next (draft_of form)) step.last _ form.places next_form.places below own
      step.moves) fits.1 gone.1 in
      let long = rest.long in
      let last = form_from next_form later in
      let goes : (c : ℕ) → c < length cells → (place_now next_form c ≡ place_now form c)
      ⊎ ((length form.query.cells ≤ place_now next_form c)
      × SomeAddedTouches (one ∷ later) c) =
      λ c h. elim (step.moves.goes c (inside_places form fitted c h)) [
        | inl same ↦ inl same
        | inr new ↦ let from = new.0 in inr (omega (arith, from, none), inl new.2)
      ] in
      record {
        fitted = rest.fitted;
        long = omega (arith, more, long);
        own = rest.own;
        moves = λ c h. elim (rest.moves c h) [
          | inr new ↦ let from = new.0 in inr (omega (arith, from, more), inr new.1)
          | inl same ↦ elim (goes c h) [
            | inl also ↦ inl (same ∙ also)
            | inr new ↦ let from = new.0 in inr (omega (arith, from, same), new.1)
          ]
        ];
        wanted = here.wanted ++ rest.wanted;
        wanted_are = rest.wanted_are ∙ (ap (λ ws. ws ++ rest.wanted) here.wanted_are
            ∙ append_assoc form.query.wanted here.wanted rest.wanted);
        reads = all_both _ here.wanted rest.wanted
            (for_each _ _ here.wanted (λ w all number read. elim (all number read) [
              | inl new ↦ inl new
              | inr at ↦ inr (
                at.0,
                reads_inside cells points few one at.0 gone.0 fits.0 at.1,
                inl at.1,
                at.2,
              )
            ]) here.reads)
            (for_each _ _ rest.wanted (λ w all number read. elim (all number read) [
              | inl new ↦ inl (omega (arith, new, more))
              | inr at ↦ elim (goes at.0 at.1) [
                | inl same ↦ inr (at.0, at.1, inr at.2, at.3 ∙ same)
                | inr new ↦
                    let from = new.0 in
                    let is = at.3 in inl (omega (arith, from, is))
              ]
            ]) rest.reads);
      }

-- ---- from the beginning

begun_number : (n : ℕ) (cells : List Cell) (c : ℕ) → c < length cells
    → number_at (places_from n cells) c ≡ n + c
begun_number n [] c below = absurd (omega (arith, below))
begun_number n (cell ∷ cells) zero below = here n
  where
    here : (n : ℕ) → n ≡ n + 0
    here n = omega arith
begun_number n (cell ∷ cells) (suc c) below =
    begun_number (suc n) cells c (omega (arith, below)) ∙ later n c
  where
    later : (n c : ℕ) → suc n + c ≡ n + suc c
    later n c = omega arith

some_reads : (P : ℕ → Type 0) (cell : ℕ) (wanted : List (Expr × Bool))
    → AllByRecursion (λ (w : Expr × Bool). (number : ℕ) → IsTrue (may_read w.0 number) → P number)
    wanted → IsTrue (wanted_reads wanted cell) → P cell
some_reads P cell [] all h = absurd (cc)
some_reads P cell (w ∷ wanted) all h =
    or_cases (may_read w.0 cell) (wanted_reads wanted cell) h (all.0 cell)
    (some_reads P cell wanted all.1)

-- what is said of the places
pub record Placement (cells : List Cell) (added : List Added) (form : Form) : Type 0 where
  pub ty : (cell : ℕ) (t : IntType) → slice_get (types_of cells) cell ≡ Some t
      → slice_get form.query.cells (place_now form cell) ≡ Some t
  pub apart : (c d : ℕ) → c < length cells → d < length cells
      → place_now form c ≡ place_now form d → c ≡ d
  pub moves : (cell : ℕ) → cell < length cells
      → (place_now form cell ≡ cell)
      ⊎ ((length cells ≤ place_now form cell) × SomeAddedTouches added cell)
  pub reads : (cell : ℕ) → cell < length cells → IsTrue (wanted_reads form.query.wanted cell)
      → SomeAddedReads added cell

pub placed : (cfa : Cfa) (added : List Added) → IsAutomaton cfa
    → AllByRecursion (IsAddedOf cfa) added → AllByRecursion IsGone added
    → Placement cfa.cells added (form_of cfa.cells false added)
placed cfa added is are gone =
    let cells = cfa.cells in
    let same = is.automaton.cells in
    let few_cells = is.well_formed.few_cells in
    let long = length-map cells (λ (c : Cell). c.ty) in
    let count = ap length same in
    let few : length (types_of cells) < 2 ^ 63 = omega (arith, few_cells, long, count) in
    let starts = starts_fit cells (subst (AllByRecursion (λ (c : Cell). IsInRange c.ty c.start))
    (sym same) is.well_formed.starts) in
    let begin = begun cells false in
    let at : (c : ℕ) → c < length cells → place_now begin c ≡ c =
    λ c h. begun_number 0 cells c h ∙ first c in
    let many = places_from_long 0 cells in
    let own : AreOwn begin.places =
    λ c d h k e. sym (at c (omega (arith, h, many))) ∙ (e ∙ at d (omega (arith, k, many))) in
    let all = all_leave cells cfa.points few begin added (begun_fitted cells starts false) own
    (added_fits cfa few added are) gone in
    let form = form_of cells false added in
    record {
      ty = λ cell t h.
          stand_types form.query.cells form.places cell t all.fitted.stand
          (ap (λ ts. slice_get ts cell) all.fitted.types ∙ h);
      apart = λ c d h k e.
          all.own c d (inside_places cells cfa.points few form all.fitted c h)
          (inside_places cells cfa.points few form all.fitted d k) e;
      moves = λ cell h. elim (all.moves cell h) [
        | inl stays ↦ inl (stays ∙ at cell h)
        | inr new ↦ let from = new.0 in inr (omega (arith, from, long), new.1)
      ];
      reads = λ cell h read.
          elim (some_reads (IsRead cells added begin) cell all.wanted all.reads
          (subst (λ ws. IsTrue (wanted_reads ws cell)) all.wanted_are read)) [
            | inl new ↦ absurd (omega (arith, new, h, long))
            | inr (c, inside, touched, is) ↦
                subst (SomeAddedReads added) (sym (is ∙ at c inside)) touched
          ];
    }
  where
    first : (c : ℕ) → 0 + c ≡ c
    first c = omega arith
