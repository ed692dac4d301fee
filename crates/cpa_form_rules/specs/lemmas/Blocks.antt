-- The new cells of an array that is written: each keeps the old value, or is the one at the index.
use Rattle.std.proofs.Common.{◌≡◌, ◌≢◌, ℕ, zero, suc, ◌+◌, ◌<◌, ◌≤◌, ◌^◌, ◌==◌, ℤ, pos, Bool, true}
use Rattle.std.proofs.Common.{false, List, [], ◌∷◌, ◌++◌, length, Some, slice_get, refl, sym, ap}
use Rattle.std.proofs.Common.{◌∙◌, subst, arith, ◌⊎◌, inl, inr}
use Rattle.std.proofs.Math.Nat.{max-le}
use Rattle.std.proofs.lemmas.Int.{ints}
use Rattle.std.proofs.lemmas.Bool.{eqb-true, eq-eqb}
use Rattle.std.proofs.lemmas.List.{length-append}
use Rattle.std.proofs.lemmas.Option.{slice_get_within}
use Rattle.cpa_ints.specs.declared.integers.IntType.{IntType}
use Rattle.cpa_ints.specs.declared.integers.IntType.TheVariants as ty
use Rattle.cpa_ints.specs.Integers.{IsInRange}
use Rattle.cpa_expr.specs.declared.tree.CmpOp.TheVariants as cmp
use Rattle.cpa_expr.specs.declared.tree.Expr.{Expr}
use Rattle.cpa_expr.specs.declared.tree.Expr.TheVariants.{Const, Cmp, Cast}
use Rattle.cpa_expr.specs.declared.shape.TheConstants.{MAX_HEIGHT}
use Rattle.cpa_expr.specs.Shape.{height, IsTyped}
use Rattle.cpa_expr.specs.Values.{value_of, HasTruth}
use Rattle.cpa_expr.specs.Cells.{scalar_read}
use Rattle.cpa_expr.specs.Laws.{typed_at_variants, height_at_variants, type_at_variants}
use Rattle.cpa_expr.specs.Laws.{a_scalar_is_its_cell}
use Rattle.cpa_query.specs.declared.query.Query.{Query}
use Rattle.cpa_query.specs.Queries.{IsAsked, IsModel}
use Rattle.cpa_form_renaming.specs.declared.places.Place.{Place}
use Rattle.cpa_form_renaming.specs.Places.{number_at}
use Rattle.cpa_form_rules.specs.declared.drafts.Draft.{Draft}
use Rattle.cpa_form_rules.specs.Drafts.{next, behind, fresh, kept_unless, block}
use Rattle.cpa_form_rules.specs.lemmas.Lists.{Front, front_itself, front_of_front}
use Rattle.cpa_form_rules.specs.lemmas.Models.{Fine, all_cells, model_long, fine_want}
use Rattle.cpa_form_rules.specs.lemmas.Models.{want_back, want_forth, fine_fresh, fresh_back}
use Rattle.cpa_form_rules.specs.lemmas.Models.{fresh_forth, fresh_value, fresh_type, cells_more}
use Rattle.cpa_form_rules.specs.lemmas.Models.{scalar_height}
use Rattle.cpa_form_rules.specs.lemmas.Copies.{get_in_front}
use Rattle.cpa_form_rules.specs.lemmas.Places.{same_or}
use Rattle.cpa_form_rules.specs.lemmas.Writes.{kept_back, kept_same, kept_here}

-- ---- the condition that a new cell meets

scalar_typed : (cells : List IntType) (t : IntType) (cell : ℕ) → slice_get cells cell ≡ Some t
    → IsTyped cells (scalar_read t cell)
scalar_typed cells t cell at = ((a_scalar_is_its_cell.expr cells t cell).1 at).typed

kept_asked : (cells : List IntType) (t u : IntType) (new old at i : ℕ) → i < 2 ^ 63
    → slice_get cells new ≡ Some t → slice_get cells old ≡ Some t → slice_get cells at ≡ Some u
    → IsAsked cells (kept_unless t new old (scalar_read u at) i)
kept_asked cells t u new old at i small new_is old_is at_is =
    let a = Cmp cmp.Eq t (scalar_read t new) (scalar_read t old) in
    let read = scalar_read u at in
    let b = Cmp cmp.Eq ty.I64 (Cast ty.I64 read) (Const ty.I64 (pos i)) in
    record {
      typed = (typed_at_variants.disjunction cells a b).1 (
        (typed_at_variants.comparison cells cmp.Eq t (scalar_read t new) (scalar_read t old)).1 (
          a_scalar_is_its_cell.ty t new,
          a_scalar_is_its_cell.ty t old,
          scalar_typed cells t new new_is,
          scalar_typed cells t old old_is,
        ),
        (typed_at_variants.comparison cells cmp.Eq ty.I64 (Cast ty.I64 read)
            (Const ty.I64 (pos i))).1 (
              type_at_variants.cast ty.I64 read,
              type_at_variants.constant ty.I64 (pos i),
              (typed_at_variants.cast cells ty.I64 read).1 (scalar_typed cells u at at_is),
              (typed_at_variants.constant cells ty.I64 (pos i)).1 (
                omega (arith, ints),
                omega (arith, ints, small),
              ),
            ),
      );
      height =
          let first = height_at_variants.comparison cmp.Eq t (scalar_read t new) (scalar_read t old)
          in
          let most = max-le (scalar_height t new) (scalar_height t old) in
          let low : height a ≤ MAX_HEIGHT + 1 = omega (arith, first, most) in
          let cast = height_at_variants.cast ty.I64 read in
          let read_low = scalar_height u at in
          let cast_low : height (Cast ty.I64 read) ≤ MAX_HEIGHT + 1 =
          omega (arith, cast, read_low) in
          let constant = height_at_variants.constant ty.I64 (pos i) in
          let constant_low : height (Const ty.I64 (pos i)) ≤ MAX_HEIGHT + 1 =
          omega (arith, constant) in
          let second = height_at_variants.comparison cmp.Eq ty.I64 (Cast ty.I64 read)
          (Const ty.I64 (pos i)) in
          let second_most = max-le cast_low constant_low in
          let also : height b ≤ MAX_HEIGHT + 2 = omega (arith, second, second_most) in
          let whole = height_at_variants.disjunction a b in
          let here : height a ≤ MAX_HEIGHT + 2 = omega (arith, low) in
          let both = max-le here also in omega (arith, whole, both);
    }

module _ (q : Query) (places : List Place) (base len : ℕ) (t u : IntType) (at : ℕ)
    (few : len < 2 ^ 63) where
  abbrev read : Expr
  read = scalar_read u at

  abbrev blocks : ℕ → Draft → Draft
  blocks i d = block places base t read i d

  abbrev old_at : ℕ → ℕ
  old_at i = number_at places (base + i)

  -- where an array may be written: its old cells and the index's cell are there
  pub record IsReady (d : Draft) : Type 0 where
    pub fine : Fine q d
    pub index : slice_get (all_cells q d) at ≡ Some u
    pub olds : (i : ℕ) → i < len → slice_get (all_cells q d) (old_at i) ≡ Some t

  -- the draft with the first cells of the block
  pub record HasBlock (d : Draft) (i : ℕ) : Type 0 where
    pub fine : Fine q (blocks i d)
    pub longer : Front (all_cells q d) (all_cells q (blocks i d))
    pub next_is : next (blocks i d) ≡ next d + i
    pub types : (j : ℕ) → j < i → slice_get (all_cells q (blocks i d)) (next d + j) ≡ Some t

  one_more : {A : Type 0} (xs : List A) (x : A) (n : ℕ) → n + length (xs ++ x ∷ []) ≡ (n + length
      xs) + 1
  one_more xs x n = let is = length-append xs (x ∷ []) in omega (arith, is)

  add_zero : (n : ℕ) → n ≡ n + 0
  add_zero n = omega arith

  last_or : (j i : ℕ) → j < suc i → (j ≡ i) ⊎ (j < i)
  last_or j i below = by (j == i) refl
    where
      by : (b : Bool) → (j == i) ≡ b → (j ≡ i) ⊎ (j < i)
      by true e = inl (eqb-true j i e)
      by false e =
          let apart : (j ≡ i) → ⊥ = λ is. let same = eq-eqb j i is in absurd (cc) in
          inr (grind (arith, below, apart))

  module _ (d : Draft) (ready : IsReady d) where
    here_asked : (i : ℕ) → i < len → HasBlock d i
        → IsAsked (all_cells q (fresh t (blocks i d)))
        (kept_unless t (next (blocks i d)) (old_at i) read i)
    here_asked i below has =
        let b = blocks i d in
        let cells = all_cells q (fresh t b) in
        let front = front_of_front (all_cells q d) (all_cells q b) cells has.longer
        (t ∷ [], cells_more q b t has.fine) in
        kept_asked cells t u (next b) (old_at i) at i (omega (arith, below, few))
        (fresh_type q b t has.fine)
        (get_in_front (all_cells q d) cells (old_at i) front
        (slice_get_within (all_cells q d) (old_at i) t (ready.olds i below)) ∙ ready.olds i below)
        (get_in_front (all_cells q d) cells at front
        (slice_get_within (all_cells q d) at u ready.index) ∙ ready.index)

    pub has_block : (i : ℕ) → i ≤ len → HasBlock d i
    has_block zero most = record {
      fine = ready.fine;
      longer = front_itself (all_cells q d);
      next_is = add_zero (next d);
      types = λ j below. absurd (omega (arith, below));
    }
    has_block (suc i) most =
        let has = has_block i (omega (arith, most)) in
        let b = blocks i d in
        let more : Front (all_cells q b) (all_cells q (fresh t b)) =
        (t ∷ [], cells_more q b t has.fine) in
        record {
          fine = fine_want q (fresh t b) (kept_unless t (next b) (old_at i) read i) true
              (fine_fresh q b t has.fine) (here_asked i (omega (arith, most)) has);
          longer = front_of_front (all_cells q d) (all_cells q b) (all_cells q (fresh t b))
              has.longer more;
          next_is = one_more b.cells t b.first ∙ (ap (λ n. n + 1) has.next_is ∙ plus (next d) i);
          types = λ j below. elim (last_or j i below) [
            | inl is ↦ ap (slice_get (all_cells q (fresh t b)))
                (ap (λ n. next d + n) is ∙ sym has.next_is) ∙ fresh_type q b t has.fine
            | inr less ↦ get_in_front (all_cells q b) (all_cells q (fresh t b)) (next d + j) more
                (slice_get_within (all_cells q b) (next d + j) t (has.types j less))
                ∙ has.types j less
          ];
        }
      where
        plus : (n i : ℕ) → (n + i) + 1 ≡ n + suc i
        plus n i = omega arith

    -- the new cells keep the values of the old ones, but at the index
    pub block_back : (i : ℕ) → i ≤ len → (values : List ℤ) → IsModel (behind q (blocks i d)) values
        → (mid : List ℤ) × Front mid values × IsModel (behind q d) mid
        × ((k : ℕ) → k < 2 ^ 63 → slice_get mid at ≡ Some (pos k) → (j : ℕ) → j < i
        → (slice_get values (next d + j) ≡ slice_get mid (old_at j)) ⊎ (k ≡ j))
    block_back zero most values is =
        (values, front_itself values, is, λ k small index j below. absurd (omega (arith, below)))
    block_back (suc i) most values is =
        let has = has_block i (omega (arith, most)) in
        let b = blocks i d in
        let wanted = want_back q (fresh t b) (kept_unless t (next b) (old_at i) read i) true values
        is in
        let last = fresh_back q b t has.fine values wanted.0 in
        let rest = block_back i (omega (arith, most)) last.0 last.3 in
        let front : Front last.0 values = (last.1 ∷ [], last.2) in
        let whole = front_of_front rest.0 last.0 values rest.1 front in (
          rest.0,
          whole,
          rest.2,
          λ k small index j below.
              elim (last_or j i below) [
                | inl same ↦
                    let at_values : value_of read values ≡ Some (pos k) =
                    a_scalar_is_its_cell.value u at values
                    ∙ (get_in_front rest.0 values at whole (slice_get_within rest.0 at (pos k)
                    index)
                    ∙ index) in
                    let either = kept_back t (next b) (old_at i) i read values k small at_values in
                    elim (either wanted.1) [
                      | inl both ↦ inl (ap (slice_get values) (ap (λ n. next d + n) same ∙ sym
                          has.next_is)
                          ∙ (both.1 ∙ (sym both.2 ∙ (get_in_front rest.0 values (old_at i) whole
                          (subst (λ n. old_at i < n) (sym (model_long (behind q d) rest.0 rest.2))
                          (slice_get_within (all_cells q d) (old_at i) t
                          (ready.olds i (omega (arith, most)))))
                          ∙ ap (λ n. slice_get rest.0 (old_at n)) (sym same)))))
                      | inr here ↦ inr (here ∙ sym same)
                    ]
                | inr less ↦ elim (rest.3 k small index j less) [
                  | inl kept ↦ inl (get_in_front last.0 values (next d + j) front
                      (subst (λ n. next d + j < n) (sym (model_long (behind q b) last.0 last.3))
                      (slice_get_within (all_cells q b) (next d + j) t (has.types j less))) ∙ kept)
                  | inr here ↦ inr here
                ]
              ],
        )

    -- and each store that does so is there
    pub block_forth : (f : ℕ → ℤ) (k : ℕ) (mid : List ℤ) → k < 2 ^ 63 → IsModel (behind q d) mid
        → slice_get mid at ≡ Some (pos k)
        → ((j : ℕ) → j < len → IsInRange t (f j))
        → ((j : ℕ) → j < len → (w : ℤ) × (slice_get mid (old_at j) ≡ Some w)
        × ((k ≢ j) → w ≡ f j))
        → (i : ℕ) → i ≤ len
        → (values : List ℤ) × Front mid values × IsModel (behind q (blocks i d)) values
        × ((j : ℕ) → j < i → slice_get values (next d + j) ≡ Some (f j))
    block_forth f k mid small is index within olds zero most =
        (mid, front_itself mid, is, λ j below. absurd (omega (arith, below)))
    block_forth f k mid small is index within olds (suc i) most =
        let has = has_block i (omega (arith, most)) in
        let b = blocks i d in
        let rest = block_forth f k mid small is index within olds i (omega (arith, most)) in
        let values = rest.0 ++ f i ∷ [] in
        let front : Front rest.0 values = (f i ∷ [], refl) in
        let whole = front_of_front mid rest.0 values rest.1 front in
        let old = olds i (omega (arith, most)) in
        let made = fresh_forth q b t has.fine rest.0 (f i) rest.2 (within i (omega (arith, most)))
        in
        let new : slice_get values (next b) ≡ Some (f i) =
        fresh_value q b t has.fine rest.0 (f i) rest.2 in
        let older : slice_get values (old_at i) ≡ Some old.0 =
        get_in_front mid values (old_at i) whole (slice_get_within mid (old_at i) old.0 old.1)
        ∙ old.1 in
        let at_values : value_of read values ≡ Some (pos k) =
        a_scalar_is_its_cell.value u at values
        ∙ (get_in_front mid values at whole (slice_get_within mid at (pos k) index) ∙ index) in
        let kept : HasTruth values (kept_unless t (next b) (old_at i) read i) true =
        elim (same_or k i) [
          | inl same ↦ kept_here t (next b) (old_at i) i read values k small at_values (f i) old.0
              new
              older same
          | inr apart ↦ kept_same t (next b) (old_at i) i read values k small at_values (f i) new
              (older ∙ ap Some (old.2 apart))
        ] in (
          values,
          whole,
          want_forth q (fresh t b) (kept_unless t (next b) (old_at i) read i) true
              values made kept,
          λ j below. elim (last_or j i below) [
            | inl same ↦ ap (slice_get values) (ap (λ n. next d + n) same ∙ sym has.next_is)
                ∙ (new ∙ ap (λ n. Some (f n)) (sym same))
            | inr less ↦ get_in_front rest.0 values (next d + j) front
                (slice_get_within rest.0 (next d + j) (f j) (rest.3 j less)) ∙ rest.3 j less
          ],
        )
