-- The chain of truths that says that some of some tests is true.
use Rattle.std.proofs.Common.{◌≡◌, ℕ, ◌+◌, ◌≤◌, ℤ, pos, Bool, true, false, not, List, [], ◌∷◌}
use Rattle.std.proofs.Common.{◌++◌, length, Option, None, Some, slice_get, refl, sym, ap, ◌∙◌}
use Rattle.std.proofs.Common.{subst, arith, ◌⊎◌, inl, inr}
use Rattle.std.specs.Prelude.{IsSomeAnd}
use Rattle.std.specs.List.{AllByRecursion}
use Rattle.std.proofs.Math.Nat.{max-le}
use Rattle.std.proofs.lemmas.Int.{ints}
use Rattle.std.proofs.lemmas.Option.{slice_get_within}
use Rattle.cpa_ints.specs.declared.integers.IntType.{IntType}
use Rattle.cpa_ints.specs.declared.integers.IntType.TheVariants as ty
use Rattle.cpa_ints.specs.Integers.{IsInRange}
use Rattle.cpa_expr.specs.declared.tree.Expr.{Expr}
use Rattle.cpa_expr.specs.declared.tree.Expr.TheVariants.{Or, Not}
use Rattle.cpa_expr.specs.Shape.{height}
use Rattle.cpa_expr.specs.Values.{truth as as_number, is_nonzero, logical_or, logical_not, value_of}
use Rattle.cpa_expr.specs.Values.{HasTruth}
use Rattle.cpa_expr.specs.Cells.{scalar_read}
use Rattle.cpa_expr.specs.Laws.{value_at_variants, typed_at_variants, height_at_variants}
use Rattle.cpa_expr.specs.Laws.{a_scalar_is_its_cell}
use Rattle.cpa_query.specs.declared.query.Query.{Query}
use Rattle.cpa_query.specs.Queries.{IsAsked, IsModel}
use Rattle.cpa_form_renaming.specs.declared.places.Place.{Place}
use Rattle.cpa_form_renaming.specs.Places.{Shows}
use Rattle.cpa_form_renaming.specs.Renaming.{renamed}
use Rattle.cpa_form_renaming.specs.Laws.{renaming_keeps_meanings}
use Rattle.cpa_form_rules.specs.declared.drafts.Draft.{Draft}
use Rattle.cpa_form_rules.specs.Drafts.{next, behind, fresh, want}
use Rattle.cpa_form_rules.specs.Tests.{some_from, want_some, want_each}
use Rattle.cpa_form_rules.specs.lemmas.Heights.{inner_height}
use Rattle.cpa_form_rules.specs.lemmas.Lists.{Front, front_itself, front_of_front}
use Rattle.cpa_form_rules.specs.lemmas.Models.{IsYes, Fine, all_cells, model_long, fine_want}
use Rattle.cpa_form_rules.specs.lemmas.Models.{want_back, want_forth, fine_fresh, fresh_back}
use Rattle.cpa_form_rules.specs.lemmas.Models.{fresh_forth, fresh_value, fresh_type, cells_more}
use Rattle.cpa_form_rules.specs.lemmas.Models.{scalar_fits}
use Rattle.cpa_form_rules.specs.lemmas.Copies.{Stand, stand_front, get_in_front, types_at}
use Rattle.cpa_form_rules.specs.lemmas.Copies.{same_front, shows_same, shows_types}
use Rattle.cpa_form_rules.specs.lemmas.Wants.{Reads, reads_fit, fit_asked}

-- ---- the values of a truth and of a link of the chain

link_back : (s : ℤ) (c : Bool) (w : ℤ) → is_nonzero s ≡ true
    → IsYes (logical_or (logical_not (Some s)) (logical_or (Some (as_number c)) (Some w)))
    → (c ≡ true) ⊎ (is_nonzero w ≡ true)
link_back s c w sure h =
    by c (is_nonzero w) refl (subst (λ b. IsYes (logical_or (Some (as_number (not b)))
    (logical_or (Some (as_number c)) (Some w)))) sure h)
  where
    by : (c b : Bool) → is_nonzero w ≡ b
        → IsYes (logical_or (Some (as_number false)) (logical_or (Some (as_number c)) (Some w)))
        → (c ≡ true) ⊎ (is_nonzero w ≡ true)
    by true b e h = inl refl
    by false true e h = inr e
    by false false e h =
        let no : is_nonzero (as_number (is_nonzero (as_number (is_nonzero w)))) ≡ true = h in
        let also : is_nonzero (as_number (is_nonzero (as_number false))) ≡ true =
        subst (λ b. is_nonzero (as_number (is_nonzero (as_number b))) ≡ true) e no in absurd (cc)

-- where the truth is false, or the test or the next truth is true
link_off : (c : Bool) (w : ℤ)
    → IsYes (logical_or (logical_not (Some (pos 0))) (logical_or (Some (as_number c)) (Some w)))
link_off c w = refl

link_test : (w : ℤ)
    → IsYes (logical_or (logical_not (Some (pos 1))) (logical_or (Some (as_number true)) (Some w)))
link_test w = refl

link_on : (c : Bool)
    → IsYes (logical_or (logical_not (Some (pos 1))) (logical_or (Some (as_number c)) (Some (pos
    1))))
link_on true = refl
link_on false = refl

-- a test has the value of a truth
pub record HasTold (store : List ℤ) (one : Expr × Bool) : Type 0 where
  pub told : Bool
  pub value : value_of one.0 store ≡ Some (as_number told)

-- some test is true
abbrev pub SomeTold : List ℤ → List (Expr × Bool) → Type 0
SomeTold store [] = ⊥
SomeTold store (one ∷ tests) = HasTruth store one.0 true ⊎ SomeTold store tests

zero_fits : IsInRange ty.Bool (pos 0)
zero_fits = (omega (arith, ints), omega (arith, ints))

one_fits : IsInRange ty.Bool (pos 1)
one_fits = (omega (arith, ints), omega (arith, ints))

pub told_true : (store : List ℤ) (e : Expr) (c : Bool) → value_of e store ≡ Some (as_number c)
    → c ≡ true
    → HasTruth store e true
told_true store e c is sure =
    subst IsYes (sym is) (subst (λ b. IsYes (Some (as_number b))) (sym sure) refl)

pub true_told : (store : List ℤ) (e : Expr) (c : Bool) → value_of e store ≡ Some (as_number c)
    → HasTruth store e true → c ≡ true
true_told store e c is h = by c (subst IsYes is h)
  where
    by : (c : Bool) → IsYes (Some (as_number c)) → c ≡ true
    by true h = refl
    by false h = absurd (cc)

module _ (q : Query) (places : List Place) (types : List IntType)
    (long : length types ≡ length places) where
  abbrev pub AllRead : List (Expr × Bool) → Type 0
  AllRead = AllByRecursion (λ (one : Expr × Bool). Reads places types one.0)

  abbrev link : Expr × Bool → ℕ → ℕ → Expr
  link one truth after =
      Or (Not (scalar_read ty.Bool truth))
      (Or (renamed places one.0) (scalar_read ty.Bool after))

  -- a draft at which a chain may go on: the truth is a cell, and the places show the types
  record IsAt (d : Draft) (truth : ℕ) : Type 0 where
    fine : Fine q d
    there : slice_get (all_cells q d) truth ≡ Some ty.Bool
    stand : Stand (all_cells q d) places

  abbrev after : Expr × Bool → ℕ → Draft → Draft
  after one truth d = want (link one truth (next d)) true (fresh ty.Bool d)

  types_are : types_at places ≡ types → (d : Draft) (truth : ℕ) → IsAt d truth
      → Shows places (all_cells q d) types
  types_are same d truth at =
      subst (Shows places (all_cells q d)) same (shows_types (all_cells q d) places at.stand)

  module _ (same : types_at places ≡ types) where
    link_asked : (one : Expr × Bool) (d : Draft) (truth : ℕ) → IsAt d truth
        → Reads places types one.0
        → IsAsked (all_cells q (fresh ty.Bool d)) (link one truth (next d))
    link_asked one d truth at reads =
        let cells = all_cells q (fresh ty.Bool d) in
        let front : Front (all_cells q d) cells = (ty.Bool ∷ [], cells_more q d ty.Bool at.fine) in
        let s = scalar_fits cells ty.Bool truth
        (get_in_front (all_cells q d) cells truth front
        (slice_get_within (all_cells q d) truth ty.Bool at.there) ∙ at.there) in
        let w = scalar_fits cells ty.Bool (next d) (fresh_type q d ty.Bool at.fine) in
        let e = reads_fit places cells types one.0 reads
        (subst (Shows places cells) same (shows_types cells places
        (stand_front (all_cells q d) cells places front at.stand))) in
        let inner = Or (renamed places one.0) (scalar_read ty.Bool (next d)) in
        let outer = Not (scalar_read ty.Bool truth) in
        record {
          typed = (typed_at_variants.disjunction cells outer inner).1 (
            (typed_at_variants.negation cells (scalar_read ty.Bool truth)).1 s.typed,
            (typed_at_variants.disjunction cells (renamed places one.0)
                (scalar_read ty.Bool (next d))).1 (e.typed, w.typed),
          );
          height = let in_height = height_at_variants.disjunction (renamed places one.0)
              (scalar_read ty.Bool (next d)) in
              let in_most = max-le e.height w.height in
              let out_height = height_at_variants.negation (scalar_read ty.Bool truth) in
              let out_most = s.height in
              let here : height inner ≤ inner_height + 1 = omega (arith, in_height, in_most) in
              let there : height outer ≤ inner_height + 1 = omega (arith, out_height, out_most) in
              let whole = height_at_variants.disjunction outer inner in
              let most = max-le there here in omega (arith, whole, most);
        }

    at_after : (one : Expr × Bool) (d : Draft) (truth : ℕ) → IsAt d truth
        → Reads places types one.0 → IsAt (after one truth d) (next d)
    at_after one d truth at reads = record {
      fine = fine_want q (fresh ty.Bool d) (link one truth (next d)) true
          (fine_fresh q d ty.Bool at.fine) (link_asked one d truth at reads);
      there = fresh_type q d ty.Bool at.fine;
      stand = stand_front (all_cells q d) (all_cells q (fresh ty.Bool d)) places
          (ty.Bool ∷ [], cells_more q d ty.Bool at.fine) at.stand;
    }

    fine_chain : (tests : List (Expr × Bool)) (d : Draft) (truth : ℕ) → IsAt d truth → AllRead tests
        → Fine q (some_from places tests truth d)
    fine_chain [] d truth at reads =
        fine_want q d (scalar_read ty.Bool truth) false at.fine
        (fit_asked (all_cells q d) (scalar_read ty.Bool truth)
        (scalar_fits (all_cells q d) ty.Bool truth at.there))
    fine_chain (one ∷ tests) d truth at reads =
        fine_chain tests (after one truth d) (next d) (at_after one d truth at reads.0) reads.1

    -- the value of a link
    link_value : (one : Expr × Bool) (truth number : ℕ) (values store : List ℤ) (s w : ℤ)
        → Reads places types one.0 → Shows places values store → (told : HasTold store one)
        → slice_get values truth ≡ Some s → slice_get values number ≡ Some w
        → value_of (link one truth number) values
        ≡ logical_or (logical_not (Some s))
        (logical_or (Some (as_number told.told)) (Some w))
    link_value one at number values store s w reads shows told is are =
        value_at_variants.disjunction (Not (scalar_read ty.Bool at))
        (Or (renamed places one.0) (scalar_read ty.Bool number)) values
        ∙ (ap (λ o. logical_or o (value_of (Or (renamed places one.0)
        (scalar_read ty.Bool number)) values))
        (value_at_variants.negation (scalar_read ty.Bool at) values
        ∙ ap logical_not (a_scalar_is_its_cell.value ty.Bool at values ∙ is))
        ∙ ap (logical_or (logical_not (Some s)))
        (value_at_variants.disjunction (renamed places one.0) (scalar_read ty.Bool number) values
        ∙ (ap (λ o. logical_or o (value_of (scalar_read ty.Bool number) values))
        (renaming_keeps_meanings.value places types one.0 values store reads.readable long shows
        ∙ told.value)
        ∙ ap (logical_or (Some (as_number told.told)))
        (a_scalar_is_its_cell.value ty.Bool number values ∙ are))))

    -- the places show the store also behind
    shows_on : (d : Draft) (store old values : List ℤ) → Stand (all_cells q d) places
        → IsModel (behind q d) old → Front old values → Shows places old store
        → Shows places values store
    shows_on d store old values stand is front shows =
        shows_same old values store places places (same_front (all_cells q d) places old values
        stand (model_long (behind q d) old is) front) shows

    yes_at : (t : IntType) (cell : ℕ) (values : List ℤ) → HasTruth values (scalar_read t cell) true
        → IsYes (slice_get values cell)
    yes_at t cell values h = subst IsYes (a_scalar_is_its_cell.value t cell values) h

    never : (o : Option ℤ) → IsSomeAnd o (λ v. is_nonzero v ≡ false) → IsYes o → ⊥
    never None h k = h
    never (Some v) h k = cc

    -- what a link says, where the truth is true
    linked : (one : Expr × Bool) (tests : List (Expr × Bool)) (d : Draft) (truth : ℕ)
        (store : List ℤ) → IsAt d truth → Reads places types one.0 → HasTold store one
        → (old : List ℤ) (v : ℤ) (mid : List ℤ) → mid ≡ old ++ v ∷ []
        → IsModel (behind q d) old → Shows places mid store
        → HasTruth mid (link one truth (next d)) true
        → (IsYes (slice_get mid (next d)) → SomeTold store tests)
        → (o : Option ℤ) → slice_get old truth ≡ o → IsYes o → SomeTold store (one ∷ tests)
    linked one tests d truth store at reads told old v mid made is shows link_is others None here
        sure = absurd sure
    linked one tests d truth store at reads told old v mid made is shows link_is others (Some s)
        here
        sure =
        let at_mid : slice_get mid truth ≡ Some s =
        get_in_front old mid truth (v ∷ [], made) (slice_get_within old truth s here) ∙ here in
        let new : slice_get mid (next d) ≡ Some v =
        ap (λ l. slice_get l (next d)) made ∙ fresh_value q d ty.Bool at.fine old v is in
        elim (link_back s told.told v sure (subst IsYes
        (link_value one truth (next d) mid store s v reads shows told at_mid new) link_is)) [
          | inl c ↦ inl (told_true store one.0 told.told told.value c)
          | inr w ↦ inr (others (subst IsYes (sym new) w))
        ]

    chain_back : (tests : List (Expr × Bool)) (d : Draft) (truth : ℕ) → IsAt d truth
        → AllRead tests → (values : List ℤ)
        → IsModel (behind q (some_from places tests truth d)) values
        → (old : List ℤ) × Front old values × IsModel (behind q d) old
        × ((store : List ℤ) → Shows places old store → AllByRecursion (HasTold store) tests
        → IsYes (slice_get old truth) → SomeTold store tests)
    chain_back [] d truth at reads values is =
        let both = want_back q d (scalar_read ty.Bool truth) false values is in (
          values,
          front_itself values,
          both.0,
          λ store shows told sure.
              never (slice_get values truth) (subst (λ o. IsSomeAnd o (λ v. is_nonzero v ≡ false))
              (a_scalar_is_its_cell.value ty.Bool truth values) both.1) sure,
        )
    chain_back (one ∷ tests) d truth at reads values is =
        let rest = chain_back tests (after one truth d) (next d)
        (at_after one d truth at reads.0) reads.1 values is in
        let both = want_back q (fresh ty.Bool d) (link one truth (next d)) true rest.0 rest.2 in
        let first = fresh_back q d ty.Bool at.fine rest.0 both.0 in
        let front : Front first.0 rest.0 = (first.1 ∷ [], first.2) in (
          first.0,
          front_of_front first.0 rest.0 values front rest.1,
          first.3,
          λ store shows told sure.
              let there = shows_on d store first.0 rest.0 at.stand first.3 front shows in
              linked one tests d truth store at reads.0 told.0 first.0 first.1 rest.0 first.2
              first.3
              there
              both.1 (rest.3 store there told.1) (slice_get first.0 truth) refl sure,
        )

    module _ (store : List ℤ) where
      abbrev pub AllTold : List (Expr × Bool) → Type 0
      AllTold = AllByRecursion (HasTold store)

      -- the next model: the new truth has this value
      link_forth : (one : Expr × Bool) (d : Draft) (truth : ℕ) → IsAt d truth
          → Reads places types one.0 → (told : HasTold store one) → (old : List ℤ) (s v : ℤ)
          → IsModel (behind q d) old → Shows places old store → slice_get old truth ≡ Some s
          → IsInRange ty.Bool v
          → IsYes (logical_or (logical_not (Some s)) (logical_or (Some (as_number told.told)) (Some
          v)))
          → IsModel (behind q (after one truth d)) (old ++ v ∷ [])
      link_forth one d at_cell at reads told old s v is shows here within sure =
          let mid = old ++ v ∷ [] in
          let front : Front old mid = (v ∷ [], refl) in
          want_forth q (fresh ty.Bool d) (link one at_cell (next d)) true mid
          (fresh_forth q d ty.Bool at.fine old v is within)
          (subst IsYes (sym (link_value one at_cell (next d) mid store s v reads
          (shows_on d store old mid at.stand is front shows) told
          (get_in_front old mid at_cell front (slice_get_within old at_cell s here) ∙ here)
          (fresh_value q d ty.Bool at.fine old v is))) sure)

      chain_off : (tests : List (Expr × Bool)) (d : Draft) (truth : ℕ) → IsAt d truth
          → AllRead tests → AllTold tests → (old : List ℤ) → IsModel (behind q d) old
          → Shows places old store → slice_get old truth ≡ Some (pos 0)
          → (values : List ℤ) × Front old values
          × IsModel (behind q (some_from places tests truth d)) values
      chain_off [] d truth at reads told old is shows here = (
        old,
        front_itself old,
        want_forth q d (scalar_read ty.Bool truth) false old is
            (subst (λ o. IsSomeAnd o (λ v. is_nonzero v ≡ false))
            (sym (a_scalar_is_its_cell.value ty.Bool truth old ∙ here)) refl),
      )
      chain_off (one ∷ tests) d truth at reads told old is shows here =
          let mid = old ++ pos 0 ∷ [] in
          let front : Front old mid = (pos 0 ∷ [], refl) in
          let made = link_forth one d truth at reads.0 told.0 old (pos 0) (pos 0) is shows here
          zero_fits (link_off told.0.told (pos 0)) in
          let rest = chain_off tests (after one truth d) (next d) (at_after one d truth at reads.0)
          reads.1 told.1 mid made (shows_on d store old mid at.stand is front shows)
          (fresh_value q d ty.Bool at.fine old (pos 0) is) in
          (rest.0, front_of_front old mid rest.0 front rest.1, rest.2)

      chain_on : (tests : List (Expr × Bool)) (d : Draft) (truth : ℕ) → IsAt d truth
          → AllRead tests → AllTold tests → (old : List ℤ) → IsModel (behind q d) old
          → Shows places old store → slice_get old truth ≡ Some (pos 1) → SomeTold store tests
          → (values : List ℤ) × Front old values
          × IsModel (behind q (some_from places tests truth d)) values
      chain_on [] d truth at reads told old is shows here some = absurd some
      chain_on (one ∷ tests) d truth at reads told old is shows here (inl sure) =
          let mid = old ++ pos 0 ∷ [] in
          let front : Front old mid = (pos 0 ∷ [], refl) in
          let certain = true_told store one.0 told.0.told told.0.value sure in
          let made = link_forth one d truth at reads.0 told.0 old (pos 1) (pos 0) is shows here
          zero_fits (subst (λ c. IsYes (logical_or (logical_not (Some (pos 1)))
          (logical_or (Some (as_number c)) (Some (pos 0))))) (sym certain) (link_test (pos 0))) in
          let rest = chain_off tests (after one truth d) (next d) (at_after one d truth at reads.0)
          reads.1 told.1 mid made (shows_on d store old mid at.stand is front shows)
          (fresh_value q d ty.Bool at.fine old (pos 0) is) in
          (rest.0, front_of_front old mid rest.0 front rest.1, rest.2)
      chain_on (one ∷ tests) d truth at reads told old is shows here (inr some) =
          let mid = old ++ pos 1 ∷ [] in
          let front : Front old mid = (pos 1 ∷ [], refl) in
          let made = link_forth one d truth at reads.0 told.0 old (pos 1) (pos 1) is shows here
          one_fits (link_on told.0.told) in
          let rest = chain_on tests (after one truth d) (next d) (at_after one d truth at reads.0)
          reads.1 told.1 mid made (shows_on d store old mid at.stand is front shows)
          (fresh_value q d ty.Bool at.fine old (pos 1) is) some in
          (rest.0, front_of_front old mid rest.0 front rest.1, rest.2)

    -- ---- the first truth

    abbrev begun : Draft → Draft
    begun d = want (scalar_read ty.Bool (next d)) true (fresh ty.Bool d)

    at_begun : (d : Draft) → Fine q d → Stand (all_cells q d) places → IsAt (begun d) (next d)
    at_begun d fine stand = record {
      fine = fine_want q (fresh ty.Bool d) (scalar_read ty.Bool (next d)) true
          (fine_fresh q d ty.Bool fine)
          (fit_asked (all_cells q (fresh ty.Bool d)) (scalar_read ty.Bool (next d))
          (scalar_fits (all_cells q (fresh ty.Bool d)) ty.Bool (next d)
          (fresh_type q d ty.Bool fine)));
      there = fresh_type q d ty.Bool fine;
      stand = stand_front (all_cells q d) (all_cells q (fresh ty.Bool d)) places
          (ty.Bool ∷ [], cells_more q d ty.Bool fine) stand;
    }

    -- what a draft keeps, with the places
    pub record Kept (d e : Draft) : Type 0 where
      pub fine : Fine q e
      pub longer : Front (all_cells q d) (all_cells q e)

    chain_longer : (tests : List (Expr × Bool)) (d : Draft) (truth : ℕ) → Fine q d → AllRead tests
        → IsAt d truth → Front (all_cells q d) (all_cells q (some_from places tests truth d))
    chain_longer [] d truth fine reads at = front_itself (all_cells q d)
    chain_longer (one ∷ tests) d truth fine reads at =
        let behind_it = at_after one d truth at reads.0 in
        front_of_front (all_cells q d) (all_cells q (after one truth d))
        (all_cells q (some_from places tests (next d) (after one truth d)))
        (ty.Bool ∷ [], cells_more q d ty.Bool at.fine)
        (chain_longer tests (after one truth d) (next d) behind_it.fine reads.1 behind_it)

    some_kept : (tests : List (Expr × Bool)) (d : Draft) → Fine q d → Stand (all_cells q d) places
        → AllRead tests → Kept d (want_some places tests d)
    some_kept tests d fine stand reads =
        let at = at_begun d fine stand in
        record {
          fine = fine_chain tests (begun d) (next d) at reads;
          longer = front_of_front (all_cells q d) (all_cells q (begun d))
              (all_cells q (want_some places tests d)) (ty.Bool ∷ [], cells_more q d ty.Bool fine)
              (chain_longer tests (begun d) (next d) at.fine reads at);
        }

    some_back : (tests : List (Expr × Bool)) (d : Draft) → Fine q d → Stand (all_cells q d) places
        → AllRead tests → (values : List ℤ) → IsModel (behind q (want_some places tests d)) values
        → (old : List ℤ) × Front old values × IsModel (behind q d) old
        × ((store : List ℤ) → Shows places old store → AllByRecursion (HasTold store) tests
        → SomeTold store tests)
    some_back tests d fine stand reads values is =
        let rest = chain_back tests (begun d) (next d) (at_begun d fine stand) reads values is in
        let both = want_back q (fresh ty.Bool d) (scalar_read ty.Bool (next d)) true rest.0 rest.2
        in
        let first = fresh_back q d ty.Bool fine rest.0 both.0 in
        let front : Front first.0 rest.0 = (first.1 ∷ [], first.2) in (
          first.0,
          front_of_front first.0 rest.0 values front rest.1,
          first.3,
          λ store shows told.
              rest.3 store (shows_on d store first.0 rest.0 stand first.3 front shows) told
              (yes_at ty.Bool (next d) rest.0 both.1),
        )

    module _ (store : List ℤ) where
      some_forth : (tests : List (Expr × Bool)) (d : Draft) → Fine q d
          → Stand (all_cells q d) places
          → AllRead tests → AllTold store tests → (old : List ℤ) → IsModel (behind q d) old
          → Shows places old store → SomeTold store tests
          → (values : List ℤ) × Front old values
          × IsModel (behind q (want_some places tests d)) values
      some_forth tests d fine stand reads told old is shows some =
          let mid = old ++ pos 1 ∷ [] in
          let front : Front old mid = (pos 1 ∷ [], refl) in
          let here = fresh_value q d ty.Bool fine old (pos 1) is in
          let made = want_forth q (fresh ty.Bool d) (scalar_read ty.Bool (next d)) true mid
          (fresh_forth q d ty.Bool fine old (pos 1) is one_fits)
          (subst IsYes (sym (a_scalar_is_its_cell.value ty.Bool (next d) mid ∙ here)) refl) in
          let rest = chain_on store tests (begun d) (next d) (at_begun d fine stand) reads told mid
          made (shows_on d store old mid stand is front shows) here some in
          (rest.0, front_of_front old mid rest.0 front rest.1, rest.2)

    -- ---- of each list of tests one is true

    pub each_kept : (lists : List (List (Expr × Bool))) (d : Draft) → Fine q d
        → Stand (all_cells q d) places → AllByRecursion AllRead lists
        → Kept d (want_each places lists d)
    each_kept [] d fine stand reads =
        record { fine = fine; longer = front_itself (all_cells q d) }
    each_kept (tests ∷ lists) d fine stand reads =
        let kept = some_kept tests d fine stand reads.0 in
        let rest = each_kept lists (want_some places tests d) kept.fine
        (stand_front (all_cells q d) (all_cells q (want_some places tests d)) places kept.longer
        stand) reads.1 in
        record {
          fine = rest.fine;
          longer = front_of_front (all_cells q d) (all_cells q (want_some places tests d))
              (all_cells q (want_each places lists (want_some places tests d))) kept.longer
              rest.longer;
        }

    pub each_back : (lists : List (List (Expr × Bool))) (d : Draft) → Fine q d
        → Stand (all_cells q d) places → AllByRecursion AllRead lists
        → (values : List ℤ) → IsModel (behind q (want_each places lists d)) values
        → (old : List ℤ) × Front old values × IsModel (behind q d) old
        × ((store : List ℤ) → Shows places old store
        → AllByRecursion (AllByRecursion (HasTold store)) lists
        → AllByRecursion (SomeTold store) lists)
    each_back [] d fine stand reads values is =
        (values, front_itself values, is, λ store shows told. tt)
    each_back (tests ∷ lists) d fine stand reads values is =
        let kept = some_kept tests d fine stand reads.0 in
        let e = want_some places tests d in
        let rest = each_back lists e kept.fine
        (stand_front (all_cells q d) (all_cells q e) places kept.longer stand) reads.1 values is in
        let first = some_back tests d fine stand reads.0 rest.0 rest.2 in (
          first.0,
          front_of_front first.0 rest.0 values first.1 rest.1,
          first.2,
          λ store shows told. (
            first.3 store shows told.0,
            rest.3 store
                (shows_on d store first.0 rest.0 stand first.2 first.1 shows) told.1,
          ),
        )

    module _ (store : List ℤ) where
      pub each_forth : (lists : List (List (Expr × Bool))) (d : Draft) → Fine q d
          → Stand (all_cells q d) places → AllByRecursion AllRead lists
          → AllByRecursion (AllTold store) lists → (old : List ℤ) → IsModel (behind q d) old
          → Shows places old store → AllByRecursion (SomeTold store) lists
          → (values : List ℤ) × Front old values
          × IsModel (behind q (want_each places lists d)) values
      each_forth [] d fine stand reads told old is shows some = (old, front_itself old, is)
      each_forth (tests ∷ lists) d fine stand reads told old is shows some =
          let kept = some_kept tests d fine stand reads.0 in
          let e = want_some places tests d in
          let first = some_forth store tests d fine stand reads.0 told.0 old is shows some.0 in
          let rest = each_forth lists e kept.fine
          (stand_front (all_cells q d) (all_cells q e) places kept.longer stand) reads.1 told.1
          first.0 first.2 (shows_on d store old first.0 stand is first.1 shows) some.1 in
          (rest.0, front_of_front old first.0 rest.0 first.1 rest.1, rest.2)
