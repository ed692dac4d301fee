-- The models of a query with a draft behind it, where the draft gets a wanted expression or a cell.
use Rattle.std.proofs.Common.{◌≡◌, ℕ, zero, suc, ◌+◌, ◌≤◌, ℤ, Bool, true, false, List, [], ◌∷◌}
use Rattle.std.proofs.Common.{◌++◌, length, Option, None, Some, slice_get, refl, sym, ap, ◌∙◌}
use Rattle.std.proofs.Common.{subst, arith}
use Rattle.std.specs.Prelude.{IsSomeAnd, IfSome}
use Rattle.std.specs.Ordering.{int_eq}
use Rattle.std.specs.List.{AllByRecursion}
use Rattle.std.proofs.Math.Nat.{max-le}
use Rattle.std.proofs.lemmas.Bool.Decides.{Decides-int_eq}
use Rattle.std.proofs.lemmas.List.{append_assoc, length-append}
use Rattle.std.proofs.lemmas.Slice.Zip.{AllZip-long}
use Rattle.cpa_ints.specs.declared.integers.IntType.{IntType}
use Rattle.cpa_ints.specs.Integers.{IsInRange}
use Rattle.cpa_expr.specs.declared.tree.CmpOp.TheVariants as cmp
use Rattle.cpa_expr.specs.declared.tree.Expr.{Expr}
use Rattle.cpa_expr.specs.declared.tree.Expr.TheVariants.{Cmp}
use Rattle.cpa_expr.specs.Shape.{type_of, height, IsTyped}
use Rattle.cpa_expr.specs.declared.shape.TheConstants.{MAX_HEIGHT}
use Rattle.cpa_expr.specs.Values.{truth, is_nonzero, comparison, value_of, HasTruth}
use Rattle.cpa_expr.specs.Cells.{AreValues, scalar_read}
use Rattle.cpa_expr.specs.Laws.{value_at_variants, typed_at_variants, height_at_variants}
use Rattle.cpa_expr.specs.Laws.{a_scalar_is_its_cell, values_lie_in_range}
use Rattle.cpa_query.specs.declared.query.TheConstants as of_query
use Rattle.cpa_query.specs.declared.query.Query.{Query}
use Rattle.cpa_query.specs.Queries.{IsAsked, IsQuery, IsModel}
use Rattle.cpa_form_renaming.specs.Laws.{cells_behind_change_nothing}
use Rattle.cpa_form_rules.specs.declared.drafts.Draft.{Draft}
use Rattle.cpa_form_rules.specs.Drafts.{next, behind, fresh, want, named}
use Rattle.cpa_form_rules.specs.lemmas.Heights.{inner_height}
use Rattle.cpa_form_rules.specs.lemmas.Lists.{all_parts, all_both, zip_last, zip_more}
use Rattle.cpa_form_rules.specs.lemmas.Lists.{last_item}

-- a value that counts as true
abbrev pub IsYes : Option ℤ → Type 0
IsYes o = IsSomeAnd o (λ v. is_nonzero v ≡ true)

abbrev pub Wanted : List ℤ → Expr × Bool → Type 0
Wanted values one = HasTruth values one.0 one.1

abbrev pub Asked : List IntType → Expr × Bool → Type 0
Asked cells one = IsAsked cells one.0

-- a draft that continues the query, which may be asked with it
pub record Fine (q : Query) (d : Draft) : Type 0 where
  pub first : d.first ≡ length q.cells
  pub asked : IsQuery (behind q d)

-- the cells of the query and of the draft
abbrev pub all_cells : Query → Draft → List IntType
all_cells q d = q.cells ++ d.cells

pub next_is : (q : Query) (d : Draft) → Fine q d → next d ≡ length (all_cells q d)
next_is q d fine =
    ap (λ n. n + length d.cells) fine.first ∙ sym (length-append q.cells d.cells)

pub model_long : (q : Query) (values : List ℤ) → IsModel q values
    → length values ≡ length q.cells
model_long q values is = AllZip-long IsInRange q.cells values is.values_are

-- ---- wanted expressions, where cells are added

pub asked_more : (cells more : List IntType) (ws : List (Expr × Bool))
    → AllByRecursion (Asked cells) ws → AllByRecursion (Asked (cells ++ more)) ws
asked_more cells more [] h = tt
asked_more cells more (w ∷ ws) h = (
  record {
    typed = cells_behind_change_nothing.typed cells more w.0 h.0.typed;
    height = h.0.height;
  },
  asked_more cells more ws h.1,
)

pub truth_more : (cells : List IntType) (e : Expr) (holds : Bool) (values more : List ℤ)
    → IsTyped cells e → length values ≡ length cells → HasTruth values e holds
    → HasTruth (values ++ more) e holds
truth_more cells e holds values more typed long h =
    subst (λ o. IsSomeAnd o (λ a. is_nonzero a ≡ holds))
    (sym (cells_behind_change_nothing.value cells e values more typed long)) h

pub truth_less : (cells : List IntType) (e : Expr) (holds : Bool) (values more : List ℤ)
    → IsTyped cells e → length values ≡ length cells → HasTruth (values ++ more) e holds
    → HasTruth values e holds
truth_less cells e holds values more typed long h =
    subst (λ o. IsSomeAnd o (λ a. is_nonzero a ≡ holds))
    (cells_behind_change_nothing.value cells e values more typed long) h

all_truth_more : (cells : List IntType) (ws : List (Expr × Bool)) (values more : List ℤ)
    → AllByRecursion (Asked cells) ws → length values ≡ length cells
    → AllByRecursion (Wanted values) ws → AllByRecursion (Wanted (values ++ more)) ws
all_truth_more cells [] values more asked long h = tt
all_truth_more cells (w ∷ ws) values more asked long h = (
  truth_more cells w.0 w.1 values more asked.0.typed long h.0,
  all_truth_more cells ws values more asked.1 long h.1,
)

all_truth_less : (cells : List IntType) (ws : List (Expr × Bool)) (values more : List ℤ)
    → AllByRecursion (Asked cells) ws → length values ≡ length cells
    → AllByRecursion (Wanted (values ++ more)) ws → AllByRecursion (Wanted values) ws
all_truth_less cells [] values more asked long h = tt
all_truth_less cells (w ∷ ws) values more asked long h = (
  truth_less cells w.0 w.1 values more asked.0.typed long h.0,
  all_truth_less cells ws values more asked.1 long h.1,
)

-- ---- a wanted expression more

module _ (q : Query) (d : Draft) (e : Expr) (holds : Bool) where
  pub fine_want : Fine q d → IsAsked (all_cells q d) e → Fine q (want e holds d)
  fine_want fine asked = record {
    first = fine.first;
    asked = subst (AllByRecursion (Asked (all_cells q d)))
        (append_assoc q.wanted d.wanted ((e, holds) ∷ []))
        (all_both (Asked (all_cells q d)) (q.wanted ++ d.wanted) ((e, holds) ∷ []) fine.asked
        (asked, tt));
  }

  pub want_back : (values : List ℤ) → IsModel (behind q (want e holds d)) values
      → IsModel (behind q d) values × HasTruth values e holds
  want_back values is =
      let parts = all_parts (Wanted values) (q.wanted ++ d.wanted) ((e, holds) ∷ [])
      (subst (AllByRecursion (Wanted values))
      (sym (append_assoc q.wanted d.wanted ((e, holds) ∷ []))) is.wanted) in
      (record { values_are = is.values_are; wanted = parts.0 }, parts.1.0)

  pub want_forth : (values : List ℤ) → IsModel (behind q d) values → HasTruth values e holds
      → IsModel (behind q (want e holds d)) values
  want_forth values is h = record {
    values_are = is.values_are;
    wanted = subst (AllByRecursion (Wanted values))
        (append_assoc q.wanted d.wanted ((e, holds) ∷ []))
        (all_both (Wanted values) (q.wanted ++ d.wanted) ((e, holds) ∷ []) is.wanted (h, tt));
  }

-- ---- a cell more

module _ (q : Query) (d : Draft) (t : IntType) (fine : Fine q d) where
  pub cells_more : all_cells q (fresh t d) ≡ all_cells q d ++ t ∷ []
  cells_more = sym (append_assoc q.cells d.cells (t ∷ []))

  pub fine_fresh : Fine q (fresh t d)
  fine_fresh = record {
    first = fine.first;
    asked = subst (λ cells. AllByRecursion (Asked cells) (q.wanted ++ d.wanted)) (sym cells_more)
        (asked_more (all_cells q d) (t ∷ []) (q.wanted ++ d.wanted) fine.asked);
  }

  pub fresh_type : slice_get (all_cells q (fresh t d)) (next d) ≡ Some t
  fresh_type =
      ap (λ cells. slice_get cells (next d)) cells_more
      ∙ (ap (slice_get (all_cells q d ++ t ∷ [])) (next_is q d fine)
      ∙ last_item (all_cells q d) t)

  pub fresh_back : (values : List ℤ) → IsModel (behind q (fresh t d)) values
      → (old : List ℤ) × (v : ℤ) × (values ≡ old ++ v ∷ []) × IsModel (behind q d) old
      × IsInRange t v
  fresh_back values is =
      let last = zip_last IsInRange (all_cells q d) t values
      (subst (λ cells. AreValues cells values) cells_more is.values_are) in
      let long = AllZip-long IsInRange (all_cells q d) last.0 last.3 in (
        last.0,
        last.1,
        last.2,
        record {
          values_are = last.3;
          wanted = all_truth_less (all_cells q d) (q.wanted ++ d.wanted) last.0 (last.1 ∷ [])
              fine.asked long (subst (λ vs. AllByRecursion (Wanted vs) (q.wanted ++ d.wanted))
              last.2
              is.wanted);
        },
        last.4,
      )

  pub fresh_forth : (old : List ℤ) (v : ℤ) → IsModel (behind q d) old → IsInRange t v
      → IsModel (behind q (fresh t d)) (old ++ v ∷ [])
  fresh_forth old v is within = record {
    values_are = subst (λ cells. AreValues cells (old ++ v ∷ [])) (sym cells_more)
        (zip_more IsInRange (all_cells q d) old t v is.values_are within);
    wanted = all_truth_more (all_cells q d) (q.wanted ++ d.wanted) old (v ∷ []) fine.asked
        (AllZip-long IsInRange (all_cells q d) old is.values_are) is.wanted;
  }

  -- the new cell's value
  pub fresh_value : (old : List ℤ) (v : ℤ) → IsModel (behind q d) old
      → slice_get (old ++ v ∷ []) (next d) ≡ Some v
  fresh_value old v is =
      ap (slice_get (old ++ v ∷ []))
      (next_is q d fine ∙ sym (AllZip-long IsInRange (all_cells q d) old is.values_are))
      ∙ last_item old v

-- ---- two equal values

pub equal_back : (t : IntType) (a b : Expr) (values : List ℤ)
    → HasTruth values (Cmp cmp.Eq t a b) true
    → (v : ℤ) × (value_of a values ≡ Some v) × (value_of b values ≡ Some v)
equal_back t a b values h =
    by (value_of a values) (value_of b values)
    (subst (λ o. IsSomeAnd o (λ v. is_nonzero v ≡ true))
    (value_at_variants.comparison cmp.Eq t a b values) h)
  where
    sure : (v w : ℤ) (c : Bool) → int_eq v w ≡ c → is_nonzero (truth c) ≡ true → v ≡ w
    sure v w true e h = (Decides-int_eq v w).0 e
    sure v w false e h = absurd (cc)

    by : (o p : Option ℤ) → IsSomeAnd (comparison cmp.Eq o p) (λ v. is_nonzero v ≡ true)
        → (v : ℤ) × (o ≡ Some v) × (p ≡ Some v)
    by None p h = absurd h
    by (Some v) None h = absurd h
    by (Some v) (Some w) h =
        let same = sure v w (int_eq v w) refl h in (v, refl, ap Some (sym same))

pub equal_forth : (t : IntType) (a b : Expr) (values : List ℤ) (v : ℤ)
    → value_of a values ≡ Some v → value_of b values ≡ Some v
    → HasTruth values (Cmp cmp.Eq t a b) true
equal_forth t a b values v is are =
    subst (λ o. IsSomeAnd o (λ w. is_nonzero w ≡ true))
    (sym (value_at_variants.comparison cmp.Eq t a b values
    ∙ (ap (λ o. comparison cmp.Eq o (value_of b values)) is ∙ ap (comparison cmp.Eq (Some v)) are)))
    (subst (λ c. is_nonzero (truth c) ≡ true) (sym ((Decides-int_eq v v).1 refl)) refl)

-- ---- a cell with the value of an expression

-- an expression that a test of one level more may hold
pub record Fits (cells : List IntType) (e : Expr) : Type 0 where
  pub typed : IsTyped cells e
  pub height : height e ≤ inner_height

pub scalar_height : (t : IntType) (cell : ℕ) → height (scalar_read t cell) ≤ MAX_HEIGHT
scalar_height t cell =
    ((a_scalar_is_its_cell.expr (many t cell) t cell).1 (there t cell)).height
  where
    many : IntType → ℕ → List IntType
    many t zero = t ∷ []
    many t (suc n) = t ∷ many t n

    there : (t : IntType) (n : ℕ) → slice_get (many t n) n ≡ Some t
    there t zero = refl
    there t (suc n) = there t n

pub scalar_fits : (cells : List IntType) (t : IntType) (cell : ℕ) → slice_get cells cell ≡ Some t
    → Fits cells (scalar_read t cell)
scalar_fits cells t cell at = record {
  typed = ((a_scalar_is_its_cell.expr cells t cell).1 at).typed;
  height = let low = scalar_height t cell in omega (arith, low);
}

pub equal_asked : (cells : List IntType) (t : IntType) (a b : Expr) → Fits cells a → Fits cells b
    → type_of a ≡ t → type_of b ≡ t → IsAsked cells (Cmp cmp.Eq t a b)
equal_asked cells t a b fit also is are = record {
  typed = (typed_at_variants.comparison cells cmp.Eq t a b).1 (is, are, fit.typed, also.typed);
  height = subst (λ n. n ≤ of_query.MAX_HEIGHT) (sym (height_at_variants.comparison cmp.Eq t a b))
      (let most = max-le fit.height also.height in omega (arith, most));
}

module _ (q : Query) (d : Draft) (e : Expr) (fine : Fine q d) (fit : Fits (all_cells q d) e) where
  fit_more : Fits (all_cells q (fresh (type_of e) d)) e
  fit_more = record {
    typed = subst (λ cells. IsTyped cells e) (sym (cells_more q d (type_of e) fine))
        (cells_behind_change_nothing.typed (all_cells q d) (type_of e ∷ []) e fit.typed);
    height = fit.height;
  }

  pub fine_named : Fine q (named e d)
  fine_named =
      fine_want q (fresh (type_of e) d)
      (Cmp cmp.Eq (type_of e) (scalar_read (type_of e) (next d)) e) true
      (fine_fresh q d (type_of e) fine)
      (equal_asked (all_cells q (fresh (type_of e) d)) (type_of e)
      (scalar_read (type_of e) (next d)) e
      (scalar_fits (all_cells q (fresh (type_of e) d)) (type_of e) (next d)
      (fresh_type q d (type_of e) fine)) fit_more
      (a_scalar_is_its_cell.ty (type_of e) (next d)) refl)

  pub named_back : (values : List ℤ) → IsModel (behind q (named e d)) values
      → (old : List ℤ) × (v : ℤ) × (values ≡ old ++ v ∷ []) × IsModel (behind q d) old
      × (value_of e old ≡ Some v)
  named_back values is =
      let t = type_of e in
      let wanted = want_back q (fresh t d) (Cmp cmp.Eq t (scalar_read t (next d)) e) true values
      is in
      let last = fresh_back q d t fine values wanted.0 in
      let same = equal_back t (scalar_read t (next d)) e (last.0 ++ last.1 ∷ [])
      (subst (λ vs. HasTruth vs (Cmp cmp.Eq t (scalar_read t (next d)) e) true) last.2 wanted.1) in
      let here : Some last.1 ≡ Some same.0 =
      sym (fresh_value q d t fine last.0 last.1 last.3)
      ∙ (sym (a_scalar_is_its_cell.value t (next d) (last.0 ++ last.1 ∷ [])) ∙ same.1) in (
        last.0,
        last.1,
        last.2,
        last.3,
        sym (cells_behind_change_nothing.value (all_cells q d) e last.0 (last.1 ∷ []) fit.typed
            (model_long (behind q d) last.0 last.3)) ∙ (same.2 ∙ sym here),
      )

  pub named_forth : (old : List ℤ) (v : ℤ) → IsModel (behind q d) old → value_of e old ≡ Some v
      → IsModel (behind q (named e d)) (old ++ v ∷ [])
  named_forth old v is value =
      let t = type_of e in
      let within = subst (λ o. IfSome o (IsInRange t)) value
      (values_lie_in_range (all_cells q d) e old fit.typed is.values_are) in
      want_forth q (fresh t d) (Cmp cmp.Eq t (scalar_read t (next d)) e) true (old ++ v ∷ [])
      (fresh_forth q d t fine old v is within)
      (equal_forth t (scalar_read t (next d)) e (old ++ v ∷ []) v
      (a_scalar_is_its_cell.value t (next d) (old ++ v ∷ []) ∙ fresh_value q d t fine old v is)
      (cells_behind_change_nothing.value (all_cells q d) e old (v ∷ []) fit.typed
      (model_long (behind q d) old is) ∙ value))
