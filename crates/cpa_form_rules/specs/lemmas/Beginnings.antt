-- The form at the beginning: its models are the stores at which a run may begin.
use Rattle.std.proofs.Common.{◌≡◌, ℕ, zero, suc, ◌+◌, ◌<◌, ℤ, Bool, true, false, List, [], ◌∷◌, map}
use Rattle.std.proofs.Common.{length, Some, slice_get, refl, sym, ap, ◌∙◌, subst, arith}
use Rattle.std.specs.List.{AllByRecursion}
use Rattle.std.proofs.lemmas.List.{length-map}
use Rattle.std.proofs.lemmas.Slice.Zip.{AllZip-long}
use Rattle.cpa_ints.specs.declared.integers.IntType.{IntType}
use Rattle.cpa_ints.specs.Integers.{IsInRange}
use Rattle.cpa_expr.specs.declared.tree.Expr.TheVariants.{Const}
use Rattle.cpa_expr.specs.Cells.{AreValues, scalar_read}
use Rattle.cpa_expr.specs.Laws.{value_at_variants, type_at_variants, a_scalar_is_its_cell}
use Rattle.cpa_expr.specs.Laws.{a_constant_is_its_number}
use Rattle.cpa_model.specs.declared.program.Cell.{Cell}
use Rattle.cpa_model.specs.Expressions.{types_of}
use Rattle.cpa_query.specs.Queries.{IsModel}
use Rattle.cpa_form_renaming.specs.Places.{number_at, Shows}
use Rattle.cpa_form_rules.specs.Runs.{Begins}
use Rattle.cpa_form_rules.specs.Forms.{starts, places_from, begun}
use Rattle.cpa_form_rules.specs.lemmas.Models.{Wanted, Asked, scalar_fits, equal_asked}
use Rattle.cpa_form_rules.specs.lemmas.Models.{equal_back}
use Rattle.cpa_form_rules.specs.lemmas.Models.{equal_forth}
use Rattle.cpa_form_rules.specs.lemmas.Copies.{Stand, types_at}
use Rattle.cpa_form_rules.specs.lemmas.Calls.{Fitted}

-- the list has from n on what the other one has
abbrev From : {A : Type 0} → List A → ℕ → List A → Type 0
From all n xs = (i : ℕ) → i < length xs → slice_get all (n + i) ≡ slice_get xs i

from_start : {A : Type 0} (xs : List A) → From xs 0 xs
from_start xs i below = ap (slice_get xs) (first i)
  where
    first : (i : ℕ) → 0 + i ≡ i
    first i = omega arith

from_next : {A : Type 0} (all : List A) (n : ℕ) (x : A) (xs : List A) → From all n (x ∷ xs)
    → From all (suc n) xs
from_next all n x xs from i below =
    ap (slice_get all) (later n i) ∙ from (suc i) (omega (arith, below))
  where
    later : (n i : ℕ) → suc n + i ≡ n + suc i
    later n i = omega arith

from_first : {A : Type 0} (all : List A) (n : ℕ) (x : A) (xs : List A) → From all n (x ∷ xs)
    → slice_get all n ≡ Some x
from_first all n x xs from = ap (slice_get all) (here n) ∙ from 0 (omega arith)
  where
    here : (n : ℕ) → n ≡ n + 0
    here n = omega arith

stand_from : (all : List IntType) (n : ℕ) (cells : List Cell) → From all n (types_of cells)
    → Stand all (places_from n cells)
stand_from all n [] from = tt
stand_from all n (cell ∷ cells) from = (
  from_first all n cell.ty (types_of cells) from,
  stand_from all (suc n) cells (from_next all n cell.ty (types_of cells) from),
)

types_from : (n : ℕ) (cells : List Cell) → types_at (places_from n cells) ≡ types_of cells
types_from n [] = refl
types_from n (cell ∷ cells) = ap (λ ts. cell.ty ∷ ts) (types_from (suc n) cells)

pub places_from_long : (n : ℕ) (cells : List Cell) → length (places_from n cells) ≡ length cells
places_from_long n [] = refl
places_from_long n (cell ∷ cells) = ap suc (places_from_long (suc n) cells)

number_from : (n : ℕ) (cells : List Cell) (c : ℕ) → c < length cells
    → number_at (places_from n cells) c ≡ n + c
number_from n [] c below = absurd (omega (arith, below))
number_from n (cell ∷ cells) zero below = here n
  where
    here : (n : ℕ) → n ≡ n + 0
    here n = omega arith
number_from n (cell ∷ cells) (suc c) below =
    number_from (suc n) cells c (omega (arith, below)) ∙ later n c
  where
    later : (n c : ℕ) → suc n + c ≡ n + suc c
    later n c = omega arith

pub begun_shows : (cells : List Cell) (values : List ℤ) → length values ≡ length cells
    → Shows (places_from 0 cells) values values
begun_shows cells values long = record {
  long = long ∙ sym (places_from_long 0 cells);
  at = λ c below. ap (slice_get values)
      (number_from 0 cells c (subst (λ n. c < n) (places_from_long 0 cells) below) ∙ first c);
}
  where
    first : (c : ℕ) → 0 + c ≡ c
    first c = omega arith

-- ---- the starts

abbrev start_values : List Cell → List ℤ
start_values = map (λ cell. cell.start)

starts_asked : (all : List IntType) (n : ℕ) (cells : List Cell) → From all n (types_of cells)
    → AreValues (types_of cells) (start_values cells)
    → AllByRecursion (Asked all) (starts n cells)
starts_asked all n [] from fit = tt
starts_asked all n (cell ∷ cells) from fit =
    let constant = (a_constant_is_its_number all cell.ty cell.start).1 fit.0 in (
      equal_asked all cell.ty (scalar_read cell.ty n) (Const cell.ty cell.start)
          (scalar_fits all cell.ty n (from_first all n cell.ty (types_of cells) from))
          (record {
            typed = constant.typed;
            height = let low = constant.height in omega (arith, low);
          })
          (a_scalar_is_its_cell.ty cell.ty n) (type_at_variants.constant cell.ty cell.start),
      starts_asked all (suc n) cells (from_next all n cell.ty (types_of cells) from) fit.1,
    )

starts_back : (all : List ℤ) (n : ℕ) (cells : List Cell) (values : List ℤ)
    → length values ≡ length cells → From all n values
    → AllByRecursion (Wanted all) (starts n cells) → values ≡ start_values cells
starts_back all n [] [] long from h = refl
starts_back all n [] (v ∷ values) long from h = absurd (omega (arith, long))
starts_back all n (cell ∷ cells) [] long from h = absurd (omega (arith, long))
starts_back all n (cell ∷ cells) (v ∷ values) long from h =
    let same = equal_back cell.ty (scalar_read cell.ty n) (Const cell.ty cell.start) all h.0 in
    let here : Some v ≡ Some cell.start =
    sym (from_first all n v values from)
    ∙ (sym (a_scalar_is_its_cell.value cell.ty n all)
    ∙ (same.1 ∙ (sym same.2 ∙ value_at_variants.constant cell.ty cell.start all))) in
    let rest = starts_back all (suc n) cells values (omega (arith, long))
    (from_next all n v values from) h.1 in
    ap (λ vs. v ∷ vs) rest ∙ ap (λ w. w ∷ start_values cells) (one v cell.start here)
  where
    one : (v w : ℤ) → Some v ≡ Some w → v ≡ w
    one v w e = cc

starts_forth : (all : List ℤ) (n : ℕ) (cells : List Cell) → From all n (start_values cells)
    → AllByRecursion (Wanted all) (starts n cells)
starts_forth all n [] from = tt
starts_forth all n (cell ∷ cells) from = (
  equal_forth cell.ty (scalar_read cell.ty n) (Const cell.ty cell.start) all cell.start
      (a_scalar_is_its_cell.value cell.ty n all
      ∙ from_first all n cell.start (start_values cells) from)
      (value_at_variants.constant cell.ty cell.start all),
  starts_forth all (suc n) cells (from_next all n cell.start (start_values cells) from),
)

-- ---- the form

module _ (cells : List Cell) (fit : AreValues (types_of cells) (start_values cells)) where
  pub begun_fitted : (initial : Bool) → Fitted cells (begun cells initial)
  begun_fitted initial = record {
    asked = by initial;
    stand = stand_from (types_of cells) 0 cells (from_start (types_of cells));
    types = types_from 0 cells;
    many =
        let long = places_from_long 0 cells in
        let also = length-map cells (λ cell. cell.ty) in omega (arith, long, also);
    inputs = tt;
  }
    where
      by : (initial : Bool)
          → AllByRecursion (Asked (types_of cells)) (begun cells initial).query.wanted
      by true = starts_asked (types_of cells) 0 cells (from_start (types_of cells)) fit
      by false = tt

  pub begun_back : (initial : Bool) (values : List ℤ) → IsModel (begun cells initial).query values
      → Begins cells initial values
  begun_back true values is =
      starts_back values 0 cells values
      (AllZip-long IsInRange (types_of cells) values is.values_are
      ∙ length-map cells (λ cell. cell.ty)) (from_start values) is.wanted
  begun_back false values is = is.values_are

  pub begun_forth : (initial : Bool) (values : List ℤ) → Begins cells initial values
      → IsModel (begun cells initial).query values
  begun_forth true values begins = subst (λ vs. IsModel (begun cells true).query vs) (sym begins)
      (record {
        values_are = fit;
        wanted = starts_forth (start_values cells) 0 cells (from_start (start_values cells));
      })
  begun_forth false values begins = record { values_are = begins; wanted = tt }
