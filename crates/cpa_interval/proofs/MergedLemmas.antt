-- That the merged bounds of all cells are those of the cells of which bounds are known: each of the
-- others keeps all numbers of its type.
use Rattle.std.proofs.Common.{◌≡◌, ◌≢◌, ℕ, ◌<◌, ◌≤◌, ◌==◌, ℤ, ◌||◌, Bool, true, false, List, []}
use Rattle.std.proofs.Common.{◌∷◌}
use Rattle.std.proofs.Common.{◌+◌, refl, sym, ap, ◌∙◌, subst, arith, cond, length, drop, get_or}
use Rattle.std.specs.Prelude.{zero, suc, int_lt, Option, None, Some, slice_get, slice_set}
use Rattle.std.specs.Int.{int_max}
use Rattle.std.proofs.lemmas.Int.{ints}
use Rattle.std.proofs.lemmas.List.{drop_more}
use Rattle.std.proofs.lemmas.Bool.{eq-eqb, false≢true}
use Rattle.std.proofs.lemmas.Bool.Decides.{Decides-eqb}
use Rattle.cpa_ints.specs.declared.integers.IntType.{IntType}
use Rattle.cpa_ints.specs.Integers.{least, greatest}
use Rattle.cpa_model.specs.declared.program.Cell.{Cell}
use Rattle.cpa_iface.specs.declared.merging.MergeRule.{MergeRule}
use Rattle.cpa_iface.specs.declared.merging.MergeRule.TheVariants.{Sep, Join, Widen}
use Rattle.cpa_interval_bounds.specs.declared.bounds.Bounds.{Bounds}
use Rattle.cpa_interval_bounds.specs.declared.table.CellBounds.{CellBounds}
use Rattle.cpa_interval_bounds.specs.Bounds.{bounds, range_of}
use Rattle.cpa_interval_bounds.specs.Tables.{ranges_of, known_bounds}
use Rattle.cpa_interval_bounds.specs.lemmas.TableLemmas.{set_length, known_length, ranges_length}
use Rattle.cpa_interval_acts.specs.lemmas.ActLemmas.{set_other}
use Rattle.cpa_interval.specs.Widening.{next_down, next_up}
use Rattle.cpa_interval.specs.Filling.{is_listed, IsRightBut}
use Rattle.cpa_interval.specs.Merging.{merged_bounds, merged_along, merged_at, put_where}
use Rattle.cpa_interval.proofs.LoopLemmas.{drop_end, merged_length}

-- ---- all numbers of a type stay

not_below : (x : ℤ) → int_lt x x ≡ false
not_below x = grind (arith, ints)

either : (b : Bool) (x : ℤ) → cond b x x ≡ x
either true x = refl
either false x = refl

stays : (rule : MergeRule) (ns : List ℤ) (t : IntType) (b : Bounds) → merged_bounds rule ns
    t b b ≡ b
stays Sep ns t b = refl
stays Join ns t b =
    ap (λ x. bounds x (int_max b.hi b.hi)) (either (int_lt b.lo b.lo) b.lo)
    ∙ ap (λ x. bounds b.lo x) (either (int_lt b.hi b.hi) b.hi)
stays Widen ns t b =
    ap (λ x. bounds (cond x (next_down ns (least t) b.lo) b.lo)
    (cond (int_lt b.hi b.hi) (next_up ns (greatest t) b.hi) b.hi)) (not_below b.lo)
    ∙ ap (λ x. bounds b.lo (cond x (next_up ns (greatest t) b.hi) b.hi)) (not_below b.hi)

-- ---- the merged bounds of one cell

pub merged_is : (rule : MergeRule) (ns : List ℤ) (cs : List Cell) (olds news : List Bounds) (k : ℕ)
    → slice_get (merged_along rule ns cs olds news) k
    ≡ merged_at rule ns (slice_get cs k) (slice_get olds k) (slice_get news k)
merged_is rule ns [] olds news k = refl
merged_is rule ns (c ∷ cs) [] news k = none (slice_get (c ∷ cs) k) where
  none : (o : Option Cell) → None ≡ merged_at rule ns o None (slice_get news k)
  none None = refl
  none (Some c) = refl
merged_is rule ns (c ∷ cs) (o ∷ olds) [] k =
    none (slice_get (c ∷ cs) k) (slice_get (o ∷ olds) k) where
      none : (x : Option Cell) (y : Option Bounds) → None ≡ merged_at rule ns x y None
      none None y = refl
      none (Some c) None = refl
      none (Some c) (Some o) = refl
merged_is rule ns (c ∷ cs) (o ∷ olds) (n ∷ news) zero = refl
merged_is rule ns (c ∷ cs) (o ∷ olds) (n ∷ news) (suc k) = merged_is rule ns cs olds news k

-- ---- cells of which nothing is known

or_false : (a b : Bool) → (a || b) ≡ false → (a ≡ false) × (b ≡ false)
or_false true b is = absurd (false≢true (sym is))
or_false false b is = (refl, is)

differs : (k cell : ℕ) → (k == cell) ≡ false → cell ≢ k
differs k cell is same = false≢true (sym is ∙ eq-eqb k cell (sym same))

not_listed : (cells : List Cell) (ks : List CellBounds) (cell : ℕ) → is_listed cell ks ≡ false
    → slice_get (known_bounds cells ks) cell ≡ slice_get (ranges_of cells) cell
not_listed cells [] cell is = refl
not_listed cells (k ∷ ks) cell is =
    let both = or_false (k.cell == cell) (is_listed cell ks) is in
    set_other (known_bounds cells ks) k.cell cell k.own (differs k.cell cell both.0)
    ∙ not_listed cells ks cell both.1

range_stays : (rule : MergeRule) (ns : List ℤ) (cells : List Cell) (cell : ℕ)
    → merged_at rule ns (slice_get cells cell) (slice_get (ranges_of cells) cell)
    (slice_get (ranges_of cells) cell)
    ≡ slice_get (ranges_of cells) cell
range_stays rule ns [] cell = refl
range_stays rule ns (c ∷ cells) zero = ap Some (stays rule ns c.ty (range_of c.ty))
range_stays rule ns (c ∷ cells) (suc cell) = range_stays rule ns cells cell

-- ---- the table that is filled

-- at first those that are listed in either list are left
pub begins_right : (rule : MergeRule) (ns : List ℤ) (cells : List Cell) (os ks : List CellBounds)
    (olds news first : List Bounds) → known_bounds cells os ≡ olds → known_bounds cells ks ≡ news
    → first ≡ ranges_of cells
    → IsRightBut (λ c. is_listed c ks || is_listed c os) (merged_along rule ns cells olds news)
    first
begins_right rule ns cells os ks olds news first of_olds of_news is = record {
  long =
      let one : length olds ≡ length cells = ap length (sym of_olds) ∙ known_length cells os in
      let two : length news ≡ length cells = ap length (sym of_news) ∙ known_length cells ks in
      ap length is ∙ (ranges_length cells ∙ sym (merged_length rule ns cells olds news one two));
  right = λ cell none.
      let both = or_false (is_listed cell ks) (is_listed cell os) none in
      ap (λ l. slice_get l cell) is
      ∙ sym (merged_is rule ns cells olds news cell
      ∙ (ap (λ l. merged_at rule ns (slice_get cells cell) (slice_get l cell) (slice_get news cell))
      (sym of_olds)
      ∙ (ap (λ o. merged_at rule ns (slice_get cells cell) o (slice_get news cell))
      (not_listed cells os cell both.1)
      ∙ (ap (λ l. merged_at rule ns (slice_get cells cell) (slice_get (ranges_of cells) cell)
      (slice_get l cell)) (sym of_news)
      ∙ (ap (λ o. merged_at rule ns (slice_get cells cell) (slice_get (ranges_of cells) cell) o)
      (not_listed cells ks cell both.0)
      ∙ range_stays rule ns cells cell)))));
}

get_put : (bs : List Bounds) (k : ℕ) (o : Option Bounds) (whole : List Bounds)
    → length bs ≡ length whole → slice_get whole k ≡ o
    → slice_get (put_where k o bs) k ≡ slice_get whole k
get_put bs k None whole long at = past bs whole k long at ∙ sym at where
  past : (xs ys : List Bounds) (i : ℕ) → length xs ≡ length ys → slice_get ys i ≡ None
      → slice_get xs i ≡ None
  past [] ys i same none = refl
  past (x ∷ xs) [] i same none = absurd (cc)
  past (x ∷ xs) (y ∷ ys) zero same none = absurd (cc)
  past (x ∷ xs) (y ∷ ys) (suc i) same none = past xs ys i (omega (arith, same)) none
get_put bs k (Some b) whole long at = put bs whole k long at ∙ sym at where
  put : (xs ys : List Bounds) (i : ℕ) → length xs ≡ length ys → slice_get ys i ≡ Some b
      → slice_get (slice_set xs i b) i ≡ Some b
  put [] [] i same is = absurd (cc)
  put [] (y ∷ ys) i same is = absurd (cc)
  put (x ∷ xs) [] i same is = absurd (cc)
  put (x ∷ xs) (y ∷ ys) zero same is = refl
  put (x ∷ xs) (y ∷ ys) (suc i) same is = put xs ys i (omega (arith, same)) is

put_length : (bs : List Bounds) (k : ℕ) (o : Option Bounds) → length (put_where k o bs) ≡ length bs
put_length bs k None = refl
put_length bs k (Some b) = set_length bs k b

put_other : (bs : List Bounds) (k j : ℕ) (o : Option Bounds) → j ≢ k
    → slice_get (put_where k o bs) j ≡ slice_get bs j
put_other bs k j None other = refl
put_other bs k j (Some b) other = set_other bs k j b other

-- one cell less is left
right_more : (left : ℕ → Bool) (whole bs new : List Bounds) (known : List CellBounds) (i : ℕ)
    (it : CellBounds) → drop i known ≡ it ∷ drop (i + 1) known
    → new ≡ put_where it.cell (slice_get whole it.cell) bs
    → IsRightBut (λ c. is_listed c (drop i known) || left c) whole bs
    → IsRightBut (λ c. is_listed c (drop (i + 1) known) || left c) whole new
right_more left whole bs new known i it at is was = record {
  long = ap length is ∙ (put_length bs it.cell (slice_get whole it.cell) ∙ was.long);
  right = λ cell none. ap (λ l. slice_get l cell) is ∙ by cell (it.cell == cell) refl none;
} where
  by : (cell : ℕ) (b : Bool) → (it.cell == cell) ≡ b
      → (is_listed cell (drop (i + 1) known) || left cell) ≡ false
      → slice_get (put_where it.cell (slice_get whole it.cell) bs) cell ≡ slice_get whole cell
  by cell true same none =
      subst (λ c. slice_get (put_where it.cell (slice_get whole it.cell) bs) c ≡ slice_get whole c)
      ((Decides-eqb it.cell cell).0 same)
      (get_put bs it.cell (slice_get whole it.cell) whole was.long refl)
  by cell false other none =
      put_other bs it.cell cell (slice_get whole it.cell) (differs it.cell cell other)
      ∙ was.right cell
      (ap (λ l. is_listed cell l || left cell) at
      ∙ (ap (λ b. (b || is_listed cell (drop (i + 1) known)) || left cell) other ∙ none))

pub merge_turn : (left : ℕ → Bool) (rule : MergeRule) (ns : List ℤ) (cells own : List Cell)
    (olds news bs new : List Bounds) (known : List CellBounds) (i : ℕ) (d : CellBounds)
    → own ≡ cells → i < length known
    → new ≡ put_where (get_or known i d).cell (merged_at rule ns
    (slice_get own (get_or known i d).cell) (slice_get olds (get_or known i d).cell)
    (slice_get news (get_or known i d).cell)) bs
    → IsRightBut (λ c. is_listed c (drop i known) || left c) (merged_along rule ns cells olds news)
    bs
    → IsRightBut (λ c. is_listed c (drop (i + 1) known) || left c)
    (merged_along rule ns cells olds news) new
merge_turn left rule ns cells own olds news bs new known i d owns inside is was =
    let it = get_or known i d in
    right_more left (merged_along rule ns cells olds news) bs new known i it
    (drop_more known i d inside)
    (is
    ∙ (ap (λ l. put_where it.cell (merged_at rule ns (slice_get l it.cell) (slice_get olds it.cell)
    (slice_get news it.cell)) bs) owns
    ∙ ap (λ o. put_where it.cell o bs) (sym (merged_is rule ns cells olds news it.cell)))) was

-- and none of the list
pub right_end : (left : ℕ → Bool) (whole bs : List Bounds) (known : List CellBounds) (i : ℕ)
    → length known ≤ i → IsRightBut (λ c. is_listed c (drop i known) || left c) whole bs
    → IsRightBut left whole bs
right_end left whole bs known i past was = record {
  long = was.long;
  right = λ cell none.
      was.right cell (ap (λ l. is_listed cell l || left cell) (drop_end known i past) ∙ none);
}

-- all cells have their bounds then
pub all_right : (whole bs : List Bounds) → IsRightBut (λ _. false) whole bs → bs ≡ whole
all_right whole bs is = same whole bs is.long (λ cell. is.right cell refl) where
  same : (xs ys : List Bounds) → length ys ≡ length xs
      → ((cell : ℕ) → slice_get ys cell ≡ slice_get xs cell) → ys ≡ xs
  same [] [] long each = refl
  same [] (y ∷ ys) long each = absurd (cc)
  same (x ∷ xs) [] long each = absurd (cc)
  same (x ∷ xs) (y ∷ ys) long each =
      let first : y ≡ x = let here = each 0 in cc in
      ap (λ z. z ∷ ys) first
      ∙ ap (λ l. x ∷ l) (same xs ys (omega (arith, long)) (λ cell. each (suc cell)))

-- both lists, one after the other
pub merged_both : (rule : MergeRule) (ns : List ℤ) (cells first_cells own : List Cell)
    (os ks : List CellBounds) (olds news first middle last : List Bounds)
    → known_bounds cells os ≡ olds → known_bounds cells ks ≡ news
    → first_cells ≡ cells → own ≡ first_cells → first ≡ ranges_of cells
    → ((left : ℕ → Bool) → IsRightBut (λ c. is_listed c ks || left c)
    (merged_along rule ns first_cells olds news) first
    → IsRightBut left (merged_along rule ns first_cells olds news) middle)
    → ((left : ℕ → Bool) → IsRightBut (λ c. is_listed c os || left c)
    (merged_along rule ns own olds news) middle
    → IsRightBut left (merged_along rule ns own olds news) last)
    → last ≡ merged_along rule ns cells olds news
merged_both rule ns cells first_cells own os ks olds news first middle last of_olds of_news same
    owns is one two =
    let to_cells : merged_along rule ns first_cells olds news ≡ merged_along rule ns cells
    olds news =
    ap (λ l. merged_along rule ns l olds news) same in
    let to_first : merged_along rule ns own olds news ≡ merged_along rule ns first_cells olds news =
    ap (λ l. merged_along rule ns l olds news) owns in
    let start : IsRightBut (λ c. is_listed c ks || is_listed c os)
    (merged_along rule ns first_cells olds news) first =
    subst (λ w. IsRightBut (λ c. is_listed c ks || is_listed c os) w first) (sym to_cells)
    (begins_right rule ns cells os ks olds news first of_olds of_news is) in
    let between : IsRightBut (λ c. is_listed c os) (merged_along rule ns own olds news) middle =
    subst (λ w. IsRightBut (λ c. is_listed c os) w middle) (sym to_first)
    (one (λ c. is_listed c os) start) in
    let widened_to : IsRightBut (λ c. is_listed c os || false) (merged_along rule ns own olds news)
    middle = record {
      long = between.long;
      right = λ cell none. between.right cell (or_false (is_listed cell os) false none).0;
    } in
    all_right (merged_along rule ns own olds news) last (two (λ _. false) widened_to)
    ∙ (to_first ∙ to_cells)
