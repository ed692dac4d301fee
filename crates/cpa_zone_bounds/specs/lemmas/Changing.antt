-- Bounds stay bounds where a number changes, and what numbers meet them then.
use Rattle.std.proofs.Common.{◌≡◌, ◌≢◌, ℕ, ◌+◌, ◌*◌, ◌^◌, ◌<◌, ◌==◌, ℤ, pos, neg_ℤ, ◌+ℤ◌, ◌-ℤ◌}
use Rattle.std.proofs.Common.{◌≤ℤ◌, ◌<ℤ◌, Bool, true, false, ◌||◌, List, length, set, refl, sym, ap}
use Rattle.std.proofs.Common.{◌∙◌, subst, arith, cond, inl, inr, replicate}
use Rattle.std.specs.Prelude.{◌⊎◌}
use Rattle.std.specs.Int.{int_min}
use Rattle.std.specs.List.{All}
use Rattle.std.proofs.lemmas.Int.{ints, clamps}
use Rattle.std.proofs.lemmas.Bool.{cond_both, or_parts, cases_eq}
use Rattle.std.proofs.lemmas.Bool.Decides.{Decides-eqb}
use Rattle.std.proofs.lemmas.Nat.{mul-add-lt, same_from_place}
use Rattle.std.proofs.lemmas.List.{length-set, get_or-set_same, get_or-set_other}
use Rattle.std.proofs.lemmas.List.{length-replicate}
use Rattle.std.proofs.lemmas.List.Elements.{All-get_or, All-set, All-replicate}
use Rattle.cpa_zone_bounds.specs.declared.ranges.Range.{Range}
use Rattle.cpa_zone_bounds.specs.declared.changes.Change.{Change}
use Rattle.cpa_zone_bounds.specs.declared.changes.Change.TheVariants.{Everything, Forgotten}
use Rattle.cpa_zone_bounds.specs.declared.changes.Change.TheVariants.{Shifted}
use Rattle.cpa_zone_bounds.specs.Distances.{entry, table, zero_range, range_at, widest, IsNarrow}
use Rattle.cpa_zone_bounds.specs.Distances.{AreRanges, far, IsKept, AreOwn, AreBounds, Meets}
use Rattle.cpa_zone_bounds.specs.Distances.{AreInside}
use Rattle.cpa_zone_bounds.specs.Changes.{not_below, lesser, tightened, kept_within}
use Rattle.cpa_zone_bounds.specs.Changes.{after_change, changed}
use Rattle.cpa_zone_bounds.specs.Changes.{is_among, Become}
use Rattle.cpa_zone_bounds.specs.lemmas.Numbers.{min_left, min_right}
use Rattle.cpa_zone_bounds.specs.lemmas.Places.{entry-table, length-table, all_table, at_entry}
use Rattle.cpa_zone_bounds.specs.lemmas.Places.{all_fit}
use Rattle.cpa_zone_bounds.specs.lemmas.Fillings.{IsFilled, by_place, entry_left, filled_entry}
use Rattle.cpa_zone_bounds.specs.lemmas.Fillings.{filled_none, filled_all, filled_has}

-- numbers that the test tells apart, and one that it does not
pub told_apart : (i j : ℕ) → (i == j) ≡ false → i ≢ j
told_apart i j is e = absurd (cc ((Decides-eqb i j).1 e, is))

pub told_other : (i j : ℕ) → (i ≡ j → ⊥) → (i == j) ≡ false
told_other i j apart = by (i == j) refl where
  by : (b : Bool) → (i == j) ≡ b → b ≡ false
  by true is = absurd (apart ((Decides-eqb i j).0 is))
  by false is = refl

pub told_same : (i : ℕ) → (i == i) ≡ true
told_same i = (Decides-eqb i i).1 refl

-- ---- what the ranges give

pub narrow_at : (ranges : List Range) (i : ℕ) → AreRanges ranges → i < length ranges
    → IsNarrow (range_at ranges i)
narrow_at ranges i are less = All-get_or IsNarrow ranges i zero_range less are.narrow

pub narrow_is : (ranges : List Range) (i : ℕ) (r : Range) → AreRanges ranges → i < length ranges
    → r ≡ range_at ranges i → IsNarrow r
narrow_is ranges i r are less is = subst IsNarrow (sym is) (narrow_at ranges i are less)

pub kept_difference : (r s : Range) → IsNarrow r → IsNarrow s → IsKept (r.greatest -ℤ s.least)
kept_difference r s a b =
    let a_low = a.low in let a_order = a.order in let a_high = a.high in
    let b_low = b.low in let b_order = b.order in let b_high = b.high in
    record { low = omega (arith, ints); high = omega (arith, ints) }

pub kept_widest : (ranges : List Range) (i j : ℕ) → AreRanges ranges → i < length ranges
    → j < length ranges → IsKept (widest ranges i j)
kept_widest ranges i j are row column =
    cond_both (i == j) (pos 0) ((range_at ranges i).greatest -ℤ (range_at ranges j).least) IsKept
    (λ same. record { low = omega (arith, ints); high = omega (arith, ints) })
    (λ other. kept_difference (range_at ranges i) (range_at ranges j)
    (narrow_at ranges i are row) (narrow_at ranges j are column))

pub own_widest : (ranges : List Range) (i : ℕ) → widest ranges i i ≡ pos 0
own_widest ranges i =
    ap (λ b. cond b (pos 0) ((range_at ranges i).greatest -ℤ (range_at ranges i).least))
    (told_same i)

-- ---- after a change

kept_between : (w d : ℤ) → IsKept w → IsKept (lesser w d)
kept_between w d k =
    let high = k.high in
    record { low = omega (arith, ints, clamps); high = omega (arith, ints, clamps) }

pub kept_change : (ranges : List Range) (change : Change) (i j : ℕ) (d : ℤ) → AreRanges ranges
    → i < length ranges → j < length ranges → IsKept d → IsKept (after_change ranges change i j d)
kept_change ranges Everything i j d are row column kept = kept_widest ranges i j are row column
kept_change ranges (Forgotten start end) i j d are row column kept =
    cond_both (is_among start end i || is_among start end j) (widest ranges i j) d IsKept
    (λ same. kept_widest ranges i j are row column) (λ other. kept)
kept_change ranges (Shifted at by) i j d are row column kept =
    let wide = kept_widest ranges i j are row column in
    cond_both (i == j) d (cond (i == at) (kept_within ranges i j (d +ℤ by))
    (cond (j == at) (kept_within ranges i j (d -ℤ by)) d)) IsKept (λ same. kept)
    (λ other. cond_both (i == at) (kept_within ranges i j (d +ℤ by))
    (cond (j == at) (kept_within ranges i j (d -ℤ by)) d) IsKept
    (λ same. kept_between (widest ranges i j) (d +ℤ by) wide)
    (λ more. cond_both (j == at) (kept_within ranges i j (d -ℤ by)) d IsKept
    (λ same. kept_between (widest ranges i j) (d -ℤ by) wide) (λ last. kept)))

pub own_change : (ranges : List Range) (change : Change) (i : ℕ) (d : ℤ) → d ≡ pos 0
    → after_change ranges change i i d ≡ pos 0
own_change ranges Everything i d own = own_widest ranges i
own_change ranges (Forgotten start end) i d own =
    cond_both (is_among start end i || is_among start end i) (widest ranges i i) d (λ z. z ≡ pos 0)
    (λ same. own_widest ranges i) (λ other. own)
own_change ranges (Shifted at by) i d own =
    ap (λ b. cond b d (cond (i == at) (kept_within ranges i i (d +ℤ by))
    (cond (i == at) (kept_within ranges i i (d -ℤ by)) d))) (told_same i)
    ∙ own

pub entry-changed : (ranges : List Range) (change : Change) (most : List ℤ) (i j : ℕ)
    → i < length ranges → j < length ranges
    → entry (length ranges) (changed ranges change most) i j
    ≡ after_change ranges change i j (entry (length ranges) most i j)
entry-changed ranges change most i j row column =
    entry-table (length ranges)
    (λ a b. after_change ranges change a b (entry (length ranges) most a b)) i j row column

-- changed bounds are bounds
pub changed-are : (ranges : List Range) (change : Change) (most : List ℤ) → AreBounds ranges most
    → AreBounds ranges (changed ranges change most)
changed-are ranges change most are = record {
  of_ranges = are.of_ranges;
  square = length-table (length ranges)
      (λ a b. after_change ranges change a b (entry (length ranges) most a b));
  kept = all_table IsKept (length ranges)
      (λ a b. after_change ranges change a b (entry (length ranges) most a b))
      (λ i j row column. kept_change ranges change i j (entry (length ranges) most i j)
      are.of_ranges row column
      (at_entry IsKept (length ranges) most i j are.square row column are.kept));
  own = λ i row. entry-changed ranges change most i i row row
      ∙ own_change ranges change i (entry (length ranges) most i i) (are.own i row);
}

-- the bounds that the ranges alone give are bounds
pub widest-are : (ranges : List Range) → AreRanges ranges
    → AreBounds ranges (table (length ranges) (widest ranges))
widest-are ranges are = record {
  of_ranges = are;
  square = length-table (length ranges) (widest ranges);
  kept = all_table IsKept (length ranges) (widest ranges)
      (λ i j row column. kept_widest ranges i j are row column);
  own = λ i row. entry-table (length ranges) (widest ranges) i i row row ∙ own_widest ranges i;
}

-- one bound more is changed
pub filled_change : (ranges : List Range) (change : Change) (old now : List ℤ) (i j : ℕ)
    → length old ≡ length ranges * length ranges → i < length ranges → j < length ranges
    → IsFilled (by_place (length ranges)
    (λ a b. after_change ranges change a b (entry (length ranges) old a b))) old now
    (i * length ranges + j)
    → IsFilled (by_place (length ranges)
    (λ a b. after_change ranges change a b (entry (length ranges) old a b))) old
    (set now (i * length ranges + j)
    (after_change ranges change i j (entry (length ranges) now i j)))
    (i * length ranges + (j + 1))
filled_change ranges change old now i j long row column so =
    filled_entry (length ranges)
    (λ a b. after_change ranges change a b (entry (length ranges) old a b)) old now i j
    (after_change ranges change i j (entry (length ranges) now i j)) long row column
    (ap (after_change ranges change i j)
    (entry_left (length ranges)
    (λ a b. after_change ranges change a b (entry (length ranges) old a b)) old now i j so)) so

-- ---- one bound more tightened

pub tightened_at : (n i j : ℕ) (d : ℤ) (most : List ℤ) → length most ≡ n * n → i < n → j < n
    → entry n (tightened n i j d most) i j ≡ lesser (entry n most i j) d
tightened_at n i j d most long row column =
    get_or-set_same most (i * n + j) (lesser (entry n most i j) d) (pos 0)
    (subst (λ m. i * n + j < m) (sym long) (mul-add-lt i n j n row column))

pub tightened_elsewhere : (n i j : ℕ) (d : ℤ) (most : List ℤ) (a b : ℕ) → j < n → b < n
    → ((a ≡ i) × (b ≡ j) → ⊥) → entry n (tightened n i j d most) a b ≡ entry n most a b
tightened_elsewhere n i j d most a b column other differs =
    get_or-set_other most (i * n + j) (a * n + b) (lesser (entry n most i j) d) (pos 0)
    (λ e. differs (same_from_place a b i j n other column e))

pub tightened-are : (ranges : List Range) (i j : ℕ) (d : ℤ) (most : List ℤ) → i < length ranges
    → j < length ranges → i ≢ j → AreBounds ranges most
    → AreBounds ranges (tightened (length ranges) i j d most)
tightened-are ranges i j d most row column other are = record {
  of_ranges = are.of_ranges;
  square = length-set most (i * length ranges + j)
      (lesser (entry (length ranges) most i j) d) ∙ are.square;
  kept = All-set IsKept most (i * length ranges + j)
      (lesser (entry (length ranges) most i j) d)
      (kept_between (entry (length ranges) most i j) d
      (at_entry IsKept (length ranges) most i j are.square row column are.kept)) are.kept;
  own = λ a line. tightened_elsewhere (length ranges) i j d most a a column line
      (λ same. other (sym same.0 ∙ same.1)) ∙ are.own a line;
}

-- ---- what numbers meet them

below_kept : (w d z : ℤ) → z ≤ℤ w → z ≤ℤ d → z ≤ℤ lesser w d
below_kept w d z h k = omega (arith, ints, clamps)

pub widest_meets : (ranges : List Range) (x : ℕ → ℤ) (i j : ℕ) → i < length ranges
    → j < length ranges → AreInside ranges x → (x i -ℤ x j) ≤ℤ widest ranges i j
widest_meets ranges x i j row column inside =
    cond_both (i == j) (pos 0) ((range_at ranges i).greatest -ℤ (range_at ranges j).least)
    (λ z. (x i -ℤ x j) ≤ℤ z)
    (λ same. let e : i ≡ j = (Decides-eqb i j).0 same in
    subst (λ k. (x i -ℤ x k) ≤ℤ pos 0) e (omega (arith, ints)))
    (λ other. let high = inside.high i row in let low = inside.low j column in
    omega (arith, ints))

pub meets_widest : (ranges : List Range) (x : ℕ → ℤ) → AreInside ranges x
    → Meets (length ranges) (table (length ranges) (widest ranges)) x
meets_widest ranges x inside = record {
  differ = λ i j row column.
      subst (λ z. (x i -ℤ x j) ≤ℤ z)
      (sym (entry-table (length ranges) (widest ranges) i j row column))
      (widest_meets ranges x i j row column inside);
}

pub meets_tightened : (n i j : ℕ) (d : ℤ) (most : List ℤ) (x : ℕ → ℤ) → length most ≡ n * n
    → i < n → j < n → Meets n most x → (x i -ℤ x j) ≤ℤ d → Meets n (tightened n i j d most) x
meets_tightened n i j d most x long row column meets less = record {
  differ = λ a b first second. by a b first second (cases_eq a i) (cases_eq b j);
} where
  by : (a b : ℕ) → a < n → b < n → (a ≡ i) ⊎ (a ≡ i → ⊥) → (b ≡ j) ⊎ (b ≡ j → ⊥)
      → (x a -ℤ x b) ≤ℤ entry n (tightened n i j d most) a b
  by a b first second (inl e) (inl f) =
      subst (λ k. (x k -ℤ x b) ≤ℤ entry n (tightened n i j d most) k b) (sym e)
      (subst (λ k. (x i -ℤ x k) ≤ℤ entry n (tightened n i j d most) i k) (sym f)
      (subst (λ z. (x i -ℤ x j) ≤ℤ z) (sym (tightened_at n i j d most long row column))
      (below_kept (entry n most i j) d (x i -ℤ x j) (meets.differ i j row column) less)))
  by a b first second (inl e) (inr f) =
      subst (λ z. (x a -ℤ x b) ≤ℤ z)
      (sym (tightened_elsewhere n i j d most a b column second (λ same. f same.1)))
      (meets.differ a b first second)
  by a b first second (inr e) f =
      subst (λ z. (x a -ℤ x b) ≤ℤ z)
      (sym (tightened_elsewhere n i j d most a b column second (λ same. e same.0)))
      (meets.differ a b first second)

pub change_meets : (ranges : List Range) (change : Change) (x y : ℕ → ℤ) (i j : ℕ) (d : ℤ)
    → i < length ranges → j < length ranges → AreInside ranges y → Become ranges change x y
    → (x i -ℤ x j) ≤ℤ d → (y i -ℤ y j) ≤ℤ after_change ranges change i j d
change_meets ranges Everything x y i j d row column inside changes less =
    widest_meets ranges y i j row column inside
change_meets ranges (Forgotten start end) x y i j d row column inside changes less =
    cond_both (is_among start end i || is_among start end j) (widest ranges i j) d
    (λ z. (y i -ℤ y j) ≤ℤ z)
    (λ same. widest_meets ranges y i j row column inside)
    (λ other. let parts = or_parts (is_among start end i) (is_among start end j) other in
    let first = changes i row parts.0 in
    let second = changes j column parts.1 in
    omega (arith, ints, first, second))
change_meets ranges (Shifted at by) x y i j d row column inside changes less =
    let wide = widest_meets ranges y i j row column inside in
    cond_both (i == j) d (cond (i == at) (kept_within ranges i j (d +ℤ by))
    (cond (j == at) (kept_within ranges i j (d -ℤ by)) d)) (λ z. (y i -ℤ y j) ≤ℤ z)
    (λ same. let e : i ≡ j = (Decides-eqb i j).0 same in
    let own = subst (λ k. (x i -ℤ x k) ≤ℤ d) (sym e) less in
    subst (λ k. (y i -ℤ y k) ≤ℤ d) e (omega (arith, ints, own)))
    (λ apart. cond_both (i == at) (kept_within ranges i j (d +ℤ by))
    (cond (j == at) (kept_within ranges i j (d -ℤ by)) d) (λ z. (y i -ℤ y j) ≤ℤ z)
    (λ same. let e : i ≡ at = (Decides-eqb i at).0 same in
    let moved : y i ≡ x i +ℤ by = subst (λ k. y k ≡ x k +ℤ by) (sym e) changes.0 in
    let stays = changes.1 j column (λ f. told_apart i j apart (e ∙ sym f)) in
    below_kept (widest ranges i j) (d +ℤ by) (y i -ℤ y j) wide
    (omega (arith, ints, moved, stays)))
    (λ more. cond_both (j == at) (kept_within ranges i j (d -ℤ by)) d (λ z. (y i -ℤ y j) ≤ℤ z)
    (λ same. let e : j ≡ at = (Decides-eqb j at).0 same in
    let moved : y j ≡ x j +ℤ by = subst (λ k. y k ≡ x k +ℤ by) (sym e) changes.0 in
    let stays = changes.1 i row (told_apart i at more) in
    below_kept (widest ranges i j) (d -ℤ by) (y i -ℤ y j) wide
    (omega (arith, ints, moved, stays)))
    (λ last. let first = changes.1 i row (told_apart i at more) in
    let second = changes.1 j column (told_apart j at last) in
    omega (arith, ints, first, second))))

pub meets_changed : (ranges : List Range) (change : Change) (most : List ℤ) (x y : ℕ → ℤ)
    → Meets (length ranges) most x → AreInside ranges y → Become ranges change x y
    → Meets (length ranges) (changed ranges change most) y
meets_changed ranges change most x y meets inside changes = record {
  differ = λ i j row column.
      subst (λ z. (y i -ℤ y j) ≤ℤ z) (sym (entry-changed ranges change most i j row column))
      (change_meets ranges change x y i j (entry (length ranges) most i j) row column inside changes
      (meets.differ i j row column));
}

-- numbers in their ranges differ by less than what is kept, so a bound that is added is met
within_kept : (d z : ℤ) → neg_ℤ far <ℤ z → z ≤ℤ not_below d → z ≤ℤ d
within_kept d z h k = omega (arith, ints, clamps)

not_far : (r s : Range) (a b : ℤ) → IsNarrow r → IsNarrow s → r.least ≤ℤ a → b ≤ℤ s.greatest
    → neg_ℤ far <ℤ (a -ℤ b)
not_far r s a b one two low high =
    let r_low = one.low in let s_high = two.high in omega (arith, ints)

pub tightened_meets : (ranges : List Range) (most : List ℤ) (i j : ℕ) (d : ℤ) (x : ℕ → ℤ)
    → AreBounds ranges most → i < length ranges → j < length ranges → AreInside ranges x
    → Meets (length ranges) (tightened (length ranges) i j d most) x
    → Meets (length ranges) most x × ((x i -ℤ x j) ≤ℤ d)
tightened_meets ranges most i j d x are row column inside meets = (
  record {
    differ = λ a b first second. by a b first second (cases_eq a i) (cases_eq b j);
  },
  let right = min_right (entry (length ranges) most i j) d in omega (arith, ints, both, right),
) where
  both : (x i -ℤ x j) ≤ℤ int_min (entry (length ranges) most i j) d
  both = within_kept (int_min (entry (length ranges) most i j) d) (x i -ℤ x j)
      (not_far (range_at ranges i) (range_at ranges j) (x i) (x j)
      (narrow_at ranges i are.of_ranges row) (narrow_at ranges j are.of_ranges column)
      (inside.low i row) (inside.high j column))
      (subst (λ z. (x i -ℤ x j) ≤ℤ z)
      (tightened_at (length ranges) i j d most are.square row column) (meets.differ i j row column))

  here : (x i -ℤ x j) ≤ℤ entry (length ranges) most i j
  here = let left = min_left (entry (length ranges) most i j) d in omega (arith, ints, both, left)

  by : (a b : ℕ) → a < length ranges → b < length ranges → (a ≡ i) ⊎ (a ≡ i → ⊥)
      → (b ≡ j) ⊎ (b ≡ j → ⊥) → (x a -ℤ x b) ≤ℤ entry (length ranges) most a b
  by a b first second (inl e) (inl f) =
      subst (λ k. (x k -ℤ x b) ≤ℤ entry (length ranges) most k b) (sym e)
      (subst (λ k. (x i -ℤ x k) ≤ℤ entry (length ranges) most i k) (sym f) here)
  by a b first second (inl e) (inr f) =
      subst (λ z. (x a -ℤ x b) ≤ℤ z)
      (tightened_elsewhere (length ranges) i j d most a b column second (λ same. f same.1))
      (meets.differ a b first second)
  by a b first second (inr e) f =
      subst (λ z. (x a -ℤ x b) ≤ℤ z)
      (tightened_elsewhere (length ranges) i j d most a b column second (λ same. e same.0))
      (meets.differ a b first second)

-- ---- what the loops of src/changes.rt do

-- the bounds before the place are changed, and the others are as they were
pub record IsChanged (ranges : List Range) (change : Change) (old now : List ℤ) (place : ℕ)
    : Type 0 where
  pub so : IsFilled (by_place (length ranges)
      (λ a b. after_change ranges change a b (entry (length ranges) old a b))) old now place

pub changed_start : (ranges : List Range) (change : Change) (old : List ℤ) (place : ℕ)
    → place ≡ 0 → IsChanged ranges change old old place
changed_start ranges change old place start = record {
  so = subst (IsFilled (by_place (length ranges)
      (λ a b. after_change ranges change a b (entry (length ranges) old a b))) old old) (sym start)
      (filled_none (by_place (length ranges)
      (λ a b. after_change ranges change a b (entry (length ranges) old a b))) old);
}

pub changed_row : (ranges : List Range) (change : Change) (i : ℕ) (old now : List ℤ)
    → IsChanged ranges change old now (i * length ranges)
    → IsChanged ranges change old now (i * length ranges + 0)
changed_row ranges change i old now it =
    let e : i * length ranges ≡ i * length ranges + 0 = omega arith in
    subst (IsChanged ranges change old now) e it

pub changed_next : (ranges : List Range) (change : Change) (i : ℕ) (old now : List ℤ)
    → IsChanged ranges change old now (i * length ranges + length ranges)
    → IsChanged ranges change old now ((i + 1) * length ranges)
changed_next ranges change i old now it =
    let e : i * length ranges + length ranges ≡ (i + 1) * length ranges = omega arith in
    subst (IsChanged ranges change old now) e it

pub changed_more : (ranges : List Range) (change : Change) (i j : ℕ) (old now new : List ℤ)
    → length old ≡ length ranges * length ranges → i < length ranges → j < length ranges
    → new ≡ set now (i * length ranges + j)
    (after_change ranges change i j (entry (length ranges) now i j))
    → IsChanged ranges change old now (i * length ranges + j)
    → IsChanged ranges change old new (i * length ranges + (j + 1))
changed_more ranges change i j old now new long row column is it = record {
  so = subst (λ xs. IsFilled (by_place (length ranges)
      (λ a b. after_change ranges change a b (entry (length ranges) old a b))) old xs
      (i * length ranges + (j + 1))) (sym is)
      (filled_change ranges change old now i j long row column it.so);
}

pub changed_all : (ranges : List Range) (change : Change) (old now : List ℤ)
    → length old ≡ length ranges * length ranges
    → IsChanged ranges change old now (length ranges * length ranges)
    → now ≡ changed ranges change old
changed_all ranges change old now long it =
    filled_all (length ranges)
    (λ a b. after_change ranges change a b (entry (length ranges) old a b)) old now long it.so

pub changed_long : (ranges : List Range) (change : Change) (old now : List ℤ) (place : ℕ)
    → length old ≡ length ranges * length ranges → IsChanged ranges change old now place
    → length now ≡ length ranges * length ranges
changed_long ranges change old now place long it = it.so.long ∙ long

pub changed_kept : (ranges : List Range) (change : Change) (old now : List ℤ) (place : ℕ)
    → AreRanges ranges → length old ≡ length ranges * length ranges → All IsKept old
    → IsChanged ranges change old now place → All IsKept now
changed_kept ranges change old now place are long all it =
    filled_has IsKept (length ranges)
    (λ a b. after_change ranges change a b (entry (length ranges) old a b)) old now place long all
    (λ i j row column. kept_change ranges change i j (entry (length ranges) old i j) are row column
    (at_entry IsKept (length ranges) old i j long row column all)) it.so

pub ruleset changed_rules = (
  changed_start,
  changed_row,
  changed_more,
  changed_next,
  changed_all,
  changed_long,
  changed_kept,
)

-- ---- what the methods of src/bounds.rt leave

pub widest_holds : (ranges : List Range) (most : List ℤ) → AreRanges ranges
    → most ≡ table (length ranges) (widest ranges) → AreBounds ranges most
widest_holds ranges most are is = subst (AreBounds ranges) (sym is) (widest-are ranges are)

pub change_holds : (ranges : List Range) (change : Change) (old new : List ℤ)
    → AreBounds ranges old → new ≡ changed ranges change old → AreBounds ranges new
change_holds ranges change old new are is =
    subst (AreBounds ranges) (sym is) (changed-are ranges change old are)

pub tighten_holds : (ranges : List Range) (i j : ℕ) (d : ℤ) (old new : List ℤ)
    → i < length ranges → j < length ranges → i ≢ j → AreBounds ranges old
    → new ≡ tightened (length ranges) i j d old → AreBounds ranges new
tighten_holds ranges i j d old new row column other are is =
    subst (AreBounds ranges) (sym is) (tightened-are ranges i j d old row column other are)

pub close_holds : (ranges : List Range) (old new : List ℤ) → AreBounds ranges old
    → length new ≡ length old → All IsKept new → AreOwn (length ranges) new → AreBounds ranges new
close_holds ranges old new are long kept own = record {
  of_ranges = are.of_ranges;
  square = long ∙ are.square;
  kept = kept;
  own = own;
}

pub ruleset bounds_rules = (widest_holds, change_holds, tighten_holds, close_holds)

-- ---- what the ranges alone give, made of zeros

pub zeros_kept : (n : ℕ) (most : List ℤ) → most ≡ replicate n (pos 0) → All IsKept most
zeros_kept n most is =
    subst (All IsKept) (sym is)
    (All-replicate IsKept n (pos 0)
    (record { low = omega (arith, ints); high = omega (arith, ints) }))

pub zeros_long : (n : ℕ) (most : List ℤ) → most ≡ replicate n (pos 0) → length most ≡ n
zeros_long n most is = ap length is ∙ length-replicate n (pos 0)

pub rows_fit : (ranges : List Range) → AreRanges ranges
    → length ranges * length ranges < 2 ^ 64
rows_fit ranges are = all_fit (length ranges) are.few

pub ruleset widest_rules = (zeros_kept, zeros_long, rows_fit)

-- ---- the bounds of a number that grows

pub shifted_row : (ranges : List Range) (row : ℕ) (by : ℤ) (i j : ℕ) (own r m : ℤ)
    → (i ≡ j → ⊥) → i ≡ row → r ≡ kept_within ranges i j m → m ≡ own +ℤ by
    → r ≡ after_change ranges (Shifted row by) i j own
shifted_row ranges row by i j own r m apart same is sum =
    is ∙ (ap (kept_within ranges i j) sum
    ∙ sym (ap (λ b. cond b own (cond (i == row) (kept_within ranges i j (own +ℤ by))
    (cond (j == row) (kept_within ranges i j (own -ℤ by)) own))) (told_other i j apart)
    ∙ ap (λ b. cond b (kept_within ranges i j (own +ℤ by))
    (cond (j == row) (kept_within ranges i j (own -ℤ by)) own)) ((Decides-eqb i row).1 same)))

pub shifted_column : (ranges : List Range) (row : ℕ) (by : ℤ) (i j : ℕ) (own r m : ℤ)
    → (i ≡ j → ⊥) → (i ≡ row → ⊥) → j ≡ row → r ≡ kept_within ranges i j m → m ≡ own -ℤ by
    → r ≡ after_change ranges (Shifted row by) i j own
shifted_column ranges row by i j own r m apart other same is sum =
    is ∙ (ap (kept_within ranges i j) sum
    ∙ sym (ap (λ b. cond b own (cond (i == row) (kept_within ranges i j (own +ℤ by))
    (cond (j == row) (kept_within ranges i j (own -ℤ by)) own))) (told_other i j apart)
    ∙ (ap (λ b. cond b (kept_within ranges i j (own +ℤ by))
    (cond (j == row) (kept_within ranges i j (own -ℤ by)) own)) (told_other i row other)
    ∙ ap (λ b. cond b (kept_within ranges i j (own -ℤ by)) own) ((Decides-eqb j row).1 same))))
