-- What merged bounds have, that the merged element covers the new one, and that its rank falls.
use Rattle.std.proofs.Common.{◌≡◌, ℕ, ◌+◌, ◌<◌, ◌≤◌, ℤ, ◌≤ℤ◌, ◌==◌, ◌&&◌, ◌||◌, Bool, true, false}
use Rattle.std.proofs.Common.{not, List, [], ◌∷◌, refl, sym, ap, ◌∙◌, subst, arith, length, inl}
use Rattle.std.proofs.Common.{inr}
use Rattle.std.specs.Prelude.{zero, suc, int_le, ◌⊎◌, Some, slice_get, slice_set}
use Rattle.std.specs.List.{AllByRecursion, list_all}
use Rattle.std.specs.Ordering.{int_eq}
use Rattle.std.proofs.lemmas.Int.{ints}
use Rattle.std.proofs.lemmas.Bool.{and_parts, or_left, or_right}
use Rattle.std.proofs.lemmas.Bool.Decides.{Decides-eqb, Decides-int_eq}
use Rattle.cpa_ints.specs.declared.integers.IntType.{IntType}
use Rattle.cpa_ints.specs.Integers.{least, greatest}
use Rattle.cpa_model.specs.declared.program.Cell.{Cell}
use Rattle.cpa_facts.specs.declared.fact.Fact.{Fact}
use Rattle.cpa_facts.specs.declared.fact.Fact.TheVariants.{At, Stack, Equals, Within, Truth}
use Rattle.cpa_model.specs.Expressions.{types_of}
use Rattle.cpa_model.specs.Facts.{IsFact}
use Rattle.cpa_iface.specs.declared.merging.MergeRule.{MergeRule}
use Rattle.cpa_iface.specs.declared.merging.MergeRule.TheVariants.{Sep, Join, Widen}
use Rattle.cpa_interval_bounds.specs.declared.bounds.Bounds.{Bounds}
use Rattle.cpa_interval_bounds.specs.Bounds.{IsOf, Has, bounds, range_of, is_inside, has}
use Rattle.cpa_interval_bounds.specs.ExpressionBounds.{AreOf, LieWithin}
use Rattle.cpa_interval_bounds.specs.lemmas.Sets.{le_true, from_le, hull_left, has_means}
use Rattle.cpa_interval_bounds.specs.lemmas.Ranges.{hull-is}
use Rattle.cpa_interval_bounds.specs.lemmas.Reads.{cell_is}
use Rattle.cpa_interval.specs.Widening.{widened}
use Rattle.cpa_interval.specs.Steps.{distinct, one_where}
use Rattle.cpa_interval.specs.lemmas.WideningLaws.{widening_ends}
use Rattle.cpa_interval.specs.Cells.{with_facts, cell_bounds, is_whole, facts_from}
use Rattle.cpa_interval_acts.specs.Cells.{ranges_of}
use Rattle.cpa_interval.specs.Covers.{says, has_covered}
use Rattle.cpa_interval.specs.Merging.{merged_bounds, merged_along}
use Rattle.cpa_interval.specs.Ranks.{steps_along, same_facts, is_regular, rank_along}
use Rattle.cpa_interval_acts.specs.lemmas.ZipLemmas.{type_in, type_of_cell, as_many, types_length}
use Rattle.cpa_interval.proofs.CellLemmas.{cells_are}
use Rattle.cpa_interval.proofs.ElemLemmas.{facts_all, same_facts-means, rank_is}
use Rattle.cpa_interval_acts.specs.lemmas.ActLemmas.{set_same, set_other, told_apart}

-- ---- merged bounds

merged-is : (rule : MergeRule) (ns : List ℤ) (t : IntType) (old new : Bounds) → IsOf t old
    → IsOf t new → IsOf t (merged_bounds rule ns t old new)
merged-is Sep ns t old new first second = first
merged-is Join ns t old new first second = hull-is t old new first second
merged-is Widen ns t old new first second = widening_ends.of_type ns t old new first second

pub merged_are : (rule : MergeRule) (ns : List ℤ) (cs : List Cell) (olds news : List Bounds)
    → AreOf (types_of cs) olds → AreOf (types_of cs) news
    → AreOf (types_of cs) (merged_along rule ns cs olds news)
merged_are rule ns [] [] [] first second = tt
merged_are rule ns [] [] (new ∷ news) first second = absurd second
merged_are rule ns [] (old ∷ olds) news first second = absurd first
merged_are rule ns (c ∷ cs) [] news first second = absurd first
merged_are rule ns (c ∷ cs) (old ∷ olds) [] first second = absurd second
merged_are rule ns (c ∷ cs) (old ∷ olds) (new ∷ news) first second = (
  merged-is rule ns c.ty old new first.0 second.0,
  merged_are rule ns cs olds news first.1 second.1,
)

has_old : (rule : MergeRule) (ns : List ℤ) (t : IntType) (old new : Bounds) (v : ℤ) → IsOf t new
    → Has old v → Has (merged_bounds rule ns t old new) v
has_old Sep ns t old new v of h = h
has_old Join ns t old new v of h = hull_left old new v h
has_old Widen ns t old new v of h =
    let low = widening_ends.low_old ns t old new of in
    let high = widening_ends.high_old ns t old new of in
    let first = h.low in
    let last = h.high in
    record { low = omega (arith, ints); high = omega (arith, ints) }

-- the merged bounds have the values that the old ones have
pub merged_lies : (rule : MergeRule) (ns : List ℤ) (cs : List Cell) (olds news : List Bounds)
    (vs : List ℤ) → AreOf (types_of cs) olds → AreOf (types_of cs) news → LieWithin olds vs
    → LieWithin (merged_along rule ns cs olds news) vs
merged_lies rule ns [] [] [] [] first second all = tt
merged_lies rule ns [] [] [] (v ∷ vs) first second all = absurd all
merged_lies rule ns [] [] (new ∷ news) vs first second all = absurd second
merged_lies rule ns [] (old ∷ olds) news vs first second all = absurd first
merged_lies rule ns (c ∷ cs) [] news vs first second all = absurd first
merged_lies rule ns (c ∷ cs) (old ∷ olds) [] vs first second all = absurd second
merged_lies rule ns (c ∷ cs) (old ∷ olds) (new ∷ news) [] first second all = absurd all
merged_lies rule ns (c ∷ cs) (old ∷ olds) (new ∷ news) (v ∷ vs) first second all = (
  has_old rule ns c.ty old new v second.0 all.0,
  merged_lies rule ns cs olds news vs first.1 second.1 all.1,
)

-- the second bounds lie within the first
pub record HoldsAll (outer inner : Bounds) : Type 0 where
  pub low : outer.lo ≤ℤ inner.lo
  pub high : inner.hi ≤ℤ outer.hi

-- each of the second bounds, by its place
abbrev pub EachHolds : List Bounds → List Bounds → Type 0
EachHolds bs xs = (i : ℕ) (b x : Bounds) → slice_get bs i ≡ Some b → slice_get xs i ≡ Some x
    → HoldsAll b x

-- widened bounds hold the new ones
pub widened_hold : (ns : List ℤ) (cs : List Cell) (olds news : List Bounds)
    → AreOf (types_of cs) olds → AreOf (types_of cs) news
    → EachHolds (merged_along Widen ns cs olds news) news
widened_hold ns [] olds news first second i b x at is = absurd (cc)
widened_hold ns (c ∷ cs) [] news first second i b x at is = absurd first
widened_hold ns (c ∷ cs) (old ∷ olds) [] first second i b x at is = absurd second
widened_hold ns (c ∷ cs) (old ∷ olds) (new ∷ news) first second zero b x at is =
    let one : widened ns c.ty old new ≡ b = cc in
    let two : new ≡ x = cc in
    subst (HoldsAll b) two (subst (λ y. HoldsAll y new) one (record {
      low = widening_ends.low_new ns c.ty old new second.0;
      high = widening_ends.high_new ns c.ty old new second.0;
    }))
widened_hold ns (c ∷ cs) (old ∷ olds) (new ∷ news) first second (suc i) b x at is =
    widened_hold ns cs olds news first.1 second.1 i b x at is

-- ---- which fact gives a cell its bounds

ranges_get : (cs : List Cell) (k : ℕ) (c : Cell) (b : Bounds) → slice_get cs k ≡ Some c
    → slice_get (ranges_of cs) k ≡ Some b → b ≡ range_of c.ty
ranges_get [] k c b at is = absurd (cc)
ranges_get (x ∷ cs) zero c b at is =
    let one : x ≡ c = cc in
    let two : range_of x.ty ≡ b = cc in
    sym two ∙ ap (λ (y : Cell). range_of y.ty) one
ranges_get (x ∷ cs) (suc k) c b at is = ranges_get cs k c b at is

-- a fact gives them, or they are all numbers of the type
abbrev Comes : List Cell → List Fact → ℕ → Bounds → Type 0
Comes cs fs k b =
    (has_covered fs (Within k b.lo b.hi) ≡ true)
    ⊎ ((c : Cell) → slice_get cs k ≡ Some c → b ≡ range_of c.ty)

later : (cs : List Cell) (f : Fact) (fs : List Fact) (k : ℕ) (b : Bounds) → Comes cs fs k b
    → Comes cs (f ∷ fs) k b
later cs f fs k b (inl there) =
    inl (or_right (says (Within k b.lo b.hi) f) (has_covered fs (Within k b.lo b.hi)) there)
later cs f fs k b (inr whole) = inr whole

same_bound : (n : ℤ) → int_le n n ≡ true
same_bound n = le_true n n (omega (arith, ints))

comes : (cs : List Cell) (fs : List Fact) (k : ℕ) (b : Bounds)
    → slice_get (cell_bounds cs fs) k ≡ Some b → Comes cs fs k b
comes cs [] k b is = inr (λ c at. ranges_get cs k c b at is)
comes cs (Within own lo hi ∷ fs) k b is =
    by (k == own) refl is (comes cs fs k b) where
      by : (x : Bool) → (k == own) ≡ x
          → slice_get (slice_set (with_facts fs (ranges_of cs)) own (bounds lo hi)) k ≡ Some b
          → (slice_get (cell_bounds cs fs) k ≡ Some b → Comes cs fs k b)
          → Comes cs (Within own lo hi ∷ fs) k b
      by true same is before =
          let here : k ≡ own = (Decides-eqb k own).0 same in
          let at : slice_get (slice_set (with_facts fs (ranges_of cs)) own (bounds lo hi)) own
          ≡ Some b = subst (λ j. slice_get (slice_set (with_facts fs (ranges_of cs)) own
          (bounds lo hi)) j ≡ Some b) here is in
          let are : bounds lo hi ≡ b =
          set_same (with_facts fs (ranges_of cs)) own (bounds lo hi) b at in
          inl (or_left (says (Within k b.lo b.hi) (Within own lo hi))
          (has_covered fs (Within k b.lo b.hi))
          (subst (λ y. says (Within k y.lo y.hi) (Within own lo hi) ≡ true) are
          (ap (λ x. (x && int_le lo lo) && int_le hi hi) ((Decides-eqb own k).1 (sym here))
          ∙ (ap (λ x. x && int_le hi hi) (same_bound lo) ∙ same_bound hi))))
      by false other is before =
          later cs (Within own lo hi) fs k b (before
          (sym (set_other (with_facts fs (ranges_of cs)) own k (bounds lo hi)
          (told_apart k own other)) ∙ is))
comes cs (At p ∷ fs) k b is = later cs (At p) fs k b (comes cs fs k b is)
comes cs (Stack sites ∷ fs) k b is = later cs (Stack sites) fs k b (comes cs fs k b is)
comes cs (Equals c v ∷ fs) k b is = later cs (Equals c v) fs k b (comes cs fs k b is)
comes cs (Truth e h ∷ fs) k b is = later cs (Truth e h) fs k b (comes cs fs k b is)

-- ---- what covers

wider_says : (k : ℕ) (lo hi low high : ℤ) (g : Fact) → low ≤ℤ lo → hi ≤ℤ high
    → says (Within k lo hi) g ≡ true → says (Within k low high) g ≡ true
wider_says k lo hi low high (Within own a z) below above h =
    let p = and_parts ((own == k) && int_le lo a) (int_le z hi) h in
    let q = and_parts (own == k) (int_le lo a) p.0 in
    let first = from_le lo a q.1 in
    let last = from_le z hi p.1 in
    ap (λ x. (x && int_le low a) && int_le z high) q.0
    ∙ (ap (λ x. x && int_le z high) (le_true low a (omega (arith, ints)))
    ∙ le_true z high (omega (arith, ints)))
wider_says k lo hi low high (At p) below above h = absurd (cc)
wider_says k lo hi low high (Stack sites) below above h = absurd (cc)
wider_says k lo hi low high (Equals c v) below above h = absurd (cc)
wider_says k lo hi low high (Truth e x) below above h = absurd (cc)

wider_covered : (k : ℕ) (lo hi low high : ℤ) (fs : List Fact) → low ≤ℤ lo → hi ≤ℤ high
    → has_covered fs (Within k lo hi) ≡ true → has_covered fs (Within k low high) ≡ true
wider_covered k lo hi low high [] below above h = absurd (cc)
wider_covered k lo hi low high (g ∷ fs) below above h =
    by (says (Within k lo hi) g) refl h (wider_covered k lo hi low high fs below above) where
      by : (x : Bool) → says (Within k lo hi) g ≡ x
          → (x || has_covered fs (Within k lo hi)) ≡ true
          → (has_covered fs (Within k lo hi) ≡ true → has_covered fs (Within k low high) ≡ true)
          → has_covered (g ∷ fs) (Within k low high) ≡ true
      by true is h rest =
          or_left (says (Within k low high) g) (has_covered fs (Within k low high))
          (wider_says k lo hi low high g below above is)
      by false is h rest =
          or_right (says (Within k low high) g) (has_covered fs (Within k low high)) (rest h)

whole_from : (t : IntType) (b : Bounds) → IsOf t b → b.lo ≤ℤ least t → greatest t ≤ℤ b.hi
    → is_whole t b ≡ true
whole_from t b of below above =
    let low = of.low in
    let high = of.high in
    let first : b.lo ≡ least t = omega (arith, ints) in
    let last : b.hi ≡ greatest t = omega (arith, ints) in
    ap (λ x. x && int_eq b.hi (greatest t)) ((Decides-int_eq b.lo (least t)).1 first)
    ∙ (Decides-int_eq b.hi (greatest t)).1 last

all_from : (test : Fact → Bool) (fs : List Fact) → AllByRecursion (λ f. test f ≡ true) fs
    → list_all test fs ≡ true
all_from test [] all = refl
all_from test (f ∷ fs) all =
    ap (λ x. x && list_all test fs) all.0 ∙ all_from test fs all.1

-- the facts of bounds that hold an element's are covered by the element
pub covered_all : (cs : List Cell) (points : ℕ) (fs : List Fact) (bs : List Bounds)
    → AllByRecursion (IsFact cs points) fs → AreOf (types_of cs) bs
    → EachHolds bs (cell_bounds cs fs)
    → list_all (has_covered fs) (facts_from (λ _. true) 0 cs bs) ≡ true
covered_all cs points fs bs shaped are hold =
    all_from (has_covered fs) (facts_from (λ _. true) 0 cs bs)
    (facts_all (λ f. has_covered fs f ≡ true) (λ _. true) 0 cs bs (λ i j c b at one two is.
    let here : i ≡ j = omega (arith, at) in
    let typed = type_of_cell cs i c one in
    let own = cell_is (types_of cs) (cell_bounds cs fs) i c.ty (cells_are cs points fs shaped)
    typed in
    let of = type_in (types_of cs) bs i c.ty b are typed two in
    let holds = hold i b own.0 two own.1 in
    subst (λ k. has_covered fs (Within k b.lo b.hi) ≡ true) here
    (by i c b own.0 one of is holds (comes cs fs i own.0 own.1)))) where
      by : (i : ℕ) (c : Cell) (b x : Bounds) → slice_get cs i ≡ Some c → IsOf c.ty b
          → is_whole c.ty b ≡ false → HoldsAll b x → Comes cs fs i x
          → has_covered fs (Within i b.lo b.hi) ≡ true
      by i c b x at of part holds (inl there) =
          wider_covered i x.lo x.hi b.lo b.hi fs holds.low holds.high there
      by i c b x at of part holds (inr all) =
          let whole : x ≡ range_of c.ty = all c at in
          let range = subst (HoldsAll b) whole holds in
          absurd (cc (whole_from c.ty b of range.low range.high, part))

-- ---- the rank falls

no_more_along : (ns : List ℤ) (cs : List Cell) (olds news : List Bounds)
    → AreOf (types_of cs) olds → AreOf (types_of cs) news
    → steps_along (distinct ns) cs (merged_along Widen ns cs olds news)
    ≤ steps_along (distinct ns) cs olds
no_more_along ns [] olds news first second = omega arith
no_more_along ns (c ∷ cs) [] news first second = absurd first
no_more_along ns (c ∷ cs) (old ∷ olds) [] first second = absurd second
no_more_along ns (c ∷ cs) (old ∷ olds) (new ∷ news) first second =
    let here = widening_ends.no_more ns c.ty old new second.0 in
    let rest = no_more_along ns cs olds news first.1 second.1 in
    omega (arith, here, rest)

inside_holds : (b x : Bounds) → is_inside x b ≡ true → HoldsAll b x
inside_holds b x is =
    let both = and_parts (has b x.lo) (has b x.hi) is in
    record { low = (has_means b x.lo both.0).low; high = (has_means b x.hi both.1).high }

-- the steps get fewer, or nothing grows
fewer_or_all : (ns : List ℤ) (cs : List Cell) (olds news : List Bounds)
    → AreOf (types_of cs) olds → AreOf (types_of cs) news
    → (steps_along (distinct ns) cs (merged_along Widen ns cs olds news)
    < steps_along (distinct ns) cs olds) ⊎ EachHolds olds news
fewer_or_all ns [] [] news first second = inr (λ i b x at is. absurd (cc))
fewer_or_all ns [] (old ∷ olds) news first second = absurd first
fewer_or_all ns (c ∷ cs) [] news first second = absurd first
fewer_or_all ns (c ∷ cs) (old ∷ olds) [] first second = absurd second
fewer_or_all ns (c ∷ cs) (old ∷ olds) (new ∷ news) first second =
    by (is_inside new old) refl (fewer_or_all ns cs olds news first.1 second.1) where
      each : is_inside new old ≡ true → EachHolds olds news
          → EachHolds (old ∷ olds) (new ∷ news)
      each inside rest zero b x at is =
          let one : old ≡ b = cc in
          let two : new ≡ x = cc in
          subst (HoldsAll b) two (subst (λ y. HoldsAll y new) one (inside_holds old new inside))
      each inside rest (suc i) b x at is = rest i b x at is

      by : (y : Bool) → is_inside new old ≡ y
          → (steps_along (distinct ns) cs (merged_along Widen ns cs olds news)
          < steps_along (distinct ns) cs olds) ⊎ EachHolds olds news
          → (steps_along (distinct ns) (c ∷ cs)
          (merged_along Widen ns (c ∷ cs) (old ∷ olds) (new ∷ news))
          < steps_along (distinct ns) (c ∷ cs) (old ∷ olds)) ⊎ EachHolds (old ∷ olds) (new ∷ news)
      by false out rest =
          let here = widening_ends.fewer ns c.ty old new second.0 out in
          let more = no_more_along ns cs olds news first.1 second.1 in
          inl (omega (arith, here, more))
      by true inside (inl less) =
          let here = widening_ends.no_more ns c.ty old new second.0 in
          inl (omega (arith, here, less))
      by true inside (inr rest) = inr (each inside rest)

-- the element of widened bounds has a lower rank than the old one, which does not cover the new one
pub rank_falls : (ns : List ℤ) (cs : List Cell) (points : ℕ) (new old : List Fact)
    → AllByRecursion (IsFact cs points) new → AllByRecursion (IsFact cs points) old
    → list_all (has_covered new) old ≡ false
    → rank_along (distinct ns) cs (facts_from (λ _. true) 0 cs
    (merged_along Widen ns cs (cell_bounds cs old) (cell_bounds cs new)))
    < rank_along (distinct ns) cs old
rank_falls ns cs points new old first second apart =
    let olds = cell_bounds cs old in
    let news = cell_bounds cs new in
    let are_old = cells_are cs points old second in
    let are_new = cells_are cs points new first in
    let both = merged_along Widen ns cs olds news in
    let long : length both ≡ length cs =
    as_many (types_of cs) both (merged_are Widen ns cs olds news are_old are_new)
    ∙ types_length cs in
    let is = rank_is (distinct ns) cs both long in
    let more = no_more_along ns cs olds news are_old are_new in
    by (rank_along (distinct ns) cs (facts_from (λ _. true) 0 cs both))
    (steps_along (distinct ns) cs both) (steps_along (distinct ns) cs olds)
    (is_regular cs old) refl is more (fewer_or_all ns cs olds news are_old are_new) where
      covers_it : same_facts old (facts_from (λ _. true) 0 cs (cell_bounds cs old)) ≡ true
          → EachHolds (cell_bounds cs old) (cell_bounds cs new)
          → list_all (has_covered new) old ≡ true
      covers_it same hold =
          let are = same_facts-means old (facts_from (λ _. true) 0 cs (cell_bounds cs old)) same in
          ap (list_all (has_covered new)) are
          ∙ covered_all cs points new (cell_bounds cs old) first
          (cells_are cs points old second) hold

      by : (r m n : ℕ) (x : Bool) → is_regular cs old ≡ x → r ≡ m → m ≤ n
          → (m < n) ⊎ EachHolds (cell_bounds cs old) (cell_bounds cs new)
          → r < n + one_where (not x)
      by r m n false irregular is more either = omega (arith, is, more)
      by r m n true regular is more (inl less) = omega (arith, is, less)
      by r m n true regular is more (inr hold) = absurd (cc (covers_it regular hold, apart))
