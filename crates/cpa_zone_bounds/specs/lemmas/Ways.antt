-- What the closure does, stage by stage.
use Rattle.std.proofs.Common.{◌≡◌, ℕ, zero, suc, ◌+◌, ◌*◌, ◌<◌, ◌≤◌, ℤ, pos, ◌+ℤ◌, ◌-ℤ◌, ◌≤ℤ◌, Bool}
use Rattle.std.proofs.Common.{◌&&◌}
use Rattle.std.proofs.Common.{true, false, List, length, refl, sym, ap, ◌∙◌, subst, arith, cond}
use Rattle.std.proofs.Common.{inl}
use Rattle.std.proofs.Common.{inr}
use Rattle.std.specs.Prelude.{int_le, Option, None, Some, option_and_then, ◌⊎◌}
use Rattle.std.specs.List.{All}
use Rattle.std.proofs.lemmas.Int.{ints}
use Rattle.std.proofs.lemmas.Bool.{cases_lt}
use Rattle.cpa_zone_bounds.specs.Distances.{entry, IsKept, AreOwn, AreBounds, Meets}
use Rattle.cpa_zone_bounds.specs.declared.ranges.Range.{Range}
use Rattle.cpa_zone_bounds.specs.Closures.{by_way, come_back, through, opened, closed_through}
use Rattle.cpa_zone_bounds.specs.Closures.{closure, IsClosed, Attains}
use Rattle.cpa_zone_bounds.specs.lemmas.Numbers.{le_true, longer_way, own_way, min_left, to_min}
use Rattle.cpa_zone_bounds.specs.lemmas.Places.{entry-table, length-table}
use Rattle.cpa_zone_bounds.specs.lemmas.Kept.{back_at, own_way_back, kept_through}

-- ---- one stage

-- the bound in a row and a column after a stage
pub entry-through : (n k : ℕ) (most : List ℤ) (i j : ℕ) → i < n → j < n
    → entry n (through n k most) i j ≡ by_way n k most i j
entry-through n k most i j row column = entry-table n (by_way n k most) i j row column

pub own-through : (n k : ℕ) (most : List ℤ) → come_back n k most n ≡ true → AreOwn n most
    → AreOwn n (through n k most)
own-through n k most back own i row =
    entry-through n k most i i row row
    ∙ own_way_back (entry n most i i) (entry n most i k) (entry n most k i) (own i row)
    (back_at n k most n i row back)

-- no bound is above a sum of two through the first k rows
abbrev pub AreClosed : ℕ → ℕ → List ℤ → Type 0
AreClosed n k most =
    (i j l : ℕ) → i < n → j < n → l < n → l < k
    → entry n most i j ≤ℤ (entry n most i l +ℤ entry n most l j)

-- a way of which each part is one of the stage before
three : (P : ℤ → ℤ → ℤ → Type 0) (a b c x y z : ℤ) → x ≡ a → y ≡ b → z ≡ c → P a b c → P x y z
three P a b c x y z e f g h =
    subst (λ k. P k y z) (sym e) (subst (λ k. P a k z) (sym f) (subst (λ k. P a b k) (sym g) h))

pub closed-through : (n k : ℕ) (most : List ℤ) → k < n → AreOwn n most
    → AreClosed n k most → AreClosed n (suc k) (through n k most)
closed-through n k most mid own closed i j l row column inner less =
    three (λ x y z. x ≤ℤ (y +ℤ z)) (by_way n k most i j) (by_way n k most i l) (by_way n k most l j)
    (entry n (through n k most) i j) (entry n (through n k most) i l)
    (entry n (through n k most) l j)
    (entry-through n k most i j row column) (entry-through n k most i l row inner)
    (entry-through n k most l j inner column) (by (cases_lt l k)) where
      by : (l < k) ⊎ (k ≤ l)
          → by_way n k most i j ≤ℤ (by_way n k most i l +ℤ by_way n k most l j)
      by (inl h) =
          longer_way (entry n most i j) (entry n most i l) (entry n most l j) (entry n most i k)
          (entry n most k j) (entry n most k l) (entry n most l k)
          (closed i j l row column inner h) (closed i k l row mid inner h)
          (closed k j l mid column inner h)
          (subst (λ z. z ≤ℤ (entry n most k l +ℤ entry n most l k)) (own k mid)
          (closed k k l mid mid inner h))
      by (inr h) =
          let e : k ≡ l = omega arith in
          subst (λ a. by_way n k most i j ≤ℤ (by_way n k most i a +ℤ by_way n k most a j)) e
          (own_way (entry n most i j) (entry n most i k) (entry n most k j) (entry n most k k)
          (own k mid))

-- numbers that meet the bounds meet those of the stage after, and the other way round
pub meets-through : (n k : ℕ) (most : List ℤ) (x : ℕ → ℤ) → k < n → Meets n most x
    → Meets n (through n k most) x
meets-through n k most x mid meets = record {
  differ = λ i j row column.
      subst (λ z. (x i -ℤ x j) ≤ℤ z) (sym (entry-through n k most i j row column))
      (to_min (entry n most i j) (entry n most i k +ℤ entry n most k j) (x i -ℤ x j)
      (meets.differ i j row column)
      (let first = meets.differ i k row mid in
      let second = meets.differ k j mid column in omega (arith, ints)));
}

pub meets-before : (n k : ℕ) (most : List ℤ) (x : ℕ → ℤ) → Meets n (through n k most) x
    → Meets n most x
meets-before n k most x meets = record {
  differ = λ i j row column.
      let new = subst (λ z. (x i -ℤ x j) ≤ℤ z) (entry-through n k most i j row column)
      (meets.differ i j row column) in
      let less = min_left (entry n most i j) (entry n most i k +ℤ entry n most k j) in
      omega (arith, ints);
}

-- where there are such numbers, no way back is shorter than none
pub meets_back : (n k : ℕ) (most : List ℤ) (x : ℕ → ℤ) → k < n → Meets n most x → (r : ℕ)
    → r ≤ n → come_back n k most r ≡ true
meets_back n k most x mid meets zero h = refl
meets_back n k most x mid meets (suc r) h =
    let row : r < n = omega arith in
    let to = meets.differ r k row mid in
    let from = meets.differ k r mid row in
    ap (λ b. b && int_le (pos 0) (entry n most r k +ℤ entry n most k r))
    (meets_back n k most x mid meets r (omega arith))
    ∙ le_true (pos 0) (entry n most r k +ℤ entry n most k r) (omega (arith, ints))

-- ---- all stages

-- the stage before, and that it leads on
pub record Stage (n k : ℕ) (most own : List ℤ) : Type 0 where
  pub mid : List ℤ
  pub before : closed_through n k most ≡ Some mid
  pub back : come_back n k mid n ≡ true
  pub is : own ≡ through n k mid

stage_of : (n k : ℕ) (most own mid : List ℤ) → closed_through n k most ≡ Some mid
    → opened n k mid ≡ Some own → Stage n k most own
stage_of n k most own mid before is = by (come_back n k mid n) refl is where
  by : (b : Bool) → come_back n k mid n ≡ b → cond b (Some (through n k mid)) None ≡ Some own
      → Stage n k most own
  by true back same = record { mid = mid; before = before; back = back; is = cc }
  by false back same = absurd (cc)

pub last_stage : (n k : ℕ) (most own : List ℤ) → closed_through n (suc k) most ≡ Some own
    → Stage n k most own
last_stage n k most own is = by (closed_through n k most) refl is where
  by : (o : Option (List ℤ)) → closed_through n k most ≡ o
      → option_and_then (opened n k) o ≡ Some own → Stage n k most own
  by None before same = absurd (cc)
  by (Some mid) before same = stage_of n k most own mid before same

-- a stage that does not lead on
pub record Stuck (n k : ℕ) (most : List ℤ) : Type 0 where
  pub mid : List ℤ
  pub before : closed_through n k most ≡ Some mid
  pub back : come_back n k mid n ≡ false

stuck_at : (n k : ℕ) (most mid : List ℤ) → closed_through n k most ≡ Some mid
    → opened n k mid ≡ None → Stuck n k most
stuck_at n k most mid before is = by (come_back n k mid n) refl is where
  by : (b : Bool) → come_back n k mid n ≡ b → cond b (Some (through n k mid)) None ≡ None
      → Stuck n k most
  by true back same = absurd (cc)
  by false back same = record { mid = mid; before = before; back = back }

pub last_stuck : (n k : ℕ) (most : List ℤ) → closed_through n (suc k) most ≡ None
    → (closed_through n k most ≡ None) ⊎ Stuck n k most
last_stuck n k most is = by (closed_through n k most) refl is where
  by : (o : Option (List ℤ)) → closed_through n k most ≡ o
      → option_and_then (opened n k) o ≡ None
      → (closed_through n k most ≡ None) ⊎ Stuck n k most
  by None before same = inl before
  by (Some mid) before same = inr (stuck_at n k most mid before same)

-- what stays from stage to stage
pub record IsStage (n k : ℕ) (most own : List ℤ) : Type 0 where
  pub owns : AreOwn n own
  pub closed : AreClosed n k own
  pub meets : (x : ℕ → ℤ) → Meets n most x → Meets n own x
  pub before : (x : ℕ → ℤ) → Meets n own x → Meets n most x

pub stages : (n k : ℕ) (most own : List ℤ) → k ≤ n → AreOwn n most
    → closed_through n k most ≡ Some own → IsStage n k most own
stages n zero most own h owns is =
    let e : most ≡ own = cc in
    subst (IsStage n zero most) e (record {
      owns = owns;
      closed = λ i j l row column inner less. absurd (omega arith);
      meets = λ x m. m;
      before = λ x m. m;
    })
stages n (suc k) most own h owns is =
    let last = last_stage n k most own is in
    let mid : k < n = omega arith in
    let it = stages n k most last.mid (omega arith) owns last.before in
    subst (IsStage n (suc k) most) (sym last.is) (record {
      owns = own-through n k last.mid last.back it.owns;
      closed = closed-through n k last.mid mid it.owns it.closed;
      meets = λ x m. meets-through n k last.mid x mid (it.meets x m);
      before = λ x m. it.before x (meets-before n k last.mid x m);
    })

pub stuck_means : (n k : ℕ) (most : List ℤ) (x : ℕ → ℤ) → k ≤ n → AreOwn n most
    → closed_through n k most ≡ None → Meets n most x → ⊥
stuck_means n zero most x h owns is meets = absurd (cc)
stuck_means n (suc k) most x h owns is meets =
    by (λ none. stuck_means n k most x (omega arith) owns none meets) (last_stuck n k most is) where
      by : (closed_through n k most ≡ None → ⊥)
          → (closed_through n k most ≡ None) ⊎ Stuck n k most → ⊥
      by earlier (inl none) = earlier none
      by earlier (inr stuck) =
          let mid : k < n = omega arith in
          let it = stages n k most stuck.mid (omega arith) owns stuck.before in
          let back = meets_back n k stuck.mid x mid (it.meets x meets) n (omega arith) in
          absurd (cc (back, stuck.back))

-- a stage that is stuck leaves the later ones without bounds
pub none_stays : (n k m : ℕ) (most : List ℤ) → k ≤ m → closed_through n k most ≡ None
    → closed_through n m most ≡ None
none_stays n k zero most h is =
    let e : k ≡ zero = omega arith in subst (λ a. closed_through n a most ≡ None) e is
none_stays n k (suc m) most h is =
    by (λ more. none_stays n k m most more is) (cases_lt m k) where
      by : (k ≤ m → closed_through n m most ≡ None) → (m < k) ⊎ (k ≤ m)
          → closed_through n (suc m) most ≡ None
      by before (inl less) =
          let e : k ≡ suc m = omega arith in subst (λ a. closed_through n a most ≡ None) e is
      by before (inr more) = ap (option_and_then (opened n m)) (before more)

-- a test that fails for the first rows fails for more
pub stays_false : (n k r m : ℕ) (most : List ℤ) → r ≤ m → come_back n k most r ≡ false
    → come_back n k most m ≡ false
stays_false n k r zero most h is =
    let e : r ≡ zero = omega arith in subst (λ a. come_back n k most a ≡ false) e is
stays_false n k r (suc m) most h is =
    by (λ more. stays_false n k r m most more is) (cases_lt m r) where
      by : (r ≤ m → come_back n k most m ≡ false) → (m < r) ⊎ (r ≤ m)
          → come_back n k most (suc m) ≡ false
      by before (inl less) =
          let e : r ≡ suc m = omega arith in subst (λ a. come_back n k most a ≡ false) e is
      by before (inr more) =
          ap (λ b. b && int_le (pos 0) (entry n most m k +ℤ entry n most k m)) (before more)

-- ---- the closure

pub closure_closed : (n : ℕ) (most own : List ℤ) → AreOwn n most → closure n most ≡ Some own
    → IsClosed n own
closure_closed n most own owns is =
    let it = stages n n most own (omega arith) owns is in
    record { own = it.owns; ways = λ i j k row column mid. it.closed i j k row column mid mid }

-- numbers that differ from one of them, and from 0, by as much as they may
pub attained : (n : ℕ) (most : List ℤ) (i j : ℕ) → IsClosed n most → i < n → j < n
    → Attains n most i j (λ a. entry n most a j -ℤ entry n most 0 j)
attained n most i j closed row column = record {
  meets = record {
    differ = λ a b first second.
        let way = closed.ways a j b first column second in omega (arith, ints);
  };
  first = omega (arith, ints);
  as_much = let own = closed.own j column in omega (arith, ints, own);
}

pub closure_meets : (n : ℕ) (most own : List ℤ) (x : ℕ → ℤ) → AreOwn n most
    → closure n most ≡ Some own → Meets n most x → Meets n own x
closure_meets n most own x owns is m = (stages n n most own (omega arith) owns is).meets x m

pub closure_before : (n : ℕ) (most own : List ℤ) (x : ℕ → ℤ) → AreOwn n most
    → closure n most ≡ Some own → Meets n own x → Meets n most x
closure_before n most own x owns is m = (stages n n most own (omega arith) owns is).before x m

pub closure_least : (n : ℕ) (most own : List ℤ) (i j : ℕ) → AreOwn n most
    → closure n most ≡ Some own → i < n → j < n → (x : ℕ → ℤ) × Attains n own i j x
closure_least n most own i j owns is row column = (
  λ a. entry n own a j -ℤ entry n own 0 j,
  attained n own i j (closure_closed n most own owns is) row column,
)

pub closure_none : (n : ℕ) (most : List ℤ) (x : ℕ → ℤ) → AreOwn n most
    → closure n most ≡ None → Meets n most x → ⊥
closure_none n most x owns is m = stuck_means n n most x (omega arith) owns is m

-- ---- the closure of bounds are bounds

pub through-are : (ranges : List Range) (k : ℕ) (most : List ℤ) → k < length ranges
    → come_back (length ranges) k most (length ranges) ≡ true → AreBounds ranges most
    → AreBounds ranges (through (length ranges) k most)
through-are ranges k most mid back are = record {
  of_ranges = are.of_ranges;
  square = length-table (length ranges) (by_way (length ranges) k most);
  kept = kept_through (length ranges) k most are.square mid are.kept back;
  own = own-through (length ranges) k most back are.own;
}

pub closed-are : (ranges : List Range) (k : ℕ) (most own : List ℤ) → k ≤ length ranges
    → AreBounds ranges most → closed_through (length ranges) k most ≡ Some own
    → AreBounds ranges own
closed-are ranges zero most own h are is =
    let e : most ≡ own = cc in subst (AreBounds ranges) e are
closed-are ranges (suc k) most own h are is =
    let last = last_stage (length ranges) k most own is in
    subst (AreBounds ranges) (sym last.is)
    (through-are ranges k last.mid (omega arith) last.back
    (closed-are ranges k most last.mid (omega arith) are last.before))

pub closure-are : (ranges : List Range) (most own : List ℤ) → AreBounds ranges most
    → closure (length ranges) most ≡ Some own → AreBounds ranges own
closure-are ranges most own are is = closed-are ranges (length ranges) most own (omega arith) are is

-- ---- what the loops of src/closing.rt do

none_both : (x y : Bool) → y ≡ false → (x && y) ≡ false
none_both true y h = h
none_both false y h = refl

-- one row that fails decides
pub back_fails : (n k i : ℕ) (most : List ℤ) (b : Bool) → i < n
    → b ≡ int_le (pos 0) (entry n most i k +ℤ entry n most k i) → b ≡ false
    → false ≡ come_back n k most n
back_fails n k i most b row says does =
    sym (stays_false n k (suc i) n most (omega arith)
    (none_both (come_back n k most i) (int_le (pos 0) (entry n most i k +ℤ entry n most k i))
    (sym says ∙ does)))

-- one row more that does not fail
pub back_more : (n k i : ℕ) (most : List ℤ) (b : Bool) → come_back n k most i ≡ true
    → b ≡ int_le (pos 0) (entry n most i k +ℤ entry n most k i) → b ≡ true
    → come_back n k most (i + 1) ≡ true
back_more n k i most b before says does =
    let e : suc i ≡ i + 1 = omega arith in
    subst (λ r. come_back n k most r ≡ true) e
    (ap (λ t. t && int_le (pos 0) (entry n most i k +ℤ entry n most k i)) before
    ∙ (sym says ∙ does))

pub back_all : (n k : ℕ) (most : List ℤ) → come_back n k most n ≡ true
    → true ≡ come_back n k most n
back_all n k most is = sym is

-- one stage more
pub close_more : (n k : ℕ) (old mid new : List ℤ) (b : Bool) → closed_through n k old ≡ Some mid
    → cond b (Some new) None ≡ opened n k mid → b ≡ true
    → closed_through n (k + 1) old ≡ Some new
close_more n k old mid new b before is does =
    let e : suc k ≡ k + 1 = omega arith in
    subst (λ r. closed_through n r old ≡ Some new) e
    (ap (option_and_then (opened n k)) before
    ∙ (sym is ∙ ap (λ t. cond t (Some new) None) does))

-- a stage that fails decides
pub close_fails : (n k : ℕ) (old mid new : List ℤ) (b : Bool) → k < n
    → closed_through n k old ≡ Some mid → cond b (Some new) None ≡ opened n k mid → b ≡ false
    → None ≡ closure n old
close_fails n k old mid new b less before is does =
    sym (none_stays n (suc k) n old (omega arith)
    (ap (option_and_then (opened n k)) before
    ∙ (sym is ∙ ap (λ t. cond t (Some new) None) does)))

pub close_all : (n : ℕ) (old now : List ℤ) → closed_through n n old ≡ Some now
    → Some now ≡ closure n old
close_all n old now is = sym is

-- a stage that leads on keeps its bounds
pub open_kept : (n k : ℕ) (old new : List ℤ) (b : Bool) → length old ≡ n * n → k < n
    → All IsKept old → b ≡ come_back n k old n → b ≡ true → new ≡ through n k old
    → All IsKept new
open_kept n k old new b long mid all says does is =
    subst (All IsKept) (sym is) (kept_through n k old long mid all (sym says ∙ does))

pub open_own : (n k : ℕ) (old new : List ℤ) (b : Bool) → b ≡ come_back n k old n → b ≡ true
    → AreOwn n old → new ≡ through n k old → AreOwn n new
open_own n k old new b says does own is =
    subst (AreOwn n) (sym is) (own-through n k old (sym says ∙ does) own)

pub open_is : (n k : ℕ) (old new : List ℤ) (b : Bool) → b ≡ come_back n k old n → b ≡ true
    → new ≡ through n k old → Some new ≡ opened n k old
open_is n k old new b says does is =
    ap Some is
    ∙ ap (λ t. cond t (Some (through n k old)) None) (sym (sym says ∙ does))

pub open_fails : (n k : ℕ) (old : List ℤ) (b : Bool) → b ≡ come_back n k old n → b ≡ false
    → None ≡ opened n k old
open_fails n k old b says does =
    ap (λ t. cond t (Some (through n k old)) None) (sym (sym says ∙ does))

pub ruleset closing_rules = (close_more, close_fails, close_all)

pub ruleset opening_rules = (open_kept, open_own, open_is, open_fails)

pub ruleset back_rules = (back_more, back_fails, back_all)
