-- Where widened bounds lie, and that they have fewer steps left.
use Rattle.std.proofs.Common.{◌≡◌, ◌+◌, ◌*◌, ◌<◌, ◌≤◌, ℤ, ◌≤ℤ◌, ◌<ℤ◌, Bool, true, false, List, []}
use Rattle.std.proofs.Common.{◌∷◌, ◌&&◌, ◌||◌, refl, sym, ap, ◌∙◌, subst, arith, cond, length, inl}
use Rattle.std.proofs.Common.{inr}
use Rattle.std.specs.Prelude.{int_le, int_lt, ◌⊎◌}
use Rattle.std.specs.Int.{int_max, int_min}
use Rattle.std.specs.Ordering.{int_eq}
use Rattle.std.proofs.lemmas.Int.{ints, clamps}
use Rattle.std.proofs.lemmas.Bool.{or_left, or_right}
use Rattle.std.proofs.lemmas.Bool.Decides.{Decides-int_eq}
use Rattle.cpa_ints.specs.declared.integers.IntType.{IntType}
use Rattle.cpa_ints.specs.Integers.{least, greatest}
use Rattle.cpa_interval_bounds.specs.declared.bounds.Bounds.{Bounds}
use Rattle.cpa_interval_bounds.specs.Bounds.{IsOf, is_inside}
use Rattle.cpa_interval_bounds.specs.lemmas.Sets.{le_true, from_le, lt_true, from_lt, from_not_lt}
use Rattle.cpa_interval.specs.Widening.{next_down, next_up, widened}
use Rattle.cpa_interval.specs.Steps.{is_one_of, distinct, one_where, count, steps_down}
use Rattle.cpa_interval.specs.Steps.{steps_up, steps}

-- ---- the next number

-- the number from which a search goes on, or one of the list
abbrev Comes : List ℤ → ℤ → ℤ → Type 0
Comes ns start d = (d ≡ start) ⊎ (is_one_of ns d ≡ true)

later : (n start d : ℤ) (ns : List ℤ) (b : Bool) → Comes ns (cond b n start) d
    → Comes (n ∷ ns) start d
later n start d ns b (inr one) = inr (or_right (int_eq n d) (is_one_of ns d) one)
later n start d ns true (inl same) =
    inr (or_left (int_eq n d) (is_one_of ns d) ((Decides-int_eq n d).1 (sym same)))
later n start d ns false (inl same) = inl same

earlier : (n start d : ℤ) (ns : List ℤ) → Comes ns start d → Comes (n ∷ ns) start d
earlier n start d ns (inl same) = inl same
earlier n start d ns (inr one) = inr (or_right (int_eq n d) (is_one_of ns d) one)

greater : (n low d : ℤ) (ns : List ℤ) → Comes ns (int_max low n) d → Comes (n ∷ ns) low d
greater n low d ns h = by (int_lt n low) h where
  by : (b : Bool) → Comes ns (cond b low n) d → Comes (n ∷ ns) low d
  by true h = earlier n low d ns h
  by false h = later n low d ns true h

lesser : (n high d : ℤ) (ns : List ℤ) → Comes ns (int_min high n) d → Comes (n ∷ ns) high d
lesser n high d ns h = by (int_lt n high) h where
  by : (b : Bool) → Comes ns (cond b n high) d → Comes (n ∷ ns) high d
  by true h = later n high d ns true h
  by false h = earlier n high d ns h

record Down (ns : List ℤ) (low end d : ℤ) : Type 0 where
  at_most : d ≤ℤ end
  at_least : low ≤ℤ d
  is : Comes ns low d

down : (ns : List ℤ) (low end : ℤ) → low ≤ℤ end → Down ns low end (next_down ns low end)
down [] low end h = record { at_most = h; at_least = omega (arith, ints); is = inl refl }
down (n ∷ ns) low end h =
    by (int_le n end) refl (λ start below. down ns start end below) where
      by : (b : Bool) → int_le n end ≡ b
          → ((start : ℤ) → start ≤ℤ end → Down ns start end (next_down ns start end))
          → Down (n ∷ ns) low end (next_down ns (cond b (int_max low n) low) end)
      by true at go =
          let less = from_le n end at in
          let rest = go (int_max low n) (omega (arith, ints, clamps)) in
          let from = rest.at_least in
          record {
            at_most = rest.at_most;
            at_least = omega (arith, ints, clamps);
            is = greater n low (next_down ns (int_max low n) end) ns rest.is;
          }
      by false at go =
          let rest = go low h in
          record {
            at_most = rest.at_most;
            at_least = rest.at_least;
            is = earlier n low (next_down ns low end) ns rest.is;
          }

record Up (ns : List ℤ) (high end d : ℤ) : Type 0 where
  at_least : end ≤ℤ d
  at_most : d ≤ℤ high
  is : Comes ns high d

up : (ns : List ℤ) (high end : ℤ) → end ≤ℤ high → Up ns high end (next_up ns high end)
up [] high end h = record { at_least = h; at_most = omega (arith, ints); is = inl refl }
up (n ∷ ns) high end h =
    by (int_le end n) refl (λ start above. up ns start end above) where
      by : (b : Bool) → int_le end n ≡ b
          → ((start : ℤ) → end ≤ℤ start → Up ns start end (next_up ns start end))
          → Up (n ∷ ns) high end (next_up ns (cond b (int_min high n) high) end)
      by true at go =
          let less = from_le end n at in
          let rest = go (int_min high n) (omega (arith, ints, clamps)) in
          let from = rest.at_most in
          record {
            at_least = rest.at_least;
            at_most = omega (arith, ints, clamps);
            is = lesser n high (next_up ns (int_min high n) end) ns rest.is;
          }
      by false at go =
          let rest = go high h in
          record {
            at_least = rest.at_least;
            at_most = rest.at_most;
            is = earlier n high (next_up ns high end) ns rest.is;
          }

-- ---- the ends of widened bounds

record LowEnd (ns : List ℤ) (t : IntType) (old new lo : ℤ) : Type 0 where
  at_least : least t ≤ℤ lo
  at_old : lo ≤ℤ old
  at_new : lo ≤ℤ new

low_end : (ns : List ℤ) (t : IntType) (old new : ℤ) → least t ≤ℤ new → (b : Bool)
    → int_lt new old ≡ b → least t ≤ℤ old
    → LowEnd ns t old new (cond b (next_down ns (least t) new) old)
low_end ns t old new h true moved own =
    let less = from_lt new old moved in
    let it = down ns (least t) new h in
    let most = it.at_most in
    record { at_least = it.at_least; at_old = omega (arith, ints); at_new = most }
low_end ns t old new h false stays own =
    let less = from_not_lt new old stays in
    record { at_least = own; at_old = omega (arith, ints); at_new = less }

-- without the old end's own type
low_both : (ns : List ℤ) (t : IntType) (old new : ℤ) → least t ≤ℤ new → (b : Bool)
    → int_lt new old ≡ b
    → (cond b (next_down ns (least t) new) old ≤ℤ old)
    × (cond b (next_down ns (least t) new) old ≤ℤ new)
low_both ns t old new h true moved =
    let less = from_lt new old moved in
    let most = (down ns (least t) new h).at_most in
    (omega (arith, ints), most)
low_both ns t old new h false stays =
    let less = from_not_lt new old stays in (omega (arith, ints), less)

high_both : (ns : List ℤ) (t : IntType) (old new : ℤ) → new ≤ℤ greatest t → (b : Bool)
    → int_lt old new ≡ b
    → (old ≤ℤ cond b (next_up ns (greatest t) new) old)
    × (new ≤ℤ cond b (next_up ns (greatest t) new) old)
high_both ns t old new h true moved =
    let less = from_lt old new moved in
    let most = (up ns (greatest t) new h).at_least in
    (omega (arith, ints), most)
high_both ns t old new h false stays =
    let less = from_not_lt old new stays in (omega (arith, ints), less)

high_of : (ns : List ℤ) (t : IntType) (old new : ℤ) → new ≤ℤ greatest t → (b : Bool)
    → old ≤ℤ greatest t → cond b (next_up ns (greatest t) new) old ≤ℤ greatest t
high_of ns t old new h true own = (up ns (greatest t) new h).at_most
high_of ns t old new h false own = own

pub low_old : (ns : List ℤ) (t : IntType) (old new : Bounds) → IsOf t new
    → (widened ns t old new).lo ≤ℤ old.lo
low_old ns t old new is = (low_both ns t old.lo new.lo is.low (int_lt new.lo old.lo) refl).0

pub low_new : (ns : List ℤ) (t : IntType) (old new : Bounds) → IsOf t new
    → (widened ns t old new).lo ≤ℤ new.lo
low_new ns t old new is = (low_both ns t old.lo new.lo is.low (int_lt new.lo old.lo) refl).1

pub high_old : (ns : List ℤ) (t : IntType) (old new : Bounds) → IsOf t new
    → old.hi ≤ℤ (widened ns t old new).hi
high_old ns t old new is = (high_both ns t old.hi new.hi is.high (int_lt old.hi new.hi) refl).0

pub high_new : (ns : List ℤ) (t : IntType) (old new : Bounds) → IsOf t new
    → new.hi ≤ℤ (widened ns t old new).hi
high_new ns t old new is = (high_both ns t old.hi new.hi is.high (int_lt old.hi new.hi) refl).1

pub widened-is : (ns : List ℤ) (t : IntType) (old new : Bounds) → IsOf t old → IsOf t new
    → IsOf t (widened ns t old new)
widened-is ns t old new first second =
    let low = low_old ns t old new second in
    let high = high_old ns t old new second in
    let order = first.order in
    record {
      order = omega (arith, ints);
      low = (low_end ns t old.lo new.lo second.low (int_lt new.lo old.lo) refl first.low).at_least;
      high = high_of ns t old.hi new.hi second.high (int_lt old.hi new.hi) first.high;
    }

-- ---- how many pass a test

one_less : (a b : Bool) → (a ≡ true → b ≡ true) → one_where a ≤ one_where b
one_less true b h = subst (λ x. one_where true ≤ one_where x) (sym (h refl)) (omega arith)
one_less false b h = omega arith

-- fewer pass a test that asks more
count_less : (f g : ℤ → Bool) (ns : List ℤ) → ((n : ℤ) → f n ≡ true → g n ≡ true)
    → count f ns ≤ count g ns
count_less f g [] h = omega arith
count_less f g (n ∷ ns) h =
    let first = one_less (f n) (g n) (h n) in
    let rest = count_less f g ns h in
    omega (arith, first, rest)

-- and fewer still where one of them does not
count_fewer : (f g : ℤ → Bool) (ns : List ℤ) (d : ℤ) → ((n : ℤ) → f n ≡ true → g n ≡ true)
    → is_one_of ns d ≡ true → f d ≡ false → g d ≡ true → count f ns < count g ns
count_fewer f g [] d h one out within = absurd (cc)
count_fewer f g (n ∷ ns) d h one out within =
    by (int_eq n d) refl one (λ there. count_fewer f g ns d h there out within) where
      by : (b : Bool) → int_eq n d ≡ b → (b || is_one_of ns d) ≡ true
          → (is_one_of ns d ≡ true → count f ns < count g ns)
          → one_where (f n) + count f ns < one_where (g n) + count g ns
      by true at there go =
          let same : n ≡ d = (Decides-int_eq n d).0 at in
          let fails : one_where (f n) ≡ 0 = ap (λ x. one_where (f x)) same ∙ ap one_where out in
          let passes : one_where (g n) ≡ 1 = ap (λ x. one_where (g x)) same ∙ ap one_where within in
          let rest = count_less f g ns h in
          omega (arith, fails, passes, rest)
      by false at there go =
          let first = one_less (f n) (g n) (h n) in
          let rest = go there in
          omega (arith, first, rest)

count_few : (f : ℤ → Bool) (ns : List ℤ) → count f ns ≤ length ns
count_few f [] = omega arith
count_few f (n ∷ ns) =
    let rest = count_few f ns in
    let one : one_where (f n) ≤ 1 = by (f n) in
    omega (arith, rest, one) where
      by : (b : Bool) → one_where b ≤ 1
      by true = omega arith
      by false = omega arith

-- to keep each number once keeps each
kept_once : (ns : List ℤ) (d : ℤ) → is_one_of ns d ≡ true → is_one_of (distinct ns) d ≡ true
kept_once [] d one = one
kept_once (n ∷ ns) d one =
    by (is_one_of ns n) refl (int_eq n d) refl one (kept_once ns d) where
      by : (x : Bool) → is_one_of ns n ≡ x → (y : Bool) → int_eq n d ≡ y
          → (y || is_one_of ns d) ≡ true
          → (is_one_of ns d ≡ true → is_one_of (distinct ns) d ≡ true)
          → is_one_of (cond x (distinct ns) (n ∷ distinct ns)) d ≡ true
      by true at true same h rest =
          let here : n ≡ d = (Decides-int_eq n d).0 same in
          rest (subst (λ k. is_one_of ns k ≡ true) here at)
      by true at false other h rest = rest h
      by false at true same h rest = or_left (int_eq n d) (is_one_of (distinct ns) d) same
      by false at false other h rest =
          or_right (int_eq n d) (is_one_of (distinct ns) d) (rest h)

-- ---- steps that are left

below_less : (lo end n : ℤ) → lo ≤ℤ end → int_lt n lo ≡ true → int_lt n end ≡ true
below_less lo end n h less =
    let before = from_lt n lo less in lt_true n end (omega (arith, ints))

above_less : (hi end n : ℤ) → end ≤ℤ hi → int_lt hi n ≡ true → int_lt end n ≡ true
above_less hi end n h less =
    let before = from_lt hi n less in lt_true end n (omega (arith, ints))

down_less : (ns : List ℤ) (low lo end : ℤ) → lo ≤ℤ end
    → steps_down ns low lo ≤ steps_down ns low end
down_less ns low lo end h =
    let first : one_where (int_lt low lo) ≤ one_where (int_lt low end) =
    one_less (int_lt low lo) (int_lt low end) (λ less.
    let before = from_lt low lo less in lt_true low end (omega (arith, ints))) in
    let rest : count (λ n. int_lt n lo) ns ≤ count (λ n. int_lt n end) ns =
    count_less (λ n. int_lt n lo) (λ n. int_lt n end) ns (λ n. below_less lo end n h) in
    omega (arith, first, rest)

up_less : (ns : List ℤ) (high hi end : ℤ) → end ≤ℤ hi
    → steps_up ns high hi ≤ steps_up ns high end
up_less ns high hi end h =
    let first : one_where (int_lt hi high) ≤ one_where (int_lt end high) =
    one_less (int_lt hi high) (int_lt end high) (λ less.
    let before = from_lt hi high less in lt_true end high (omega (arith, ints))) in
    let rest : count (λ n. int_lt hi n) ns ≤ count (λ n. int_lt end n) ns =
    count_less (λ n. int_lt hi n) (λ n. int_lt end n) ns (λ n. above_less hi end n h) in
    omega (arith, first, rest)

not_self : (n : ℤ) → int_lt n n ≡ false
not_self n = grind (arith, ints)

-- an end that moves to such a number
down_fewer : (ns : List ℤ) (low lo end : ℤ) → lo <ℤ end → (lo ≡ low) ⊎ (is_one_of ns lo ≡ true)
    → steps_down ns low lo < steps_down ns low end
down_fewer ns low lo end h (inl same) =
    let gone : one_where (int_lt low lo) ≡ 0 =
    ap one_where (ap (int_lt low) same ∙ not_self low) in
    let there : one_where (int_lt low end) ≡ 1 =
    ap one_where (lt_true low end (subst (λ x. x <ℤ end) same h)) in
    let rest : count (λ n. int_lt n lo) ns ≤ count (λ n. int_lt n end) ns =
    count_less (λ n. int_lt n lo) (λ n. int_lt n end) ns
    (λ n. below_less lo end n (omega (arith, ints))) in
    omega (arith, gone, there, rest)
down_fewer ns low lo end h (inr one) =
    let first : one_where (int_lt low lo) ≤ one_where (int_lt low end) =
    one_less (int_lt low lo) (int_lt low end) (λ less.
    let before = from_lt low lo less in lt_true low end (omega (arith, ints))) in
    let rest : count (λ n. int_lt n lo) ns < count (λ n. int_lt n end) ns =
    count_fewer (λ n. int_lt n lo) (λ n. int_lt n end) ns lo
    (λ n. below_less lo end n (omega (arith, ints))) one (not_self lo) (lt_true lo end h) in
    omega (arith, first, rest)

up_fewer : (ns : List ℤ) (high hi end : ℤ) → end <ℤ hi → (hi ≡ high) ⊎ (is_one_of ns hi ≡ true)
    → steps_up ns high hi < steps_up ns high end
up_fewer ns high hi end h (inl same) =
    let gone : one_where (int_lt hi high) ≡ 0 =
    ap one_where (ap (λ x. int_lt x high) same ∙ not_self high) in
    let there : one_where (int_lt end high) ≡ 1 =
    ap one_where (lt_true end high (subst (λ x. end <ℤ x) same h)) in
    let rest : count (λ n. int_lt hi n) ns ≤ count (λ n. int_lt end n) ns =
    count_less (λ n. int_lt hi n) (λ n. int_lt end n) ns
    (λ n. above_less hi end n (omega (arith, ints))) in
    omega (arith, gone, there, rest)
up_fewer ns high hi end h (inr one) =
    let first : one_where (int_lt hi high) ≤ one_where (int_lt end high) =
    one_less (int_lt hi high) (int_lt end high) (λ less.
    let before = from_lt hi high less in lt_true end high (omega (arith, ints))) in
    let rest : count (λ n. int_lt hi n) ns < count (λ n. int_lt end n) ns =
    count_fewer (λ n. int_lt hi n) (λ n. int_lt end n) ns hi
    (λ n. above_less hi end n (omega (arith, ints))) one (not_self hi) (lt_true end hi h) in
    omega (arith, first, rest)

pub no_more : (ns : List ℤ) (t : IntType) (old new : Bounds) → IsOf t new
    → steps (distinct ns) t (widened ns t old new) ≤ steps (distinct ns) t old
no_more ns t old new is =
    let w = widened ns t old new in
    let low : steps_down (distinct ns) (least t) w.lo ≤ steps_down (distinct ns) (least t) old.lo =
    down_less (distinct ns) (least t) w.lo old.lo (low_old ns t old new is) in
    let high : steps_up (distinct ns) (greatest t) w.hi
    ≤ steps_up (distinct ns) (greatest t) old.hi =
    up_less (distinct ns) (greatest t) w.hi old.hi (high_old ns t old new is) in
    omega (arith, low, high)

once : (ns : List ℤ) (start d : ℤ) → Comes ns start d → Comes (distinct ns) start d
once ns start d (inl same) = inl same
once ns start d (inr one) = inr (kept_once ns d one)

low_fewer : (ns : List ℤ) (t : IntType) (old new : ℤ) → least t ≤ℤ new → (b : Bool)
    → int_lt new old ≡ b → b ≡ true
    → steps_down (distinct ns) (least t) (cond b (next_down ns (least t) new) old)
    < steps_down (distinct ns) (least t) old
low_fewer ns t old new h false moved is = absurd (cc)
low_fewer ns t old new h true moved is =
    let less = from_lt new old moved in
    let it = down ns (least t) new h in
    let most = it.at_most in
    down_fewer (distinct ns) (least t) (next_down ns (least t) new) old (omega (arith, ints))
    (once ns (least t) (next_down ns (least t) new) it.is)

high_fewer : (ns : List ℤ) (t : IntType) (old new : ℤ) → new ≤ℤ greatest t → (b : Bool)
    → int_lt old new ≡ b → b ≡ true
    → steps_up (distinct ns) (greatest t) (cond b (next_up ns (greatest t) new) old)
    < steps_up (distinct ns) (greatest t) old
high_fewer ns t old new h false moved is = absurd (cc)
high_fewer ns t old new h true moved is =
    let less = from_lt old new moved in
    let it = up ns (greatest t) new h in
    let most = it.at_least in
    up_fewer (distinct ns) (greatest t) (next_up ns (greatest t) new) old (omega (arith, ints))
    (once ns (greatest t) (next_up ns (greatest t) new) it.is)

-- bounds that do not lie in others have a number below or above them
moves : (old new : Bounds) → new.lo ≤ℤ new.hi → is_inside new old ≡ false
    → (int_lt new.lo old.lo ≡ true) ⊎ (int_lt old.hi new.hi ≡ true)
moves old new order out =
    by (int_lt new.lo old.lo) refl (int_lt old.hi new.hi) refl where
      by : (x : Bool) → int_lt new.lo old.lo ≡ x → (y : Bool) → int_lt old.hi new.hi ≡ y
          → (int_lt new.lo old.lo ≡ true) ⊎ (int_lt old.hi new.hi ≡ true)
      by true low y high = inl low
      by false low true high = inr high
      by false low false high =
          let from = from_not_lt new.lo old.lo low in
          let below = from_not_lt old.hi new.hi high in
          let a = le_true old.lo new.lo from in
          let b = le_true new.lo old.hi (omega (arith, ints)) in
          let c = le_true old.lo new.hi (omega (arith, ints)) in
          let d = le_true new.hi old.hi below in
          let whole : is_inside new old ≡ true =
          ap (λ p. (p && int_le new.lo old.hi) && (int_le old.lo new.hi && int_le new.hi old.hi)) a
          ∙ (ap (λ p. p && (int_le old.lo new.hi && int_le new.hi old.hi)) b
          ∙ (ap (λ p. p && int_le new.hi old.hi) c ∙ d)) in
          absurd (cc (whole, out))

pub fewer : (ns : List ℤ) (t : IntType) (old new : Bounds) → IsOf t new → is_inside new old ≡ false
    → steps (distinct ns) t (widened ns t old new) < steps (distinct ns) t old
fewer ns t old new is out = by (moves old new is.order out) where
  by : (int_lt new.lo old.lo ≡ true) ⊎ (int_lt old.hi new.hi ≡ true)
      → steps (distinct ns) t (widened ns t old new) < steps (distinct ns) t old
  by (inl low) =
      let first : steps_down (distinct ns) (least t) (widened ns t old new).lo
      < steps_down (distinct ns) (least t) old.lo =
      low_fewer ns t old.lo new.lo is.low (int_lt new.lo old.lo) refl low in
      let second : steps_up (distinct ns) (greatest t) (widened ns t old new).hi
      ≤ steps_up (distinct ns) (greatest t) old.hi =
      up_less (distinct ns) (greatest t) (widened ns t old new).hi old.hi
      (high_old ns t old new is) in
      omega (arith, first, second)
  by (inr high) =
      let first : steps_down (distinct ns) (least t) (widened ns t old new).lo
      ≤ steps_down (distinct ns) (least t) old.lo =
      down_less (distinct ns) (least t) (widened ns t old new).lo old.lo
      (low_old ns t old new is) in
      let second : steps_up (distinct ns) (greatest t) (widened ns t old new).hi
      < steps_up (distinct ns) (greatest t) old.hi =
      high_fewer ns t old.hi new.hi is.high (int_lt old.hi new.hi) refl high in
      omega (arith, first, second)

one_few : (b : Bool) → one_where b ≤ 1
one_few true = omega arith
one_few false = omega arith

pub few : (ns : List ℤ) (t : IntType) (b : Bounds) → steps ns t b ≤ 2 * (length ns + 1)
few ns t b =
    let low = one_few (int_lt (least t) b.lo) in
    let high = one_few (int_lt b.hi (greatest t)) in
    let below = count_few (λ n. int_lt n b.lo) ns in
    let above = count_few (λ n. int_lt b.hi n) ns in
    omega (arith, low, high, below, above)
