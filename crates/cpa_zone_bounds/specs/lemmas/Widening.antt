-- What bounds are merged to, and that widening ends.
use Rattle.std.proofs.Common.{◌≡◌, ◌+◌, ◌<◌, ◌≤◌, ℤ, ◌≤ℤ◌, ◌<ℤ◌, Bool, true, false, List, [], ◌∷◌}
use Rattle.std.proofs.Common.{length, refl, sym, ap, ◌∙◌, subst, arith, cond, inl, inr}
use Rattle.std.specs.Prelude.{int_le, int_lt, ◌⊎◌}
use Rattle.std.specs.Int.{int_min}
use Rattle.std.specs.List.{list_any}
use Rattle.std.specs.Ordering.{int_eq}
use Rattle.std.proofs.lemmas.Int.{ints, clamps}
use Rattle.std.proofs.lemmas.Bool.{or_left, or_right, or_cases}
use Rattle.std.proofs.lemmas.Bool.Decides.{Decides-int_eq}
use Rattle.cpa_zone_bounds.specs.Limits.{next_number, joined, widened, one_where, count_above}
use Rattle.cpa_zone_bounds.specs.Limits.{steps}
use Rattle.cpa_zone_bounds.specs.lemmas.Numbers.{from_le, from_not_le, le_false, lt_true}
use Rattle.cpa_zone_bounds.specs.lemmas.Numbers.{lt_false, from_lt}

pub joined_old : (old new : ℤ) → old ≤ℤ joined old new
joined_old old new = omega (arith, ints, clamps)

pub joined_new : (old new : ℤ) → new ≤ℤ joined old new
joined_new old new = omega (arith, ints, clamps)

pub joined_is : (old new d : ℤ) → old ≤ℤ d → new ≤ℤ d → joined old new ≤ℤ d
joined_is old new d h k = omega (arith, ints, clamps)

-- ---- the next number

-- the number is one of the list
abbrev pub is_one_of : List ℤ → ℤ → Bool
is_one_of ns d = list_any (λ n. int_eq n d) ns

-- a number from end to top that is top or one of the list
pub record IsNext (ns : List ℤ) (top end d : ℤ) : Type 0 where
  pub at_least : end ≤ℤ d
  pub at_most : d ≤ℤ top
  pub is : (d ≡ top) ⊎ (is_one_of ns d ≡ true)

later : (n top end d : ℤ) (ns : List ℤ) → IsNext ns top end d → IsNext (n ∷ ns) top end d
later n top end d ns it = record {
  at_least = it.at_least;
  at_most = it.at_most;
  is = by it.is;
} where
  by : (d ≡ top) ⊎ (is_one_of ns d ≡ true) → (d ≡ top) ⊎ (is_one_of (n ∷ ns) d ≡ true)
  by (inl same) = inl same
  by (inr one) = inr (or_right (int_eq n d) (is_one_of ns d) one)

lesser : (n top end d : ℤ) (ns : List ℤ) → (b : Bool) → int_lt n top ≡ b
    → IsNext ns (cond b n top) end d → IsNext (n ∷ ns) top end d
lesser n top end d ns false is it = later n top end d ns it
lesser n top end d ns true is it =
    let less = from_lt n top is in
    let most = it.at_most in
    record { at_least = it.at_least; at_most = omega (arith, ints); is = by it.is } where
      by : (d ≡ n) ⊎ (is_one_of ns d ≡ true) → (d ≡ top) ⊎ (is_one_of (n ∷ ns) d ≡ true)
      by (inl same) =
          inr (or_left (int_eq n d) (is_one_of ns d) ((Decides-int_eq n d).1 (sym same)))
      by (inr one) = inr (or_right (int_eq n d) (is_one_of ns d) one)

pub next : (ns : List ℤ) (top end : ℤ) → end ≤ℤ top → IsNext ns top end (next_number ns top end)
next [] top end h = record { at_least = h; at_most = omega (arith, ints); is = inl refl }
next (n ∷ ns) top end h = by (int_le end n) refl (λ start above. next ns start end above) where
  by : (b : Bool) → int_le end n ≡ b
      → ((start : ℤ) → end ≤ℤ start → IsNext ns start end (next_number ns start end))
      → IsNext (n ∷ ns) top end (next_number ns (cond b (int_min top n) top) end)
  by true at go =
      let above = from_le end n at in
      lesser n top end (next_number ns (int_min top n) end) ns (int_lt n top) refl
      (go (int_min top n) (omega (arith, ints, clamps)))
  by false at go = later n top end (next_number ns top end) ns (go top h)

-- ---- a widened bound

pub record IsWidened (ns : List ℤ) (top old new d : ℤ) : Type 0 where
  pub at_old : old ≤ℤ d
  pub at_new : new ≤ℤ d

pub widened-is : (ns : List ℤ) (top old new : ℤ) → new ≤ℤ top
    → IsWidened ns top old new (widened ns top old new)
widened-is ns top old new h = by (int_le new old) refl where
  by : (b : Bool) → int_le new old ≡ b
      → IsWidened ns top old new (cond b old (next_number ns top new))
  by true is = record { at_old = omega (arith, ints); at_new = from_le new old is }
  by false is =
      let more = from_not_le new old is in
      let it = next ns top new h in
      let least = it.at_least in
      record { at_old = omega (arith, ints); at_new = least }

pub widened_old : (ns : List ℤ) (top old new : ℤ) → new ≤ℤ top → old ≤ℤ widened ns top old new
widened_old ns top old new h = (widened-is ns top old new h).at_old

pub widened_new : (ns : List ℤ) (top old new : ℤ) → new ≤ℤ top → new ≤ℤ widened ns top old new
widened_new ns top old new h = (widened-is ns top old new h).at_new

-- ---- the steps that are left

one_more : (a b n : ℤ) → a ≤ℤ b → one_where (int_lt b n) ≤ one_where (int_lt a n)
one_more a b n h = by (int_lt b n) refl where
  by : (x : Bool) → int_lt b n ≡ x → one_where x ≤ one_where (int_lt a n)
  by true is =
      let less = from_lt b n is in
      subst (λ y. 1 ≤ one_where y) (sym (lt_true a n (omega (arith, ints)))) (omega arith)
  by false is = omega arith

-- fewer numbers are above a greater bound
pub count_falls : (ns : List ℤ) (a b : ℤ) → a ≤ℤ b → count_above ns b ≤ count_above ns a
count_falls [] a b h = omega arith
count_falls (n ∷ ns) a b h =
    let one = one_more a b n h in let rest = count_falls ns a b h in omega arith

-- and fewer by one at least where it is one of the numbers itself
pub count_fewer : (ns : List ℤ) (a b : ℤ) → a <ℤ b → is_one_of ns b ≡ true
    → count_above ns b < count_above ns a
count_fewer [] a b h is = absurd (cc)
count_fewer (n ∷ ns) a b h is =
    by (λ rest. count_fewer ns a b h rest) (or_cases (int_eq n b) (is_one_of ns b) is) where
      by : (is_one_of ns b ≡ true → count_above ns b < count_above ns a)
          → (int_eq n b ≡ true) ⊎ (is_one_of ns b ≡ true)
          → count_above (n ∷ ns) b < count_above (n ∷ ns) a
      by later (inl same) =
          let e : n ≡ b = (Decides-int_eq n b).0 same in
          let above : one_where (int_lt b n) ≡ 0 =
          ap one_where (lt_false b n (omega (arith, ints, e))) in
          let below : one_where (int_lt a n) ≡ 1 =
          ap one_where (lt_true a n (omega (arith, ints, e))) in
          let rest = count_falls ns a b (omega (arith, ints)) in
          omega (arith, above, below)
      by later (inr one) =
          let rest = later one in
          let first = one_more a b n (omega (arith, ints)) in
          omega arith

none_left : (ns : List ℤ) (top : ℤ) → steps ns top top ≡ 0
none_left ns top =
    ap (λ b. cond b (1 + count_above ns top) 0) (lt_false top top (omega (arith, ints)))

pub some_left : (ns : List ℤ) (top d : ℤ) → d <ℤ top → steps ns top d ≡ 1 + count_above ns d
some_left ns top d h = ap (λ b. cond b (1 + count_above ns d) 0) (lt_true d top h)

-- a bound that moves to the next number has fewer steps left
next_fewer : (ns : List ℤ) (top old d : ℤ) → old <ℤ top → old <ℤ d → d ≤ℤ top
    → (d ≡ top) ⊎ (is_one_of ns d ≡ true) → steps ns top d < steps ns top old
next_fewer ns top old d below moved most (inl same) =
    let none : steps ns top d ≡ 0 = ap (steps ns top) same ∙ none_left ns top in
    let some = some_left ns top old below in omega (arith, none, some)
next_fewer ns top old d below moved most (inr one) = by (int_lt d top) refl where
  by : (b : Bool) → int_lt d top ≡ b → cond b (1 + count_above ns d) 0 < steps ns top old
  by true is =
      let some = some_left ns top old below in
      let fewer = count_fewer ns old d moved one in omega (arith, some)
  by false is = let some = some_left ns top old below in omega (arith, some)

pub fewer : (ns : List ℤ) (top old new : ℤ) → old <ℤ top → old <ℤ new → new ≤ℤ top
    → steps ns top (widened ns top old new) < steps ns top old
fewer ns top old new below moved most =
    let it = next ns top new most in
    let least = it.at_least in
    subst (λ b. steps ns top (cond b old (next_number ns top new)) < steps ns top old)
    (sym (le_false new old moved))
    (next_fewer ns top old (next_number ns top new) below (omega (arith, ints)) it.at_most it.is)

at_most_one : (b : Bool) → one_where b ≤ 1
at_most_one true = omega arith
at_most_one false = omega arith

few_above : (ns : List ℤ) (d : ℤ) → count_above ns d ≤ length ns
few_above [] d = omega arith
few_above (n ∷ ns) d =
    let rest = few_above ns d in let one = at_most_one (int_lt d n) in omega arith

pub few : (ns : List ℤ) (top d : ℤ) → steps ns top d ≤ length ns + 1
few ns top d = by (int_lt d top) where
  by : (b : Bool) → cond b (1 + count_above ns d) 0 ≤ length ns + 1
  by true = let above = few_above ns d in omega arith
  by false = omega arith
