-- A list of bounds that is written from its first place on.
use Rattle.std.proofs.Common.{◌≡◌, ℕ, ◌+◌, ◌*◌, ◌/◌, ◌%◌, ◌<◌, ◌≤◌, ℤ, pos, ◌+ℤ◌, List, length}
use Rattle.std.proofs.Common.{get_or, set, refl, sym, ap, ◌∙◌, subst, arith, below_more, inl, inr}
use Rattle.std.specs.Int.{int_min}
use Rattle.std.specs.List.{All}
use Rattle.std.proofs.lemmas.Bool.{cases_lt}
use Rattle.std.proofs.lemmas.Nat.{mul-add-lt, div_below, mod_below}
use Rattle.std.specs.Prelude.{◌⊎◌}
use Rattle.std.proofs.lemmas.Int.{ints}
use Rattle.std.proofs.lemmas.List.{length-set, get_or-set_same, get_or-set_other}
use Rattle.std.proofs.lemmas.List.FromFn.{fill_by_all}
use Rattle.std.proofs.lemmas.List.Elements.{All-from_get_or, All-get_or}
use Rattle.cpa_zone_bounds.specs.Distances.{entry, table, AreOwn}
use Rattle.cpa_zone_bounds.specs.Closures.{by_way, through}
use Rattle.cpa_zone_bounds.specs.lemmas.Places.{at_place, some_rows}
use Rattle.cpa_zone_bounds.specs.lemmas.Numbers.{min_is}

-- before the place each bound is as f says, and from it on as it was
pub record IsFilled (f : ℕ → ℤ) (old now : List ℤ) (place : ℕ) : Type 0 where
  pub long : length now ≡ length old
  pub done : (p : ℕ) → p < place → get_or now p (pos 0) ≡ f p
  pub left : (p : ℕ) → place ≤ p → get_or now p (pos 0) ≡ get_or old p (pos 0)

pub filled_none : (f : ℕ → ℤ) (old : List ℤ) → IsFilled f old old 0
filled_none f old = record { long = refl; done = λ p h. absurd (omega arith); left = λ p h. refl }

pub filled_more : (f : ℕ → ℤ) (old now : List ℤ) (place : ℕ) (v : ℤ) → place < length old
    → v ≡ f place → IsFilled f old now place → IsFilled f old (set now place v) (place + 1)
filled_more f old now place v less is so =
    let within : place < length now = subst (λ m. place < m) (sym so.long) less in
    record {
      long = length-set now place v ∙ so.long;
      done = below_more (λ p. get_or (set now place v) p (pos 0) ≡ f p) place
          (λ p h. get_or-set_other now place p v (pos 0) (omega arith) ∙ so.done p h)
          (get_or-set_same now place v (pos 0) within ∙ is);
      left = λ p h. get_or-set_other now place p v (pos 0) (omega arith) ∙ so.left p (omega arith);
    }

-- a row that is done leads to the next one
pub next_row : (f : ℕ → ℤ) (old now : List ℤ) (i n : ℕ) → IsFilled f old now (i * n + n)
    → IsFilled f old now ((i + 1) * n)
next_row f old now i n so =
    let e : i * n + n ≡ (i + 1) * n = omega arith in subst (IsFilled f old now) e so

-- the place of each row and column
abbrev pub by_place : ℕ → (ℕ → ℕ → ℤ) → ℕ → ℤ
by_place n d place = d (place / n) (place % n)

-- once all is done, the list is the table
pub filled_all : (n : ℕ) (d : ℕ → ℕ → ℤ) (old now : List ℤ) → length old ≡ n * n
    → IsFilled (by_place n d) old now (n * n) → now ≡ table n d
filled_all n d old now long so =
    fill_by_all (by_place n d) now (n * n) (pos 0) (so.long ∙ long) so.done

-- the bounds so far have what the old ones and the new ones have
pub filled_has : (P : ℤ → Type 0) (n : ℕ) (d : ℕ → ℕ → ℤ) (old now : List ℤ) (place : ℕ)
    → length old ≡ n * n → All P old → ((i j : ℕ) → i < n → j < n → P (d i j))
    → IsFilled (by_place n d) old now place → All P now
filled_has P n d old now place long all news so =
    All-from_get_or P now (pos 0) (λ p less.
    by p (subst (λ m. p < m) so.long less) (cases_lt p place)) where
      by : (p : ℕ) → p < length old → (p < place) ⊎ (place ≤ p) → P (get_or now p (pos 0))
      by p within (inl h) =
          let inner : p < n * n = subst (λ m. p < m) long within in
          let some = some_rows n p inner in
          subst P (sym (so.done p h))
          (news (p / n) (p % n) (div_below p n n some inner) (mod_below p n some))
      by p within (inr h) = subst P (sym (so.left p h)) (All-get_or P old p (pos 0) within all)

-- what is not written yet is as it was
pub entry_left : (n : ℕ) (d : ℕ → ℕ → ℤ) (old now : List ℤ) (i j : ℕ)
    → IsFilled (by_place n d) old now (i * n + j) → entry n now i j ≡ entry n old i j
entry_left n d old now i j so = so.left (i * n + j) (omega arith)

-- what is written is right, and so is what stays as it was
pub entry_stays : (n : ℕ) (d : ℕ → ℕ → ℤ) (old now : List ℤ) (place i j : ℕ) → j < n
    → d i j ≡ entry n old i j → IsFilled (by_place n d) old now place
    → entry n now i j ≡ entry n old i j
entry_stays n d old now place i j column same so = by (cases_lt (i * n + j) place) where
  by : (i * n + j < place) ⊎ (place ≤ i * n + j) → entry n now i j ≡ entry n old i j
  by (inl h) = so.done (i * n + j) h ∙ (at_place n d i j column ∙ same)
  by (inr h) = so.left (i * n + j) h

-- one bound more, as d gives it
pub filled_entry : (n : ℕ) (d : ℕ → ℕ → ℤ) (old now : List ℤ) (i j : ℕ) (v : ℤ)
    → length old ≡ n * n → i < n → j < n → v ≡ d i j
    → IsFilled (by_place n d) old now (i * n + j)
    → IsFilled (by_place n d) old (set now (i * n + j) v) (i * n + (j + 1))
filled_entry n d old now i j v long row column is so =
    let within : i * n + j < length old =
    subst (λ m. i * n + j < m) (sym long) (mul-add-lt i n j n row column) in
    let e : i * n + j + 1 ≡ i * n + (j + 1) = omega arith in
    subst (IsFilled (by_place n d) old (set now (i * n + j) v)) e
    (filled_more (by_place n d) old now (i * n + j) v within
    (is ∙ sym (at_place n d i j column)) so)

-- ---- ways through a row

-- row k and its column stay as they are
pub way_to : (n k : ℕ) (most : List ℤ) (i : ℕ) → entry n most k k ≡ pos 0
    → by_way n k most i k ≡ entry n most i k
way_to n k most i own = min_is _ _ (omega (arith, ints, own))

pub way_from : (n k : ℕ) (most : List ℤ) (j : ℕ) → entry n most k k ≡ pos 0
    → by_way n k most k j ≡ entry n most k j
way_from n k most j own = min_is _ _ (omega (arith, ints, own))

-- one bound more, found among those that are written so far
pub filled_way : (n k : ℕ) (old now : List ℤ) (i j : ℕ) → length old ≡ n * n → i < n → j < n
    → k < n → entry n old k k ≡ pos 0
    → IsFilled (by_place n (by_way n k old)) old now (i * n + j)
    → IsFilled (by_place n (by_way n k old)) old (set now (i * n + j) (by_way n k now i j))
    (i * n + (j + 1))
filled_way n k old now i j long row column mid own so =
    let d = by_way n k old in
    let here = entry_left n d old now i j so in
    let to = entry_stays n d old now (i * n + j) i k mid (way_to n k old i own) so in
    let from = entry_stays n d old now (i * n + j) k j column (way_from n k old j own) so in
    filled_entry n d old now i j (by_way n k now i j) long row column
    (ap (λ z. int_min z (entry n now i k +ℤ entry n now k j)) here
    ∙ (ap (λ z. int_min (entry n old i j) (z +ℤ entry n now k j)) to
    ∙ ap (λ z. int_min (entry n old i j) (entry n old i k +ℤ z)) from)) so

-- the bounds before the place are those by way of row k, and the others are as they were
pub record IsByWay (n k : ℕ) (old now : List ℤ) (place : ℕ) : Type 0 where
  pub so : IsFilled (by_place n (by_way n k old)) old now place

pub by_way_start : (n k : ℕ) (old : List ℤ) (place : ℕ) → place ≡ 0 → IsByWay n k old old place
by_way_start n k old place start = record {
  so = subst (IsFilled (by_place n (by_way n k old)) old old) (sym start)
      (filled_none (by_place n (by_way n k old)) old);
}

pub by_way_at : (n k : ℕ) (old now : List ℤ) (place other : ℕ) → place ≡ other
    → IsByWay n k old now place → IsByWay n k old now other
by_way_at n k old now place other same it = subst (IsByWay n k old now) same it

pub by_way_row : (n k i : ℕ) (old now : List ℤ) → IsByWay n k old now (i * n)
    → IsByWay n k old now (i * n + 0)
by_way_row n k i old now it = by_way_at n k old now (i * n) (i * n + 0) (omega arith) it

pub by_way_next : (n k i : ℕ) (old now : List ℤ) → IsByWay n k old now (i * n + n)
    → IsByWay n k old now ((i + 1) * n)
by_way_next n k i old now it = by_way_at n k old now (i * n + n) ((i + 1) * n) (omega arith) it

pub by_way_more : (n k i j : ℕ) (old now new : List ℤ) → length old ≡ n * n → i < n → j < n
    → k < n → AreOwn n old → new ≡ set now (i * n + j) (by_way n k now i j)
    → IsByWay n k old now (i * n + j) → IsByWay n k old new (i * n + (j + 1))
by_way_more n k i j old now new long row column mid own is it = record {
  so = subst (λ xs. IsFilled (by_place n (by_way n k old)) old xs (i * n + (j + 1))) (sym is)
      (filled_way n k old now i j long row column mid (own k mid) it.so);
}

pub by_way_all : (n k : ℕ) (old now : List ℤ) → length old ≡ n * n → IsByWay n k old now (n * n)
    → now ≡ through n k old
by_way_all n k old now long it = filled_all n (by_way n k old) old now long it.so

pub by_way_long : (n k : ℕ) (old now : List ℤ) (place : ℕ) → length old ≡ n * n
    → IsByWay n k old now place → length now ≡ n * n
by_way_long n k old now place long it = it.so.long ∙ long
