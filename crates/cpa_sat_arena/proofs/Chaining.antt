-- One more number at the head of its bucket.
use Rattle.std.proofs.Common.{◌≡◌, ◌≢◌, ℕ, ◌+◌, ◌%◌, ◌<◌, ◌≤◌, List, [], ◌∷◌, ◌++◌, ◌⊎◌}
use Rattle.std.proofs.Common.{inl, inr, length, get_or, set, refl, sym, ap, ◌∙◌, subst, arith}
use Rattle.std.proofs.Common.{get_or-set_other, get_or-set_same}
use Rattle.std.proofs.lemmas.Bool.{cases_eq}
use Rattle.std.proofs.lemmas.List.{length-set}
use Rattle.cpa_sat_arena.specs.Hashes.{IsIndexed, mixed_hash, hash_from}

-- an entry of a list after a write
written : (xs : List ℕ) (i j y : ℕ) → i < length xs
    → ((j ≡ i) × (get_or (set xs i y) j 0 ≡ y))
    ⊎ ((j ≢ i) × (get_or (set xs i y) j 0 ≡ get_or xs j 0))
written xs i j y inside =
    elim (cases_eq j i) [
      | inl e ↦ inl (e, ap (λ k. get_or (set xs i y) k 0) e ∙ get_or-set_same xs i y 0 inside)
      | inr ne ↦ inr (ne, get_or-set_other xs i j y 0 ne)
    ]

at_most : (n v w : ℕ) → v ≡ w → w ≤ n → v ≤ n
at_most n v w e h = omega arith

last_or_before : (k n : ℕ) → k < n + 1 → (k ≡ n) ⊎ (k < n)
last_or_before k n h =
    elim (cases_eq k n) [
      | inl e ↦ inl e
      | inr ne ↦ inr (omega arith)
    ]

pub linked : (h : ℕ → ℕ) (n m : ℕ) (heads nexts : List ℕ) → IsIndexed h n m heads nexts → n < m
    → h n % m < m
    → IsIndexed h (n + 1) m (set heads (h n % m) (n + 1)) (set nexts n (get_or heads (h n % m) 0))
linked h n m heads nexts is room bucket = record {
  buckets = length-set heads b (n + 1) ∙ is.buckets;
  room = length-set nexts n old ∙ is.room;
  inside = omega arith;
  below = λ c. elim (written heads b c (n + 1) inside_heads) [
    | inl w ↦ omega (arith, w.1)
    | inr w ↦ omega (arith, w.1, is.below c)
  ];
  down = λ j low. elim (last_or_before j n low) [
    | inl e ↦ elim (written nexts n j old inside_nexts) [
      | inl w ↦ omega (arith, w.1, is.below b, e)
      | inr w ↦ absurd (w.0 e)
    ]
    | inr less ↦ elim (written nexts n j old inside_nexts) [
      | inl w ↦ absurd (omega (arith, w.0))
      | inr w ↦ omega (arith, w.1, is.down j less)
    ]
  ];
  heads_cover = λ k low. elim (written heads b (h k % m) (n + 1) inside_heads) [
    | inl w ↦ omega (arith, w.1)
    | inr w ↦ elim (last_or_before k n low) [
      | inl e ↦ absurd (w.0 (ap (λ i. h i % m) e))
      | inr less ↦ omega (arith, w.1, is.heads_cover k less)
    ]
  ];
  nexts_cover = λ j k under low same. elim (last_or_before j n low) [
    | inl e ↦ elim (written nexts n j old inside_nexts) [
      | inl w ↦ subst (λ v. k < v) (sym w.1
          ∙ refl) (subst (λ c. k < get_or heads c 0) (same
          ∙ ap (λ i. h i % m) e) (is.heads_cover k (omega (arith, e))))
      | inr w ↦ absurd (w.0 e)
    ]
    | inr less ↦ elim (written nexts n j old inside_nexts) [
      | inl w ↦ absurd (omega (arith, w.0))
      | inr w ↦ omega (arith, w.1, is.nexts_cover j k under less same)
    ]
  ];
  heads_stay = λ c k link. elim (written heads b c (n + 1) inside_heads) [
    | inl w ↦ ap (λ i. h i % m) (one_less k n (sym link ∙ w.1)) ∙ sym w.0
    | inr w ↦ is.heads_stay c k (sym w.1 ∙ link)
  ];
  nexts_stay = λ j k low link. elim (last_or_before j n low) [
    | inl e ↦ elim (written nexts n j old inside_nexts) [
      | inl w ↦ is.heads_stay b k (sym w.1 ∙ link) ∙ ap (λ i. h i % m) (sym e)
      | inr w ↦ absurd (w.0 e)
    ]
    | inr less ↦ elim (written nexts n j old inside_nexts) [
      | inl w ↦ absurd (omega (arith, w.0))
      | inr w ↦ is.nexts_stay j k less (sym w.1 ∙ link)
    ]
  ];
}
  where
    b : ℕ
    b = h n % m

    old : ℕ
    old = get_or heads b 0

    inside_heads : b < length heads
    inside_heads = subst (λ v. b < v) (sym is.buckets) bucket

    inside_nexts : n < length nexts
    inside_nexts = subst (λ v. n < v) (sym is.room) room

    one_less : (k i : ℕ) → k + 1 ≡ i + 1 → k ≡ i
    one_less k i e = omega arith

-- the chains depend on the hashes of the numbers alone
pub indexed_alike : (h g : ℕ → ℕ) (n m : ℕ) (heads nexts : List ℕ) → ((k : ℕ) → k < n → g k ≡ h k)
    → IsIndexed h n m heads nexts → IsIndexed g n m heads nexts
indexed_alike h g n m heads nexts same is = record {
  buckets = is.buckets;
  room = is.room;
  inside = is.inside;
  below = is.below;
  down = is.down;
  heads_cover = λ k low. subst (λ v. k < get_or heads (v % m) 0) (sym (same k low))
      (is.heads_cover k low);
  nexts_cover = λ j k under low alike.
      is.nexts_cover j k under low (ap (λ v. v % m) (sym (same k (less_then k j n under low)))
      ∙ alike ∙ ap (λ v. v % m) (same j low));
  heads_stay = λ b k link.
      ap (λ v. v % m) (same k (link_low k (get_or heads b 0) link (is.below b)))
      ∙ is.heads_stay b k link;
  nexts_stay = λ j k low link.
      ap (λ v. v % m) (same k (less_then k j n
      (link_down k (get_or nexts j 0) j link (is.down j low)) low)) ∙ is.nexts_stay j k low link
      ∙ ap (λ v. v % m) (sym (same j low));
}
  where
    less_then : (k j i : ℕ) → k < j → j < i → k < i
    less_then k j i p q = omega arith

    link_low : (k v : ℕ) → v ≡ k + 1 → v ≤ n → k < n
    link_low k v e le = omega arith

    link_down : (k v j : ℕ) → v ≡ k + 1 → v ≤ j → k < j
    link_down k v j e le = omega arith

-- no number is there yet
pub indexed_none : (h : ℕ → ℕ) (m : ℕ) (heads nexts : List ℕ) → length heads ≡ m → length nexts ≡ m
    → ((b : ℕ) → get_or heads b 0 ≡ 0) → IsIndexed h 0 m heads nexts
indexed_none h m heads nexts a b zeros = record {
  buckets = a;
  room = b;
  inside = omega arith;
  below = λ c. omega (arith, zeros c);
  down = λ j low. absurd (omega arith);
  heads_cover = λ k low. absurd (omega arith);
  nexts_cover = λ j k under low same. absurd (omega arith);
  heads_stay = λ c k link. absurd (omega (arith, zeros c));
  nexts_stay = λ j k low link. absurd (omega arith);
}

-- one more literal
pub hash_next : (s : ℕ) (xs : List ℕ) (x : ℕ)
    → hash_from s (xs ++ x ∷ []) ≡ mixed_hash (hash_from s xs) x
hash_next s [] x = refl
hash_next s (y ∷ xs) x = hash_next (mixed_hash s y) xs x
