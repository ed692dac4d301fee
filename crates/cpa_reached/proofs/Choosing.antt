-- Ascending numbers: two lists with the same members are one (`ascending_same`), what is sorted and
-- has lost its repeats ascends (`ascending_dedup`), and the numbers of the entries that pass a test
-- are found among numbers that have all of them (`chosen`).
use Rattle.std.proofs.Common.{◌≡◌, ℕ, zero, suc, ◌<◌, ◌≤◌, Bool, true, false, eqb, List, []}
use Rattle.std.proofs.Common.{◌∷◌, ◌++◌, length, get_or, Some, slice_get, refl, sym, ap, ◌∙◌}
use Rattle.std.proofs.Common.{subst, inl, inr, ◌⊎◌, ⊎_elim, arith}
use Rattle.std.specs.List.{AllByRecursion, AllPairs, Contains, filter, dedup}
use Rattle.std.specs.List.Sorted.{IsSorted, IsPermutation}
use Rattle.std.specs.Ordering.{nat_cmp}
use Rattle.std.specs.Cmp.{both_ways as alike}
use Rattle.std.proofs.lemmas.Bool.{eq-eqb, eqb-true, or_cases, cond_both, cases_Bool, both_ways}
use Rattle.std.proofs.lemmas.List.Kept.{AllPairs-from_increasing, Contains-dedup_nat}
use Rattle.std.proofs.lemmas.List.Kept.{Contains-from_dedup}
use Rattle.std.proofs.lemmas.List.Sorted.{Contains-permutation, IsPermutation-sym}
use Rattle.std.proofs.lemmas.Map.Keys.{IsStrictlyIncreasing-dedup}
use Rattle.std.proofs.lemmas.Option.{same_Some}
use Rattle.cpa_iface.specs.declared.entries.Entry.{Entry}
use Rattle.cpa_model.specs.Ascending.{AreAscending}
use Rattle.cpa_reached.specs.Members.{IsIn, is_in}
use Rattle.cpa_reached.specs.Entries.{numbers}
use Rattle.cpa_reached.specs.lemmas.MemberLaws.{or_left, or_right, in_all, entry_in, in_live}
use Rattle.cpa_reached.specs.lemmas.MemberLaws.{in_filter}
use Rattle.cpa_reached.specs.lemmas.MemberLaws.{ascend_kept, by_number}

-- ---- members of lists that are put together

pub in_front : (k : ℕ) (ns ms : List ℕ) → is_in k ns ≡ true → is_in k (ns ++ ms) ≡ true
in_front k [] ms there = absurd (cc)
in_front k (n ∷ ns) ms there =
    ⊎_elim (λ same. or_left (eqb n k) (is_in k (ns ++ ms)) same)
    (λ later. or_right (eqb n k) (is_in k (ns ++ ms)) (in_front k ns ms later))
    (or_cases (eqb n k) (is_in k ns) there)

pub in_back : (k : ℕ) (ns ms : List ℕ) → is_in k ms ≡ true → is_in k (ns ++ ms) ≡ true
in_back k [] ms there = there
in_back k (n ∷ ns) ms there = or_right (eqb n k) (is_in k (ns ++ ms)) (in_back k ns ms there)

pub in_either : (k : ℕ) (ns ms : List ℕ) → is_in k (ns ++ ms) ≡ true
    → (is_in k ns ≡ true) ⊎ (is_in k ms ≡ true)
in_either k [] ms there = inr there
in_either k (n ∷ ns) ms there =
    ⊎_elim (λ same. inl (or_left (eqb n k) (is_in k ns) same))
    (λ later. ⊎_elim (λ h. inl (or_right (eqb n k) (is_in k ns) h)) (λ h. inr h)
    (in_either k ns ms later))
    (or_cases (eqb n k) (is_in k (ns ++ ms)) there)

pub filter_member : (keep : ℕ → Bool) (ns : List ℕ) (k : ℕ) → is_in k (filter keep ns) ≡ true
    → (is_in k ns ≡ true) × (keep k ≡ true)
filter_member keep [] k there = absurd (cc)
filter_member keep (n ∷ ns) k there =
    cond_both (keep n) (n ∷ filter keep ns) (filter keep ns)
    (λ (t : List ℕ). is_in k t ≡ true → (is_in k (n ∷ ns) ≡ true) × (keep k ≡ true))
    (λ yes h. ⊎_elim
    (λ same. (
      or_left (eqb n k) (is_in k ns) same,
      subst (λ (j : ℕ). keep j ≡ true) (eqb-true n k same) yes,
    ))
    (λ later. let r = filter_member keep ns k later in
    (or_right (eqb n k) (is_in k ns) r.0, r.1))
    (or_cases (eqb n k) (is_in k (filter keep ns)) h))
    (λ no h. let r = filter_member keep ns k h in (or_right (eqb n k) (is_in k ns) r.0, r.1))
    there

pub member_filter : (keep : ℕ → Bool) (ns : List ℕ) (k : ℕ) → is_in k ns ≡ true → keep k ≡ true
    → is_in k (filter keep ns) ≡ true
member_filter keep [] k there kept = absurd (cc)
member_filter keep (n ∷ ns) k there kept =
    ⊎_elim
    (λ same. rw (subst (λ (j : ℕ). keep j ≡ true) (sym (eqb-true n k same)) kept)
    (or_left (eqb n k) (is_in k (filter keep ns)) same))
    (λ later. cond_both (keep n) (n ∷ filter keep ns) (filter keep ns)
    (λ (t : List ℕ). is_in k t ≡ true)
    (λ _. or_right (eqb n k) (is_in k (filter keep ns)) (member_filter keep ns k later kept))
    (λ _. member_filter keep ns k later kept))
    (or_cases (eqb n k) (is_in k ns) there)

all_filter : (P : ℕ → Type 0) (keep : ℕ → Bool) (ns : List ℕ) → AllByRecursion P ns
    → AllByRecursion P (filter keep ns)
all_filter P keep [] all = tt
all_filter P keep (n ∷ ns) all =
    cond_both (keep n) (n ∷ filter keep ns) (filter keep ns)
    (λ (t : List ℕ). AllByRecursion P t)
    (λ _. (all.0, all_filter P keep ns all.1)) (λ _. all_filter P keep ns all.1)

ascend_filter : (keep : ℕ → Bool) (ns : List ℕ) → AreAscending ns → AreAscending (filter keep ns)
ascend_filter keep [] up = tt
ascend_filter keep (n ∷ ns) up =
    cond_both (keep n) (n ∷ filter keep ns) (filter keep ns)
    (λ (t : List ℕ). AreAscending t)
    (λ _. (all_filter (λ m. n < m) keep ns up.0, ascend_filter keep ns up.1))
    (λ _. ascend_filter keep ns up.1)

-- ---- ascending lists with the same members

later_member : (n : ℕ) (ns ms : List ℕ) → AllByRecursion (λ m. n < m) ns
    → ((k : ℕ) → is_in k (n ∷ ns) ≡ true → is_in k (n ∷ ms) ≡ true)
    → (k : ℕ) → is_in k ns ≡ true → is_in k ms ≡ true
later_member n ns ms above f k there =
    let less : n < k = in_all (λ m. n < m) ns k above there in
    ⊎_elim (λ same. absurd (let e : n ≡ k = eqb-true n k same in omega arith)) (λ later. later)
    (or_cases (eqb n k) (is_in k ms) (f k (or_right (eqb n k) (is_in k ns) there)))

first_least : (n m : ℕ) (ms : List ℕ) → AllByRecursion (λ k. m < k) ms
    → is_in n (m ∷ ms) ≡ true → m ≤ n
first_least n m ms above there =
    ⊎_elim (λ same. let e : m ≡ n = eqb-true m n same in omega arith)
    (λ later. let less : m < n = in_all (λ k. m < k) ms n above later in omega arith)
    (or_cases (eqb m n) (is_in n ms) there)

here_in : (n : ℕ) (ns : List ℕ) → is_in n (n ∷ ns) ≡ true
here_in n ns = or_left (eqb n n) (is_in n ns) (eq-eqb n n refl)

pub ascending_same : (ns ms : List ℕ) → AreAscending ns → AreAscending ms
    → ((k : ℕ) → is_in k ns ≡ true → is_in k ms ≡ true)
    → ((k : ℕ) → is_in k ms ≡ true → is_in k ns ≡ true) → ns ≡ ms
ascending_same [] [] up_n up_m f g = refl
ascending_same [] (m ∷ ms) up_n up_m f g = absurd (let wrong = g m (here_in m ms) in cc)
ascending_same (n ∷ ns) [] up_n up_m f g = absurd (let wrong = f n (here_in n ns) in cc)
ascending_same (n ∷ ns) (m ∷ ms) up_n up_m f g =
    let low : m ≤ n = first_least n m ms up_m.0 (f n (here_in n ns)) in
    let high : n ≤ m = first_least m n ns up_n.0 (g m (here_in m ms)) in
    let same : n ≡ m = omega (arith, low, high) in
    ap (λ (k : ℕ). k ∷ ns) same
    ∙ ap (λ (ks : List ℕ). m ∷ ks)
    (ascending_same ns ms up_n.1 up_m.1
    (later_member n ns ms up_n.0
    (λ k h. subst (λ (j : ℕ). is_in k (j ∷ ms) ≡ true) (sym same) (f k h)))
    (later_member m ms ns up_m.0
    (λ k h. subst (λ (j : ℕ). is_in k (j ∷ ns) ≡ true) same (g k h))))

-- ---- what is sorted and has lost its repeats

all_above : (n : ℕ) (ns : List ℕ) → ((k : ℕ) → k < length ns → n < get_or ns k 0)
    → AllByRecursion (λ m. n < m) ns
all_above n [] f = tt
all_above n (m ∷ ns) f =
    (f zero (omega arith), all_above n ns (λ k less. f (suc k) (omega (arith, less))))

pairs_ascend : (ns : List ℕ) → AllPairs (λ x y. x < y) ns → AreAscending ns
pairs_ascend [] pairs = tt
pairs_ascend (n ∷ ns) pairs = (
  all_above n ns (λ k less. pairs zero (suc k) 0 (omega arith) (omega (arith, less))),
  pairs_ascend ns
      (λ i j d below inside. pairs (suc i) (suc j) d (omega (arith, below))
      (omega (arith, inside))),
)

pub ascending_dedup : (ns : List ℕ) → IsSorted nat_cmp ns → AreAscending (dedup eqb ns)
ascending_dedup ns sorted =
    pairs_ascend (dedup eqb ns)
    (AllPairs-from_increasing (dedup eqb ns) (IsStrictlyIncreasing-dedup ns sorted))

at_in : (ns : List ℕ) (n : ℕ) → is_in n ns ≡ true → Contains ns n
at_in [] n there = absurd (cc)
at_in (m ∷ ns) n there =
    ⊎_elim (λ same. (0, omega arith, eqb-true m n same))
    (λ later. let r = at_in ns n later in (suc r.0, omega (arith, r.1), r.2))
    (or_cases (eqb m n) (is_in n ns) there)

in_at : (ns : List ℕ) (n k : ℕ) → k < length ns → get_or ns k n ≡ n → is_in n ns ≡ true
in_at [] n k less at = absurd (omega (arith, less))
in_at (m ∷ ns) n zero less at = or_left (eqb m n) (is_in n ns) (eq-eqb m n at)
in_at (m ∷ ns) n (suc k) less at =
    or_right (eqb m n) (is_in n ns) (in_at ns n k (omega (arith, less)) at)

pub same_members : (ns ms : List ℕ) → IsPermutation ns ms → (n : ℕ)
    → is_in n (dedup eqb ms) ≡ is_in n ns
same_members ns ms moved n =
    alike (is_in n (dedup eqb ms)) (is_in n ns)
    (λ h. let c = Contains-permutation ms ns n (IsPermutation-sym ns ms moved)
    (Contains-from_dedup eqb ms n (at_in (dedup eqb ms) n h)) in in_at ns n c.0 c.1 c.2)
    (λ h. let c = Contains-dedup_nat ms n (Contains-permutation ns ms n moved (at_in ns n h)) in
    in_at (dedup eqb ms) n c.0 c.1 c.2)

-- ---- numbers of entries that pass a test

at_place : (xs : List Entry) (p n : ℕ) (d : Entry) → slice_get (numbers xs) p ≡ Some n
    → IsIn (get_or xs p d) xs × ((get_or xs p d).number ≡ n)
at_place [] p n d at = absurd (cc)
at_place (x ∷ xs) zero n d at = (inl refl, same_Some _ _ at)
at_place (x ∷ xs) (suc p) n d at = let r = at_place xs p n d at in (inr r.0, r.1)

pub chosen_at : (t : Entry → Bool) (xs : List Entry) (p n : ℕ) (e : Entry)
    → AreAscending (numbers xs) → slice_get (numbers xs) p ≡ Some n → e ≡ get_or xs p e
    → t e ≡ is_in n (numbers (filter t xs))
chosen_at t xs p n e up at is =
    let r = at_place xs p n e at in
    let there : IsIn e xs = subst (λ (y : Entry). IsIn y xs) (sym is) r.0 in
    let number : e.number ≡ n = ap (λ (y : Entry). y.number) is ∙ r.1 in
    sym (subst (λ (k : ℕ). is_in k (numbers (filter t xs)) ≡ t e) number
    (by_number t xs up e there))

pub chosen_none : (t : Entry → Bool) (xs : List Entry) (n : ℕ) → is_in n (numbers xs) ≡ false
    → is_in n (numbers (filter t xs)) ≡ false
chosen_none t xs n none =
    ⊎_elim
    (λ yes.
    let live = in_live (filter t xs) n yes in
    let was = in_filter t xs live.entry live.is_in in
    absurd (both_ways (is_in n (numbers xs)) none
    (subst (λ (k : ℕ). is_in k (numbers xs) ≡ true) live.is (entry_in live.entry xs was.0))))
    (λ no. no)
    (cases_Bool (is_in n (numbers (filter t xs))))

pub chosen : (t : Entry → Bool) (xs : List Entry) (ns : List ℕ) → AreAscending (numbers xs)
    → AreAscending ns
    → ((e : Entry) → IsIn e xs → t e ≡ true → is_in e.number ns ≡ true)
    → filter (λ n. is_in n (numbers (filter t xs))) ns ≡ numbers (filter t xs)
chosen t xs ns up up_n all =
    let keep : ℕ → Bool = λ n. is_in n (numbers (filter t xs)) in
    ascending_same (filter keep ns) (numbers (filter t xs)) (ascend_filter keep ns up_n)
    (ascend_kept t xs up)
    (λ k there. (filter_member keep ns k there).1)
    (λ k there.
    let live = in_live (filter t xs) k there in
    let was = in_filter t xs live.entry live.is_in in
    member_filter keep ns k
    (subst (λ (j : ℕ). is_in j ns ≡ true) live.is (all live.entry was.0 was.1)) there)
