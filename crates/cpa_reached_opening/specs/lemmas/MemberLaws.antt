-- Members of lists of numbers: the test passes exactly on them, and a search by halving finds
-- exactly them. Lemmas for the crates above.
use Rattle.std.specs.Prelude.{◌≡◌, ℕ, zero, suc, ◌<◌, ◌≤◌, ◌||◌, Bool, true, false, List, [], ◌∷◌}
use Rattle.std.specs.Prelude.{length, get_or}
use Rattle.std.proofs.Common.{eqb, Result, Ok, Err, refl, sym, inl, inr, ⊎_elim, arith}
use Rattle.std.specs.List.Sorted.{IsBinarySearchResult}
use Rattle.std.specs.Ordering.{nat_cmp}
use Rattle.std.specs.Result.{is_ok}
use Rattle.std.proofs.lemmas.Bool.{eq-eqb, eqb-true, or_cases, cases_Bool, cases_lt}
use Rattle.std.proofs.lemmas.List.Sorted.{searched}
use Rattle.cpa_model.specs.Ascending.{AreAscending}
use Rattle.cpa_model.specs.lemmas.Ascending.{ascending_by_place}
use Rattle.cpa_reached_opening.specs.Members.{IsIn, is_in}

pub or_right : (x y : Bool) → y ≡ true → (x || y) ≡ true
or_right true y h = refl
or_right false y h = h

pub or_left : (x y : Bool) → x ≡ true → (x || y) ≡ true
or_left true y h = refl
or_left false y h = absurd (cc)

pub member_in : (n : ℕ) (ns : List ℕ) → IsIn n ns → is_in n ns ≡ true
member_in n [] there = absurd there
member_in n (m ∷ ns) (inl same) = or_left (eqb m n) (is_in n ns) (eq-eqb m n same)
member_in n (m ∷ ns) (inr later) = or_right (eqb m n) (is_in n ns) (member_in n ns later)

pub in_member : (n : ℕ) (ns : List ℕ) → is_in n ns ≡ true → IsIn n ns
in_member n [] there = absurd (cc)
in_member n (m ∷ ns) there =
    ⊎_elim (λ same. inl (eqb-true m n same)) (λ later. inr (in_member n ns later))
    (or_cases (eqb m n) (is_in n ns) there)

in_at : (ns : List ℕ) (i n : ℕ) → i < length ns → get_or ns i 0 ≡ n → is_in n ns ≡ true
in_at [] i n less is = absurd (omega arith)
in_at (m ∷ ns) zero n less is = or_left (eqb m n) (is_in n ns) (eq-eqb m n is)
in_at (m ∷ ns) (suc i) n less is = or_right (eqb m n) (is_in n ns) (in_at ns i n (omega arith) is)

at_in : (ns : List ℕ) (n : ℕ) → is_in n ns ≡ true → (i : ℕ) × (i < length ns) × (get_or ns i 0 ≡ n)
at_in [] n there = absurd (cc)
at_in (m ∷ ns) n there = ⊎_elim (λ same. (0, omega arith, eqb-true m n same))
    (λ later. let r = at_in ns n later in
    (suc r.0, let less : r.0 < length ns = r.1 in omega arith, r.2))
    (or_cases (eqb m n) (is_in n ns) there)

-- So it is told whether a number is there.
pub found_exactly : (ns : List ℕ) (n : ℕ) (r : Result ℕ ℕ) → AreAscending ns
    → IsBinarySearchResult (λ m. nat_cmp m n) ns r → is_ok r ≡ is_in n ns
found_exactly ns n (Ok i) up h =
    let at : (i < length ns) × (get_or ns i 0 ≡ n) =
    searched ns n (Ok i) h (ascending_by_place ns up) in
    sym (in_at ns i n at.0 at.1)
found_exactly ns n (Err i) up h =
    let gap : (i ≤ length ns) × ((k : ℕ) → k < i → get_or ns k 0 < n)
    × ((k : ℕ) → i ≤ k → k < length ns → n < get_or ns k 0) =
    searched ns n (Err i) h (ascending_by_place ns up) in
    ⊎_elim
    (λ yes.
    let r = at_in ns n yes in
    let at : get_or ns r.0 0 ≡ n = r.2 in
    absurd (⊎_elim
    (λ less. let low : get_or ns r.0 0 < n = gap.1 r.0 less in omega arith)
    (λ more. let high : n < get_or ns r.0 0 = gap.2 r.0 more r.1 in omega arith)
    (cases_lt r.0 i)))
    (λ no. sym no)
    (cases_Bool (is_in n ns))
