-- Ascending numbers: what is taken at either end of them comes first in that order, and what is
-- found by halving is what is to be taken out.
use Rattle.std.proofs.Common.{◌≡◌, ℕ, zero, suc, ◌<◌, ◌≤◌, true, false, eqb}
use Rattle.std.proofs.Common.{List, [], ◌∷◌, ◌++◌, length, get_or, Option, Some, None, Result}
use Rattle.std.proofs.Common.{Ok, Err, refl, sym, ap, subst, inl, inr, arith}
use Rattle.std.specs.List.{AllByRecursion, remove}
use Rattle.std.specs.List.Sorted.{IsBinarySearchResult}
use Rattle.std.specs.Option.{option_to_list, IfSome}
use Rattle.std.specs.Ordering.{nat_cmp}
use Rattle.std.specs.Result.{MatchResult}
use Rattle.std.proofs.lemmas.Bool.{eq-eqb, ne_eqb}
use Rattle.std.proofs.lemmas.List.Sorted.{searched}
use Rattle.cpa_model.specs.Ascending.{AreAscending}
use Rattle.cpa_model.specs.lemmas.Ascending.{ascending_by_place}
use Rattle.cpa_reached_opening.specs.lemmas.MemberLaws.{found_exactly}
use Rattle.cpa_reached.specs.Members.{IsIn, is_in}
use Rattle.cpa_reached.specs.Tables.{but}
use Rattle.cpa_reached.specs.lemmas.MemberLaws.{all_weaker}
use Rattle.cpa_reached.specs.lemmas.SuccessorLaws.{or_false}

but_above : (n : ℕ) (ns : List ℕ) → AllByRecursion (λ m. n < m) ns → but n ns ≡ ns
but_above n [] above = refl
but_above n (m ∷ ns) above =
    let here : n < m = above.0 in
    let no : eqb m n ≡ false = ne_eqb _ _ (λ e. omega arith) in
    rw no (ap (λ t. m ∷ t) (but_above n ns above.1))

last_of : (P : ℕ → Type 0) (ns : List ℕ) (n : ℕ) → AllByRecursion P (ns ++ n ∷ []) → P n
last_of P [] n all = all.0
last_of P (m ∷ ns) n all = last_of P ns n all.1

but_last : (ns : List ℕ) (n : ℕ) → AreAscending (ns ++ n ∷ []) → but n (ns ++ n ∷ []) ≡ ns
but_last [] n up = let yes : eqb n n ≡ true = eq-eqb n n refl in rw yes refl
but_last (m ∷ ns) n up =
    let less : m < n = last_of (λ k. m < k) ns n up.0 in
    let no : eqb m n ≡ false = ne_eqb _ _ (λ e. omega arith) in
    rw no (ap (λ t. m ∷ t) (but_last ns n up.1))

last_in : (ns : List ℕ) (n : ℕ) → IsIn n (ns ++ n ∷ [])
last_in [] n = inl refl
last_in (m ∷ ns) n = inr (last_in ns n)

last_greatest : (ns : List ℕ) (n : ℕ) → AreAscending (ns ++ n ∷ [])
    → AllByRecursion (λ m. m ≤ n) (ns ++ n ∷ [])
last_greatest [] n up = (omega arith, tt)
last_greatest (m ∷ ns) n up = let less : m < n = last_of (λ k. m < k) ns n up.0 in
    (omega arith, last_greatest ns n up.1)

pub front_first : (r : Option ℕ) (old new : List ℕ) → old ≡ option_to_list r ++ new
    → AreAscending old → IfSome r (λ n. AllByRecursion (λ m. n ≤ m) old)
front_first None old new is up = tt
front_first (Some n) old new is up =
    let up_now : AreAscending (n ∷ new) = subst (λ ns. AreAscending ns) is up in
    subst (λ ns. AllByRecursion (λ m. n ≤ m) ns) (sym is)
    (omega arith, all_weaker (λ m. n < m) (λ m. n ≤ m) new (λ m less. omega arith) up_now.0)

pub front_left : (r : Option ℕ) (old new : List ℕ) → old ≡ option_to_list r ++ new
    → AreAscending old → IfSome r (λ n. new ≡ but n old)
front_left None old new is up = tt
front_left (Some n) old new is up =
    let up_now : AreAscending (n ∷ new) = subst (λ ns. AreAscending ns) is up in
    let yes : eqb n n ≡ true = eq-eqb n n refl in
    subst (λ ns. new ≡ but n ns) (sym is) (rw yes (sym (but_above n new up_now.0)))

pub back_waits : (r : Option ℕ) (old new : List ℕ) → old ≡ new ++ option_to_list r
    → IfSome r (λ n. IsIn n old)
back_waits None old new is = tt
back_waits (Some n) old new is = subst (λ ns. IsIn n ns) (sym is) (last_in new n)

pub back_first : (r : Option ℕ) (old new : List ℕ) → old ≡ new ++ option_to_list r
    → AreAscending old → IfSome r (λ n. AllByRecursion (λ m. m ≤ n) old)
back_first None old new is up = tt
back_first (Some n) old new is up =
    subst (λ ns. AllByRecursion (λ m. m ≤ n) ns) (sym is)
    (last_greatest new n (subst (λ ns. AreAscending ns) is up))

pub back_left : (r : Option ℕ) (old new : List ℕ) → old ≡ new ++ option_to_list r
    → AreAscending old → IfSome r (λ n. new ≡ but n old)
back_left None old new is up = tt
back_left (Some n) old new is up =
    subst (λ ns. new ≡ but n ns) (sym is)
    (sym (but_last new n (subst (λ ns. AreAscending ns) is up)))

-- all but the number at a place, and all but one that is not there
but_is_remove : (ns : List ℕ) (i n : ℕ) → AreAscending ns → i < length ns → get_or ns i 0 ≡ n
    → but n ns ≡ remove ns i
but_is_remove [] i n up less at = absurd (omega arith)
but_is_remove (m ∷ ns) zero n up less at =
    let same : m ≡ n = at in
    rw (eq-eqb m n same)
    (but_above n ns (subst (λ (j : ℕ). AllByRecursion (λ k. j < k) ns) same up.0))
but_is_remove (m ∷ ns) (suc i) n up less at =
    let above : m < get_or ns i 0 = all_at (λ k. m < k) ns i up.0 (omega arith) in
    let no : eqb m n ≡ false = ne_eqb _ _ (λ e. omega (arith, above, at)) in
    rw no (ap (λ t. m ∷ t) (but_is_remove ns i n up.1 (omega arith) at))
  where
    all_at : (P : ℕ → Type 0) (ks : List ℕ) (j : ℕ) → AllByRecursion P ks → j < length ks
        → P (get_or ks j 0)
    all_at P [] j all inside = absurd (omega arith)
    all_at P (k ∷ ks) zero all inside = all.0
    all_at P (k ∷ ks) (suc j) all inside = all_at P ks j all.1 (omega arith)

but_absent : (n : ℕ) (ns : List ℕ) → is_in n ns ≡ false → but n ns ≡ ns
but_absent n [] absent = refl
but_absent n (m ∷ ns) absent =
    let parts = or_false (eqb m n) (is_in n ns) absent in
    rw parts.0 (ap (λ t. m ∷ t) (but_absent n ns parts.1))

-- So what a search by halving finds is what is to be taken out.
pub but_found : (ns : List ℕ) (n : ℕ) (r : Result ℕ ℕ) → AreAscending ns
    → IsBinarySearchResult (λ m. nat_cmp m n) ns r
    → MatchResult r (λ i. (i < length ns) × (remove ns i ≡ but n ns)) (λ i. ns ≡ but n ns)
but_found ns n (Ok i) up h =
    let at : (i < length ns) × (get_or ns i 0 ≡ n) =
    searched ns n (Ok i) h (ascending_by_place ns up) in
    (at.0, sym (but_is_remove ns i n up at.0 at.1))
but_found ns n (Err i) up h = sym (but_absent n ns (sym (found_exactly ns n (Err i) up h)))
