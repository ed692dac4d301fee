-- What stands in a list, as a truth value.
use Rattle.std.proofs.Common.{◌≡◌, ℕ, zero, suc, ◌+◌, ◌<◌, ◌≤◌, Bool, true, false, not, ◌&&◌, ◌||◌}
use Rattle.std.proofs.Common.{List, [], ◌∷◌, ◌++◌, inl, inr, length, get_or, take, refl, sym, ap}
use Rattle.std.proofs.Common.{◌∙◌, subst, arith}
use Rattle.std.specs.Prelude.{◌==◌}
use Rattle.std.specs.List.{Contains, AllPairs, list_any}
use Rattle.std.specs.List.Sorted.{IsStrictlyIncreasing}
use Rattle.std.proofs.lemmas.Bool.{eqb-true, eq-eqb, ne_eqb, or_cases, true≢false, false≢true}
use Rattle.std.proofs.lemmas.List.{take_more}
use Rattle.std.specs.Cmp.{both_ways}
use Rattle.std.proofs.lemmas.List.Kept.{AllPairs-from_increasing}
use Rattle.std.proofs.lemmas.List.Recursion.{or_at, same_from_clauses}
use Rattle.cpa_cnf.specs.Clauses.{has, AscendsFrom, IsClause}

pub or_true_left : (x y : Bool) → x ≡ true → (x || y) ≡ true
or_true_left true y h = refl
or_true_left false y h = absurd (false≢true h)

pub or_true_right : (x y : Bool) → y ≡ true → (x || y) ≡ true
or_true_right true y h = refl
or_true_right false y h = h

pub or_false : (x y : Bool) → x ≡ false → y ≡ false → (x || y) ≡ false
or_false true y h k = absurd (true≢false h)
or_false false y h k = k

-- `has` as the library's word
pub Contains-from_has : (xs : List ℕ) (l : ℕ) → has xs l ≡ true → Contains xs l
Contains-from_has [] l h = absurd (false≢true h)
Contains-from_has (x ∷ xs) l h =
    elim (or_cases (x == l) (has xs l) h) [
      | inl e ↦ (0, omega arith, eqb-true x l e)
      | inr e ↦ let rest = Contains-from_has xs l e in (suc rest.0, omega (arith, rest.1), rest.2)
    ]

pub has-from_Contains : (xs : List ℕ) (l : ℕ) → Contains xs l → has xs l ≡ true
has-from_Contains xs l c =
    or_at (λ ys. has ys l) (λ y. y == l) refl (λ _ _. refl) xs c.0 l c.1 (eq-eqb _ _ c.2)

pub has-same : (xs ys : List ℕ) → ((l : ℕ) → Contains xs l → Contains ys l)
    → ((l : ℕ) → Contains ys l → Contains xs l) → (l : ℕ) → has xs l ≡ has ys l
has-same xs ys f g l =
    both_ways (has xs l) (has ys l)
    (λ h. has-from_Contains ys l (f l (Contains-from_has xs l h)))
    (λ h. has-from_Contains xs l (g l (Contains-from_has ys l h)))

pub has-append : (xs ys : List ℕ) (l : ℕ) → has (xs ++ ys) l ≡ (has xs l || has ys l)
has-append [] ys l = refl
has-append (x ∷ xs) ys l = ap (λ b. (x == l) || b) (has-append xs ys l)
    ∙ or_assoc (x == l) (has xs l) (has ys l)
  where
    or_assoc : (a b c : Bool) → (a || (b || c)) ≡ ((a || b) || c)
    or_assoc true b c = refl
    or_assoc false b c = refl

pub or_false_right : (b : Bool) → (b || false) ≡ b
or_false_right true = refl
or_false_right false = refl

pub has-push : (xs : List ℕ) (x l : ℕ) → has (xs ++ x ∷ []) l ≡ (has xs l || (x == l))
has-push xs x l = has-append xs (x ∷ []) l ∙ ap (λ b. has xs l || b) (or_false_right (x == l))

pub has-take_more : (xs : List ℕ) (i d l : ℕ) → i < length xs
    → has (take (i + 1) xs) l ≡ (has (take i xs) l || (get_or xs i d == l))
has-take_more xs i d l h = ap (λ ys. has ys l) (take_more xs i d h)
    ∙ has-push (take i xs) (get_or xs i d) l

pub AscendsFrom-weaker : (n m : ℕ) (xs : List ℕ) → m ≤ n → AscendsFrom n xs → AscendsFrom m xs
AscendsFrom-weaker n m [] h a = tt
AscendsFrom-weaker n m (x ∷ xs) h a = (omega (arith, a.0), a.1)

-- from the library's words for an ascending list
pairs_ascend : (n : ℕ) (xs : List ℕ) → (0 < length xs → n ≤ get_or xs 0 0)
    → AllPairs (λ x y. x < y) xs → AscendsFrom n xs
pairs_ascend n [] h pairs = tt
pairs_ascend n (x ∷ xs) h pairs = (
  h (omega arith),
  pairs_ascend (x + 1) xs
      (λ k. omega (arith, pairs 0 (suc 0) 0 (omega arith) (omega arith)))
      (λ i j d below in_list. pairs (suc i) (suc j) d (omega arith) (omega arith)),
)

pub IsClause-increasing : (xs : List ℕ) → IsStrictlyIncreasing xs → IsClause xs
IsClause-increasing xs rises = pairs_ascend 0 xs (λ _. omega arith)
    (AllPairs-from_increasing xs rises)

pub any-has : (l : ℕ) (xs : List ℕ) → list_any (λ y. y == l) xs ≡ has xs l
any-has l xs = same_from_clauses (λ ys. list_any (λ y. y == l) ys) (λ ys. has ys l)
    (λ x b. (x == l) || b) refl (λ _ _. refl) (λ _ _. refl) xs

-- one more element of the list stands in it or is left out
pub or_and : (o t e n : Bool) → (o || ((t || e) && n)) ≡ ((o || (t && n)) || (e && n))
or_and true t e n = refl
or_and false true e true = refl
or_and false true true false = refl
or_and false true false false = refl
or_and false false e n = refl

pub and_true_right : (e n : Bool) → (e ≡ true → n ≡ true) → (e && n) ≡ e
and_true_right true n h = h refl
and_true_right false n h = refl

pub and_false_right : (e n : Bool) → (e ≡ true → n ≡ false) → (e && n) ≡ false
and_false_right true n h = h refl
and_false_right false n h = refl

pub not_eq : (l out : ℕ) → (l ≡ out → ⊥) → not (l == out) ≡ true
not_eq l out ne = ap not (ne_eqb l out ne)

pub not_eq_self : (l out : ℕ) → l ≡ out → not (l == out) ≡ false
not_eq_self l out e = ap not (eq-eqb l out e)

-- the next literal goes to the others, since it is not the one that is left out
pub has-kept : (old left : List ℕ) (xs : List ℕ) (i x out l : ℕ) → i < length xs → x ≡ get_or xs i x
    → (x ≡ out → ⊥)
    → has left l ≡ (has old l || (has (take i xs) l && not (l == out)))
    → has (left ++ x ∷ []) l ≡ (has old l || (has (take (i + 1) xs) l && not (l == out)))
has-kept old left xs i x out l below is ne same =
    has-push left x l
    ∙ ap (λ b. b || (x == l)) same
    ∙ ap (λ b. (has old l || (has (take i xs) l && not (l == out))) || b)
    (sym (and_true_right (x == l) (not (l == out))
    (λ e. not_eq l out (λ f. ne (eqb-true x l e ∙ f)))))
    ∙ sym (or_and (has old l) (has (take i xs) l) (x == l) (not (l == out)))
    ∙ ap (λ b. has old l || (b && not (l == out)))
    (sym (has-take_more xs i x l below ∙ ap (λ y. has (take i xs) l || (y == l)) (sym is)))

pub has-left_out : (old left : List ℕ) (xs : List ℕ) (i x out l : ℕ) → i < length xs
    → x ≡ get_or xs i x → x ≡ out
    → has left l ≡ (has old l || (has (take i xs) l && not (l == out)))
    → has left l ≡ (has old l || (has (take (i + 1) xs) l && not (l == out)))
has-left_out old left xs i x out l below is e same =
    same
    ∙ sym (or_false_right (has old l || (has (take i xs) l && not (l == out))))
    ∙ ap (λ b. (has old l || (has (take i xs) l && not (l == out))) || b)
    (sym (and_false_right (x == l) (not (l == out))
    (λ f. not_eq_self l out (sym (eqb-true x l f) ∙ e))))
    ∙ sym (or_and (has old l) (has (take i xs) l) (x == l) (not (l == out)))
    ∙ ap (λ b. has old l || (b && not (l == out)))
    (sym (has-take_more xs i x l below ∙ ap (λ y. has (take i xs) l || (y == l)) (sym is)))

-- a list has what stands at one of its places, and what its front has
pub has-at : (xs : List ℕ) (i x : ℕ) → i < length xs → x ≡ get_or xs i x → has xs x ≡ true
has-at xs i x below is = has-from_Contains xs x (i, below, sym is)

pub has-take : (i : ℕ) (xs : List ℕ) (l : ℕ) → has (take i xs) l ≡ true → has xs l ≡ true
has-take zero xs l h = absurd (false≢true h)
has-take (suc i) [] l h = absurd (false≢true h)
has-take (suc i) (x ∷ xs) l h =
    elim (or_cases (x == l) (has (take i xs) l) h) [
      | inl e ↦ or_true_left (x == l) (has xs l) e
      | inr e ↦ or_true_right (x == l) (has xs l) (has-take i xs l e)
    ]

-- what is so of each element of a front, and of the next element
pub more : (P : ℕ → Type 0) (xs : List ℕ) (i x : ℕ) → i < length xs → x ≡ get_or xs i x
    → ((l : ℕ) → has (take i xs) l ≡ true → P l) → P x → (l : ℕ) → has (take (i + 1) xs) l ≡ true
    → P l
more P xs i x below is each here l h =
    elim (or_cases (has (take i xs) l) (x == l)
    (sym (has-take_more xs i x l below ∙ ap (λ y. has (take i xs) l || (y == l)) (sym is)) ∙ h)) [
      | inl e ↦ each l e
      | inr e ↦ subst P (eqb-true x l e) here
    ]
