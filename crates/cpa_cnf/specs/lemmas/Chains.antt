-- Resolvents and chains: what they give is unique, and a literal that no pivot reaches stays.
use Rattle.std.proofs.Common.{◌≡◌, ℕ, zero, suc, ◌+◌, ◌*◌, ◌<◌, ◌≤◌, Bool, true, false, not, cond}
use Rattle.std.proofs.Common.{◌&&◌, ◌||◌, List, [], ◌∷◌, ◌⊎◌, inl, inr, get_or, refl, sym, ap, ◌∙◌}
use Rattle.std.proofs.Common.{subst, arith, Option, Some, None}
use Rattle.std.specs.Prelude.{◌==◌, slice_index_or}
use Rattle.std.specs.List.{AllByRecursion}
use Rattle.std.proofs.lemmas.Bool.{cases_eq, cases_order, eqb-true, eq-eqb, ne_eqb, or_cases}
use Rattle.std.proofs.lemmas.Bool.{false≢true, both_ways}
use Rattle.cpa_cnf.specs.declared.formula.Step.{Step}
use Rattle.cpa_cnf.specs.Literals.{opposite}
use Rattle.cpa_cnf.specs.Clauses.{has, AscendsFrom}
use Rattle.cpa_cnf.specs.Resolution.{clash_on, in_union_without, IsResolvent}
use Rattle.cpa_cnf.specs.Lines.{AreBelow, Gives}
use Rattle.cpa_cnf.specs.Marking.{IsMarkedAs}
use Rattle.cpa_cnf.specs.lemmas.Members.{or_true_left, or_true_right, AscendsFrom-weaker}

-- an ascending list lacks what is below it
pub has_none_below : (n l : ℕ) (xs : List ℕ) → AscendsFrom n xs → l < n → has xs l ≡ false
has_none_below n l [] a below = refl
has_none_below n l (x ∷ xs) a below =
    ap (λ b. b || has xs l) (ne_eqb x l (λ e. absurd (omega (arith, a.0))))
    ∙ has_none_below (x + 1) l xs a.1 (omega (arith, a.0))

pub has_head : (x : ℕ) (xs : List ℕ) → has (x ∷ xs) x ≡ true
has_head x xs = or_true_left (x == x) (has xs x) (eq-eqb x x refl)

-- the heads of two such lists with the same elements are not apart
no_less : (n m x y : ℕ) (xs ys : List ℕ) → AscendsFrom m (y ∷ ys)
    → ((l : ℕ) → has (x ∷ xs) l ≡ has (y ∷ ys) l) → x < y → ⊥
no_less n m x y xs ys a same less =
    both_ways (has (y ∷ ys) x) (has_none_below y x (y ∷ ys) (omega arith, a.1) less) (sym (same x)
    ∙ has_head x xs)

-- two clauses with the same literals are equal
pub same_members : (n m : ℕ) (xs ys : List ℕ) → AscendsFrom n xs → AscendsFrom m ys
    → ((l : ℕ) → has xs l ≡ has ys l) → xs ≡ ys
same_members n m [] [] a b same = refl
same_members n m [] (y ∷ ys) a b same = absurd (false≢true (same y ∙ has_head y ys))
same_members n m (x ∷ xs) [] a b same = absurd (false≢true (sym (same x) ∙ has_head x xs))
same_members n m (x ∷ xs) (y ∷ ys) a b same =
    elim (cases_order x y) [
      | inl e ↦
          let tails : xs ≡ ys = same_members (x + 1) (y + 1) xs ys a.1 b.1
          (λ l. rest l e (cases_eq x l)) in
          ap (λ h. h ∷ xs) e ∙ ap (λ t. y ∷ t) tails
      | inr apart ↦ elim apart [
        | inl less ↦ absurd (no_less n m x y xs ys b same less)
        | inr more ↦ absurd (no_less m n y x ys xs a (λ l. sym (same l)) more)
      ]
    ]
  where
    rest : (l : ℕ) → x ≡ y → (x ≡ l) ⊎ (x ≡ l → ⊥) → has xs l ≡ has ys l
    rest l e (inl at) =
        has_none_below (x + 1) l xs a.1 (omega (arith, at))
        ∙ sym (has_none_below (y + 1) l ys b.1 (omega (arith, at, e)))
    rest l e (inr ne) =
        sym (ap (λ t. t || has xs l) (ne_eqb x l ne)) ∙ same l
        ∙ ap (λ t. t || has ys l) (ne_eqb y l (λ f. ne (e ∙ f)))

some_same : (x y : ℕ) → Some x ≡ Some y → x ≡ y
some_same x y e = cc

pub resolvent_unique : (a b : List ℕ) (pivot : ℕ) (r s : List ℕ) → IsResolvent a b pivot r
    → IsResolvent a b pivot s → r ≡ s
resolvent_unique a b pivot r s p q =
    let same : p.literal ≡ q.literal = some_same _ _ (sym p.clash ∙ q.clash) in
    same_members 0 0 r s p.sorted q.sorted (λ l. p.union l
    ∙ ap (λ x. in_union_without (has a) (has b) x l) same ∙ sym (q.union l))

pub chain_unique : (cs : List (List ℕ)) (a : List ℕ) (ss : List Step) (c d : List ℕ)
    → Gives cs a ss c → Gives cs a ss d → c ≡ d
chain_unique cs a [] c d p q = sym p ∙ q
chain_unique cs a (s ∷ ss) c d p q =
    let Q : List ℕ → Type 0 = λ r. Gives cs r ss d in
    chain_unique cs p.0 ss c d p.2 (subst Q (resolvent_unique a _ s.pivot q.0 p.0 q.1 p.1) q.2)

-- the literal on which two clauses clash is one of the pivot
cond_some : (b : Bool) (x z : ℕ) (o : Option ℕ) → (if_some : cond b (Some x) o ≡ Some z)
    → (x ≡ z) ⊎ (o ≡ Some z)
cond_some true x z o h = inl (some_same x z h)
cond_some false x z o h = inr h

none_some : (z : ℕ) → None ≡ Some z → ⊥
none_some z e = cc

pub clash_of_pivot : (f g : ℕ → Bool) (pivot x : ℕ) → clash_on f g pivot ≡ Some x
    → (x ≡ 2 * pivot) ⊎ (x ≡ 2 * pivot + 1)
clash_of_pivot f g pivot x h =
    elim (cond_some (f (2 * pivot) && g (2 * pivot + 1)) (2 * pivot) x
    (cond (f (2 * pivot + 1) && g (2 * pivot)) (Some (2 * pivot + 1)) None) h) [
      | inl e ↦ inl (sym e)
      | inr other ↦ elim (cond_some (f (2 * pivot + 1) && g (2 * pivot)) (2 * pivot + 1) x None
          other) [
            | inl e ↦ inr (sym e)
            | inr none ↦ absurd (none_some x none)
          ]
    ]

pub clash_below : (f g : ℕ → Bool) (pivot x l : ℕ) → clash_on f g pivot ≡ Some x → 2 * pivot + 1 < l
    → (l ≡ x → ⊥) × (l ≡ opposite x → ⊥)
clash_below f g pivot x l h above =
    elim (clash_of_pivot f g pivot x h) [
      | inl e ↦ (λ same. omega arith, λ same. omega arith)
      | inr e ↦ (λ same. omega arith, λ same. omega arith)
    ]

keeps : (p n : Bool) → p ≡ true → n ≡ true → (p && n) ≡ true
keeps true n e f = f
keeps false n e f = absurd (false≢true e)

pub union_keeps_first : (f g : ℕ → Bool) (x l : ℕ) → (l ≡ x → ⊥) → f l ≡ true
    → in_union_without f g x l ≡ true
union_keeps_first f g x l ne h = or_true_left _ _
    (keeps (f l) (not (l == x)) h (ap not (ne_eqb l x ne)))

pub union_keeps_second : (f g : ℕ → Bool) (x l : ℕ) → (l ≡ opposite x → ⊥) → g l ≡ true
    → in_union_without f g x l ≡ true
union_keeps_second f g x l ne h = or_true_right (f l && not (l == x)) _
    (keeps (g l) (not (l == opposite x)) h (ap not (ne_eqb l (opposite x) ne)))

-- a literal of a variable that is no pivot stays to the end
pub stays : (cs : List (List ℕ)) (vars : ℕ) (a : List ℕ) (ss : List Step) (c : List ℕ) (l : ℕ)
    → AllByRecursion (λ (s : Step). s.pivot < vars) ss → 2 * vars ≤ l → Gives cs a ss c
    → has a l ≡ true → has c l ≡ true
stays cs vars a [] c l pivots beyond chain here = subst (λ (d : List ℕ). has d l ≡ true) chain here
stays cs vars a (s ∷ ss) c l pivots beyond chain here =
    stays cs vars chain.0 ss c l pivots.1 beyond chain.2
    (chain.1.union l ∙ union_keeps_first (has a) (has (slice_index_or cs s.clause []))
    chain.1.literal l (clash_below (has a) (has (slice_index_or cs s.clause [])) s.pivot
    chain.1.literal l chain.1.clash (omega (arith, pivots.0))).0 here)

pub member_below : (vars : ℕ) (xs : List ℕ) (l : ℕ) → AreBelow vars xs → has xs l ≡ true
    → l < 2 * vars
member_below vars [] l all h = absurd (false≢true h)
member_below vars (x ∷ xs) l all h =
    elim (or_cases (x == l) (has xs l) h) [
      | inl e ↦ omega (arith, eqb-true x l e, all.0)
      | inr e ↦ member_below vars xs l all.1 e
    ]

-- no chain ends within the variables once it has met a literal beyond them
pub ends_beyond : (cs : List (List ℕ)) (vars : ℕ) (a : List ℕ) (ss : List Step) (c : List ℕ) (l : ℕ)
    → AllByRecursion (λ (s : Step). s.pivot < vars) ss → 2 * vars ≤ l → AreBelow vars c
    → Gives cs a ss c → has a l ≡ true → ⊥
ends_beyond cs vars a ss c l pivots beyond below chain here =
    absurd (omega (
      arith,
      member_below vars c l below
          (stays cs vars a ss c l pivots beyond chain here),
    ))

-- the clause of the marked literals
listed : ℕ → List Bool → List ℕ
listed n [] = []
listed n (true ∷ bs) = n ∷ listed (n + 1) bs
listed n (false ∷ bs) = listed (n + 1) bs

listed-ascends : (n : ℕ) (bs : List Bool) → AscendsFrom n (listed n bs)
unfolding listed
listed-ascends n [] = tt
listed-ascends n (true ∷ bs) = (omega arith, listed-ascends (n + 1) bs)
listed-ascends n (false ∷ bs) = AscendsFrom-weaker (n + 1) n _ (omega arith)
    (listed-ascends (n + 1) bs)

listed-has : (n : ℕ) (bs : List Bool) (k : ℕ) → has (listed n bs) (n + k) ≡ get_or bs k false
unfolding listed
listed-has n [] k = refl
listed-has n (true ∷ bs) zero = or_true_left _ _ (eq-eqb n (n + zero) (omega arith))
listed-has n (true ∷ bs) (suc k) =
    let further : n + suc k ≡ (n + 1) + k = omega arith in
    ap (λ b. b || has (listed (n + 1) bs) (n + suc k)) (ne_eqb n (n + suc k) (λ e. omega arith))
    ∙ ap (λ j. has (listed (n + 1) bs) j) further ∙ listed-has (n + 1) bs k
listed-has n (false ∷ bs) zero = has_none_below (n + 1) (n + zero) _ (listed-ascends (n + 1) bs)
    (omega arith)
listed-has n (false ∷ bs) (suc k) =
    let further : n + suc k ≡ (n + 1) + k = omega arith in
    ap (λ j. has (listed (n + 1) bs) j) further ∙ listed-has (n + 1) bs k

pub listed_marks : (table : List Bool) → (c : List ℕ) × IsMarkedAs table c
listed_marks table = (
  listed 0 table,
  record {
    same = λ l. ap (λ k. has (listed 0 table) k) (start l) ∙ listed-has 0 table l;
    sorted = listed-ascends 0 table;
  },
)
  where
    start : (l : ℕ) → l ≡ 0 + l
    start l = omega arith

pub marked_unique : (table : List Bool) (c d : List ℕ) → IsMarkedAs table c → IsMarkedAs table d
    → c ≡ d
marked_unique table c d p q = same_members 0 0 c d p.sorted q.sorted (λ l. p.same l
    ∙ sym (q.same l))

abbrev by_values : (ℕ → Bool) → ℕ → Bool → Bool → Option ℕ
by_values h pivot u v = cond (u && h (2 * pivot + 1)) (Some (2 * pivot))
    (cond (v && h (2 * pivot)) (Some (2 * pivot + 1)) None)

-- clashes and unions of sets of literals that agree
pub clash_same : (f g h : ℕ → Bool) (pivot : ℕ) → ((l : ℕ) → f l ≡ g l)
    → clash_on f h pivot ≡ clash_on g h pivot
clash_same f g h pivot same =
    ap (λ u. by_values h pivot u (f (2 * pivot + 1))) (same (2 * pivot))
    ∙ ap (λ v. by_values h pivot (g (2 * pivot)) v) (same (2 * pivot + 1))

pub union_same : (f g h : ℕ → Bool) (x l : ℕ) → f l ≡ g l
    → in_union_without f h x l ≡ in_union_without g h x l
union_same f g h x l same = ap (λ u. (u && not (l == x)) || (h l && not (l == opposite x))) same

pub without_literals : (c : List ℕ) → ((l : ℕ) → has c l ≡ false) → c ≡ []
without_literals [] h = refl
without_literals (x ∷ xs) h = absurd (false≢true (sym (h x) ∙ has_head x xs))
