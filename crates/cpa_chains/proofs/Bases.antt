-- The partials of the formula's clauses: the two facts of each clause, and that shared variables
-- decide them.
use Rattle.std.proofs.Common.{◌≡◌, ℕ, ◌/◌, ◌%◌, Bool, true, false, not, cond, List, [], ◌∷◌}
use Rattle.std.proofs.Common.{◌⊎◌, inl, inr, map, length, refl, sym, ap, ◌∙◌, arith, ◌&&◌, ◌||◌}
use Rattle.std.specs.Prelude.{slice_index_or, filter, ◌==◌}
use Rattle.std.specs.List.{AllByRecursion, list_any}
use Rattle.std.proofs.lemmas.Bool.{cases_Bool, or_cases, eqb-true, eq-eqb, false≢true}
use Rattle.cpa_cnf.specs.declared.formula.Cnf.{Cnf}
use Rattle.cpa_cnf.specs.Clauses.{has}
use Rattle.cpa_cnf.specs.Models.{value_of_literal, Satisfies}
use Rattle.cpa_cnf.specs.lemmas.Members.{or_true_left, or_true_right}
use Rattle.cpa_chains.specs.Sides.{clauses_on, has_variable, stands_on, is_local, is_shared}
use Rattle.cpa_chains.specs.Partials.{leaf_of, leaves_by, leaves_of, leaf_value}
use Rattle.cpa_chains.specs.Interpolants.{SatisfiesSide, AgreeOnShared}
use Rattle.cpa_chains.proofs.Chaining.{FromFirst, FromSecond}
use Rattle.cpa_chains.proofs.Pairing.{Each}

-- the variable of a literal of the clause stands in it
has_variable-has : (c : List ℕ) (l : ℕ) → has c l ≡ true → has_variable c (l / 2) ≡ true
has_variable-has [] l h = absurd (false≢true h)
has_variable-has (x ∷ xs) l h =
    elim (or_cases (x == l) (has xs l) h) [
      | inl e ↦ or_true_left (x / 2 == l / 2) (has_variable xs (l / 2))
          (eq-eqb (x / 2) (l / 2) (ap (λ k. k / 2) (eqb-true x l e)))
      | inr e ↦ or_true_right (x / 2 == l / 2) (has_variable xs (l / 2)) (has_variable-has xs l e)
    ]

-- a literal of the clause that is kept and passes
kept_passes : (keep test : ℕ → Bool) (c : List ℕ) (l : ℕ) → has c l ≡ true → keep l ≡ true
    → test l ≡ true → list_any test (filter keep c) ≡ true
kept_passes keep test [] l h k t = absurd (false≢true h)
kept_passes keep test (x ∷ xs) l h k t =
    go (or_cases (x == l) (has xs l) h) (cases_Bool (keep x))
    (λ e. kept_passes keep test xs l e k t)
  where
    go : ((x == l) ≡ true) ⊎ (has xs l ≡ true) → (keep x ≡ true) ⊎ (keep x ≡ false)
        → (has xs l ≡ true → list_any test (filter keep xs) ≡ true)
        → list_any test (filter keep (x ∷ xs)) ≡ true
    go (inl e) (inl f) rest =
        ap (λ b. list_any test (cond b (x ∷ filter keep xs) (filter keep xs))) f
        ∙ or_true_left (test x) (list_any test (filter keep xs)) (ap test (eqb-true x l e) ∙ t)
    go (inl e) (inr f) rest =
        absurd (false≢true (sym f ∙ ap keep (eqb-true x l e) ∙ k))
    go (inr e) (inl f) rest =
        ap (λ b. list_any test (cond b (x ∷ filter keep xs) (filter keep xs))) f
        ∙ or_true_right (test x) (list_any test (filter keep xs)) (rest e)
    go (inr e) (inr f) rest =
        ap (λ b. list_any test (cond b (x ∷ filter keep xs) (filter keep xs))) f ∙ rest e

-- where a kept literal passes, it is one of the clause
passes_kept : (keep test : ℕ → Bool) (c : List ℕ) → list_any test (filter keep c) ≡ true
    → (l : ℕ) × (has c l ≡ true) × (keep l ≡ true) × (test l ≡ true)
passes_kept keep test [] h = absurd (false≢true h)
passes_kept keep test (x ∷ xs) h = go (cases_Bool (keep x)) (λ k. passes_kept keep test xs k)
  where
    behind : ((l : ℕ) × (has xs l ≡ true) × (keep l ≡ true) × (test l ≡ true))
        → (l : ℕ) × (has (x ∷ xs) l ≡ true) × (keep l ≡ true) × (test l ≡ true)
    behind found =
        (found.0, or_true_right (x == found.0) (has xs found.0) found.1, found.2, found.3)

    go : (keep x ≡ true) ⊎ (keep x ≡ false)
        → (list_any test (filter keep xs) ≡ true
        → (l : ℕ) × (has xs l ≡ true) × (keep l ≡ true) × (test l ≡ true))
        → (l : ℕ) × (has (x ∷ xs) l ≡ true) × (keep l ≡ true) × (test l ≡ true)
    go (inl f) rest =
        elim (or_cases (test x) (list_any test (filter keep xs))
        (sym (ap (λ b. list_any test (cond b (x ∷ filter keep xs) (filter keep xs))) f) ∙ h)) [
          | inl e ↦ (x, or_true_left (x == x) (has xs x) (eq-eqb x x refl), f, e)
          | inr e ↦ behind (rest e)
        ]
    go (inr f) rest =
        behind (rest
        (sym (ap (λ b. list_any test (cond b (x ∷ filter keep xs) (filter keep xs))) f) ∙ h))

-- A clause of A that is true is so by a literal on a shared variable or by one on a local one.
first_leaf : (cnf : Cnf) (sides : List Bool) (values : List Bool) (c : List ℕ)
    → ((x : ℕ) → has_variable c x ≡ true → stands_on true cnf sides x ≡ true)
    → Satisfies values c
    → FromFirst (is_local cnf sides) values c (leaf_value values (leaf_of cnf sides true c))
first_leaf cnf sides values c within (l, in_c, true_l) =
    go (cases_Bool (stands_on false cnf sides (l / 2)))
  where
    go : (stands_on false cnf sides (l / 2) ≡ true) ⊎ (stands_on false cnf sides (l / 2) ≡ false)
        → FromFirst (is_local cnf sides) values c (leaf_value values (leaf_of cnf sides true c))
    go (inl e) =
        inl (kept_passes (λ k. is_shared cnf sides (k / 2)) (value_of_literal values) c l in_c
        (ap (λ b. b && stands_on false cnf sides (l / 2))
        (within (l / 2) (has_variable-has c l in_c)) ∙ e) true_l)
    go (inr e) = inr (l, in_c, true_l, ap not e)

and_second : (a b : Bool) → (a && b) ≡ true → b ≡ true
and_second true b h = h
and_second false b h = absurd (false≢true h)

-- Where the partial of a clause of A is true, a literal on a shared variable is.
second_leaf : (cnf : Cnf) (sides : List Bool) (values : List Bool) (c : List ℕ)
    → FromSecond (is_local cnf sides) values c (leaf_value values (leaf_of cnf sides true c))
second_leaf cnf sides values c holds =
    let keep : ℕ → Bool = λ k. is_shared cnf sides (k / 2) in
    let found = passes_kept keep (value_of_literal values) c holds in (
      found.0,
      found.1,
      found.3,
      ap (λ b. not (not b)) (and_second
          (stands_on true cnf sides (found.0 / 2)) (stands_on false cnf sides (found.0 / 2))
          found.2),
    )

front_variable : (c : List ℕ) (cs : List (List ℕ)) (test : ℕ → Bool)
    → ((x : ℕ) → list_any (λ d. has_variable d x) (c ∷ cs) ≡ true → test x ≡ true)
    → (x : ℕ) → has_variable c x ≡ true → test x ≡ true
front_variable c cs test all x h =
    all x (or_true_left (has_variable c x) (list_any (λ d. has_variable d x) cs) h)

behind_variable : (c : List ℕ) (cs : List (List ℕ)) (test : ℕ → Bool)
    → ((x : ℕ) → list_any (λ d. has_variable d x) (c ∷ cs) ≡ true → test x ≡ true)
    → (x : ℕ) → list_any (λ d. has_variable d x) cs ≡ true → test x ≡ true
behind_variable c cs test all x h =
    all x (or_true_right (has_variable c x) (list_any (λ d. has_variable d x) cs) h)

first_by : (cnf : Cnf) (sides : List Bool) (values : List Bool) (ss : List Bool)
    (cs : List (List ℕ)) → length ss ≡ length cs
    → ((x : ℕ) → list_any (λ d. has_variable d x) (clauses_on true ss cs) ≡ true
    → stands_on true cnf sides x ≡ true)
    → AllByRecursion (Satisfies values) (clauses_on true ss cs)
    → Each (FromFirst (is_local cnf sides) values) cs
    (map (leaf_value values) (leaves_by cnf sides ss cs))
first_by cnf sides values [] [] long within all = tt
first_by cnf sides values [] (c ∷ cs) long within all = absurd (omega (arith, long))
first_by cnf sides values (s ∷ ss) [] long within all = absurd (omega (arith, long))
first_by cnf sides values (true ∷ ss) (c ∷ cs) long within all = (
  first_leaf cnf sides values c
      (front_variable c (clauses_on true ss cs) (stands_on true cnf sides) within) all.0,
  first_by cnf sides values ss cs (omega (arith, long))
      (behind_variable c (clauses_on true ss cs) (stands_on true cnf sides) within) all.1,
)
first_by cnf sides values (false ∷ ss) (c ∷ cs) long within all =
    (inl refl, first_by cnf sides values ss cs (omega (arith, long)) within all)

second_by : (cnf : Cnf) (sides : List Bool) (values : List Bool) (ss : List Bool)
    (cs : List (List ℕ)) → length ss ≡ length cs
    → ((x : ℕ) → list_any (λ d. has_variable d x) (clauses_on false ss cs) ≡ true
    → stands_on false cnf sides x ≡ true)
    → AllByRecursion (Satisfies values) (clauses_on false ss cs)
    → Each (FromSecond (is_local cnf sides) values) cs
    (map (leaf_value values) (leaves_by cnf sides ss cs))
second_by cnf sides values [] [] long within all = tt
second_by cnf sides values [] (c ∷ cs) long within all = absurd (omega (arith, long))
second_by cnf sides values (s ∷ ss) [] long within all = absurd (omega (arith, long))
second_by cnf sides values (true ∷ ss) (c ∷ cs) long within all = (
  second_leaf cnf sides values c,
  second_by cnf sides values ss cs (omega (arith, long)) within
      all,
)
second_by cnf sides values (false ∷ ss) (c ∷ cs) long within all = (
  λ _. (
    all.0.0,
    all.0.1,
    all.0.2,
    ap (λ b. not (not b)) (front_variable c (clauses_on false ss cs) (stands_on false cnf sides)
        within (all.0.0 / 2) (has_variable-has c all.0.0 all.0.1)),
  ),
  second_by cnf sides values ss cs (omega (arith, long))
      (behind_variable c (clauses_on false ss cs) (stands_on false cnf sides) within) all.1,
)

pub first_bases : (cnf : Cnf) (sides : List Bool) (values : List Bool)
    → length sides ≡ length cnf.clauses → SatisfiesSide true cnf sides values
    → Each (FromFirst (is_local cnf sides) values) cnf.clauses
    (map (leaf_value values) (leaves_of cnf sides))
first_bases cnf sides values long all =
    first_by cnf sides values sides cnf.clauses long (λ x h. h) all

pub second_bases : (cnf : Cnf) (sides : List Bool) (values : List Bool)
    → length sides ≡ length cnf.clauses → SatisfiesSide false cnf sides values
    → Each (FromSecond (is_local cnf sides) values) cnf.clauses
    (map (leaf_value values) (leaves_of cnf sides))
second_bases cnf sides values long all =
    second_by cnf sides values sides cnf.clauses long (λ x h. h) all

abbrev literal_by : ℕ → Bool → Bool
literal_by l b = cond (l % 2 == 0) b (not b)

-- values that agree on the kept literals pass alike
same_kept : (keep : ℕ → Bool) (values others : List Bool) (c : List ℕ)
    → ((l : ℕ) → keep l ≡ true
    → slice_index_or values (l / 2) false ≡ slice_index_or others (l / 2) false)
    → list_any (value_of_literal values) (filter keep c)
    ≡ list_any (value_of_literal others) (filter keep c)
same_kept keep values others [] agree = refl
same_kept keep values others (x ∷ xs) agree =
    go (cases_Bool (keep x)) (same_kept keep values others xs agree)
  where
    go : (keep x ≡ true) ⊎ (keep x ≡ false)
        → list_any (value_of_literal values) (filter keep xs)
        ≡ list_any (value_of_literal others) (filter keep xs)
        → list_any (value_of_literal values) (filter keep (x ∷ xs))
        ≡ list_any (value_of_literal others) (filter keep (x ∷ xs))
    go (inl f) rest =
        ap (λ b. list_any (value_of_literal values) (cond b (x ∷ filter keep xs) (filter keep xs)))
        f
        ∙ ap (λ b. literal_by x b || list_any (value_of_literal values) (filter keep xs))
        (agree x f)
        ∙ ap (λ b. value_of_literal others x || b) rest
        ∙ sym (ap (λ b. list_any (value_of_literal others)
        (cond b (x ∷ filter keep xs) (filter keep xs))) f)
    go (inr f) rest =
        ap (λ b. list_any (value_of_literal values) (cond b (x ∷ filter keep xs) (filter keep xs)))
        f
        ∙ rest
        ∙ sym (ap (λ b. list_any (value_of_literal others)
        (cond b (x ∷ filter keep xs) (filter keep xs))) f)

same_by : (cnf : Cnf) (sides : List Bool) (values others : List Bool) (ss : List Bool)
    (cs : List (List ℕ)) → AgreeOnShared cnf sides values others
    → map (leaf_value values) (leaves_by cnf sides ss cs)
    ≡ map (leaf_value others) (leaves_by cnf sides ss cs)
same_by cnf sides values others [] cs agree = refl
same_by cnf sides values others (s ∷ ss) [] agree = refl
same_by cnf sides values others (true ∷ ss) (c ∷ cs) agree =
    ap (λ b. b ∷ map (leaf_value values) (leaves_by cnf sides ss cs))
    (same_kept (λ l. is_shared cnf sides (l / 2)) values others c (λ l. agree (l / 2)))
    ∙ ap (λ (bs : List Bool). leaf_value others (leaf_of cnf sides true c) ∷ bs)
    (same_by cnf sides values others ss cs agree)
same_by cnf sides values others (false ∷ ss) (c ∷ cs) agree =
    ap (λ (bs : List Bool). true ∷ bs) (same_by cnf sides values others ss cs agree)

pub same_bases : (cnf : Cnf) (sides : List Bool) (values others : List Bool)
    → AgreeOnShared cnf sides values others
    → map (leaf_value values) (leaves_of cnf sides) ≡ map (leaf_value others) (leaves_of cnf sides)
same_bases cnf sides values others agree =
    same_by cnf sides values others sides cnf.clauses agree
