-- A model makes each clause that resolution gives true, so a formula with a refutation has none.
use Rattle.std.proofs.Common.{◌≡◌, ℕ, zero, suc, ◌+◌, ◌-◌, ◌/◌, ◌%◌, ◌<◌, ◌≤◌, Bool, true, false}
use Rattle.std.proofs.Common.{not, cond, List, [], ◌∷◌, ◌++◌, ◌⊎◌, inl, inr, map, take, length}
use Rattle.std.proofs.Common.{get_or, refl, sym, ap, ◌∙◌, subst, arith, Some}
use Rattle.std.specs.Prelude.{slice_index_or}
use Rattle.std.specs.List.{All, AllByRecursion, slice_get}
use Rattle.std.proofs.lemmas.Bool.{cases_eq, eq-eqb, ne_eqb, false≢true}
use Rattle.std.proofs.lemmas.List.{take_more, take_all, map-append}
use Rattle.std.proofs.lemmas.List.Elements.{All-from_recursion, All-append, All-push}
use Rattle.std.proofs.lemmas.Option.{slice_get-get_or, slice_get_within, get_or_from_slice_get}
use Rattle.cpa_cnf.specs.declared.formula.Cnf.{Cnf}
use Rattle.cpa_cnf.specs.declared.formula.Step.{Step}
use Rattle.cpa_cnf.specs.declared.formula.Line.{Line}
use Rattle.cpa_cnf.specs.Literals.{opposite}
use Rattle.cpa_cnf.specs.Clauses.{has}
use Rattle.cpa_cnf.specs.Resolution.{IsResolvent}
use Rattle.cpa_cnf.specs.Lines.{known, Gives, AreGood, IsRefutation}
use Rattle.cpa_cnf.specs.Models.{value_of_literal, Satisfies, IsModel}
use Rattle.cpa_cnf.specs.lemmas.Chains.{union_keeps_first, union_keeps_second}

-- a literal and its opposite are not both true
abbrev by_sign : Bool → Bool → Bool
by_sign even value = cond even value (not value)

not_not : (b : Bool) → b ≡ not (not b)
not_not true = refl
not_not false = refl

value_flips : (values : List Bool) (l : ℕ)
    → value_of_literal values (opposite l) ≡ not (value_of_literal values l)
value_flips values l = go (cases_eq (l % 2) 0)
  where
    same_var : opposite l / 2 ≡ l / 2
    same_var = omega arith

    go : (l % 2 ≡ 0) ⊎ (l % 2 ≡ 0 → ⊥)
        → value_of_literal values (opposite l) ≡ not (value_of_literal values l)
    go (inl even) =
        ap (λ b. by_sign b (slice_index_or values (opposite l / 2) false))
        (ne_eqb (opposite l % 2) 0 (λ e. omega arith))
        ∙ ap (λ k. not (slice_index_or values k false)) same_var
        ∙ sym (ap (λ b. not (by_sign b (slice_index_or values (l / 2) false)))
        (eq-eqb (l % 2) 0 even))
    go (inr odd) =
        ap (λ b. by_sign b (slice_index_or values (opposite l / 2) false))
        (eq-eqb (opposite l % 2) 0 (omega arith))
        ∙ ap (λ k. slice_index_or values k false) same_var
        ∙ not_not (slice_index_or values (l / 2) false)
        ∙ sym (ap (λ b. not (by_sign b (slice_index_or values (l / 2) false)))
        (ne_eqb (l % 2) 0 odd))

resolvent_true : (values : List Bool) (a b : List ℕ) (pivot : ℕ) (r : List ℕ)
    → IsResolvent a b pivot r → Satisfies values a → Satisfies values b → Satisfies values r
resolvent_true values a b pivot r res (la, in_a, true_a) (lb, in_b, true_b) =
    first (cases_eq la res.literal)
  where
    second : la ≡ res.literal → (lb ≡ opposite res.literal) ⊎ (lb ≡ opposite res.literal → ⊥)
        → Satisfies values r
    second e (inl f) =
        absurd (false≢true (sym (ap not (sym (ap (λ l. value_of_literal values l) e) ∙ true_a))
        ∙ sym (value_flips values res.literal) ∙ sym (ap (λ l. value_of_literal values l) f)
        ∙ true_b))
    second e (inr ne) = (
      lb,
      res.union lb
          ∙ union_keeps_second (has a) (has b) res.literal lb ne in_b,
      true_b,
    )

    first : (la ≡ res.literal) ⊎ (la ≡ res.literal → ⊥) → Satisfies values r
    first (inl e) = second e (cases_eq lb (opposite res.literal))
    first (inr ne) = (
      la,
      res.union la
          ∙ union_keeps_first (has a) (has b) res.literal la ne in_a,
      true_a,
    )

chain_true : (values : List Bool) (cs : List (List ℕ)) → All (Satisfies values) cs
    → (a : List ℕ) (ss : List Step) (c : List ℕ)
    → AllByRecursion (λ (s : Step). s.clause < length cs) ss → Gives cs a ss c → Satisfies values a
    → Satisfies values c
chain_true values cs all a [] c numbers chain here =
    subst (λ (d : List ℕ). Satisfies values d) chain here
chain_true values cs all a (s ∷ ss) c numbers chain here =
    chain_true values cs all chain.0 ss c numbers.1 chain.2
    (resolvent_true values a (slice_index_or cs s.clause []) s.pivot chain.0 chain.1 here
    (all s.clause [] numbers.0))

known_true : (values : List Bool) (cnf : Cnf) (log : List Line) → All (Satisfies values) cnf.clauses
    → All (Satisfies values) (map (λ (line : Line). line.clause) log)
    → All (Satisfies values) (known cnf log)
known_true values cnf log formula lines = All-append (Satisfies values) cnf.clauses _ formula lines

lines_true : (values : List Bool) (cnf : Cnf) (log : List Line) → All (Satisfies values) cnf.clauses
    → AreGood cnf log
    → (i : ℕ) → i ≤ length log → All (Satisfies values)
    (map (λ (line : Line). line.clause) (take i log))
lines_true values cnf log formula good zero h = λ k d below. absurd (omega arith)
lines_true values cnf log formula good (suc i) h =
    let before : All (Satisfies values) (map (λ (line : Line). line.clause) (take i log)) =
    lines_true values cnf log formula good i (omega arith) in
    let found = at_place log i (omega arith) in
    let line = found.0 in
    let is_good = good i line found.1 in
    let holds : Satisfies values line.clause =
    chain_true values (known cnf (take i log)) (known_true values cnf (take i log) formula before) _
    line.steps line.clause is_good.range.numbers is_good.chain
    (known_true values cnf (take i log) formula before line.first [] is_good.range.first) in
    subst (λ (cs : List (List ℕ)). All (Satisfies values) cs)
    (sym (one_more log i line (omega arith) found.1))
    (All-push (Satisfies values) (map (λ (l : Line). l.clause) (take i log)) line.clause before
    holds)
  where
    at_place : (xs : List Line) (k : ℕ) → k < length xs
        → (line : Line) × (slice_get xs k ≡ Some line)
    at_place [] k below = absurd (omega arith)
    at_place (x ∷ xs) k below = (get_or (x ∷ xs) k x, slice_get-get_or (x ∷ xs) k x below)

    one_more : (xs : List Line) (k : ℕ) (line : Line) → k < length xs → slice_get xs k ≡ Some line
        → map (λ (l : Line). l.clause) (take (suc k) xs) ≡ map (λ (l : Line). l.clause) (take k xs)
        ++ line.clause ∷ []
    one_more xs k line below at =
        let next : suc k ≡ k + 1 = omega arith in
        ap (λ j. map (λ (l : Line). l.clause) (take j xs)) next
        ∙ ap (λ (ls : List Line). map (λ (l : Line). l.clause) ls)
        (take_more xs k line below ∙ ap (λ (l : Line). take k xs ++ l ∷ [])
        (get_or_from_slice_get xs k line line at))
        ∙ map-append (λ (l : Line). l.clause) (take k xs) (line ∷ [])

pub refuted : (cnf : Cnf) (log : List Line) (values : List Bool) → IsRefutation cnf log
    → IsModel cnf values → ⊥
refuted cnf log values refutation model =
    let clauses : List (List ℕ) = map (λ (line : Line). line.clause) log in
    let formula : All (Satisfies values) cnf.clauses =
    All-from_recursion (Satisfies values) cnf.clauses model.each_clause in
    let lines : All (Satisfies values) clauses =
    subst (λ (ls : List Line). All (Satisfies values) (map (λ (line : Line). line.clause) ls))
    (take_all (length log) log (omega arith))
    (lines_true values cnf log formula refutation.good (length log) (omega arith)) in
    let below = slice_get_within clauses (length log - 1) [] refutation.last in
    let empty : Satisfies values [] =
    subst (λ (c : List ℕ). Satisfies values c)
    (get_or_from_slice_get clauses (length log - 1) [] [] refutation.last)
    (lines (length log - 1) [] below) in
    false≢true empty.1
