-- What a line's partial and its clause come to, step by step along its chain.
use Rattle.std.proofs.Common.{◌≡◌, ℕ, ◌<◌, Bool, true, false, not, ◌&&◌, ◌||◌, List, [], ◌∷◌}
use Rattle.std.proofs.Common.{◌⊎◌, inl, inr, map, length, refl, sym, ap, ◌∙◌, subst}
use Rattle.std.specs.Prelude.{slice_index_or, if◌then◌else◌}
use Rattle.std.specs.List.{AllByRecursion}
use Rattle.std.proofs.lemmas.Bool.{cases_Bool, or_cases, false≢true}
use Rattle.cpa_cnf.specs.declared.formula.Step.{Step}
use Rattle.cpa_cnf.specs.Resolution.{IsResolvent}
use Rattle.cpa_cnf.specs.Lines.{Gives}
use Rattle.cpa_cnf.specs.lemmas.Members.{or_true_left, or_true_right}
use Rattle.cpa_chains.specs.declared.partial.Joint.{Joint}
use Rattle.cpa_chains.specs.Partials.{joined}
use Rattle.cpa_chains.proofs.Restricted.{SatisfiesBy, resolvent_true, kept_first, kept_second}

-- a joint by a test of the pivot
abbrev pub joint_with : (ℕ → Bool) → Step → Joint
joint_with test step = record { or = test step.pivot; clause = step.clause }

-- The two facts of a clause and of its partial's value. With all clauses of A true, the partial is
-- true or the clause is, by a literal of a local variable.
abbrev pub FromFirst : (ℕ → Bool) → List Bool → List ℕ → Bool → Type 0
FromFirst test values clause value = (value ≡ true) ⊎ SatisfiesBy test values clause

-- With all clauses of B true, the clause is true by a literal of another variable where the partial
-- is.
abbrev pub FromSecond : (ℕ → Bool) → List Bool → List ℕ → Bool → Type 0
FromSecond test values clause value =
    value ≡ true → SatisfiesBy (λ x. not (test x)) values clause

abbrev pub joint_value : Bool → Bool → Bool → Bool
joint_value or value other = if or then value || other else value && other

and_both : (a b : Bool) → a ≡ true → b ≡ true → (a && b) ≡ true
and_both true b h k = k
and_both false b h k = absurd (false≢true h)

both_and : (a b : Bool) → (a && b) ≡ true → (a ≡ true) × (b ≡ true)
both_and true b h = (refl, h)
both_and false b h = absurd (false≢true h)

pub step_first : (test : ℕ → Bool) (values : List Bool) (a b r : List ℕ) (pivot : ℕ) (v w : Bool)
    → IsResolvent a b pivot r → FromFirst test values a v → FromFirst test values b w
    → FromFirst test values r (joint_value (test pivot) v w)
step_first test values a b r pivot v w res in_a in_b = go (cases_Bool (test pivot))
  where
    or : test pivot ≡ true → FromFirst test values a v → FromFirst test values b w
        → FromFirst test values r (joint_value (test pivot) v w)
    or local (inl e) f =
        inl (ap (λ t. joint_value t v w) local ∙ or_true_left v w e)
    or local (inr h) (inl e) =
        inl (ap (λ t. joint_value t v w) local ∙ or_true_right v w e)
    or local (inr h) (inr k) = inr (resolvent_true test values a b pivot r res h k)

    and : test pivot ≡ false → FromFirst test values a v → FromFirst test values b w
        → FromFirst test values r (joint_value (test pivot) v w)
    and other (inl e) (inl f) =
        inl (ap (λ t. joint_value t v w) other ∙ and_both v w e f)
    and other (inl e) (inr k) = inr (kept_second test values a b pivot r res other k)
    and other (inr h) f = inr (kept_first test values a b pivot r res other h)

    go : (test pivot ≡ true) ⊎ (test pivot ≡ false)
        → FromFirst test values r (joint_value (test pivot) v w)
    go (inl local) = or local in_a in_b
    go (inr other) = and other in_a in_b

pub step_second : (test : ℕ → Bool) (values : List Bool) (a b r : List ℕ) (pivot : ℕ) (v w : Bool)
    → IsResolvent a b pivot r → FromSecond test values a v → FromSecond test values b w
    → FromSecond test values r (joint_value (test pivot) v w)
step_second test values a b r pivot v w res in_a in_b holds = go (cases_Bool (test pivot))
  where
    go : (test pivot ≡ true) ⊎ (test pivot ≡ false)
        → SatisfiesBy (λ x. not (test x)) values r
    go (inl local) =
        elim (or_cases v w (sym (ap (λ t. joint_value t v w) local) ∙ holds)) [
          | inl e ↦ kept_first (λ x. not (test x)) values a b pivot r res (ap not local) (in_a e)
          | inr e ↦ kept_second (λ x. not (test x)) values a b pivot r res (ap not local) (in_b e)
        ]
    go (inr other) =
        let both = both_and v w (sym (ap (λ t. joint_value t v w) other) ∙ holds) in
        resolvent_true (λ x. not (test x)) values a b pivot r res (in_a both.0) (in_b both.1)

-- what a step keeps of a clause and its value, a chain keeps
pub chained : (R : List ℕ → Bool → Type 0) (test : ℕ → Bool)
    → ((a b r : List ℕ) (pivot : ℕ) (v w : Bool) → IsResolvent a b pivot r → R a v → R b w
    → R r (joint_value (test pivot) v w))
    → (cs : List (List ℕ)) (known : List Bool)
    → ((k : ℕ) → k < length cs → R (slice_index_or cs k []) (slice_index_or known k false))
    → (a : List ℕ) (v : Bool) (ss : List Step) (c : List ℕ)
    → AllByRecursion (λ (s : Step). s.clause < length cs) ss → Gives cs a ss c → R a v
    → R c (joined known v (map (joint_with test) ss))
chained R test step cs known each a v [] c numbers chain here =
    subst (λ (d : List ℕ). R d v) chain here
chained R test step cs known each a v (s ∷ ss) c numbers chain here =
    chained R test step cs known each chain.0
    (joint_value (test s.pivot) v (slice_index_or known s.clause false)) ss c numbers.1 chain.2
    (step a (slice_index_or cs s.clause []) chain.0 s.pivot v (slice_index_or known s.clause false)
    chain.1 here (each s.clause numbers.0))
