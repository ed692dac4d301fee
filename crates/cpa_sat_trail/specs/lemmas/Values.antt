-- Values of a trail, one more at a time, and the model that they are.
use Rattle.std.proofs.Common.{◌≡◌, ◌≢◌, ℕ, ◌+◌, ◌*◌, ◌/◌, ◌%◌, ◌<◌, ◌≤◌, Bool, true, false}
use Rattle.std.proofs.Common.{not, cond, List, [], ◌∷◌, ◌++◌, ◌⊎◌, inl, inr, length, refl}
use Rattle.std.proofs.Common.{sym, ap, ◌∙◌, subst, arith}
use Rattle.std.specs.Prelude.{◌↔◌, IsTrue, slice_index_or}
use Rattle.std.proofs.lemmas.Bool.{cases_eq, cases_lt, eq-eqb, ne_eqb, false≢true}
use Rattle.std.proofs.lemmas.List.{get_or_append_left, get_or_push, length_push, get_or_default}
use Rattle.cpa_cnf.specs.Literals.{opposite}
use Rattle.cpa_cnf.specs.Clauses.{has}
use Rattle.cpa_cnf.specs.Models.{value_of_literal, Satisfies}
use Rattle.cpa_sat_trail.specs.declared.trail.Trail.{Trail}
use Rattle.cpa_sat_trail.specs.declared.trail.TheConstants.{NO_PLACE}
use Rattle.cpa_sat_trail.specs.Trails.{IsTrail, place_of}
use Rattle.cpa_sat_trail.specs.Findings.{AreValues, IsSatisfiedIn}

pub values_more : (t : Trail) (n : ℕ) (vs : List Bool) (b : Bool) → AreValues t n vs
    → (IsTrue b ↔ (place_of t (n * 2) ≢ NO_PLACE)) → AreValues t (n + 1) (vs ++ b ∷ [])
values_more t n vs b values here = record {
  long = length_push vs b ∙ ap (λ k. k + 1) values.long;
  each = λ v h. go v h (cases_lt v n);
}
  where
    twice : (v : ℕ) → v * 2 ≡ 2 * v
    twice v = omega arith

    last : (v : ℕ) → v < n + 1 → n ≤ v → v ≡ n
    last v h k = omega arith

    go : (v : ℕ) → v < n + 1 → (v < n) ⊎ (n ≤ v)
        → IsTrue (slice_index_or (vs ++ b ∷ []) v true) ↔ (place_of t (2 * v) ≢ NO_PLACE)
    go v h (inl less) =
        subst (λ c. IsTrue c ↔ (place_of t (2 * v) ≢ NO_PLACE))
        (sym (get_or_append_left vs (b ∷ []) true v
        (subst (λ k. v < k) (sym values.long) less))) (values.each v less)
    go v h (inr past) =
        let at : v ≡ n = last v h past in
        subst (λ c. IsTrue c ↔ (place_of t (2 * v) ≢ NO_PLACE))
        (sym (get_or_push vs b true v (values.long ∙ sym at)))
        (subst (λ x. IsTrue b ↔ (place_of t x ≢ NO_PLACE)) (twice n
        ∙ ap (λ k. 2 * k) (sym at)) here)

abbrev by_sign : Bool → Bool → Bool
by_sign even value = cond even value (not value)

true_or_not : (b : Bool) → (b ≡ true → ⊥) → not b ≡ true
true_or_not true h = absurd (h refl)
true_or_not false h = refl

-- a literal that is true on the trail is true under the values
pub literal_true : (t : Trail) (vs : List Bool) (l : ℕ) → IsTrail t → AreValues t t.vars vs
    → l < 2 * t.vars → place_of t l ≢ NO_PLACE → value_of_literal vs l ≡ true
literal_true t vs l s values range here = go (cases_eq (l % 2) 0)
  where
    half : l / 2 < t.vars
    half = omega arith

    inside : l / 2 < length vs
    inside = subst (λ k. l / 2 < k) (sym values.long) half

    read : slice_index_or vs (l / 2) false ≡ slice_index_or vs (l / 2) true
    read = get_or_default vs (l / 2) false true inside

    go : (l % 2 ≡ 0) ⊎ (l % 2 ≡ 0 → ⊥) → value_of_literal vs l ≡ true
    go (inl even) =
        let whole : 2 * (l / 2) ≡ l = omega arith in
        ap (λ b. by_sign b (slice_index_or vs (l / 2) false)) (eq-eqb (l % 2) 0 even)
        ∙ read ∙ (values.each (l / 2) half).1 (λ e. here (ap (λ x. place_of t x) (sym whole) ∙ e))
    go (inr odd) =
        let other : 2 * (l / 2) ≡ opposite l = omega arith in
        ap (λ b. by_sign b (slice_index_or vs (l / 2) false)) (ne_eqb (l % 2) 0 odd)
        ∙ true_or_not (slice_index_or vs (l / 2) false)
        (λ e. (values.each (l / 2) half).0 (sym read ∙ e) (ap (λ x. place_of t x) other
        ∙ s.one l range here))

pub satisfied : (t : Trail) (vs : List Bool) (clause : List ℕ) → IsTrail t → AreValues t t.vars vs
    → ((l : ℕ) → has clause l ≡ true → l < 2 * t.vars) → IsSatisfiedIn t clause
    → Satisfies vs clause
satisfied t vs clause s values below found =
    (found.0, found.1, literal_true t vs found.0 s values (below found.0 found.1) found.2)

-- what is not so is not
pub none_of : (p : ℕ) → ((p ≡ NO_PLACE → ⊥) → false ≡ true) → p ≡ NO_PLACE
none_of p h = go (cases_eq p NO_PLACE)
  where
    go : (p ≡ NO_PLACE) ⊎ (p ≡ NO_PLACE → ⊥) → p ≡ NO_PLACE
    go (inl e) = e
    go (inr ne) = absurd (false≢true (h ne))
