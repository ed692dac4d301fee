-- The steps of a chain from its numbers, and a clause from its literals.
use Rattle.std.proofs.Common.{◌≡◌, ℕ, List, [], ◌∷◌, ◌++◌, refl, sym, ap, ap₂, ◌∙◌, subst}
use Rattle.std.proofs.Common.{◌<◌, ◌^◌, true, inl, inr, length, arith, append_assoc, append-nil}
use Rattle.std.specs.Prelude.{◌==◌, Result, Ok, Err}
use Rattle.json.specs.Token.{Token}
use Rattle.std.proofs.lemmas.Bool.{eqb-true, or_cases, false≢true}
use Rattle.std.specs.List.{AllByRecursion}
use Rattle.cpa_cnf.specs.Clauses.{has}
use Rattle.cpa_cnf.specs.lemmas.Chains.{has_head}
use Rattle.cpa_cnf.specs.lemmas.Members.{or_true_right}
use Rattle.cpa_cnf.specs.declared.formula.Step.{Step}
use Rattle.cpa_report_json.specs.Fits.{AreSmall, StepFits}
use Rattle.cpa_report_json.specs.Taking.{numbers_of, Made, Took}
use Rattle.cpa_report_json.specs.declared.fault.ReadFault.{ReadFault}

abbrev pub step_at : ℕ → ℕ → Step
step_at pivot clause = record { pivot = pivot; clause = clause }

-- some steps are found of a chain, and these numbers are left
pub record Left (steps found : List Step) (rest : List ℕ) : Type 0 where
  pub left : List Step
  pub split : found ++ left ≡ steps
  pub numbers : rest ≡ numbers_of left

pub begun : (steps : List Step) (rest : List ℕ) → rest ≡ numbers_of steps → Left steps [] rest
begun steps rest is = record { left = steps; split = refl; numbers = is }

next_at : (left steps found : List Step) (rest : List ℕ) (p c : ℕ) (behind : List ℕ)
    → found ++ left ≡ steps → rest ≡ numbers_of left → rest ≡ p ∷ c ∷ behind
    → Left steps (found ++ step_at p c ∷ []) behind
next_at [] steps found rest p c behind split numbers is = absurd (cc)
next_at (s ∷ left) steps found rest p c behind split numbers is =
    let pivot : p ≡ s.pivot = cc in
    let clause : c ≡ s.clause = cc in
    let same : step_at p c ≡ s = ap₂ step_at pivot clause in
    record {
      left = left;
      split = append_assoc found (step_at p c ∷ []) left
          ∙ ap (λ x. found ++ x ∷ left) same ∙ split;
      numbers = cc;
    }

pub next : (steps found : List Step) (rest more behind : List ℕ) (p c : ℕ)
    → Left steps found rest → rest ≡ p ∷ more → more ≡ c ∷ behind
    → Left steps (found ++ step_at p c ∷ []) behind
next steps found rest more behind p c l is also =
    next_at l.left steps found rest p c behind l.split l.numbers (is ∙ ap (λ ns. p ∷ ns) also)

none : (ns : List ℕ) → length ns ≡ 0 → ns ≡ []
none [] is = refl
none (n ∷ ns) is = absurd (omega (arith, is))

ended_at : (left steps found : List Step) → found ++ left ≡ steps → [] ≡ numbers_of left
    → found ≡ steps
ended_at [] steps found split numbers = sym (append-nil found) ∙ split
ended_at (s ∷ left) steps found split numbers = absurd (cc)

-- nothing is left
pub ended : (steps found : List Step) (rest : List ℕ) → Left steps found rest → length rest ≡ 0
    → found ≡ steps
ended steps found rest l is =
    ended_at l.left steps found l.split (sym (none rest is) ∙ l.numbers)

lone_at : (left : List Step) (p : ℕ) → p ∷ [] ≡ numbers_of left → ⊥
lone_at [] p is = absurd (cc)
lone_at (s ∷ left) p is = absurd (cc)

-- no single number is left
pub lone : (steps found : List Step) (rest more : List ℕ) (p : ℕ) → Left steps found rest
    → rest ≡ p ∷ more → length more ≡ 0 → ⊥
lone steps found rest more p l is last =
    lone_at l.left p (ap (λ ns. p ∷ ns) (sym (none more last)) ∙ sym is ∙ l.numbers)

-- the numbers behind two
pub two_small : (rest more behind : List ℕ) (p c : ℕ) → rest ≡ p ∷ more → more ≡ c ∷ behind
    → AreSmall rest → (p < 2 ^ 32) × (c < 2 ^ 32) × AreSmall behind
two_small rest more behind p c is also small =
    let all = subst AreSmall (is ∙ ap (λ ns. p ∷ ns) also) small in
    (all.0, all.1.0, all.1.1)

-- the numbers of steps are small
pub numbers_small : (steps : List Step) → AllByRecursion StepFits steps
    → AreSmall (numbers_of steps)
numbers_small [] h = tt
numbers_small (s ∷ steps) h = (h.0.0, (h.0.1, numbers_small steps h.1))

member : (P : ℕ → Type 0) (xs : List ℕ) (l : ℕ) → AllByRecursion P xs → has xs l ≡ true → P l
member P [] l all h = absurd (false≢true h)
member P (x ∷ xs) l all h =
    elim (or_cases (x == l) (has xs l) h) [
      | inl e ↦ subst P (eqb-true x l e) all.0
      | inr e ↦ member P xs l all.1 e
    ]

-- what holds of all items of a list holds of those of one that has no others
pub all_same : (P : ℕ → Type 0) (xs ys : List ℕ) → ((l : ℕ) → has ys l ≡ true → has xs l ≡ true)
    → AllByRecursion P xs → AllByRecursion P ys
all_same P xs [] same all = tt
all_same P xs (y ∷ ys) same all = (
  member P xs y all (same y (has_head y ys)),
  all_same P xs ys (λ l h. same l (or_true_right (y == l) (has ys l) h)) all,
)

-- what was made of what was taken
pub took_made : {A : Type 0} (x : A) (r : Result A ReadFault) (rest new : List Token)
    → Made x r → new ≡ rest → Took x rest r new
took_made x (Ok y) rest new made is = (made, is)
took_made x (Err e) rest new made is = made
