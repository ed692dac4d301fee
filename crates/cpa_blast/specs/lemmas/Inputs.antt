-- New variables: a net grows by them, they name no clause, and they have any values.
use Rattle.std.proofs.Common.{◌≡◌, ℕ, zero, suc, ◌+◌, ◌*◌, ◌≤◌, Bool, List, [], ◌∷◌, length, refl}
use Rattle.std.proofs.Common.{sym, ap, ◌∙◌, arith}
use Rattle.std.proofs.lemmas.List.{append-nil}
use Rattle.cpa_cnf.specs.Lines.{AreBelow}
use Rattle.cpa_blast_gates.specs.declared.gate.Gate.{Gate}
use Rattle.cpa_blast_gates.specs.declared.gate.Gate.TheVariants.{Input}
use Rattle.cpa_blast_gates.specs.Gates.{lit_value}
use Rattle.cpa_blast_gates.specs.Nets.{vars, IsScoped, Holds}
use Rattle.cpa_blast_gates.specs.Clauses.{clauses_of}
use Rattle.cpa_blast_gates.specs.Meanings.{Agrees, Extends, Grows}
use Rattle.cpa_blast_gates.specs.Laws.{literals_have_values, nets_grow, inputs_are_free}
use Rattle.cpa_blast_words.specs.Truths.{values}
use Rattle.cpa_blast.specs.Formulas.{with_inputs, variables_from}

-- values of literals of variables below n
pub values_local : (n : ℕ) (m k : ℕ → Bool) (ls : List ℕ) → Agrees n m k → AreBelow n ls
    → values m ls ≡ values k ls
values_local n m k [] agrees below = refl
values_local n m k (l ∷ ls) agrees below =
    ap (λ b. b ∷ values m ls) (literals_have_values.local n m k l agrees below.0)
    ∙ ap (λ bs. lit_value k l ∷ bs) (values_local n m k ls agrees below.1)

pub fewer : (n p : ℕ) (m k : ℕ → Bool) → n ≤ p → Agrees p m k → Agrees n m k
fewer n p m k le agrees = λ v below. agrees v (omega arith)

pub inputs_grow : (n : ℕ) (s : List Gate) → IsScoped s → Grows s (with_inputs n s)
inputs_grow zero s scoped = nets_grow.stays s scoped
inputs_grow (suc n) s scoped =
    let one = inputs_are_free.grows s scoped in
    nets_grow.on s (Input ∷ s) (with_inputs n (Input ∷ s)) one
    (inputs_grow n (Input ∷ s) one.scoped)

pub inputs_long : (n : ℕ) (s : List Gate) → vars (with_inputs n s) ≡ vars s + n
inputs_long zero s = omega arith
inputs_long (suc n) s = inputs_long n (Input ∷ s) ∙ next (length s) n
  where
    next : (k n : ℕ) → suc k + 1 + n ≡ k + 1 + suc n
    next k n = omega arith

pub inputs_clauses : (n : ℕ) (s : List Gate) → clauses_of (with_inputs n s) ≡ clauses_of s
inputs_clauses zero s = refl
inputs_clauses (suc n) s = inputs_clauses n (Input ∷ s) ∙ append-nil (clauses_of s)

pub variables_below : (first n v : ℕ) → first + n ≤ v → AreBelow v (variables_from first n)
variables_below first zero v fits = tt
variables_below first (suc n) v fits =
    (omega arith, variables_below (first + 1) n v (omega arith))

pub variables_long : (first n : ℕ) → length (variables_from first n) ≡ n
variables_long first zero = refl
variables_long first (suc n) = ap suc (variables_long (first + 1) n)

-- the net with new variables holds under an assignment that gives them these values
pub record HasFresh (s : List Gate) (m : ℕ → Bool) (n : ℕ) (bs : List Bool) : Type 0 where
  pub assignment : ℕ → Bool
  pub extends : Extends (vars s) m (with_inputs n s) assignment
  pub are : values assignment (variables_from (vars s) n) ≡ bs

pub fresh : (bs : List Bool) (s : List Gate) (m : ℕ → Bool) → IsScoped s → Holds m s
    → HasFresh s m (length bs) bs
fresh [] s m scoped holds = record {
  assignment = m;
  extends = record { agrees = λ v below. refl; holds = holds };
  are = refl;
}
fresh (b ∷ bs) s m scoped holds =
    let one = inputs_are_free.free s m b scoped holds in
    let k = one.0 in
    let grown = inputs_are_free.grows s scoped in
    let rest = fresh bs (Input ∷ s) k grown.scoped one.1.holds in
    let last = rest.assignment in
    let here : lit_value last (2 * vars s) ≡ b =
    literals_have_values.positive last (vars s)
    ∙ sym (rest.extends.agrees (vars s) (omega arith)) ∙ one.2 in
    record {
      assignment = last;
      extends = record {
        agrees = λ v below.
            one.1.agrees v below ∙ rest.extends.agrees v (omega (arith, below));
        holds = rest.extends.holds;
      };
      are = ap (λ c. c ∷ values last (variables_from (vars s + 1) (length bs))) here
          ∙ ap (λ cs. b ∷ cs) (ap (λ n. values last (variables_from n (length bs)))
          (next (length s)) ∙ rest.are);
    }
  where
    next : (k : ℕ) → k + 1 + 1 ≡ suc k + 1
    next k = omega arith
