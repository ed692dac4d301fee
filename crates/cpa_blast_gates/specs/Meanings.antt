-- What a grown net and a literal made in it mean: each assignment under which the old net holds
-- extends to one under which the new net holds, and each of these gives the literal its value.
use Rattle.std.specs.Prelude.{◌≡◌, ℕ, ◌*◌, ◌<◌, ◌≤◌, Bool, true, List, length}
use Rattle.cpa_blast_gates.specs.declared.gate.Gate.{Gate}
use Rattle.cpa_blast_gates.specs.declared.folding.Plan.{Plan}
use Rattle.cpa_blast_gates.specs.Gates.{lit_value}
use Rattle.cpa_blast_gates.specs.Plans.{planned, PlanBelow}
use Rattle.cpa_blast_gates.specs.Nets.{vars, IsScoped, Holds, Built}

-- two assignments have the same values of the variables below n
abbrev pub Agrees : ℕ → (ℕ → Bool) → (ℕ → Bool) → Type 0
Agrees n m k = (v : ℕ) → v < n → m v ≡ k v

-- the net holds under k, which has the values of m below n
pub record Extends (n : ℕ) (m : ℕ → Bool) (net : List Gate) (k : ℕ → Bool) : Type 0 where
  pub agrees : Agrees n m k
  pub holds : Holds k net

-- the net t says of the variables of s what s says
pub record Grows (s t : List Gate) : Type 0 where
  pub scoped : IsScoped t
  pub longer : length s ≤ length t
  pub keeps : (m : ℕ → Bool) → Holds m t → Holds m s
  pub extends : (m : ℕ → Bool) → Holds m s → (k : ℕ → Bool) × Extends (vars s) m t k

-- what was made from the net s is a literal with the value f
pub record Makes (s : List Gate) (made : Built ℕ) (f : (ℕ → Bool) → Bool) : Type 0 where
  pub grows : Grows s made.net
  pub below : made.value < 2 * vars made.net
  pub is : (m : ℕ → Bool) → Holds m made.net → lit_value m made.value ≡ f m

-- the plan has the value f wherever variable 0 is true
pub record IsPlan (n : ℕ) (p : Plan) (f : (ℕ → Bool) → Bool) : Type 0 where
  pub below : PlanBelow n p
  pub is : (m : ℕ → Bool) (v : ℕ) → m 0 ≡ true → planned m v p ≡ f m
