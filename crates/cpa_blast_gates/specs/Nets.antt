-- Nets of gates, the newest gate first (this project's own). Variable 0 is true; each gate has
-- the next variable.
use Rattle.std.specs.Prelude.{◌≡◌, ℕ, ◌+◌, ◌*◌, Bool, true, List, [], ◌∷◌, length}
use Rattle.std.specs.Prelude.{Option, None, Some, if◌then◌else◌, ⊤}
use Rattle.cpa_cnf.specs.Literals.{opposite}
use Rattle.cpa_blast_gates.specs.contracts.gate.GatePartialEq.TheImpl as gate_eq
use Rattle.cpa_blast_gates.specs.declared.gate.Gate.{Gate}
use Rattle.cpa_blast_gates.specs.declared.gate.Gate.TheVariants.{Input}
use Rattle.cpa_blast_gates.specs.declared.folding.Plan.{Plan}
use Rattle.cpa_blast_gates.specs.declared.folding.Plan.TheVariants.{Known, Made, Negated}
use Rattle.cpa_blast_gates.specs.Gates.{gate_value, ReadsBelow}
use Rattle.cpa_blast_gates.specs.Plans.{and_plan, or_plan, xor_plan, majority_plan, choice_plan}

-- how many variables there are
abbrev pub vars : List Gate → ℕ
vars net = length net + 1

-- each gate reads earlier variables alone
abbrev pub IsScoped : List Gate → Type 0
IsScoped [] = ⊤
IsScoped (g ∷ net) = IsScoped net × ReadsBelow (vars net) g

-- under the assignment m variable 0 is true and each gate's variable has the gate's value
abbrev pub Holds : (ℕ → Bool) → List Gate → Type 0
Holds m [] = m 0 ≡ true
Holds m (g ∷ net) = Holds m net × (m (vars net) ≡ gate_value m (vars net) g)

-- the derived equality of gates
abbrev pub same_gate : Gate → Gate → Bool
same_gate = (gate_eq.ghosts).eq

-- the variable of the newest gate that is this one
abbrev pub place_of : List Gate → Gate → Option ℕ
place_of [] g = None
place_of (h ∷ net) g = if same_gate h g then Some (vars net) else place_of net g

-- a net, and what was made in it
pub record Built (A : Type 0) : Type 0 where
  pub net : List Gate
  pub value : A

abbrev pub built : {A : Type 0} → List Gate → A → Built A
built net value = record { net = net; value = value }

-- a new variable of either value
abbrev pub with_input : List Gate → Built ℕ
with_input net = built (Input ∷ net) (2 * vars net)

abbrev pub shared_at : List Gate → Gate → Option ℕ → Built ℕ
shared_at net g None = built (g ∷ net) (2 * vars net)
shared_at net g (Some v) = built net (2 * v)

-- the gate: the one that stands, or a new one
unfoldable pub shared : List Gate → Gate → Built ℕ
shared net g = shared_at net g (place_of net g)

abbrev pub negated : Built ℕ → Built ℕ
negated b = built b.net (opposite b.value)

-- what a plan gives
abbrev pub settled : List Gate → Plan → Built ℕ
settled net (Known l) = built net l
settled net (Made g) = shared net g
settled net (Negated g) = negated (shared net g)

-- the operators
unfoldable pub and_in : List Gate → ℕ → ℕ → Built ℕ
and_in net a b = settled net (and_plan a b)

unfoldable pub or_in : List Gate → ℕ → ℕ → Built ℕ
or_in net a b = settled net (or_plan a b)

unfoldable pub xor_in : List Gate → ℕ → ℕ → Built ℕ
xor_in net a b = settled net (xor_plan a b)

unfoldable pub majority_in : List Gate → ℕ → ℕ → ℕ → Built ℕ
majority_in net a b c = settled net (majority_plan a b c)

unfoldable pub choice_in : List Gate → ℕ → ℕ → ℕ → Built ℕ
choice_in net test first second = settled net (choice_plan test first second)
