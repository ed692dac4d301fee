-- The laws of nets (Tseitin 1968; folding and sharing are this project's own): what a literal made
-- in a net means, and what models of a net's clauses are. Below each statement, its lemma.
use Rattle.std.specs.Prelude.{◌≡◌, ℕ, ◌*◌, ◌<◌, ◌&&◌, ◌||◌, ◌↔◌, Bool, true, false, not}
use Rattle.std.specs.Prelude.{List, ◌∷◌, length}
use Rattle.std.specs.Prelude.{if◌then◌else◌}
use Rattle.std.specs.List.{AllByRecursion}
use Rattle.cpa_cnf.specs.declared.formula.Cnf.{Cnf}
use Rattle.cpa_cnf.specs.Lines.{AreBelow}
use Rattle.cpa_cnf.specs.Models.{IsModel}
use Rattle.cpa_blast_gates.specs.declared.gate.Gate.{Gate}
use Rattle.cpa_blast_gates.specs.declared.gate.Gate.TheVariants.{Input}
use Rattle.cpa_blast_gates.specs.Gates.{lit_value, differ, majority}
use Rattle.cpa_blast_gates.specs.Nets.{vars, IsScoped, Holds, and_in, or_in, xor_in}
use Rattle.cpa_blast_gates.specs.Nets.{majority_in, choice_in}
use Rattle.cpa_blast_gates.specs.Clauses.{clauses_of, assigned}
use Rattle.cpa_blast_gates.specs.Meanings.{Agrees, Extends, Grows, Makes}
use Rattle.std.proofs.Common.{refl}
use Rattle.cpa_cnf.specs.Literals.{opposite}
use Rattle.cpa_blast_gates.specs.lemmas.Literals as literals
use Rattle.cpa_blast_gates.specs.lemmas.Growth as growth
use Rattle.cpa_blast_gates.specs.lemmas.Folding as folding
use Rattle.cpa_blast_gates.specs.lemmas.Tseitin as tseitin

-- the value of a literal: by its variable and its sign, of variable 0, and by what it reads
pub record LiteralsHaveValues : Type 0 where
  pub positive : (m : ℕ → Bool) (v : ℕ) → lit_value m (2 * v) ≡ m v
  pub negative : (m : ℕ → Bool) (l : ℕ) → lit_value m (opposite l) ≡ not (lit_value m l)
  pub truth : (net : List Gate) (m : ℕ → Bool) → Holds m net → lit_value m 0 ≡ true
  pub falsehood : (net : List Gate) (m : ℕ → Bool) → Holds m net → lit_value m 1 ≡ false
  pub local : (n : ℕ) (m k : ℕ → Bool) (l : ℕ) → Agrees n m k → l < 2 * n
      → lit_value m l ≡ lit_value k l

pub literals_have_values : LiteralsHaveValues
literals_have_values = record {
  positive = literals.lit_positive;
  negative = literals.lit_opposite;
  truth = λ net m holds. literals.lit_always m 0 (folding.first_true net m holds) refl;
  falsehood = λ net m holds. literals.lit_never m 1 (folding.first_true net m holds) refl;
  local = literals.lit_local;
}

-- growth is a preorder
pub record NetsGrow : Type 0 where
  pub stays : (s : List Gate) → IsScoped s → Grows s s
  pub on : (s t u : List Gate) → Grows s t → Grows t u → Grows s u

pub nets_grow : NetsGrow
nets_grow = record { stays = growth.stays; on = growth.on }

-- the net with an input holds under an assignment that has the old values and this one
abbrev pub IsFree : List Gate → (ℕ → Bool) → Bool → Type 0
IsFree s m b =
    (k : ℕ → Bool) × Extends (vars s) m (Input ∷ s) k × (k (vars s) ≡ b)

pub record InputsAreFree : Type 0 where
  pub grows : (s : List Gate) → IsScoped s → Grows s (Input ∷ s)
  pub free : (s : List Gate) (m : ℕ → Bool) (b : Bool) → IsScoped s → Holds m s → IsFree s m b

pub inputs_are_free : InputsAreFree
inputs_are_free = record { grows = growth.input_grows; free = growth.input_free }

-- an operator on two literals of a net makes the value f of theirs
abbrev pub MeansOfTwo : (List Gate → ℕ → ℕ → Type 0) → Type 0
MeansOfTwo P = (s : List Gate) (a b : ℕ)
    → IsScoped s → a < 2 * vars s → b < 2 * vars s → P s a b

abbrev pub MeansOfThree : (List Gate → ℕ → ℕ → ℕ → Type 0) → Type 0
MeansOfThree P = (s : List Gate) (a b c : ℕ)
    → IsScoped s → a < 2 * vars s → b < 2 * vars s → c < 2 * vars s → P s a b c

pub record OperatorsAreMeant : Type 0 where
  pub conjunction : MeansOfTwo
      (λ s a b. Makes s (and_in s a b) (λ m. lit_value m a && lit_value m b))
  pub disjunction : MeansOfTwo
      (λ s a b. Makes s (or_in s a b) (λ m. lit_value m a || lit_value m b))
  pub difference : MeansOfTwo
      (λ s a b. Makes s (xor_in s a b) (λ m. differ (lit_value m a) (lit_value m b)))
  pub two_of_three : MeansOfThree (λ s a b c. Makes s (majority_in s a b c)
      (λ m. majority (lit_value m a) (lit_value m b) (lit_value m c)))
  pub choice : MeansOfThree (λ s a b c. Makes s (choice_in s a b c)
      (λ m. if lit_value m a then lit_value m b else lit_value m c))

pub gates_mean_their_operators : OperatorsAreMeant
gates_mean_their_operators = record {
  conjunction = folding.and_makes;
  disjunction = folding.or_makes;
  difference = folding.xor_makes;
  two_of_three = folding.majority_makes;
  choice = folding.choice_makes;
}

-- the formula of a net
abbrev pub formula_of : List Gate → Cnf
formula_of net = record { vars = vars net; clauses = clauses_of net }

abbrev pub ModelsAreAssignments : Type 0
ModelsAreAssignments = (net : List Gate) (values : List Bool)
    → IsModel (formula_of net) values
    ↔ ((length values ≡ vars net) × Holds (assigned values) net)

pub models_are_assignments : ModelsAreAssignments
models_are_assignments = tseitin.models

abbrev pub ClausesAreBelow : Type 0
ClausesAreBelow = (net : List Gate) → IsScoped net
    → AllByRecursion (AreBelow (vars net)) (clauses_of net)

pub clauses_are_below : ClausesAreBelow
clauses_are_below = tseitin.below
