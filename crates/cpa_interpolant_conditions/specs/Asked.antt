-- Which variables are asked for (this project's own): bits of cells, where all shared ones are.
use Rattle.std.specs.Prelude.{◌≡◌, ℕ, ◌/◌, ⊤, true, Bool, List, Option, Some}
use Rattle.std.specs.List.{AllByRecursion}
use Rattle.cpa_cnf.specs.declared.formula.Cnf.{Cnf}
use Rattle.cpa_chains.specs.declared.partial.Leaf.{Leaf}
use Rattle.cpa_chains.specs.declared.partial.Leaf.TheVariants.{Always, Any}
use Rattle.cpa_chains.specs.Sides.{is_shared}
use Rattle.cpa_interpolant_bits.specs.declared.bits.Bit.{Bit}
use Rattle.cpa_interpolant_bits.specs.Nodes.{bit_named}

-- the variable is a bit of a cell
abbrev pub IsBit : List (Option Bit) → ℕ → Type 0
IsBit bits variable = (bit : Bit) × (bit_named bits variable ≡ Some bit)

-- each literal of a clause's partial is one of a bit
abbrev pub LeafIsOfBits : List (Option Bit) → Leaf → Type 0
LeafIsOfBits bits Always = ⊤
LeafIsOfBits bits (Any literals) = AllByRecursion (λ l. IsBit bits (l / 2)) literals

abbrev pub LeavesAreOfBits : List (Option Bit) → List Leaf → Type 0
LeavesAreOfBits bits leaves = AllByRecursion (LeafIsOfBits bits) leaves

-- the variables that both sides have are bits of cells
abbrev pub SharedAreBits : List (Option Bit) → Cnf → List Bool → Type 0
SharedAreBits bits cnf sides = (x : ℕ) → is_shared cnf sides x ≡ true → IsBit bits x
