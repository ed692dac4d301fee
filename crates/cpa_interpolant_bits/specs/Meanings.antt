-- What is made of conditions means (this project's own): older nodes stay as they are, and the new
-- condition has the operator's truth under all values.
use Rattle.std.specs.Prelude.{◌≡◌, ℕ, ◌/◌, ◌<◌, ⊤, Bool, false, List, ◌++◌, length, Option, Some}
use Rattle.std.specs.Prelude.{slice_index_or, ℤ}
use Rattle.std.specs.List.{AllByRecursion}
use Rattle.cpa_interpolant_bits.specs.declared.bits.Bit.{Bit}
use Rattle.cpa_interpolant_bits.specs.declared.nodes.Node.{Node}
use Rattle.cpa_interpolant_bits.specs.declared.nodes.Node.TheVariants.{Literal, Both, Either}
use Rattle.cpa_interpolant_bits.specs.Bits.{bit_in}
use Rattle.cpa_interpolant_bits.specs.Nodes.{truth_in, bit_named, IsScoped, IsInside, Made}

-- the older nodes are there, behind newer ones
pub record Grows (old new : List Node) : Type 0 where
  pub more : List Node
  pub is : new ≡ more ++ old

-- a condition made from older nodes, with this truth
pub record IsMade (old : List Node) (m : Made) (f : List Bool → Bool) : Type 0 where
  pub grows : Grows old m.nodes
  pub scoped : IsScoped m.nodes
  pub inside : IsInside m.nodes m.condition
  pub truth : (values : List Bool) → truth_in values m.nodes m.condition ≡ f values

-- a literal is one of a bit
abbrev pub IsOfBits : List (Option Bit) → Node → Type 0
IsOfBits bits (Literal l) = (bit : Bit) × (bit_named bits (l / 2) ≡ Some bit)
IsOfBits bits (Both a b) = ⊤
IsOfBits bits (Either a b) = ⊤

-- all literals are
abbrev pub AreOfBits : List (Option Bit) → List Node → Type 0
AreOfBits bits nodes = AllByRecursion (IsOfBits bits) nodes

-- the values are those that the store gives the variables which are bits of its cells
abbrev pub Gives : List (Option Bit) → List ℤ → List Bool → Type 0
Gives bits store values = (v : ℕ) (bit : Bit) → bit_named bits v ≡ Some bit
    → (slice_index_or values v false ≡ bit_in store bit)
    × (bit.cell < length store) × (bit.place < 64)

-- a bit of this cell is among them
abbrev pub HasCell : List (Option Bit) → ℕ → Type 0
HasCell bits cell = (v : ℕ) × (bit : Bit) × (bit_named bits v ≡ Some bit) × (bit.cell ≡ cell)
