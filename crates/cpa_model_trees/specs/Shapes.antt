-- Trees whose nodes have as many parts as their heads ask for (this project's own).
use Rattle.std.specs.Prelude.{◌≡◌, ℕ, length}
use Rattle.std.specs.List.{AllByRecursion}
use Rattle.cpa_model_trees.specs.declared.tree.CoreTree.{CoreTree}
use Rattle.cpa_model_trees.specs.declared.tree.Head.{Head}
use Rattle.cpa_model_trees.specs.declared.tree.Head.TheVariants as head
use Rattle.cpa_model_trees.specs.Numbering.{Placed, Trees, statements}

-- so many parts belong to a head: two to a choice and to a loop, any number to a block, none to
-- anything else
abbrev pub HasParts : Head → ℕ → Type 0
HasParts head.Block n = Unit {0}
HasParts head.Labeled n = Unit {0}
HasParts (head.If test) n = n ≡ 2
HasParts head.Loop n = n ≡ 2
HasParts _ n = n ≡ 0

-- so many parts, and a head of this kind
abbrev pub PlacedFits : (Head → Type 0) → Placed → Type 0
PlacedFits H p = HasParts p.head (length p.sizes) × H p.head

-- each statement of a tree has the parts of its head, which is of this kind
pub record Shaped (H : Head → Type 0) (t : CoreTree) : Type 0 where
  pub all : AllByRecursion (PlacedFits H) (statements t)

abbrev pub AllShaped : (Head → Type 0) → Trees → Type 0
AllShaped H trees = AllByRecursion (Shaped H) trees

-- a head of any kind
abbrev pub Anything : Head → Type 0
Anything h = Unit {0}
