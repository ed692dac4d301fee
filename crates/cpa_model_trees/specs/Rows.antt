-- Trees one behind the other.
use Rattle.std.specs.Prelude.{ℕ, List, length, map}
use Rattle.cpa_model_trees.specs.declared.tree.CoreTree.{CoreTree}
use Rattle.cpa_model_trees.specs.Numbering.{Placed, statements, joined, places_in}

-- the statements of trees, in the order of the trees
abbrev pub row_of : List CoreTree → List Placed
row_of trees = joined (map statements trees)

-- how many each has
abbrev pub sizes_of : List CoreTree → List ℕ
sizes_of trees = map (λ tree. length (statements tree)) trees

-- the places of the statements of trees, in the order of the numbering
abbrev pub places_of : List CoreTree → List ℕ
places_of trees = places_in (row_of trees)
