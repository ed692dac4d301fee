-- The trees of core statements that the rules make (this project's own), each at the place of the
-- text that it comes from.
use Rattle.std.specs.Prelude.{ℕ, [], ◌∷◌}
use Rattle.cpa_expr.specs.declared.tree.Expr.{Expr}
use Rattle.cpa_model_trees.specs.declared.tree.CoreTree.{CoreTree}
use Rattle.cpa_model_trees.specs.declared.tree.CoreTree.TheVariants.{Node}
use Rattle.cpa_model_trees.specs.declared.tree.Head.{Head}
use Rattle.cpa_model_trees.specs.declared.tree.Head.TheVariants as head
use Rattle.cpa_model_trees.specs.Numbering.{Trees}
use Rattle.c_core_rules.specs.declared.tree.Location.{Location}
use Rattle.c_core_rules.specs.declared.tree.Valued.{Valued}
use Rattle.c_core_rules.specs.Values.{conv, first_index}

-- a statement without parts
abbrev pub leaf : ℕ → Head → CoreTree
leaf origin h = Node h [] origin

abbrev pub block : ℕ → Trees → CoreTree
block origin items = Node head.Block items origin

-- what a label stands before
abbrev pub labeled : ℕ → Trees → CoreTree
labeled origin items = Node head.Labeled items origin

-- if (test) first else second
abbrev pub choice : ℕ → Expr → Trees → Trees → CoreTree
choice origin test first second =
    Node (head.If test) (block origin first ∷ block origin second ∷ []) origin

-- body, then step, and again without end
abbrev pub repeated : ℕ → Trees → Trees → CoreTree
repeated origin body step =
    Node head.Loop (block origin body ∷ block origin step ∷ []) origin

-- a write of v to the place, converted to the type of what is written (C11 6.5.16.1p2)
abbrev pub write : ℕ → Location → Expr → Expr → CoreTree
write origin place index v =
    leaf origin (head.Assign place.base place.len index (conv v place.ty))

-- a write to a scalar
abbrev pub set : ℕ → Location → Expr → CoreTree
set origin place v = write origin place first_index v

abbrev pub input : ℕ → ℕ → CoreTree
input origin cell = leaf origin (head.Input cell)

-- a value behind these statements
abbrev pub valued : Trees → Expr → Valued
valued statements v = record { statements = statements; value = v }

-- a value without statements
abbrev pub pure : Expr → Valued
pure v = valued [] v
