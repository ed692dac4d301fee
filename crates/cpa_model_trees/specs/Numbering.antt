-- The numbering of trees of core statements (this project's own): in the order of the tree, a
-- statement before its parts, and the trees of the functions one behind the other.
use Rattle.std.specs.Prelude.{◌≡◌, ℕ, ◌+◌, List, [], ◌∷◌, ◌++◌, map, length, slice_get, unwrap_or}
use Rattle.cpa_model.specs.declared.program.Stmt.{Stmt}
use Rattle.cpa_model.specs.declared.program.Stmt.TheVariants as stmt
use Rattle.cpa_model.specs.declared.program.Program.{Program}
use Rattle.cpa_model_trees.specs.declared.tree.CoreTree.{CoreTree}
use Rattle.cpa_model_trees.specs.declared.tree.CoreTree.TheOpen.{CoreTree-F}
use Rattle.cpa_model_trees.specs.declared.tree.CoreTree.TheFolds.{fold-CoreTree}
use Rattle.cpa_model_trees.specs.declared.tree.Head.{Head}
use Rattle.cpa_model_trees.specs.declared.tree.Head.TheVariants as head

abbrev pub Trees : Type 0
Trees = List CoreTree

-- a statement of a tree: its head, of each part how many statements it has, and its place
pub record Placed : Type 0 where
  pub head : Head
  pub sizes : List ℕ
  pub place : ℕ

abbrev pub joined : {A : Type 0} → List (List A) → List A
joined [] = []
joined (xs ∷ lists) = xs ++ joined lists

abbrev pub node_statements : CoreTree-F (List Placed) → List Placed
node_statements (CoreTree-F.Node head parts place) =
    record { head = head; sizes = map length parts; place = place } ∷ joined parts

-- the statements of a tree in the order of the tree: each before its parts, and one part behind the
-- other
unfoldable pub statements : CoreTree → List Placed
statements = fold-CoreTree (List Placed) node_statements

-- the places of statements, in their order
abbrev pub places_in : List Placed → List ℕ
places_in all = map (λ (one : Placed). one.place) all

-- the numbers of trees of these sizes, of which the first stands at n
abbrev pub numbers_from : ℕ → List ℕ → List ℕ
numbers_from n [] = []
numbers_from n (size ∷ sizes) = n ∷ numbers_from (n + size) sizes

abbrev pub part : List ℕ → ℕ → ℕ
part parts i = unwrap_or (slice_get parts i) 0

-- the statement with this head and these parts, in a function whose labels stand at these numbers
abbrev pub stmt_of : List ℕ → Head → List ℕ → Stmt
stmt_of labels head.Block parts = stmt.Block parts
stmt_of labels head.Labeled parts = stmt.Block parts
stmt_of labels (head.If test) parts = stmt.If test (part parts 0) (part parts 1)
stmt_of labels head.Loop parts = stmt.Loop (part parts 0) (part parts 1)
stmt_of labels (head.Assign base len index value) parts = stmt.Assign base len index value
stmt_of labels (head.Input cell) parts = stmt.Input cell
stmt_of labels (head.Call function) parts = stmt.Call function
stmt_of labels (head.Goto label) parts = stmt.Goto (part labels label)
stmt_of labels head.Break parts = stmt.Break
stmt_of labels head.Continue parts = stmt.Continue
stmt_of labels head.Leave parts = stmt.Leave
stmt_of labels head.Stop parts = stmt.Stop
stmt_of labels head.Error parts = stmt.Error

-- where the labelled blocks stand among statements of which the first stands at n
abbrev pub label_here : Head → ℕ → List ℕ
label_here head.Labeled n = n ∷ []
label_here _ n = []

abbrev pub labels_from : ℕ → List Placed → List ℕ
labels_from n [] = []
labels_from n (one ∷ more) = label_here one.head n ++ labels_from (n + 1) more

-- statements, of which the first stands at n: the parts of each stand behind it
abbrev pub numbered : List ℕ → ℕ → List Placed → List Stmt
numbered labels n [] = []
numbered labels n (one ∷ more) =
    stmt_of labels one.head (numbers_from (n + 1) one.sizes) ∷ numbered labels (n + 1) more

-- the statements of functions, of which the first stands at n
abbrev pub numbered_bodies : ℕ → Trees → List Stmt
numbered_bodies n [] = []
numbered_bodies n (tree ∷ trees) =
    numbered (labels_from n (statements tree)) n (statements tree)
    ++ numbered_bodies (n + length (statements tree)) trees

-- the statements of a program are those of these trees, one for each function, and its bodies are
-- their roots
pub record AreTreesOf (P : Program) (trees : Trees) : Type 0 where
  pub bodies : P.bodies ≡ numbers_from 0 (map (λ tree. length (statements tree)) trees)
  pub stmts : P.stmts ≡ numbered_bodies 0 trees
