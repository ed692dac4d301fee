-- Positions among the scopes of a function as nodes, each with the object whose scope begins there.
-- Nothing here is promised to a caller.
use Rattle.std.specs.Prelude.{◌≡◌, ◌==◌, ℕ, ◌+◌, ◌<◌, ◌≤◌, Bool, not, List, [], ◌∷◌, ◌++◌, length}
use Rattle.std.specs.Prelude.{map}
use Rattle.std.specs.Prelude.{slice_index_or, Some, None, unwrap_or, option_map}
use Rattle.std.specs.List.{AllByRecursion, list_any}
use Rattle.std.specs.Option.{option_to_list}
use Rattle.c_types_rules.specs.StatementRules.{Jump}
use Rattle.c_types_jumps.specs.declared.tree.Node.{Node}
use Rattle.c_types_jumps.specs.declared.tree.Tree.{Tree}
use Rattle.c_types_jumps.specs.declared.noting.Placed.{Placed}
use Rattle.c_types_jumps.specs.Found.{Found, with_base}

-- the objects of each position: those of its parent, and its own
abbrev pub ways_onto : List (List ℕ) → List Node → List (List ℕ)
ways_onto ways [] = ways
ways_onto ways (node ∷ nodes) = ways_onto
    (ways ++ (slice_index_or ways node.parent [] ++ option_to_list node.own) ∷ []) nodes

abbrev pub way_at : List Node → ℕ → List ℕ
way_at nodes position = slice_index_or (ways_onto [] nodes) position []

abbrev pub root : Node
root = record { own = None; parent = 0; jump = 0; depth = 0 }

abbrev pub node_at : List Node → ℕ → Node
node_at nodes position = slice_index_or nodes position root

-- no object of a position has this number or a greater one
abbrev pub bound_of : Node → ℕ
bound_of node = unwrap_or (option_map (λ number. number + 1) node.own) 0

abbrev pub bound_at : List Node → ℕ → ℕ
bound_at nodes position = bound_of (node_at nodes position)

-- it leads up, over objects that come later than those of where it leads
pub record IsLink (way upper : List ℕ) (bound : ℕ) : Type 0 where
  pub rest : List ℕ
  pub is : way ≡ upper ++ rest
  pub later : AllByRecursion (λ number. bound ≤ number) rest

-- What a node keeps: its position, its objects, and those of the nodes to which it leads.
pub record IsNode (first position : ℕ) (node : Node) (way upper over : List ℕ) (bound : ℕ)
    : Type 0 where
  pub own : 0 < position → (number : ℕ) × (node.own ≡ Some number)
  pub up : 0 < position → node.parent < position
  pub parent : node.parent ≤ position
  pub far : 0 < position → node.jump < position
  pub jump : node.jump ≤ position
  pub way_is : way ≡ upper ++ option_to_list node.own
  pub link : IsLink way over bound
  pub depth : node.depth ≡ length way
  pub deep : node.depth ≤ position
  pub below : AllByRecursion (λ number. number < bound_of node) way
  pub above : AllByRecursion (λ number. first ≤ number) way

abbrev pub IsNodeAt : ℕ → List Node → ℕ → Type 0
IsNodeAt first nodes position =
    let node = node_at nodes position in
    IsNode first position node (way_at nodes position) (way_at nodes node.parent)
    (way_at nodes node.jump) (bound_at nodes node.jump)

-- What nodes keep.
pub record AreNodes (first : ℕ) (next : ℕ) (nodes : List Node) : Type 0 where
  pub each : (position : ℕ) → position < length nodes → IsNodeAt first nodes position
  pub rise : (p q : ℕ) → p < q → q < length nodes → bound_at nodes p < bound_at nodes q
  pub reached : (position : ℕ) → position < length nodes → bound_at nodes position ≤ next
  pub from : first ≤ next

-- for some numbers of objects
pub record HaveNodes (nodes : List Node) : Type 0 where
  pub first : ℕ
  pub next : ℕ
  pub are : AreNodes first next nodes

pub record IsTree (tree : Tree) : Type 0 where
  pub nodes : AreNodes tree.first tree.next tree.nodes.items
  pub here : tree.here < length tree.nodes.items

-- an object of a label's is none of a goto's, which stand in these of file scope and in their own
abbrev pub enters_way : List ℕ → List ℕ → List ℕ → Bool
enters_way base goto label = list_any
    (λ number. not (list_any (λ held. held == number) (base ++ goto))) (base ++ label)

-- a label or a goto, by its position
abbrev pub stands : List Node → Placed → Jump
stands nodes placed = record { name = placed.name; scopes = way_at nodes placed.position }

abbrev pub stands_in : List ℕ → List Node → Placed → Jump
stands_in base nodes placed = with_base base (stands nodes placed)

-- the positions of these are there
abbrev pub ArePlaced : List Node → List Placed → Type 0
ArePlaced nodes placed = AllByRecursion (λ one. one.position < length nodes) placed

abbrev pub found_by : Tree → List Placed → List Placed → Found
found_by tree labels gotos = record {
  current = way_at tree.nodes.items tree.here;
  labels = map (stands tree.nodes.items) labels;
  gotos = map (stands tree.nodes.items) gotos;
  first = tree.first;
  next = tree.next;
}

-- What the parts keep of a function's labels and gotos.
pub record AreFound (tree : Tree) (labels gotos : List Placed) : Type 0 where
  pub tree_is : IsTree tree
  pub labels_are : ArePlaced tree.nodes.items labels
  pub gotos_are : ArePlaced tree.nodes.items gotos

-- the bytes of a label's name
abbrev pub bytes_of : Placed → List ℕ
bytes_of placed = placed.name.bytes
