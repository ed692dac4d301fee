-- Truths over variables as nodes that are shared (this project's own), their expressions over the
-- bits of cells, and the operators with their constants folded. The newest node stands first; one
-- with n nodes behind it has the number n.
use Rattle.std.specs.Prelude.{ℕ, ◌/◌, ◌%◌, ◌<◌, ◌==◌, ◌&&◌, ◌||◌, Bool, true}
use Rattle.std.specs.Prelude.{false, not, List, [], ◌∷◌, ◌++◌, length, slice_get, slice_index_or, ⊤}
use Rattle.std.specs.Prelude.{Option, None, Some, if◌then◌else◌}
use Rattle.cpa_ints.specs.declared.integers.IntType.TheVariants as ty
use Rattle.cpa_cnf.specs.Models.{value_of_literal}
use Rattle.cpa_expr.specs.declared.tree.Expr.{Expr}
use Rattle.cpa_expr.specs.declared.tree.Expr.TheVariants.{Const, And, Or}
use Rattle.cpa_expr.specs.Values.{truth}
use Rattle.cpa_interpolant_bits.specs.contracts.nodes.NodePartialEq.TheImpl as node_eq
use Rattle.cpa_interpolant_bits.specs.declared.bits.Bit.{Bit}
use Rattle.cpa_interpolant_bits.specs.declared.nodes.Node.{Node}
use Rattle.cpa_interpolant_bits.specs.declared.nodes.Node.TheVariants.{Literal, Both, Either}
use Rattle.cpa_interpolant_bits.specs.declared.nodes.Condition.{Condition}
use Rattle.cpa_interpolant_bits.specs.declared.nodes.Condition.TheVariants.{Known, Open}
use Rattle.cpa_interpolant_bits.specs.Bits.{bit_is}

-- ---- what nodes stand for

-- what a step makes of each node, the oldest one first; it sees what it made of those before
abbrev pub row : {A : Type 0} → A → ((ℕ → A) → Node → A) → List Node → List A
row none step [] = []
row none step (node ∷ older) =
    row none step older
    ++ step (λ number. slice_index_or (row none step older) number none) node ∷ []

-- the truth of a node under values of the variables
abbrev pub node_truth : List Bool → (ℕ → Bool) → Node → Bool
node_truth values at (Literal l) = value_of_literal values l
node_truth values at (Both a b) = at a && at b
node_truth values at (Either a b) = at a || at b

abbrev pub truth_at : List Bool → List Node → ℕ → Bool
truth_at values nodes number = slice_index_or (row false (node_truth values) nodes) number false

abbrev pub truth_in : List Bool → List Node → Condition → Bool
truth_in values nodes (Known b) = b
truth_in values nodes (Open number) = truth_at values nodes number

-- an int that is 1 or 0
abbrev pub constant_of : Bool → Expr
constant_of b = Const ty.I32 (truth b)

-- the bit that a variable is, where it is one
abbrev pub bit_in_row : Option (Option Bit) → Option Bit
bit_in_row None = None
bit_in_row (Some bit) = bit

abbrev pub bit_named : List (Option Bit) → ℕ → Option Bit
bit_named bits variable = bit_in_row (slice_get bits variable)

-- the expression of a literal, where its variable is a bit of a cell; else it is false
abbrev pub literal_in : Option Bit → Bool → Expr
literal_in None set = constant_of false
literal_in (Some bit) set = bit_is bit set

abbrev pub literal_read : List (Option Bit) → ℕ → Expr
literal_read bits l = literal_in (bit_named bits (l / 2)) (not (l % 2 == 1))

-- the expression of a node over the bits that the variables are
abbrev pub node_expr : List (Option Bit) → (ℕ → Expr) → Node → Expr
node_expr bits at (Literal l) = literal_read bits l
node_expr bits at (Both a b) = And (at a) (at b)
node_expr bits at (Either a b) = Or (at a) (at b)

abbrev pub exprs : List (Option Bit) → List Node → List Expr
exprs bits nodes = row (constant_of false) (node_expr bits) nodes

abbrev pub expr_at : List (Option Bit) → List Node → ℕ → Expr
expr_at bits nodes number = slice_index_or (exprs bits nodes) number (constant_of false)

abbrev pub expr_in : List (Option Bit) → List Node → Condition → Expr
expr_in bits nodes (Known b) = constant_of b
expr_in bits nodes (Open number) = expr_at bits nodes number

-- ---- nodes that are well made

-- a node reads nodes below n alone
abbrev pub ReadsBelow : ℕ → Node → Type 0
ReadsBelow n (Literal l) = ⊤
ReadsBelow n (Both a b) = (a < n) × (b < n)
ReadsBelow n (Either a b) = (a < n) × (b < n)

-- each node reads earlier ones alone
abbrev pub IsScoped : List Node → Type 0
IsScoped [] = ⊤
IsScoped (node ∷ older) = IsScoped older × ReadsBelow (length older) node

-- the condition is known, or that of a node which stands
abbrev pub IsInside : List Node → Condition → Type 0
IsInside nodes (Known b) = ⊤
IsInside nodes (Open number) = number < length nodes

-- ---- the operators

-- the derived equality of nodes
abbrev pub same_node : Node → Node → Bool
same_node = (node_eq.ghosts).eq

-- the number of the newest node that is this one
abbrev pub place_of : List Node → Node → Option ℕ
place_of [] node = None
place_of (first ∷ older) node =
    if same_node first node then Some (length older) else place_of older node

-- nodes, and what was made in them
pub record Made : Type 0 where
  pub nodes : List Node
  pub condition : Condition

abbrev pub made : List Node → Condition → Made
made nodes condition = record { nodes = nodes; condition = condition }

abbrev pub shared_at : List Node → Node → Option ℕ → Made
shared_at nodes node None = made (node ∷ nodes) (Open (length nodes))
shared_at nodes node (Some number) = made nodes (Open number)

-- the node: the one that stands, or a new one
unfoldable pub shared : List Node → Node → Made
shared nodes node = shared_at nodes node (place_of nodes node)

-- a literal
abbrev pub literal_made : List Node → ℕ → Made
literal_made nodes l = shared nodes (Literal l)

-- two nodes together; one with itself is that one
abbrev pub both_nodes : List Node → ℕ → ℕ → Made
both_nodes nodes a b = if a == b then made nodes (Open a) else shared nodes (Both a b)

abbrev pub either_nodes : List Node → ℕ → ℕ → Made
either_nodes nodes a b = if a == b then made nodes (Open a) else shared nodes (Either a b)

-- both are true
abbrev pub both_made : List Node → Condition → Condition → Made
both_made nodes (Known true) c = made nodes c
both_made nodes (Known false) c = made nodes (Known false)
both_made nodes (Open a) (Known true) = made nodes (Open a)
both_made nodes (Open a) (Known false) = made nodes (Known false)
both_made nodes (Open a) (Open b) = both_nodes nodes a b

-- one is true
abbrev pub either_made : List Node → Condition → Condition → Made
either_made nodes (Known true) c = made nodes (Known true)
either_made nodes (Known false) c = made nodes c
either_made nodes (Open a) (Known true) = made nodes (Known true)
either_made nodes (Open a) (Known false) = made nodes (Open a)
either_made nodes (Open a) (Open b) = either_nodes nodes a b
