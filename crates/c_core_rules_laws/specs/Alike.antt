-- Two runs of a rule that are alike (this project's own): they take cells of the same types, which
-- start alike, and make statements that are as many and as high, and values of the same types and
-- heights. Only the numbers of cells may differ.
use Rattle.std.specs.Prelude.{◌≡◌, List, [], ◌∷◌, ◌++◌, Option}
use Rattle.cpa_expr.specs.declared.tree.Expr.{Expr}
use Rattle.cpa_expr.specs.Shape.{type_of, height}
use Rattle.cpa_model.specs.declared.program.Cell.{Cell}
use Rattle.cpa_model_trees.specs.declared.tree.CoreTree.{CoreTree}
use Rattle.cpa_model_trees.specs.Numbering.{Trees}
use Rattle.c_types_rules.specs.declared.meaning.Meaning.{Meaning}
use Rattle.c_core_rules.specs.declared.tree.Location.{Location}
use Rattle.c_core_rules.specs.declared.tree.Usage.{Usage}
use Rattle.c_core_rules.specs.declared.tree.Valued.{Valued}
use Rattle.c_core_rules.specs.Values.{is_constant}
use Rattle.c_core_rules.specs.Cells.{Taken, Made, Rule}
use Rattle.c_core_rules.specs.Expressions.{Rows, Target, Frame, Frames}
use Rattle.c_core_rules.specs.Expressions as rows
use Rattle.c_core_rules_laws.specs.Sizes.{heights_of}

-- values of one type and one height, both constants or none
pub record SameValue (v w : Expr) : Type 0 where
  pub type : type_of v ≡ type_of w
  pub height : height v ≡ height w
  pub constant : is_constant v ≡ is_constant w

-- statements that are as many, and each as high, in the order of the trees
pub record SameTrees (xs ys : Trees) : Type 0 where
  pub heights : heights_of xs ≡ heights_of ys

pub record SameValued (v w : Valued) : Type 0 where
  pub statements : SameTrees v.statements w.statements
  pub value : SameValue v.value w.value

-- cells of one type
pub record SameLocation (a b : Location) : Type 0 where
  pub type : a.ty ≡ b.ty

-- lists whose items are alike, one by one
pub data Pairwise {S T : Type 0} (Same : S → T → Type 0) : List S → List T → Type 0 where
  none : Pairwise Same [] []
  more : {x : S} {y : T} {xs : List S} {ys : List T} → Same x y → Pairwise Same xs ys
      → Pairwise Same (x ∷ xs) (y ∷ ys)

-- whatever is taken before, the same cells are taken behind it, and what is made is alike
pub record RunsAlike {T : Type 0} (Same : T → T → Type 0) (before other : Taken) (m n : Made T)
    : Type 0 where
  pub added : List Cell
  pub adds : m.taken.cells ≡ before.cells ++ added
  pub adds_too : n.taken.cells ≡ other.cells ++ added
  pub made : Same m.made n.made

pub record Alike {T : Type 0} (Same : T → T → Type 0) (rule other : Rule T) : Type 0 where
  pub runs : (a b : Taken) → RunsAlike Same a b (rule a) (other b)

-- left sides that are alike
pub data AlikeTarget : Target → Target → Type 0 where
  scalars : (found : Option Meaning)
      → AlikeTarget (rows.scalar_target found) (rows.scalar_target found)
  elements : (found : Option Meaning) {i j : Rule Valued} → Alike SameValued i j
      → AlikeTarget (rows.element_target found i) (rows.element_target found j)
  neither : AlikeTarget rows.no_target rows.no_target

-- an expression, its value used or not
pub record AlikeRows (r s : Rows) : Type 0 where
  pub rule : (usage : Usage) → Alike SameValued (r.rule usage) (s.rule usage)
  pub target : AlikeTarget r.target s.target
  pub names : r.names ≡ s.names

-- the cells of functions have the same types, function by function
pub record SameFrame (a b : Frame) : Type 0 where
  pub result : SameLocation a.result_cell b.result_cell
  pub parameters : Pairwise SameLocation a.parameters b.parameters

abbrev pub SameFrames : Frames → Frames → Type 0
SameFrames F G = Pairwise SameFrame F G

-- the trees of functions
abbrev pub SameTree : CoreTree → CoreTree → Type 0
SameTree t u = SameTrees (t ∷ []) (u ∷ [])
