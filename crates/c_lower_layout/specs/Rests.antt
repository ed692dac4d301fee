-- What a text's functions come to, one behind the other (this project's own).
use Rattle.std.specs.Prelude.{◌≡◌, ℕ, List, ◌++◌, map, Option, None, Some}
use Rattle.c_types_rules.specs.declared.typed.TypedFunction.{TypedFunction}
use Rattle.cpa_model_trees.specs.Numbering.{Trees}
use Rattle.c_core_rules.specs.Cells.{Taken, Made, each}
use Rattle.c_core_rules.specs.Expressions.{Frames}
use Rattle.c_core_rules.specs.Statements.{function_rule}
use Rattle.c_core_rules_laws.specs.Layouts.{begins}
use Rattle.c_lower_layout.specs.declared.sizes.Size.{Size}
use Rattle.c_lower_layout.specs.Measures.{nothing, grown, marks_of, IsWithin}

-- what the rules of functions make
abbrev pub rest_of : Frames → List TypedFunction → Taken → Made Trees
rest_of frames functions taken = each (map (function_rule frames) functions) taken

-- with functions behind what has this size
abbrev pub IsWithinBehind : Frames → List TypedFunction → Taken → Size → Type 0
IsWithinBehind frames functions taken size =
    IsWithin (rest_of frames functions taken).taken
    (grown size (marks_of (rest_of frames functions taken).made))

abbrev pub AreWithin : Frames → List TypedFunction → Taken → Type 0
AreWithin frames functions taken = IsWithinBehind frames functions taken nothing

-- what is found of functions behind these cells: which are taken then, and where the functions
-- begin; nothing where they are too large
pub record AreFound (frames : Frames) (functions : List TypedFunction) (before after : Taken)
    (firsts : List ℕ) : Type 0 where
  pub taken : after ≡ (rest_of frames functions before).taken
  pub first_cells : firsts ≡ begins frames functions before
  pub within : AreWithin frames functions before

abbrev pub IsFinding : Frames → List TypedFunction → Taken → Taken → Option (List ℕ) → Type 0
IsFinding frames functions before after (Some firsts) =
    AreFound frames functions before after firsts
IsFinding frames functions before after None = AreWithin frames functions before → ⊥

-- the trees of functions behind these cells, which are added to others, where they are not too
-- large
abbrev pub AreMade : Frames → List TypedFunction → Taken → Trees → Trees → Option (List ℕ) → Type 0
AreMade frames functions before trees all (Some firsts) =
    all ≡ trees ++ (rest_of frames functions before).made
AreMade frames functions before trees all None = Unit {0}
