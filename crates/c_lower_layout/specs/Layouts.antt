-- The layout of a text: its core, and where the cells of each function begin; and the texts that
-- have none, since their core is larger than a program may be (this project's own).
use Rattle.std.specs.Prelude.{◌≡◌, ℕ, List, Result, Ok, Err}
use Rattle.c_types_rules.specs.declared.typed.TypedFunction.{TypedFunction}
use Rattle.c_types_rules.specs.declared.typed.Global.{Global}
use Rattle.c_core_rules_laws.specs.Sizes.{IsWithinLimits}
use Rattle.c_core_rules_laws.specs.Layouts.{AreFirst, text_from, IsTooLarge}
use Rattle.c_lower_layout.specs.declared.fault.CoreError.{CoreError}
use Rattle.c_lower_layout.specs.declared.fault.CoreError.TheVariants as error
use Rattle.c_lower_layout.specs.declared.placing.TextLayout.{TextLayout}

-- the functions begin at these cells, where the rules that know this take these cells and make
-- these trees; and they make no more than a program may have
pub record IsLaidOut (globals : List Global) (functions : List TypedFunction) (layout : TextLayout)
    : Type 0 where
  pub first_cells : AreFirst globals functions layout.first_cells
  pub cells : layout.cells ≡ (text_from layout.first_cells globals functions).taken.cells
  pub names : layout.names ≡ (text_from layout.first_cells globals functions).taken.names
  pub trees : layout.trees ≡ (text_from layout.first_cells globals functions).made
  pub within : IsWithinLimits (text_from layout.first_cells globals functions)

-- the layout of a text
abbrev pub IsLayout : List Global → List TypedFunction → Result TextLayout CoreError → Type 0
IsLayout globals functions (Ok layout) = IsLaidOut globals functions layout
IsLayout globals functions (Err error.TooLarge) = IsTooLarge globals functions
IsLayout globals functions (Err error.OutOfMemory) = Unit {0}
