-- Where the cells of a text's functions begin (this project's own, for C11 6.2.4), what the rules
-- then make of it, and the texts whose core is larger than a program may be.
use Rattle.std.specs.Prelude.{◌≡◌, ℕ, List, [], ◌∷◌, length}
use Rattle.c_types_rules.specs.declared.typed.TypedFunction.{TypedFunction}
use Rattle.c_types_rules.specs.declared.typed.Global.{Global}
use Rattle.cpa_model_trees.specs.Numbering.{Trees}
use Rattle.c_core_rules.specs.Cells.{Taken, Made, nothing_taken}
use Rattle.c_core_rules.specs.Expressions.{Frames}
use Rattle.c_core_rules.specs.Statements.{function_rule, receiving_globals, text_rule}
use Rattle.c_core_rules.specs.Programs.{frames_of}
use Rattle.c_core_rules_laws.specs.Sizes.{IsWithinLimits}

-- how many cells are taken before the rules of each function
abbrev pub begins : Frames → List TypedFunction → Taken → List ℕ
begins frames [] taken = []
begins frames (function ∷ functions) taken =
    length taken.cells ∷ begins frames functions (function_rule frames function taken).taken

-- the cells of file scope
abbrev pub file_cells : List Global → Taken
file_cells globals = (receiving_globals globals nothing_taken).taken

-- the functions begin at these cells where their calls take them to begin there
abbrev pub AreFirst : List Global → List TypedFunction → List ℕ → Type 0
AreFirst globals functions firsts =
    firsts ≡ begins (frames_of firsts functions) functions (file_cells globals)

-- what the rules make of a text whose functions begin at these cells
abbrev pub text_from : List ℕ → List Global → List TypedFunction → Made Trees
text_from firsts globals functions =
    text_rule (frames_of firsts functions) globals functions nothing_taken

-- wherever the functions begin, the rules make more than a program may have
abbrev pub IsTooLarge : List Global → List TypedFunction → Type 0
IsTooLarge globals functions =
    (firsts : List ℕ) → IsWithinLimits (text_from firsts globals functions) → ⊥
