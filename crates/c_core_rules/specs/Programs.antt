-- Where the cells of a text's functions are (this project's own, for C11 6.2.4).
use Rattle.std.specs.Prelude.{ℕ, List, [], ◌∷◌}
use Rattle.c_types_rules.specs.declared.typed.TypedFunction.{TypedFunction}
use Rattle.c_core_rules.specs.Expressions.{Frames, frame_of}

-- the cells of the functions, which begin at these
abbrev pub frames_of : List ℕ → List TypedFunction → Frames
frames_of firsts [] = []
frames_of [] (function ∷ functions) = frame_of 0 function ∷ frames_of [] functions
frames_of (first ∷ firsts) (function ∷ functions) =
    frame_of first function ∷ frames_of firsts functions
