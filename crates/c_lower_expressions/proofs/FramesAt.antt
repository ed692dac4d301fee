-- The cells of the function of a number.
use Rattle.std.proofs.Common.{◌≡◌, ℕ, zero, suc, List, [], ◌∷◌, ◌<◌, ◌≤◌, length, get_or, refl, ap}
use Rattle.std.proofs.Common.{arith}
use Rattle.c_types_rules.specs.declared.typed.TypedFunction.{TypedFunction}
use Rattle.c_core_rules.specs.Expressions.{frame_of, frame_at, no_frame}
use Rattle.c_core_rules.specs.Programs.{frames_of}
use Rattle.c_lower_expressions.specs.Rows.{first_at}

pub frame_here : (firsts : List ℕ) (functions : List TypedFunction) (n : ℕ)
    (found : TypedFunction) → n < length functions → found ≡ get_or functions n found →
    frame_of (first_at firsts n) found ≡ frame_at (frames_of firsts functions) n
frame_here firsts [] n found h e = absurd (omega arith)
frame_here [] (f ∷ functions) zero found h e = ap (frame_of 0) e
frame_here (first ∷ firsts) (f ∷ functions) zero found h e = ap (frame_of first) e
frame_here [] (f ∷ functions) (suc n) found h e = frame_here [] functions n found (omega arith) e
frame_here (first ∷ firsts) (f ∷ functions) (suc n) found h e =
    frame_here firsts functions n found (omega arith) e

pub frame_past : (firsts : List ℕ) (functions : List TypedFunction) (n : ℕ) →
    length functions ≤ n → no_frame ≡ frame_at (frames_of firsts functions) n
frame_past firsts [] n h = refl
frame_past firsts (f ∷ functions) zero h = absurd (omega arith)
frame_past [] (f ∷ functions) (suc n) h = frame_past [] functions n (omega arith)
frame_past (first ∷ firsts) (f ∷ functions) (suc n) h =
    frame_past firsts functions n (omega arith)
