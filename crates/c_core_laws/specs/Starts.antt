-- Where the cells of a function's result and parameters stand (this project's own, for C11 6.2.4).
use Rattle.std.specs.Prelude.{◌≡◌, List, None, Some, slice_get}
use Rattle.std.specs.List.{AllByRecursion}
use Rattle.cpa_ints.specs.declared.integers.IntType.{IntType}
use Rattle.c_types_rules.specs.declared.meaning.Kind.TheVariants.{Value}
use Rattle.c_types_rules.specs.declared.meaning.Object.{Object}
use Rattle.c_types_rules.specs.declared.typed.TypedFunction.{TypedFunction}
use Rattle.c_core_rules.specs.Expressions.{Frame}

-- none of them is an array, as no parameter is
abbrev pub AreScalars : List Object → Type 0
AreScalars objects = AllByRecursion (λ object. object.length ≡ None) objects

-- among cells of these types are that of the result of a function and those of its parameters
pub record FrameStands (types : List IntType) (frame : Frame) (function : TypedFunction) : Type 0
  where
    pub result : (t : IntType) → function.result ≡ Value t
        → slice_get types frame.result_cell.base ≡ Some t
    pub parameters : AreScalars function.parameters
        → AllByRecursion (λ place. slice_get types place.base ≡ Some place.ty) frame.parameters
