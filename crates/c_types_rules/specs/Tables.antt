-- What the rules of the core ask of an operator, of an expression and of an object.
use Rattle.std.specs.Prelude.{ℕ, Bool, true, false, length, Option, None, Some, unsigned_abs}
use Rattle.c_grammar_symbols.specs.declared.operators.BinaryOperator.{BinaryOperator}
use Rattle.c_grammar_symbols.specs.declared.operators.BinaryOperator.TheVariants as binary
use Rattle.c_grammar_symbols.specs.declared.operators.AssignmentOperator.{AssignmentOperator}
use Rattle.c_grammar_symbols.specs.declared.operators.AssignmentOperator.TheVariants as assign
use Rattle.c_types_rules.specs.declared.meaning.Object.{Object}
use Rattle.c_types_rules.specs.declared.meaning.Meaning.{Meaning}
use Rattle.c_types_rules.specs.declared.meaning.Meaning.TheVariants as meaning
use Rattle.c_types_rules.specs.declared.typed.TypedExpression.{TypedExpression}
use Rattle.c_types_rules.specs.declared.typed.TypedExpression.TheOpen.{TypedExpression-F}
use Rattle.c_types_rules.specs.declared.typed.TypedSuffix.{TypedSuffix}

-- an operator whose operands are promoted each by itself (C11 6.5.7p3)
abbrev pub is_shift : BinaryOperator → Bool
is_shift binary.ShiftLeft = true
is_shift binary.ShiftRight = true
is_shift _ = false

-- the operator that an assignment does before it writes (C11 6.5.16.2)
abbrev pub operator_of : AssignmentOperator → Option BinaryOperator
operator_of assign.Assign = None
operator_of assign.Multiply = Some binary.Multiply
operator_of assign.Divide = Some binary.Divide
operator_of assign.Remainder = Some binary.Remainder
operator_of assign.Add = Some binary.Add
operator_of assign.Subtract = Some binary.Subtract
operator_of assign.ShiftLeft = Some binary.ShiftLeft
operator_of assign.ShiftRight = Some binary.ShiftRight
operator_of assign.BitAnd = Some binary.BitAnd
operator_of assign.BitXor = Some binary.BitXor
operator_of assign.BitOr = Some binary.BitOr

-- how many suffixes a postfix expression has
abbrev pub suffix_count : TypedExpression-F TypedExpression TypedSuffix → ℕ
suffix_count (TypedExpression-F.Postfix base suffixes place) = length suffixes
suffix_count _ = 0

-- how many cells an object takes
abbrev pub cells_of : Object → ℕ
cells_of object = elim object.length [ None ↦ 1 | Some n ↦ unsigned_abs n ]

-- the object that a name stands for
abbrev pub object_named : Option Meaning → Option Object
object_named (Some (meaning.Object object)) = Some object
object_named _ = None
