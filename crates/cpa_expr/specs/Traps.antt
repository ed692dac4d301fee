-- Where the evaluation of an expression traps: a division by zero (C11 6.5.5), a shift amount
-- outside the width (C11 6.5.7), an index outside its array (C11 6.5.6), in a part that is
-- evaluated.
use Rattle.std.specs.Prelude.{◌≡◌, ◌⊎◌, ℕ, ℤ, pos, ◌≤ℤ◌, ◌<ℤ◌, List, IsSome, IsSomeAnd}
use Rattle.cpa_ints.specs.declared.integers.IntType.{IntType}
use Rattle.cpa_ints.specs.Integers.{width}
use Rattle.cpa_expr.specs.declared.tree.BinOp.{BinOp}
use Rattle.cpa_expr.specs.declared.tree.BinOp.TheVariants as bin
use Rattle.cpa_expr.specs.declared.tree.Expr.{Expr}
use Rattle.cpa_expr.specs.declared.tree.Expr.TheOpen.{Expr-F}
use Rattle.cpa_expr.specs.Values.{value_of}
use Rattle.cpa_expr.specs.Evaluations.{Meets}

-- i does not lie from 0 to n - 1
abbrev pub IsOutside : ℕ → ℤ → Type 0
IsOutside n i = (i <ℤ pos 0) ⊎ (pos n ≤ℤ i)

-- the operator has no value where its right operand is b
abbrev pub HasNoValue : BinOp → IntType → ℤ → Type 0
HasNoValue bin.Div t b = b ≡ pos 0
HasNoValue bin.Rem t b = b ≡ pos 0
HasNoValue bin.Shl t b = IsOutside (width t) b
HasNoValue bin.Shr t b = IsOutside (width t) b
HasNoValue _ t b = ⊥

-- the node itself traps, where its parts have values
abbrev pub TrapsHere : List ℤ → Expr-F Expr → Type 0
TrapsHere values (Expr-F.Read t base len index) = IsSomeAnd (value_of index values) (IsOutside len)
TrapsHere values (Expr-F.Bin o t left right) =
    IsSome (value_of left values) × IsSomeAnd (value_of right values) (HasNoValue o t)
TrapsHere values _ = ⊥

-- the evaluation meets a node that traps
abbrev pub Traps : List ℤ → Expr → Type 0
Traps values = Meets values (TrapsHere values)
