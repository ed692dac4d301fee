-- The value of an expression on a store (C11 6.5), over exact whole numbers. Where C leaves a
-- choice, it is this project's: results wrap, a shift to the right rounds down, and operands are
-- evaluated from left to right. None stands for a trap, which ends the execution: a division by
-- zero, a shift amount outside the width, an index outside its array.
use Rattle.std.specs.Prelude.{ℕ, ◌+◌, ◌^◌, ℤ, pos, negsuc, neg_ℤ, ◌+ℤ◌, ◌-ℤ◌, ◌*ℤ◌, int_div, int_lt}
use Rattle.std.specs.Prelude.{int_le, nat_lt, bit_and, bit_or, bit_xor, Bool, true, false, not}
use Rattle.std.specs.Prelude.{if◌then◌else◌, List, Option, None, Some, option_map, option_and_then}
use Rattle.std.specs.Prelude.{slice_get, ◌≡◌, IsSomeAnd}
use Rattle.std.specs.Int.{int_div_euclid}
use Rattle.std.specs.Ordering.{int_eq}
use Rattle.cpa_ints.specs.declared.integers.IntType.{IntType}
use Rattle.cpa_ints.specs.Integers.{width}
use Rattle.cpa_ints.specs.Wrapping.{wrapped}
use Rattle.cpa_ints.specs.Bits.{bits_of}
use Rattle.cpa_expr.specs.declared.tree.UnOp.{UnOp}
use Rattle.cpa_expr.specs.declared.tree.BinOp.{BinOp}
use Rattle.cpa_expr.specs.declared.tree.CmpOp.{CmpOp}
use Rattle.cpa_expr.specs.declared.tree.UnOp.TheVariants as un
use Rattle.cpa_expr.specs.declared.tree.BinOp.TheVariants as bin
use Rattle.cpa_expr.specs.declared.tree.CmpOp.TheVariants as cmp
use Rattle.cpa_expr.specs.declared.tree.Expr.{Expr}
use Rattle.cpa_expr.specs.declared.tree.Expr.TheOpen.{Expr-F}
use Rattle.cpa_expr.specs.declared.tree.Expr.TheFolds.{fold-Expr}

-- the value of an operator on a (C11 6.5.3.3)
abbrev pub un_value : UnOp → IntType → ℤ → ℤ
un_value un.Neg t a = wrapped t (neg_ℤ a)
un_value un.Flip t a = wrapped t (neg_ℤ a -ℤ pos 1)

-- the amount of a shift, where it lies from 0 to the width less 1 (C11 6.5.7)
abbrev pub amount_of : IntType → ℤ → Option ℕ
amount_of t (pos n) = if nat_lt n (width t) then Some n else None
amount_of t (negsuc n) = None

-- what is divided by b, where b is not 0 (C11 6.5.5)
abbrev pub divided_by : {A : Type 0} → ℤ → A → Option A
divided_by b result = if int_eq b (pos 0) then None else Some result

-- the value of an operator on a and b (C11 6.5.5 to 6.5.7, 6.5.10 to 6.5.12); a quotient is rounded
-- toward zero, and a remainder is what is left beside that exact quotient
abbrev pub bin_value : BinOp → IntType → ℤ → ℤ → Option ℤ
bin_value bin.Add t a b = Some (wrapped t (a +ℤ b))
bin_value bin.Sub t a b = Some (wrapped t (a -ℤ b))
bin_value bin.Mul t a b = Some (wrapped t (a *ℤ b))
bin_value bin.Div t a b = divided_by b (wrapped t (int_div a b))
bin_value bin.Rem t a b = divided_by b (a -ℤ int_div a b *ℤ b)
bin_value bin.BitAnd t a b = Some (wrapped t (pos (bit_and (bits_of t a) (bits_of t b))))
bin_value bin.BitOr t a b = Some (wrapped t (pos (bit_or (bits_of t a) (bits_of t b))))
bin_value bin.BitXor t a b = Some (wrapped t (pos (bit_xor (bits_of t a) (bits_of t b))))
bin_value bin.Shl t a b = option_map (λ n. wrapped t (a *ℤ pos (2 ^ n))) (amount_of t b)
bin_value bin.Shr t a b = option_map (λ n. int_div_euclid a (pos (2 ^ n))) (amount_of t b)

-- whether a and b compare so (C11 6.5.8, 6.5.9)
abbrev pub compares : CmpOp → ℤ → ℤ → Bool
compares cmp.Eq a b = int_eq a b
compares cmp.Ne a b = not (int_eq a b)
compares cmp.Lt a b = int_lt a b
compares cmp.Le a b = int_le a b
compares cmp.Gt a b = int_lt b a
compares cmp.Ge a b = int_le b a

-- 1 where it is true, else 0 (C11 6.5.8)
abbrev pub truth : Bool → ℤ
truth true = pos 1
truth false = pos 0

-- whether a number counts as true (C11 6.5.13)
abbrev pub is_nonzero : ℤ → Bool
is_nonzero a = not (int_eq a (pos 0))

-- the value of the cell at this index, where it is below len and the cell is there (C11 6.5.2.1)
abbrev pub cell_at : List ℤ → ℕ → ℕ → ℤ → Option ℤ
cell_at values base len (pos i) = if nat_lt i len then slice_get values (base + i) else None
cell_at values base len (negsuc i) = None

-- both operands are evaluated, the left one first
abbrev pub evaluated : (ℤ → ℤ → Option ℤ) → Option ℤ → Option ℤ → Option ℤ
evaluated f left right = option_and_then (λ a. option_and_then (λ b. f a b) right) left

-- whether a value is nonzero, as a number
abbrev pub truth_of : Option ℤ → Option ℤ
truth_of = option_map (λ a. truth (is_nonzero a))

-- whether two values compare so, as a number
abbrev pub comparison : CmpOp → Option ℤ → Option ℤ → Option ℤ
comparison o left right = evaluated (λ a b. Some (truth (compares o a b))) left right

-- whether both are nonzero; the right one is evaluated only where the left one is nonzero
-- (C11 6.5.13)
abbrev pub logical_and : Option ℤ → Option ℤ → Option ℤ
logical_and left right =
    option_and_then (λ a. if is_nonzero a then truth_of right else Some (pos 0)) left

-- whether one is nonzero; the right one is evaluated only where the left one is zero (C11 6.5.14)
abbrev pub logical_or : Option ℤ → Option ℤ → Option ℤ
logical_or left right =
    option_and_then (λ a. if is_nonzero a then Some (pos 1) else truth_of right) left

-- whether a value is zero (C11 6.5.3.3)
abbrev pub logical_not : Option ℤ → Option ℤ
logical_not arg = option_map (λ a. truth (not (is_nonzero a))) arg

-- the first where the test is nonzero, else the second; the other one is not evaluated (C11 6.5.15)
abbrev pub conditional : Option ℤ → Option ℤ → Option ℤ → Option ℤ
conditional test first second = option_and_then (λ a. if is_nonzero a then first else second) test

-- a node, with the value of each part in its place; the value of a part that is not evaluated does
-- not count
abbrev pub value_step : List ℤ → Expr-F (Option ℤ) → Option ℤ
value_step values (Expr-F.Const t n) = Some n
value_step values (Expr-F.Read t base len index) = option_and_then (cell_at values base len) index
value_step values (Expr-F.Un o t arg) = option_map (un_value o t) arg
value_step values (Expr-F.Bin o t left right) = evaluated (bin_value o t) left right
value_step values (Expr-F.Cmp o t left right) = comparison o left right
value_step values (Expr-F.Cast t arg) = option_map (wrapped t) arg
value_step values (Expr-F.And left right) = logical_and left right
value_step values (Expr-F.Or left right) = logical_or left right
value_step values (Expr-F.Not arg) = logical_not arg
value_step values (Expr-F.Cond t test first second) = conditional test first second

-- the value of an expression on a store, or None where its evaluation traps
abbrev pub value_of : Expr → List ℤ → Option ℤ
value_of e values = fold-Expr (Option ℤ) (value_step values) e

-- the expression has a value on the store, which is nonzero exactly where `holds` is true
-- (C11 6.8.4.1)
abbrev pub HasTruth : List ℤ → Expr → Bool → Type 0
HasTruth values e holds = IsSomeAnd (value_of e values) (λ a. is_nonzero a ≡ holds)
