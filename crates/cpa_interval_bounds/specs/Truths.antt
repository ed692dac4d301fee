-- Which truths the values within bounds may have, and how two compare (C11 6.5.8, 6.5.9, 6.5.13 and
-- 6.5.14: a value holds where it is not 0, and fails where it is).
use Rattle.std.specs.Prelude.{ℤ, pos, int_lt, int_le, Bool, true, false, not, ◌&&◌, ◌||◌, Option}
use Rattle.std.specs.Prelude.{None, Some, if◌then◌else◌}
use Rattle.std.specs.Ordering.{int_eq}
use Rattle.cpa_expr.specs.declared.tree.CmpOp.{CmpOp}
use Rattle.cpa_expr.specs.declared.tree.CmpOp.TheVariants as cmp
use Rattle.cpa_interval_bounds.specs.declared.bounds.Bounds.{Bounds}
use Rattle.cpa_interval_bounds.specs.declared.truths.Truths.{Truths}
use Rattle.cpa_interval_bounds.specs.Bounds.{only, has, hull_where_some}

abbrev pub truths : Bool → Bool → Truths
truths holds fails = record { holds = holds; fails = fails }

-- there is no other number than this one
abbrev pub is_only : Bounds → ℤ → Bool
is_only b n = int_eq b.lo n && int_eq b.hi n

-- which truths the numbers have; none where there is no number
abbrev pub truths_of : Option Bounds → Truths
truths_of None = truths false false
truths_of (Some b) = truths (not (is_only b (pos 0))) (has b (pos 0))

-- that truth is one of them
abbrev pub may_be : Truths → Bool → Bool
may_be t true = t.holds
may_be t false = t.fails

-- there where it may be
abbrev pub one_where : Bool → ℤ → Option Bounds
one_where may n = if may then Some (only n) else None

-- their numbers: the hull of 0 and 1, as far as they may be
abbrev pub numbers_of : Truths → Option Bounds
numbers_of t = hull_where_some (one_where t.fails (pos 0)) (one_where t.holds (pos 1))

-- the comparison that holds where the other one fails
abbrev pub opposite : CmpOp → CmpOp
opposite cmp.Eq = cmp.Ne
opposite cmp.Ne = cmp.Eq
opposite cmp.Lt = cmp.Ge
opposite cmp.Le = cmp.Gt
opposite cmp.Gt = cmp.Le
opposite cmp.Ge = cmp.Lt

-- the comparison of the sides exchanged
abbrev pub exchanged : CmpOp → CmpOp
exchanged cmp.Eq = cmp.Eq
exchanged cmp.Ne = cmp.Ne
exchanged cmp.Lt = cmp.Gt
exchanged cmp.Le = cmp.Ge
exchanged cmp.Gt = cmp.Lt
exchanged cmp.Ge = cmp.Le

-- some number of a and some number of b compare so
abbrev pub may_compare : CmpOp → Bounds → Bounds → Bool
may_compare cmp.Eq a b = int_le a.lo b.hi && int_le b.lo a.hi
may_compare cmp.Ne a b = not (int_eq a.lo b.hi && int_eq a.hi b.lo)
may_compare cmp.Lt a b = int_lt a.lo b.hi
may_compare cmp.Le a b = int_le a.lo b.hi
may_compare cmp.Gt a b = int_lt b.lo a.hi
may_compare cmp.Ge a b = int_le b.lo a.hi

-- which truths the comparison has
abbrev pub compared : CmpOp → Bounds → Bounds → Truths
compared o a b = truths (may_compare o a b) (may_compare (opposite o) a b)

-- both hold; the second counts only where the first holds
abbrev pub both_hold : Truths → Truths → Truths
both_hold s t = truths (s.holds && t.holds) (s.fails || (s.holds && t.fails))

-- one holds; the second counts only where the first fails
abbrev pub one_holds : Truths → Truths → Truths
one_holds s t = truths (s.holds || (s.fails && t.holds)) (s.fails && t.fails)

-- it fails
abbrev pub it_fails : Truths → Truths
it_fails t = truths t.fails t.holds
