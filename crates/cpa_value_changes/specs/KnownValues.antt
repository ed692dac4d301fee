-- What is known of the value of an expression where the values of some cells are: the value where
-- its evaluation needs known cells only (this project's own; which operands are evaluated, and in
-- which order, is that of `value_of`).
use Rattle.std.specs.Prelude.{ℕ, ◌+◌, ℤ, pos, negsuc, nat_lt, not, if◌then◌else◌, List, Option}
use Rattle.std.specs.Prelude.{None, Some, Result, Ok, Err}
use Rattle.std.specs.List.{slice_index_or}
use Rattle.cpa_ints.specs.Wrapping.{wrapped}
use Rattle.cpa_expr.specs.declared.tree.Expr.{Expr}
use Rattle.cpa_expr.specs.declared.tree.Expr.TheOpen.{Expr-F}
use Rattle.cpa_expr.specs.declared.tree.Expr.TheFolds.{fold-Expr}
use Rattle.cpa_expr.specs.Values.{un_value, bin_value, compares, truth, is_nonzero}
use Rattle.cpa_value_changes.specs.declared.known.Gap.{Gap}
use Rattle.cpa_value_changes.specs.declared.known.Gap.TheVariants.{Unknown, Trap}

-- a value, or why none is known
abbrev pub Known : Type 0
Known = Result ℤ Gap

-- what is made of a value; where none is known, that settles the whole
abbrev pub known_then : (ℤ → Known) → Known → Known
known_then f (Ok a) = f a
known_then f (Err gap) = Err gap

-- both operands are evaluated, the left one first
abbrev pub known_pair : (ℤ → ℤ → Known) → Known → Known → Known
known_pair f left right = known_then (λ a. known_then (λ b. f a b) right) left

-- no result is a trap
abbrev pub or_trap : Option ℤ → Known
or_trap None = Err Trap
or_trap (Some v) = Ok v

-- no value of a cell is a gap
abbrev pub or_unknown : Option ℤ → Known
or_unknown None = Err Unknown
or_unknown (Some v) = Ok v

-- the value of the cell at this index, which has to be below len
abbrev pub known_at : List (Option ℤ) → ℕ → ℕ → ℤ → Known
known_at cells base len (pos i) =
    if nat_lt i len then or_unknown (slice_index_or cells (base + i) None) else Err Trap
known_at cells base len (negsuc i) = Err Trap

-- whether a value is nonzero, as a number
abbrev pub known_truth : Known → Known
known_truth = known_then (λ a. Ok (truth (is_nonzero a)))

-- a node, with what is known of each part in its place
abbrev pub known_step : List (Option ℤ) → Expr-F Known → Known
known_step cells (Expr-F.Const t n) = Ok n
known_step cells (Expr-F.Read t base len index) = known_then (known_at cells base len) index
known_step cells (Expr-F.Un o t arg) = known_then (λ a. Ok (un_value o t a)) arg
known_step cells (Expr-F.Bin o t left right) =
    known_pair (λ a b. or_trap (bin_value o t a b)) left right
known_step cells (Expr-F.Cmp o t left right) =
    known_pair (λ a b. Ok (truth (compares o a b))) left right
known_step cells (Expr-F.Cast t arg) = known_then (λ a. Ok (wrapped t a)) arg
known_step cells (Expr-F.And left right) =
    known_then (λ a. if is_nonzero a then known_truth right else Ok (pos 0)) left
known_step cells (Expr-F.Or left right) =
    known_then (λ a. if is_nonzero a then Ok (pos 1) else known_truth right) left
known_step cells (Expr-F.Not arg) = known_then (λ a. Ok (truth (not (is_nonzero a)))) arg
known_step cells (Expr-F.Cond t test first second) =
    known_then (λ a. if is_nonzero a then first else second) test

-- what is known of the expression; the list has the value of each cell, where it is known
abbrev pub known_value : Expr → List (Option ℤ) → Known
known_value e cells = fold-Expr Known (known_step cells) e
