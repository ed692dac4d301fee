-- The rules on values and their statements (C11 6.5, operands from left to right, this project's
-- profile). S is the list of statements before a value v; t is a fresh cell. What a rule makes, it
-- makes at the origin that it is given, the place of the expression that asks for it.
use Rattle.std.specs.Prelude.{ℕ, Bool, true, false, ◌&&◌, if◌then◌else◌, List, [], ◌∷◌, ◌++◌, map}
use Rattle.cpa_ints.specs.declared.integers.IntType.{IntType}
use Rattle.cpa_ints.specs.declared.integers.IntType.TheVariants as ty
use Rattle.cpa_ints.specs.Conversions.{common_type}
use Rattle.cpa_expr.specs.declared.tree.Expr.{Expr}
use Rattle.cpa_expr.specs.declared.tree.Expr.TheVariants.{And, Or}
use Rattle.cpa_expr.specs.Shape.{type_of}
use Rattle.c_grammar_symbols.specs.declared.operators.BinaryOperator.{BinaryOperator}
use Rattle.c_grammar_symbols.specs.declared.operators.BinaryOperator.TheVariants as binary
use Rattle.c_grammar_tree.specs.declared.expression.UnaryOperator.{UnaryOperator}
use Rattle.c_core_rules.specs.declared.tree.Usage.{Usage}
use Rattle.c_core_rules.specs.declared.tree.Usage.TheVariants.{Used, Unused}
use Rattle.c_core_rules.specs.declared.tree.Valued.{Valued}
use Rattle.c_core_rules.specs.Values.{conv, operator_value, signed_value, chosen_value, truth_of}
use Rattle.c_core_rules.specs.Values.{int, scalar, cell_at, is_constant}
use Rattle.cpa_model_trees.specs.Numbering.{Trees}
use Rattle.c_core_rules.specs.Trees.{choice, set, valued}
use Rattle.c_core_rules.specs.Cells.{Rule, gives, then_by, fresh}

abbrev pub is_nil : {A : Type 0} → List A → Bool
is_nil [] = true
is_nil (x ∷ xs) = false

-- no statement stands before the value
abbrev pub is_pure : Valued → Bool
is_pure v = is_nil v.statements

-- S, t := v, and then t
abbrev pub held : ℕ → Valued → Rule Valued
held origin v =
    then_by (fresh (type_of v.value)) (λ t.
    gives (valued (v.statements ++ set origin t v.value ∷ []) (scalar t)))

-- of two operands the first is held where the second has statements
abbrev pub held_before : ℕ → Valued → Valued → Rule Valued
held_before origin v later = if is_pure later then gives v else held origin v

-- some of these have statements
abbrev pub have_statements : List Valued → Bool
have_statements [] = false
have_statements (v ∷ vs) = elim (is_pure v) [ true ↦ have_statements vs | false ↦ true ]

-- of any number of operands each is held that has statements behind it
abbrev pub hold_all : ℕ → List Valued → Rule (List Valued)
hold_all origin [] = gives []
hold_all origin (v ∷ vs) =
    then_by (if have_statements vs then held origin v else gives v) (λ first.
    then_by (hold_all origin vs) (λ rest. gives (first ∷ rest)))

-- the statements of operands, and their values
abbrev pub statements_of : List Valued → Trees
statements_of [] = []
statements_of (v ∷ vs) = v.statements ++ statements_of vs

abbrev pub values_of : List Valued → List Expr
values_of vs = map (λ v. v.value) vs

-- `left operator right` behind the statements of both (6.5p1; those of the left operand first, this
-- project's profile)
abbrev pub operated : BinaryOperator → Valued → Valued → Valued
operated operator left right =
    valued (left.statements ++ right.statements) (operator_value operator left.value right.value)

-- && (6.5.13p4): S1, if (v1) { S2, t := !!v2 } else { t := 0 }; pure where S2 is empty
abbrev pub both_hold : ℕ → Valued → Valued → Rule Valued
both_hold origin left right =
    if is_pure right then gives (valued left.statements (And left.value right.value))
    else then_by (fresh ty.I32) (λ t.
    gives (valued (left.statements ++ choice origin left.value
    (right.statements ++ set origin t (truth_of right.value) ∷ [])
    (set origin t (int 0) ∷ []) ∷ []) (scalar t)))

-- || (6.5.14p4): S1, if (v1) { t := 1 } else { S2, t := !!v2 }; pure where S2 is empty
abbrev pub one_holds : ℕ → Valued → Valued → Rule Valued
one_holds origin left right =
    if is_pure right then gives (valued left.statements (Or left.value right.value))
    else then_by (fresh ty.I32) (λ t.
    gives (valued (left.statements ++ choice origin left.value (set origin t (int 1) ∷ [])
    (right.statements ++ set origin t (truth_of right.value) ∷ []) ∷ []) (scalar t)))

-- a link of a chain (6.5.5 to 6.5.14; 6.5p3 leaves open which operand is evaluated first: here the
-- left one, this project's profile, as 6.5.13p4 and 6.5.14p4 say of && and ||)
abbrev pub linked : ℕ → BinaryOperator → Valued → Valued → Rule Valued
linked origin binary.LogicalAnd left right = both_hold origin left right
linked origin binary.LogicalOr left right = one_holds origin left right
linked origin operator left right =
    then_by (held_before origin left right) (λ first. gives (operated operator first right))

-- + - ~ ! (6.5.3.3)
abbrev pub signed : UnaryOperator → Valued → Valued
signed operator v = valued v.statements (signed_value operator v.value)

-- (t) v (6.5.4p5)
abbrev pub cast_to : IntType → Valued → Valued
cast_to t v = valued v.statements (conv v.value t)

-- S1, if (v1) { S2, t := v2 } else { S3, t := v3 }, both converted to the type of t
abbrev pub chosen_by : ℕ → IntType → Valued → Valued → Valued → Rule Valued
chosen_by origin common test first second =
    then_by (fresh common) (λ t.
    gives (valued (test.statements ++ choice origin test.value
    (first.statements ++ set origin t first.value ∷ [])
    (second.statements ++ set origin t second.value ∷ []) ∷ []) (scalar t)))

-- test ? first : second (6.5.15p4 and p5): pure where S2 and S3 are empty
abbrev pub chosen : ℕ → Valued → Valued → Valued → Rule Valued
chosen origin test first second =
    if is_pure first && is_pure second
    then gives (valued test.statements (chosen_value test.value first.value second.value))
    else chosen_by origin (common_type (type_of first.value) (type_of second.value)) test first
    second

-- a value that is not used is evaluated all the same: S, and t := v where v is no constant
-- (6.8.3p2; this project's profile, so that what traps in it does)
abbrev pub dropped_value : ℕ → Valued → Rule Trees
dropped_value origin v =
    if is_constant v.value then gives v.statements
    else then_by (held origin v) (λ kept. gives kept.statements)

-- statements whose value nobody uses: 0 stands for it
abbrev pub unvalued : Trees → Valued
unvalued statements = valued statements (int 0)

-- of what is evaluated: the value is dropped where it is not used
unfoldable pub finished : ℕ → Usage → Valued → Rule Valued
finished origin Used v = gives v
finished origin Unused v =
    then_by (dropped_value origin v) (λ statements. gives (unvalued statements))

-- of what acts: all where the value is used, else the statements
unfoldable pub kept_for : Usage → Valued → Valued
kept_for Used v = v
kept_for Unused v = unvalued v.statements

abbrev pub kept : Usage → Rule Valued → Rule Valued
kept usage rule = then_by rule (λ v. gives (kept_for usage v))

abbrev pub is_used : Usage → Bool
is_used Used = true
is_used Unused = false

-- the value of what has none, which is used only beside a fault
abbrev pub no_value : Expr
no_value = scalar (cell_at ty.I32 0)

-- of what has no value
abbrev pub voided : Usage → Trees → Valued
voided usage statements = kept_for usage (valued statements no_value)

-- a conditional behind its operands, of which the ends are used so (6.5.15p3 and p4): where they
-- have no value S1, if (v1) { S2 } else { S3 }
unfoldable pub chosen_for : ℕ → Usage → Usage → Valued → Valued → Valued → Rule Valued
chosen_for origin usage Used test first second =
    then_by (chosen origin test first second) (finished origin usage)
chosen_for origin usage Unused test first second =
    gives (unvalued (test.statements
    ++ choice origin test.value first.statements second.statements ∷ []))

-- an index that is no constant is held, so that it is evaluated once
abbrev pub fixed : ℕ → Valued → Rule Valued
fixed origin index = if is_constant index.value then gives index else held origin index
