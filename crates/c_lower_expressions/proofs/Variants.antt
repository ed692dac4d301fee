-- The rules of each form of expression, by its parts (`opened`).
use Rattle.std.proofs.Common.{◌≡◌, ℕ, ℤ, Bool, true, List, map, Option, None, Some}
use Rattle.std.proofs.Common.{is_some, refl, ap, sym, ◌∙◌}
use Rattle.cpa_ints.specs.declared.integers.IntType.{IntType}
use Rattle.cpa_ints.specs.declared.integers.IntType.TheVariants as ty
use Rattle.cpa_expr.specs.declared.tree.Expr.TheVariants.{Const}
use Rattle.c_grammar_symbols.specs.declared.operators.BinaryOperator.{BinaryOperator}
use Rattle.c_grammar_symbols.specs.declared.operators.AssignmentOperator.{AssignmentOperator}
use Rattle.c_grammar_symbols.specs.declared.operators.StepOperator.{StepOperator}
use Rattle.c_grammar_tree.specs.declared.expression.UnaryOperator.{UnaryOperator}
use Rattle.c_types_rules.specs.declared.meaning.Kind.{Kind}
use Rattle.c_types_rules.specs.declared.meaning.Kind.TheVariants.{Void, Value}
use Rattle.c_types_rules.specs.declared.meaning.Meaning.{Meaning}
use Rattle.c_types_rules.specs.declared.typed.TypedExpression.{TypedExpression}
use Rattle.c_types_rules.specs.declared.typed.TypedExpression.{roll-TypedExpression}
use Rattle.c_types_rules.specs.declared.typed.TypedExpression.TheVariants as tree
use Rattle.c_types_rules.specs.declared.typed.TypedExpression.TheOpen.{TypedExpression-F}
use Rattle.c_types_rules.specs.declared.typed.TypedExpression.TheOpen.{TypedSuffix-F}
use Rattle.c_types_rules.specs.declared.typed.TypedExpression.TheFolds.{fold-TypedExpression}
use Rattle.c_types_rules.specs.declared.typed.TypedExpression.TheFolds.{fold-TypedSuffix}
use Rattle.c_types_rules.specs.declared.typed.TypedExpression.TheFolds.{map-TypedExpression}
use Rattle.c_types_rules.specs.declared.typed.TypedExpression.TheFolds.{map-TypedSuffix}
use Rattle.c_types_rules.specs.declared.typed.TypedExpression.TheFolds.{fold-roll-TypedExpression}
use Rattle.c_types_rules.specs.declared.typed.TypedExpression.TheFolds.{fold-roll-TypedSuffix}
use Rattle.c_types_rules.specs.declared.typed.TypedSuffix.{TypedSuffix, roll-TypedSuffix}
use Rattle.c_types_rules.specs.declared.typed.TypedSuffix.TheVariants as behind
use Rattle.c_types_rules.specs.Tables.{operator_of}
use Rattle.c_core_rules.specs.declared.tree.Usage.{Usage}
use Rattle.c_core_rules.specs.declared.tree.Usage.TheVariants.{Used, Unused}
use Rattle.c_core_rules.specs.declared.tree.Valued.{Valued}
use Rattle.c_core_rules.specs.Trees.{pure}
use Rattle.c_core_rules.specs.Acts.{finished, voided, chosen_for}
use Rattle.c_core_rules.specs.Cells.{Taken, Made, gives, then_by, located}
use Rattle.c_core_rules.specs.Places.{fixed_if}
use Rattle.c_core_rules.specs.Expressions.{Frames, Rows, ReadSuffix, rows_step, read_suffix, rows}
use Rattle.c_core_rules.specs.Expressions.{used, usage_of_ends, placed, scalar_target, no_target}
use Rattle.c_core_rules.specs.declared.tree.Place.TheVariants as spot
use Rattle.c_lower_expressions.specs.Rows.{lowered, name_for, signed_for, cast_for, changed_for}
use Rattle.c_lower_expressions.specs.Rows.{incremented_for, comma_of}
use Rattle.c_lower_expressions.specs.Rows.{link_rows, linked_to, suffix_of, suffix_target}
use Rattle.c_lower_expressions.specs.Rows.{suffixed_by}
use Rattle.c_lower_expressions.proofs.Chains.{chained_from}

opened : (frames : Frames) (e : TypedExpression)
    (x : TypedExpression-F TypedExpression TypedSuffix) →
    roll-TypedExpression x ≡ e → rows frames e ≡ rows_step frames
    (map-TypedExpression TypedExpression TypedSuffix Rows ReadSuffix (rows frames)
    (suffix_of frames) x)
unfolding rows suffix_of
opened frames e x is =
    ap (fold-TypedExpression Rows ReadSuffix (rows_step frames) read_suffix) (sym is)
    ∙ fold-roll-TypedExpression Rows ReadSuffix (rows_step frames) read_suffix x

opened_suffix : (frames : Frames) (s : TypedSuffix)
    (x : TypedSuffix-F TypedExpression TypedSuffix) →
    roll-TypedSuffix x ≡ s → suffix_of frames s ≡ read_suffix
    (map-TypedSuffix TypedExpression TypedSuffix Rows ReadSuffix (rows frames) (suffix_of frames) x)
unfolding rows suffix_of
opened_suffix frames s x is =
    ap (fold-TypedSuffix Rows ReadSuffix (rows_step frames) read_suffix) (sym is)
    ∙ fold-roll-TypedSuffix Rows ReadSuffix (rows_step frames) read_suffix x

-- E and D by usage
opened_by : (frames : Frames) (usage : Usage) (e : TypedExpression)
    (x : TypedExpression-F TypedExpression TypedSuffix) (taken : Taken) →
    roll-TypedExpression x ≡ e → lowered frames usage e taken
    ≡ (rows_step frames (map-TypedExpression TypedExpression TypedSuffix Rows ReadSuffix
    (rows frames) (suffix_of frames) x)).rule usage taken
unfolding lowered
opened_by frames usage e x taken is =
    ap (λ (r : Rows). r.rule usage taken) (opened frames e x is)

pub lowered_by : (frames : Frames) (usage : Usage) (e : TypedExpression) (taken : Taken) →
    lowered frames usage e taken ≡ (rows frames e).rule usage taken
unfolding lowered
lowered_by frames usage e taken = refl

pub of_Name : (frames : Frames) (usage : Usage)
    (found : Option Meaning) (place : ℕ) (taken : Taken) →
    lowered frames usage (tree.Name found place) taken
    ≡ name_for place usage found taken
unfolding lowered name_for
of_Name frames usage found place taken =
    opened_by frames usage (tree.Name found place) (TypedExpression-F.Name found place) taken
    (tree.rolls-Name found place)

pub of_Number : (frames : Frames) (usage : Usage)
    (t : IntType) (n : ℤ) (place : ℕ) (taken : Taken) →
    lowered frames usage (tree.Number t n place) taken
    ≡ finished place usage (pure (Const t n)) taken
unfolding lowered
of_Number frames usage t n place taken =
    opened_by frames usage (tree.Number t n place) (TypedExpression-F.Number t n place) taken
    (tree.rolls-Number t n place)

pub of_Character : (frames : Frames) (usage : Usage) (n : ℤ) (place : ℕ) (taken : Taken) →
    lowered frames usage (tree.Character n place) taken
    ≡ finished place usage (pure (Const ty.I32 n)) taken
unfolding lowered
of_Character frames usage n place taken =
    opened_by frames usage (tree.Character n place) (TypedExpression-F.Character n place) taken
    (tree.rolls-Character n place)

pub of_Bracketed : (frames : Frames) (usage : Usage)
    (inside : TypedExpression) (place : ℕ) (taken : Taken) →
    lowered frames usage (tree.Bracketed inside place) taken
    ≡ lowered frames usage inside taken
unfolding lowered
of_Bracketed frames usage inside place taken =
    opened_by frames usage (tree.Bracketed inside place)
    (TypedExpression-F.Bracketed inside place) taken
    (tree.rolls-Bracketed inside place)

pub of_PrefixStep : (frames : Frames) (usage : Usage)
    (operator : StepOperator) (operand : TypedExpression)
    (kind : Option Kind) (place : ℕ) (taken : Taken) →
    lowered frames usage (tree.PrefixStep operator operand kind place) taken
    ≡ then_by (placed place true (rows frames operand).target)
    (incremented_for place usage operator) taken
unfolding lowered incremented_for
of_PrefixStep frames usage operator operand kind place taken =
    opened_by frames usage (tree.PrefixStep operator operand kind place)
    (TypedExpression-F.PrefixStep operator operand kind place) taken
    (tree.rolls-PrefixStep operator operand kind place)

pub of_Unary : (frames : Frames) (usage : Usage)
    (operator : UnaryOperator) (operand : TypedExpression)
    (kind : Option Kind) (place : ℕ) (taken : Taken) →
    lowered frames usage (tree.Unary operator operand kind place) taken
    ≡ then_by (lowered frames Used operand) (signed_for place usage operator) taken
unfolding lowered signed_for
of_Unary frames usage operator operand kind place taken =
    opened_by frames usage (tree.Unary operator operand kind place)
    (TypedExpression-F.Unary operator operand kind place) taken
    (tree.rolls-Unary operator operand kind place)

pub of_Cast : (frames : Frames) (usage : Usage)
    (operand : TypedExpression) (t : IntType) (place : ℕ) (taken : Taken) →
    lowered frames usage (tree.Cast operand (Some (Value t)) place) taken
    ≡ then_by (lowered frames Used operand) (cast_for place usage t) taken
unfolding lowered cast_for
of_Cast frames usage operand t place taken =
    opened_by frames usage (tree.Cast operand (Some (Value t)) place)
    (TypedExpression-F.Cast operand (Some (Value t)) place) taken
    (tree.rolls-Cast operand (Some (Value t)) place)

pub of_Voided : (frames : Frames) (usage : Usage)
    (operand : TypedExpression) (place : ℕ) (taken : Taken) →
    lowered frames usage (tree.Cast operand (Some Void) place) taken
    ≡ then_by (lowered frames Unused operand) (λ v. gives (voided usage v.statements)) taken
unfolding lowered
of_Voided frames usage operand place taken =
    opened_by frames usage (tree.Cast operand (Some Void) place)
    (TypedExpression-F.Cast operand (Some Void) place) taken
    (tree.rolls-Cast operand (Some Void) place)

pub of_Untyped : (frames : Frames) (usage : Usage)
    (operand : TypedExpression) (place : ℕ) (taken : Taken) →
    lowered frames usage (tree.Cast operand None place) taken
    ≡ then_by (lowered frames Unused operand) (λ v. gives (voided usage v.statements)) taken
unfolding lowered
of_Untyped frames usage operand place taken =
    opened_by frames usage (tree.Cast operand None place)
    (TypedExpression-F.Cast operand None place) taken
    (tree.rolls-Cast operand None place)

pub of_Chain : (frames : Frames) (usage : Usage) (first : TypedExpression)
    (rest : List (BinaryOperator × TypedExpression)) (kind : Option Kind) (place : ℕ)
    (taken : Taken) → lowered frames usage (tree.Chain first rest kind place) taken
    ≡ then_by (lowered frames Used first) (λ left. linked_to place frames usage left rest) taken
unfolding lowered linked_to
of_Chain frames usage first rest kind place taken =
    opened_by frames usage (tree.Chain first rest kind place)
    (TypedExpression-F.Chain first rest kind place) taken (tree.rolls-Chain first rest kind place)
    ∙ ap (λ (m : Made Valued). finished place usage m.made m.taken)
    (chained_from place (used (rows frames first)) (map (link_rows frames) rest) taken)

pub of_Conditional : (frames : Frames) (usage : Usage) (test first second : TypedExpression)
    (kind : Option Kind) (place : ℕ) (taken : Taken) →
    lowered frames usage (tree.Conditional test first second kind place) taken
    ≡ then_by (lowered frames Used test) (λ v.
    then_by (lowered frames (usage_of_ends usage kind) first) (λ a.
    then_by (lowered frames (usage_of_ends usage kind) second) (λ b.
    chosen_for place usage (usage_of_ends usage kind) v a b))) taken
unfolding lowered
of_Conditional frames usage test first second kind place taken =
    opened_by frames usage (tree.Conditional test first second kind place)
    (TypedExpression-F.Conditional test first second kind place) taken
    (tree.rolls-Conditional test first second kind place)

pub of_Assignment : (frames : Frames) (usage : Usage)
    (left : TypedExpression) (operator : AssignmentOperator)
    (right : TypedExpression) (kind : Option Kind) (place : ℕ) (taken : Taken) →
    lowered frames usage (tree.Assignment left operator right kind place) taken
    ≡ then_by (placed place (is_some (operator_of operator)) (rows frames left).target) (λ p.
    then_by (lowered frames Used right) (changed_for place usage (operator_of operator) p)) taken
unfolding lowered changed_for
of_Assignment frames usage left operator right kind place taken =
    opened_by frames usage (tree.Assignment left operator right kind place)
    (TypedExpression-F.Assignment left operator right kind place) taken
    (tree.rolls-Assignment left operator right kind place)

pub of_Comma : (frames : Frames) (usage : Usage)
    (items : List TypedExpression) (kind : Option Kind) (place : ℕ) (taken : Taken) →
    lowered frames usage (tree.Comma items kind place) taken
    ≡ comma_of frames usage items taken
unfolding lowered comma_of
of_Comma frames usage items kind place taken =
    opened_by frames usage (tree.Comma items kind place)
    (TypedExpression-F.Comma items kind place) taken
    (tree.rolls-Comma items kind place)

pub target_Name : (frames : Frames) (found : Option Meaning) (place : ℕ) →
    (rows frames (tree.Name found place)).target
    ≡ scalar_target found
target_Name frames found place =
    ap (λ r. r.target) (opened frames (tree.Name found place)
    (TypedExpression-F.Name found place)
    (tree.rolls-Name found place))

pub target_Bracketed : (frames : Frames) (inside : TypedExpression) (place : ℕ) →
    (rows frames (tree.Bracketed inside place)).target
    ≡ (rows frames inside).target
target_Bracketed frames inside place =
    ap (λ r. r.target) (opened frames (tree.Bracketed inside place)
    (TypedExpression-F.Bracketed inside place)
    (tree.rolls-Bracketed inside place))

pub target_Number : (frames : Frames) (t : IntType) (n : ℤ) (place : ℕ) →
    (rows frames (tree.Number t n place)).target
    ≡ no_target
target_Number frames t n place =
    ap (λ r. r.target) (opened frames (tree.Number t n place)
    (TypedExpression-F.Number t n place)
    (tree.rolls-Number t n place))

pub target_Character : (frames : Frames) (n : ℤ) (place : ℕ) →
    (rows frames (tree.Character n place)).target
    ≡ no_target
target_Character frames n place =
    ap (λ r. r.target) (opened frames (tree.Character n place)
    (TypedExpression-F.Character n place)
    (tree.rolls-Character n place))

pub target_PrefixStep : (frames : Frames) (operator : StepOperator) (operand : TypedExpression)
    (kind : Option Kind) (place : ℕ) →
    (rows frames (tree.PrefixStep operator operand kind place)).target
    ≡ no_target
target_PrefixStep frames operator operand kind place =
    ap (λ r. r.target) (opened frames (tree.PrefixStep operator operand kind place)
    (TypedExpression-F.PrefixStep operator operand kind place)
    (tree.rolls-PrefixStep operator operand kind place))

pub target_Unary : (frames : Frames) (operator : UnaryOperator) (operand : TypedExpression)
    (kind : Option Kind) (place : ℕ) →
    (rows frames (tree.Unary operator operand kind place)).target
    ≡ no_target
target_Unary frames operator operand kind place =
    ap (λ r. r.target) (opened frames (tree.Unary operator operand kind place)
    (TypedExpression-F.Unary operator operand kind place)
    (tree.rolls-Unary operator operand kind place))

pub target_Chain : (frames : Frames) (first : TypedExpression)
    (rest : List (BinaryOperator × TypedExpression)) (kind : Option Kind) (place : ℕ) →
    (rows frames (tree.Chain first rest kind place)).target
    ≡ no_target
target_Chain frames first rest kind place =
    ap (λ r. r.target) (opened frames (tree.Chain first rest kind place)
    (TypedExpression-F.Chain first rest kind place)
    (tree.rolls-Chain first rest kind place))

pub target_Conditional : (frames : Frames) (test : TypedExpression) (first : TypedExpression)
    (second : TypedExpression) (kind : Option Kind) (place : ℕ) →
    (rows frames (tree.Conditional test first second kind place)).target
    ≡ no_target
target_Conditional frames test first second kind place =
    ap (λ r. r.target) (opened frames (tree.Conditional test first second kind place)
    (TypedExpression-F.Conditional test first second kind place)
    (tree.rolls-Conditional test first second kind place))

pub target_Assignment : (frames : Frames) (left : TypedExpression) (operator : AssignmentOperator)
    (right : TypedExpression) (kind : Option Kind) (place : ℕ) →
    (rows frames (tree.Assignment left operator right kind place)).target
    ≡ no_target
target_Assignment frames left operator right kind place =
    ap (λ r. r.target) (opened frames (tree.Assignment left operator right kind place)
    (TypedExpression-F.Assignment left operator right kind place)
    (tree.rolls-Assignment left operator right kind place))

pub target_Comma : (frames : Frames) (items : List TypedExpression) (kind : Option Kind)
    (place : ℕ) →
    (rows frames (tree.Comma items kind place)).target
    ≡ no_target
target_Comma frames items kind place =
    ap (λ r. r.target) (opened frames (tree.Comma items kind place)
    (TypedExpression-F.Comma items kind place)
    (tree.rolls-Comma items kind place))

pub target_Valued : (frames : Frames) (operand : TypedExpression) (t : IntType) (place : ℕ) →
    (rows frames (tree.Cast operand (Some (Value t)) place)).target
    ≡ no_target
target_Valued frames operand t place =
    ap (λ r. r.target) (opened frames (tree.Cast operand (Some (Value t)) place)
    (TypedExpression-F.Cast operand (Some (Value t)) place)
    (tree.rolls-Cast operand (Some (Value t)) place))

pub target_Voided : (frames : Frames) (operand : TypedExpression) (place : ℕ) →
    (rows frames (tree.Cast operand (Some Void) place)).target
    ≡ no_target
target_Voided frames operand place =
    ap (λ r. r.target) (opened frames (tree.Cast operand (Some Void) place)
    (TypedExpression-F.Cast operand (Some Void) place)
    (tree.rolls-Cast operand (Some Void) place))

pub target_Untyped : (frames : Frames) (operand : TypedExpression) (place : ℕ) →
    (rows frames (tree.Cast operand None place)).target
    ≡ no_target
target_Untyped frames operand place =
    ap (λ r. r.target) (opened frames (tree.Cast operand None place)
    (TypedExpression-F.Cast operand None place)
    (tree.rolls-Cast operand None place))

pub target_Cast : (frames : Frames) (operand : TypedExpression) (kind : Option Kind) (place : ℕ) →
    (rows frames (tree.Cast operand kind place)).target ≡ no_target
target_Cast frames operand None place = target_Untyped frames operand place
target_Cast frames operand (Some Void) place = target_Voided frames operand place
target_Cast frames operand (Some (Value t)) place = target_Valued frames operand t place

pub names_Name : (frames : Frames) (found : Option Meaning) (place : ℕ) →
    (rows frames (tree.Name found place)).names
    ≡ found
names_Name frames found place =
    ap (λ r. r.names) (opened frames (tree.Name found place)
    (TypedExpression-F.Name found place)
    (tree.rolls-Name found place))

pub names_Bracketed : (frames : Frames) (inside : TypedExpression) (place : ℕ) →
    (rows frames (tree.Bracketed inside place)).names
    ≡ (rows frames inside).names
names_Bracketed frames inside place =
    ap (λ r. r.names) (opened frames (tree.Bracketed inside place)
    (TypedExpression-F.Bracketed inside place)
    (tree.rolls-Bracketed inside place))

pub names_Number : (frames : Frames) (t : IntType) (n : ℤ) (place : ℕ) →
    (rows frames (tree.Number t n place)).names
    ≡ None
names_Number frames t n place =
    ap (λ r. r.names) (opened frames (tree.Number t n place)
    (TypedExpression-F.Number t n place)
    (tree.rolls-Number t n place))

pub names_Character : (frames : Frames) (n : ℤ) (place : ℕ) →
    (rows frames (tree.Character n place)).names
    ≡ None
names_Character frames n place =
    ap (λ r. r.names) (opened frames (tree.Character n place)
    (TypedExpression-F.Character n place)
    (tree.rolls-Character n place))

pub names_PrefixStep : (frames : Frames) (operator : StepOperator) (operand : TypedExpression)
    (kind : Option Kind) (place : ℕ) →
    (rows frames (tree.PrefixStep operator operand kind place)).names
    ≡ None
names_PrefixStep frames operator operand kind place =
    ap (λ r. r.names) (opened frames (tree.PrefixStep operator operand kind place)
    (TypedExpression-F.PrefixStep operator operand kind place)
    (tree.rolls-PrefixStep operator operand kind place))

pub names_Unary : (frames : Frames) (operator : UnaryOperator) (operand : TypedExpression)
    (kind : Option Kind) (place : ℕ) →
    (rows frames (tree.Unary operator operand kind place)).names
    ≡ None
names_Unary frames operator operand kind place =
    ap (λ r. r.names) (opened frames (tree.Unary operator operand kind place)
    (TypedExpression-F.Unary operator operand kind place)
    (tree.rolls-Unary operator operand kind place))

pub names_Chain : (frames : Frames) (first : TypedExpression)
    (rest : List (BinaryOperator × TypedExpression)) (kind : Option Kind) (place : ℕ) →
    (rows frames (tree.Chain first rest kind place)).names
    ≡ None
names_Chain frames first rest kind place =
    ap (λ r. r.names) (opened frames (tree.Chain first rest kind place)
    (TypedExpression-F.Chain first rest kind place)
    (tree.rolls-Chain first rest kind place))

pub names_Conditional : (frames : Frames) (test : TypedExpression) (first : TypedExpression)
    (second : TypedExpression) (kind : Option Kind) (place : ℕ) →
    (rows frames (tree.Conditional test first second kind place)).names
    ≡ None
names_Conditional frames test first second kind place =
    ap (λ r. r.names) (opened frames (tree.Conditional test first second kind place)
    (TypedExpression-F.Conditional test first second kind place)
    (tree.rolls-Conditional test first second kind place))

pub names_Assignment : (frames : Frames) (left : TypedExpression) (operator : AssignmentOperator)
    (right : TypedExpression) (kind : Option Kind) (place : ℕ) →
    (rows frames (tree.Assignment left operator right kind place)).names
    ≡ None
names_Assignment frames left operator right kind place =
    ap (λ r. r.names) (opened frames (tree.Assignment left operator right kind place)
    (TypedExpression-F.Assignment left operator right kind place)
    (tree.rolls-Assignment left operator right kind place))

pub names_Comma : (frames : Frames) (items : List TypedExpression) (kind : Option Kind)
    (place : ℕ) →
    (rows frames (tree.Comma items kind place)).names
    ≡ None
names_Comma frames items kind place =
    ap (λ r. r.names) (opened frames (tree.Comma items kind place)
    (TypedExpression-F.Comma items kind place)
    (tree.rolls-Comma items kind place))

pub names_Valued : (frames : Frames) (operand : TypedExpression) (t : IntType) (place : ℕ) →
    (rows frames (tree.Cast operand (Some (Value t)) place)).names
    ≡ None
names_Valued frames operand t place =
    ap (λ r. r.names) (opened frames (tree.Cast operand (Some (Value t)) place)
    (TypedExpression-F.Cast operand (Some (Value t)) place)
    (tree.rolls-Cast operand (Some (Value t)) place))

pub names_Voided : (frames : Frames) (operand : TypedExpression) (place : ℕ) →
    (rows frames (tree.Cast operand (Some Void) place)).names
    ≡ None
names_Voided frames operand place =
    ap (λ r. r.names) (opened frames (tree.Cast operand (Some Void) place)
    (TypedExpression-F.Cast operand (Some Void) place)
    (tree.rolls-Cast operand (Some Void) place))

pub names_Untyped : (frames : Frames) (operand : TypedExpression) (place : ℕ) →
    (rows frames (tree.Cast operand None place)).names
    ≡ None
names_Untyped frames operand place =
    ap (λ r. r.names) (opened frames (tree.Cast operand None place)
    (TypedExpression-F.Cast operand None place)
    (tree.rolls-Cast operand None place))

pub names_Cast : (frames : Frames) (operand : TypedExpression) (kind : Option Kind) (place : ℕ) →
    (rows frames (tree.Cast operand kind place)).names ≡ None
names_Cast frames operand None place = names_Untyped frames operand place
names_Cast frames operand (Some Void) place = names_Voided frames operand place
names_Cast frames operand (Some (Value t)) place = names_Valued frames operand t place

pub rows_Postfix : (frames : Frames) (base : TypedExpression) (suffixes : List TypedSuffix)
    (place : ℕ) →
    rows frames (tree.Postfix base suffixes place) ≡ suffixed_by place frames base suffixes
rows_Postfix frames base suffixes place =
    opened frames (tree.Postfix base suffixes place)
    (TypedExpression-F.Postfix base suffixes place)
    (tree.rolls-Postfix base suffixes place)

pub suffix_Index : (frames : Frames) (index : TypedExpression) (kind : Option Kind) (place : ℕ) →
    suffix_of frames (behind.Index index kind place) ≡ TypedSuffix-F.Index
    (rows frames index) kind place
suffix_Index frames index kind place =
    opened_suffix frames (behind.Index index kind place) (TypedSuffix-F.Index index kind place)
    (behind.rolls-Index index kind place)

pub suffix_Call : (frames : Frames) (arguments : List TypedExpression) (kind : Option Kind)
    (place : ℕ) →
    suffix_of frames (behind.Call arguments kind place) ≡ TypedSuffix-F.Call (map
    (rows frames) arguments) kind place
suffix_Call frames arguments kind place =
    opened_suffix frames (behind.Call arguments kind place)
    (TypedSuffix-F.Call arguments kind place)
    (behind.rolls-Call arguments kind place)

pub suffix_Step : (frames : Frames) (operator : StepOperator) (kind : Option Kind) (place : ℕ) →
    suffix_of frames (behind.Step operator kind place) ≡ TypedSuffix-F.Step operator kind place
suffix_Step frames operator kind place =
    opened_suffix frames (behind.Step operator kind place) (TypedSuffix-F.Step operator kind place)
    (behind.rolls-Step operator kind place)

pub suffix_Skipped : (frames : Frames) (kind : Option Kind) (place : ℕ) →
    suffix_of frames (behind.Skipped kind place) ≡ TypedSuffix-F.Skipped kind place
suffix_Skipped frames kind place =
    opened_suffix frames (behind.Skipped kind place) (TypedSuffix-F.Skipped kind place)
    (behind.rolls-Skipped kind place)

-- an element as a left side, its index evaluated
pub placed_Index : (origin : ℕ) (frames : Frames) (fixes : Bool) (found : Option Meaning)
    (index : TypedExpression) (kind : Option Kind) (place : ℕ) (taken : Taken) →
    placed origin fixes (suffix_target found (suffix_of frames (behind.Index index kind place)))
    taken
    ≡ then_by (lowered frames Used index) (λ i. then_by (fixed_if origin fixes i) (λ kept.
    then_by (located found) (λ location. gives (spot.Element location kept)))) taken
unfolding lowered
placed_Index origin frames fixes found index kind place taken =
    ap (λ s. placed origin fixes (suffix_target found s) taken)
    (suffix_Index frames index kind place)

-- what `form_lowered` of src/expressions.rt proves by
pub ruleset form_lowered_rules = (
  of_Name,
  of_Number,
  of_Character,
  of_Bracketed,
  of_PrefixStep,
  of_Unary,
  of_Cast,
  of_Voided,
  of_Untyped,
  of_Chain,
  of_Conditional,
  of_Assignment,
  of_Comma,
)

-- what `placed` of src/expressions.rt proves by
pub ruleset placed_rules = (
  target_Name,
  target_Number,
  target_Character,
  target_Bracketed,
  target_PrefixStep,
  target_Unary,
  target_Cast,
  target_Chain,
  target_Conditional,
  target_Assignment,
  target_Comma,
)

-- what `suffix_placed` of src/expressions.rt proves by
pub ruleset suffix_placed_rules = (placed_Index, suffix_Call, suffix_Step, suffix_Skipped)
