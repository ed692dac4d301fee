-- An object that breaks no rule of lengths has a cell at least, and no fewer cells than its list
-- has items (N12).
use Rattle.std.proofs.Common.{◌≡◌, ℕ, ◌≤◌, ℤ, pos, negsuc, Bool, true, false, not, ◌&&◌, ◌||◌, List}
use Rattle.std.proofs.Common.{[], ◌∷◌}
use Rattle.std.proofs.Common.{◌++◌, length, Option, None, Some, refl, ap, sym, subst, arith}
use Rattle.std.specs.Prelude.{int_le, int_lt, is_some, unwrap_or, option_and_then, unsigned_abs}
use Rattle.std.specs.Prelude.{if◌then◌else◌}
use Rattle.std.specs.List.{AllByRecursion}
use Rattle.std.proofs.lemmas.Int.{ints}
use Rattle.cpa_ints.specs.declared.integers.IntType.{IntType}
use Rattle.c_lexer.specs.declared.fault.Rule.TheVariants as rule
use Rattle.c_grammar_tree.specs.declared.expression.Expression.{Expression}
use Rattle.c_grammar_tree.specs.declared.declaration.Array.{Array}
use Rattle.c_grammar_tree.specs.declared.declaration.Initializer.{Initializer}
use Rattle.c_grammar_tree.specs.declared.declaration.Declarator.{Declarator}
use Rattle.c_types_rules.specs.declared.meaning.Kind.TheVariants.{Value}
use Rattle.c_types_rules.specs.declared.meaning.Entry.{Entry}
use Rattle.c_types_rules.specs.declared.meaning.Meaning.{Meaning}
use Rattle.c_types_rules.specs.declared.meaning.Meaning.TheVariants as meaning
use Rattle.c_types_rules.specs.declared.meaning.Role.TheVariants.{Valued}
use Rattle.c_types_rules.specs.Names.{Text, meaning_of}
use Rattle.c_types_rules.specs.Types.{value_kind}
use Rattle.c_types_rules.specs.Constants.{constant}
use Rattle.c_types_rules.specs.Expressions.{Use, used, reading}
use Rattle.c_types_rules.specs.ExpressionRules.{broken, at_if, use_faults, uses_faults}
use Rattle.c_types_rules.specs.Declarations.{items_of, constant_number, inconstant, length_of}
use Rattle.c_types_rules.specs.Declarations.{is_length}
use Rattle.c_types_rules.specs.Declarations.{is_longer, misfit, given_length_faults, length_faults}
use Rattle.c_types_rules.specs.Declarations.{length_uses}
use Rattle.c_types_rules.specs.Items.{Call, use_calls}
use Rattle.c_types_rules.specs.declared.TheConstants.{MAX_ELEMENTS}
use Rattle.c_core_laws.specs.lemmas.Faults.{NoFaults, none_left, none_right, not_broken}
use Rattle.c_core_sound.specs.Whole.{is_whole, whole_optional, whole_length}
use Rattle.c_core_sound.proofs.Fitting.{World}
use Rattle.c_core_sound.proofs.ReadParts.{UsesFit}
use Rattle.c_core_sound.proofs.ReadParts.{MeaningFits, broken_left, broken_right}
use Rattle.c_core_sound.proofs.ReadForms.{used_reads}
use Rattle.c_core_sound.proofs.ReadExpressions.{expression_reads, in_order_of}

-- where nothing is known, so that only types are looked at
abbrev nowhere : World
nowhere = record {
  ground = record { cells = []; calls = λ body. Unit {0}; lands = λ body. Unit {0} };
  knows = λ starts. ⊥;
}

anything_fits : (found : Option Meaning) → MeaningFits nowhere [] found
anything_fits None = tt
anything_fits (Some (meaning.Object object)) = record { begins = λ starts k. absurd k }
anything_fits (Some (meaning.Function function)) =
    λ body is calls. record { fits = λ starts k. absurd k }
anything_fits (Some (meaning.Known function)) = tt
anything_fits (Some (meaning.Enumerator value)) = λ starts k. absurd k

any_call : (calls : List Call) → AllByRecursion (λ (c : Call). Unit {0}) calls
any_call [] = tt
any_call (c ∷ calls) = (tt, any_call calls)

any_uses : (uses : List Use) → NoFaults (uses_faults uses) → UsesFit nowhere 0 uses
any_uses [] none = tt
any_uses (one ∷ uses) none =
    let rest = uses_faults uses in (
      record {
        none = none_left (use_faults one) rest none;
        calls = any_call (use_calls 0 one);
      },
      any_uses uses (none_right (use_faults one) rest none),
    )

-- an expression whose value is used has one
pub has_type : (text : Text) (names : List Entry) (e : Expression) → is_whole e ≡ true →
    NoFaults (uses_faults (used Valued (reading text names e))) →
    (t : IntType) × ((reading text names e).part.kind ≡ Some (Value t))
has_type text names e whole none =
    let r = reading text names e in
    let a = used_reads nowhere [] 0 r
    (expression_reads nowhere [] 0 text names (λ name. anything_fits (meaning_of text names name)) e
    whole) (any_uses (used Valued r) none) in
    (a.type, a.is)

-- a number of cells that is there, and not too small for so many items
abbrev pub Enough : Option ℤ → ℕ → Type 0
Enough size items =
    (1 ≤ elim size [ None ↦ 1 | Some n ↦ unsigned_abs n ])
    × (items ≤ elim size [ None ↦ 1 | Some n ↦ unsigned_abs n ])

abbrev pub items_count : Option Initializer → ℕ
items_count given = length (items_of given)

at_least_one : (n : ℕ) → int_le (pos 1) (pos n) ≡ true → 1 ≤ n
at_least_one n h = let le = in_order_of (pos 1) (pos n) h in omega (arith, ints, le)

no_fewer : (n m : ℕ) → int_lt (pos n) (pos m) ≡ false → m ≤ n
no_fewer n m h = omega (arith, ints, h)

not_longer_by : (given : Option Initializer) (n : ℤ) → int_le (pos 1) n ≡ true →
    (is_some given && int_lt n (pos (items_count given))) ≡ false →
    (1 ≤ unsigned_abs n) × (items_count given ≤ unsigned_abs n)
not_longer_by None (pos n) le h = (at_least_one n le, omega arith)
not_longer_by (Some given) (pos n) le h =
    (at_least_one n le, no_fewer n (items_count (Some given)) h)
not_longer_by given (negsuc n) le h = absurd (cc)

scalar_enough : (given : Option Initializer) →
    (is_some given && int_lt (pos 1) (pos (items_count given))) ≡ false →
    (1 ≤ 1) × (items_count given ≤ 1)
scalar_enough None h = (omega arith, omega arith)
scalar_enough (Some given) h = (omega arith, no_fewer 1 (items_count (Some given)) h)

not_not : (b : Bool) → not b ≡ false → b ≡ true
not_not true h = refl
not_not false h = absurd (cc)

first_of_two : (a b : Bool) → (a && b) ≡ true → a ≡ true
first_of_two true b h = refl
first_of_two false b h = absurd (cc)

-- a constant that is a number, by its parts
abbrev number_by : Bool → Option ℤ → Option IntType → Option ℤ
number_by impure found kind = if impure then None else option_and_then (λ t. found) kind

number_is : (impure : Bool) (found : Option ℤ) (kind : Option IntType) (t : IntType) →
    kind ≡ Some t → (impure || (is_some kind && not (is_some found))) ≡ false →
    (n : ℤ) × (number_by impure found kind ≡ Some n)
number_is true found kind t is h = absurd (cc)
number_is false None kind t is h =
    absurd (cc (ap (λ (o : Option IntType). is_some o && true) is, h))
number_is false (Some n) kind t is h =
    (n, ap (option_and_then (λ (u : IntType). Some n)) is)

given_enough : (text : Text) (names : List Entry) (declarator : Declarator) (e : Expression) →
    is_whole e ≡ true → NoFaults (uses_faults (used Valued (reading text names e))) →
    NoFaults (broken rule.N12 (given_length_faults text names declarator e)) →
    Enough (Some (unwrap_or (constant_number text names e) (pos 0)))
    (items_count declarator.initializer)
given_enough text names declarator e whole uses none =
    let r = reading text names e in
    let found = constant r.typed in
    let kind = value_kind r.part.kind in
    let t = has_type text names e whole uses in
    let typed : kind ≡ Some t.0 = ap value_kind t.1 in
    let bad = found.is_impure || (is_some kind && not (is_some found.value)) in
    let rest = misfit (constant_number text names e) r.part.place declarator in
    let n = number_is found.is_impure found.value kind t.0 typed
    (not_broken rule.N12 bad r.part.place
    (broken_left rule.N12 (inconstant text names e) rest none)) in
    let own = at_if (not (is_length n.0)) r.part.place in
    let long = at_if (is_longer n.0 declarator) declarator.name.place in
    let here : NoFaults (broken rule.N12 (own ++ long)) =
    subst (λ (o : Option ℤ). NoFaults (broken rule.N12 (misfit o r.part.place declarator))) n.1
    (broken_right rule.N12 (inconstant text names e) rest none) in
    let fits = first_of_two (int_le (pos 1) n.0) (int_le n.0 (pos MAX_ELEMENTS))
    (not_not (is_length n.0)
    (not_broken rule.N12 (not (is_length n.0)) r.part.place (broken_left rule.N12 own long here)))
    in
    subst (λ (o : Option ℤ). Enough (Some (unwrap_or o (pos 0)))
    (items_count declarator.initializer)) (sym n.1)
    (not_longer_by declarator.initializer n.0 fits
    (not_broken rule.N12 (is_longer n.0 declarator) declarator.name.place
    (broken_right rule.N12 own long here)))

list_enough : (n : ℕ) → int_le (pos 1) (pos n) ≡ true → (1 ≤ n) × (n ≤ n)
list_enough n h = (at_least_one n h, omega arith)

-- by the length of its array, if it is given
of_array : (text : Text) (names : List Entry) (declarator : Declarator) (size : Option Expression) →
    whole_optional size ≡ true →
    NoFaults (uses_faults (elim size as (λ o. List Use) [
      | None ↦ []
      | Some e ↦ used Valued (reading text names e)
    ])) →
    NoFaults (broken rule.N12 (elim size as (λ o. List ℕ) [
      | None ↦ at_if (not (is_length (pos (items_count declarator.initializer))))
          declarator.name.place
      | Some e ↦ given_length_faults text names declarator e
    ])) →
    Enough (elim size as (λ o. Option ℤ) [
      | None ↦ Some (pos (items_count declarator.initializer))
      | Some e ↦ Some (unwrap_or (constant_number text names e) (pos 0))
    ]) (items_count declarator.initializer)
of_array text names declarator None whole uses none =
    let n = items_count declarator.initializer in
    list_enough n (first_of_two (int_le (pos 1) (pos n)) (int_le (pos n) (pos MAX_ELEMENTS))
    (not_not (is_length (pos n)) (not_broken rule.N12 (not (is_length (pos n)))
    declarator.name.place none)))
of_array text names declarator (Some e) whole uses none =
    given_enough text names declarator e whole uses none

-- by the array of a declarator
enough_by : (text : Text) (names : List Entry) (declarator : Declarator) (array : Option Array) →
    whole_length array ≡ true →
    NoFaults (uses_faults (elim array as (λ o. List Use) [
      | None ↦ []
      | Some one ↦ elim one.length as (λ o. List Use) [
        | None ↦ []
        | Some e ↦ used Valued (reading text names e)
      ]
    ])) →
    NoFaults (broken rule.N12 (elim array as (λ o. List ℕ) [
      | None ↦ at_if (is_longer (pos 1) declarator) declarator.name.place
      | Some one ↦ elim one.length as (λ o. List ℕ) [
        | None ↦ at_if (not (is_length (pos (items_count declarator.initializer))))
            declarator.name.place
        | Some e ↦ given_length_faults text names declarator e
      ]
    ])) →
    Enough (elim array as (λ o. Option ℤ) [
      | None ↦ None
      | Some one ↦ elim one.length as (λ o. Option ℤ) [
        | None ↦ Some (pos (items_count declarator.initializer))
        | Some e ↦ Some (unwrap_or (constant_number text names e) (pos 0))
      ]
    ]) (items_count declarator.initializer)
enough_by text names declarator None whole uses none =
    scalar_enough declarator.initializer
    (not_broken rule.N12 (is_longer (pos 1) declarator) declarator.name.place none)
enough_by text names declarator (Some array) whole uses none =
    of_array text names declarator array.length whole uses none

-- an object has enough cells
pub enough : (text : Text) (names : List Entry) (declarator : Declarator) →
    whole_length declarator.array ≡ true → NoFaults (uses_faults
    (length_uses text names declarator)) →
    NoFaults (broken rule.N12 (length_faults text names declarator)) →
    Enough (length_of text names declarator) (items_count declarator.initializer)
enough text names declarator whole uses none =
    enough_by text names declarator declarator.array whole uses none
