-- Calls, by what is called.
use Rattle.std.proofs.Common.{◌≡◌, ℕ, ℤ, ◌<◌, ◌≤◌, List, [], ◌∷◌, ◌++◌, map, length, get_or, refl}
use Rattle.std.proofs.Common.{ap, None, Some, if◌then◌else◌, sym, arith}
use Rattle.c_types_rules.specs.declared.known.KnownFunction.{KnownFunction}
use Rattle.c_types_rules.specs.declared.known.KnownFunction.TheVariants as known
use Rattle.c_types_rules.specs.declared.meaning.Function.{Function}
use Rattle.c_types_rules.specs.declared.meaning.Meaning.TheVariants as meaning
use Rattle.c_types_rules.specs.declared.meaning.Object.{Object}
use Rattle.c_types_rules.specs.declared.typed.TypedExpression.{TypedExpression}
use Rattle.cpa_model_trees.specs.declared.tree.Head.TheVariants as head
use Rattle.c_core_rules.specs.declared.tree.Usage.{Usage}
use Rattle.c_core_rules.specs.declared.tree.Usage.TheVariants.{Unused}
use Rattle.c_core_rules.specs.declared.tree.Valued.{Valued}
use Rattle.c_core_rules.specs.Values.{int}
use Rattle.c_core_rules.specs.Trees.{leaf, pure}
use Rattle.c_core_rules.specs.Cells.{Taken, Rule, gives, then_by, each}
use Rattle.c_core_rules.specs.Acts.{kept, voided}
use Rattle.c_core_rules.specs.Expressions.{Frames, used, unused, rows, called}
use Rattle.c_lower_expressions.specs.Rows.{lowered, used_by}
use Rattle.c_lower_expressions.specs.Rows.{called_behind, known_alone, exit_of, is_exit, call_of}

used_rows : (frames : Frames) (arguments : List TypedExpression) →
    map used (map (rows frames) arguments) ≡ map (used_by frames) arguments
unfolding lowered
used_rows frames [] = refl
used_rows frames (argument ∷ arguments) =
    ap (λ rules. used (rows frames argument) ∷ rules) (used_rows frames arguments)

pub call_Function : (origin : ℕ) (frames : Frames) (usage : Usage) (function : Function)
    (arguments : List TypedExpression) (taken : Taken) →
    call_of origin frames usage (Some (meaning.Function function)) arguments taken
    ≡ then_by (each (map (used_by frames) arguments)) (called_behind origin frames usage function)
    taken
unfolding call_of called_behind
call_Function origin frames usage function arguments taken =
    ap (λ (rules : List (Rule Valued)). kept usage (called origin frames function rules) taken)
    (used_rows frames arguments)

pub call_Object : (origin : ℕ) (frames : Frames) (usage : Usage) (object : Object)
    (arguments : List TypedExpression) (taken : Taken) →
    call_of origin frames usage (Some (meaning.Object object)) arguments taken
    ≡ record { taken = taken; made = pure (int 0) }
unfolding call_of
call_Object origin frames usage object arguments taken = refl

pub call_Enumerator : (origin : ℕ) (frames : Frames) (usage : Usage) (value : ℤ)
    (arguments : List TypedExpression) (taken : Taken) →
    call_of origin frames usage (Some (meaning.Enumerator value)) arguments taken
    ≡ record { taken = taken; made = pure (int 0) }
unfolding call_of
call_Enumerator origin frames usage value arguments taken = refl

pub call_None : (origin : ℕ) (frames : Frames) (usage : Usage) (arguments : List TypedExpression)
    (taken : Taken) → call_of origin frames usage None arguments taken
    ≡ record { taken = taken; made = pure (int 0) }
unfolding call_of
call_None origin frames usage arguments taken = refl

pub call_Known : (origin : ℕ) (frames : Frames) (usage : Usage) (function : KnownFunction)
    (arguments : List TypedExpression) (taken : Taken) →
    call_of origin frames usage (Some (meaning.Known function)) arguments taken
    ≡ (if is_exit function then exit_of origin frames usage arguments
    else known_alone origin usage function) taken
unfolding call_of exit_of
call_Known origin frames usage known.ReachError arguments taken = refl
call_Known origin frames usage known.Abort arguments taken = refl
call_Known origin frames usage known.Exit arguments taken = refl
call_Known origin frames usage known.AssertFail arguments taken = refl
call_Known origin frames usage (known.Input t) arguments taken = refl

-- the status of an exit
pub exit_none : (origin : ℕ) (frames : Frames) (usage : Usage) (xs : List TypedExpression)
    (taken : Taken) →
    length xs < 1 → exit_of origin frames usage xs taken
    ≡ record { taken = taken; made = voided usage ([] ++ leaf origin head.Stop ∷ []) }
unfolding exit_of
exit_none origin frames usage [] taken h = refl
exit_none origin frames usage (x ∷ xs) taken h = absurd (omega arith)

pub exit_some : (origin : ℕ) (frames : Frames) (usage : Usage) (xs : List TypedExpression)
    (x : TypedExpression) (taken : Taken) → 1 ≤ length xs → x ≡ get_or xs 0 x →
    exit_of origin frames usage xs taken
    ≡ then_by (lowered frames Unused x) (λ status.
    gives (voided usage (status.statements ++ leaf origin head.Stop ∷ []))) taken
unfolding exit_of lowered
exit_some origin frames usage [] x taken h is = absurd (omega arith)
exit_some origin frames usage (y ∷ xs) x taken h is =
    ap (λ e. then_by (unused (rows frames e)) (λ before.
    gives (voided usage (before ++ leaf origin head.Stop ∷ []))) taken) (sym is)

-- what `call_of` of src/calls.rt proves by
pub ruleset call_of_rules = (call_Function, call_Known, call_Object, call_Enumerator, call_None)
