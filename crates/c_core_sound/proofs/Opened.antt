-- The rules of each form of an expression.
use Rattle.std.proofs.Common.{◌≡◌, ℕ, List, map, Option, sym, ap, ◌∙◌}
use Rattle.c_grammar_symbols.specs.declared.operators.StepOperator.{StepOperator}
use Rattle.c_types_rules.specs.declared.meaning.Kind.{Kind}
use Rattle.c_types_rules.specs.declared.typed.TypedExpression.{TypedExpression}
use Rattle.c_types_rules.specs.declared.typed.TypedExpression.{roll-TypedExpression}
use Rattle.c_types_rules.specs.declared.typed.TypedExpression.TheOpen.{TypedExpression-F}
use Rattle.c_types_rules.specs.declared.typed.TypedExpression.TheOpen.{TypedSuffix-F}
use Rattle.c_types_rules.specs.declared.typed.TypedExpression.TheFolds.{map-TypedExpression}
use Rattle.c_types_rules.specs.declared.typed.TypedExpression.TheFolds.{map-TypedSuffix}
use Rattle.c_types_rules.specs.declared.typed.TypedSuffix.{TypedSuffix, roll-TypedSuffix}
use Rattle.c_types_rules.specs.declared.typed.TypedSuffix.TheVariants as behind
use Rattle.c_core_rules.specs.Expressions.{Frames, Rows, ReadSuffix, rows, rows_step, read_suffix}
use Rattle.c_core_laws.specs.lemmas.CoreLayers.{core_suffix, open_core, open_core_suffix}

-- an expression that is made of this layer
pub opened : (frames : Frames) (e : TypedExpression)
    (x : TypedExpression-F TypedExpression TypedSuffix) → roll-TypedExpression x ≡ e →
    rows frames e
    ≡ rows_step frames (map-TypedExpression TypedExpression TypedSuffix Rows ReadSuffix
    (rows frames) (core_suffix frames) x)
opened frames e x is = ap (rows frames) (sym is) ∙ open_core frames x

opened_suffix : (frames : Frames) (s : TypedSuffix)
    (x : TypedSuffix-F TypedExpression TypedSuffix) → roll-TypedSuffix x ≡ s →
    core_suffix frames s
    ≡ read_suffix (map-TypedSuffix TypedExpression TypedSuffix Rows ReadSuffix (rows frames)
    (core_suffix frames) x)
opened_suffix frames s x is = ap (core_suffix frames) (sym is) ∙ open_core_suffix frames x

pub open_index : (frames : Frames) (index : TypedExpression) (kind : Option Kind) (place : ℕ) →
    core_suffix frames (behind.Index index kind place)
    ≡ TypedSuffix-F.Index (rows frames index) kind place
open_index frames index kind place =
    opened_suffix frames (behind.Index index kind place) (TypedSuffix-F.Index index kind place)
    (behind.rolls-Index index kind place)

pub open_call : (frames : Frames) (arguments : List TypedExpression) (kind : Option Kind)
    (place : ℕ) →
    core_suffix frames (behind.Call arguments kind place)
    ≡ TypedSuffix-F.Call (map (rows frames) arguments) kind place
open_call frames arguments kind place =
    opened_suffix frames (behind.Call arguments kind place)
    (TypedSuffix-F.Call arguments kind place) (behind.rolls-Call arguments kind place)

pub open_step : (frames : Frames) (operator : StepOperator) (kind : Option Kind) (place : ℕ) →
    core_suffix frames (behind.Step operator kind place) ≡ TypedSuffix-F.Step operator kind place
open_step frames operator kind place =
    opened_suffix frames (behind.Step operator kind place) (TypedSuffix-F.Step operator kind place)
    (behind.rolls-Step operator kind place)

pub open_skipped : (frames : Frames) (kind : Option Kind) (place : ℕ) →
    core_suffix frames (behind.Skipped kind place) ≡ TypedSuffix-F.Skipped kind place
open_skipped frames kind place =
    opened_suffix frames (behind.Skipped kind place) (TypedSuffix-F.Skipped kind place)
    (behind.rolls-Skipped kind place)
