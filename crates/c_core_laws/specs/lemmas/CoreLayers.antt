-- The rules of an expression, opened at its node.
use Rattle.std.proofs.Common.{◌≡◌}
use Rattle.c_types_rules.specs.declared.typed.TypedExpression.{TypedExpression}
use Rattle.c_types_rules.specs.declared.typed.TypedExpression.{roll-TypedExpression}
use Rattle.c_types_rules.specs.declared.typed.TypedExpression.TheOpen.{TypedExpression-F}
use Rattle.c_types_rules.specs.declared.typed.TypedExpression.TheOpen.{TypedSuffix-F}
use Rattle.c_types_rules.specs.declared.typed.TypedExpression.TheFolds.{fold-TypedSuffix}
use Rattle.c_types_rules.specs.declared.typed.TypedExpression.TheFolds.{map-TypedExpression}
use Rattle.c_types_rules.specs.declared.typed.TypedExpression.TheFolds.{map-TypedSuffix}
use Rattle.c_types_rules.specs.declared.typed.TypedExpression.TheFolds.{fold-roll-TypedExpression}
use Rattle.c_types_rules.specs.declared.typed.TypedExpression.TheFolds.{fold-roll-TypedSuffix}
use Rattle.c_types_rules.specs.declared.typed.TypedSuffix.{TypedSuffix, roll-TypedSuffix}
use Rattle.c_core_rules.specs.Expressions.{Frames, Rows, ReadSuffix, rows, rows_step, read_suffix}

abbrev pub core_suffix : Frames → TypedSuffix → ReadSuffix
core_suffix frames = fold-TypedSuffix Rows ReadSuffix (rows_step frames) read_suffix

pub open_core : (frames : Frames) (x : TypedExpression-F TypedExpression TypedSuffix) →
    rows frames (roll-TypedExpression x)
    ≡ rows_step frames (map-TypedExpression TypedExpression TypedSuffix Rows ReadSuffix
    (rows frames) (core_suffix frames) x)
unfolding rows
open_core frames x = fold-roll-TypedExpression Rows ReadSuffix (rows_step frames) read_suffix x

pub open_core_suffix : (frames : Frames) (x : TypedSuffix-F TypedExpression TypedSuffix) →
    core_suffix frames (roll-TypedSuffix x)
    ≡ read_suffix (map-TypedSuffix TypedExpression TypedSuffix Rows ReadSuffix (rows frames)
    (core_suffix frames) x)
unfolding rows
open_core_suffix frames x = fold-roll-TypedSuffix Rows ReadSuffix (rows_step frames) read_suffix x
