use Rattle.std.proofs.Common.{◌≡◌, map, subst}
use Rattle.std.specs.Prelude.{IfOk, IfErr}
use Rattle.std.specs.String.{string_bytes}
use Rattle.toml.specs.View.{table_view}
use Rattle.cpa_config.specs.Configurations.{IsConfig, IsTableCause, table_of}
use Rattle.cpa_config.specs.Rules.{Table, at}
use Rattle.cpa_config.proofs.reading.complete.Goals as goal
use mathlib.Core.Path.{fun_ext}

pub returns-clause-given : goal.returns-clause-given
returns-clause-given c =
    let handed = map string_bytes c.args.handed.now in
    let whole : at (table_view c.add_default.new.table)
    ≡ table_of handed (table_view c.args.table) =
    fun_ext (λ key. c.in_ok-add_default.ensures key) in
    subst (λ (table : Table). IfOk c.settle.result (IsConfig handed table)) whole
    c.settle.ensures.given

pub returns-clause-refused : goal.returns-clause-refused
returns-clause-refused c =
    let handed = map string_bytes c.args.handed.now in
    let whole : at (table_view c.add_default.new.table)
    ≡ table_of handed (table_view c.args.table) =
    fun_ext (λ key. c.in_ok-add_default.ensures key) in
    subst (λ (table : Table). IfErr c.settle.result (IsTableCause handed table)) whole
    c.settle.ensures.refused
