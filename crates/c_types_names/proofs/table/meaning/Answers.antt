use Rattle.std.proofs.Common.{sym, subst, IfSome}
use Rattle.std.specs.declared.option.Option.{Option}
use Rattle.c_types_rules.specs.declared.meaning.Declared.{Declared}
use Rattle.c_types_names.specs.Tables.{IsCounted}
use Rattle.c_types_names.proofs.Lasts.{declared_counted}
use Rattle.c_types_names.proofs.table.meaning.Goals as goal

pub meaning_by-requires : goal.meaning_by-requires
meaning_by-requires c =
    subst (λ (held : Option Declared). IfSome held IsCounted) (sym c.in-Some.ensures)
    (declared_counted c.args.table.now.entries.items c.args.name.now c.requires.counted)
