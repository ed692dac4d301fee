use Rattle.std.proofs.Common.{sym, ap, ◌∙◌}
use Rattle.c_types_names.proofs.Lasts.{is_behind, declared_behind}
use Rattle.c_types_names.proofs.table.is_declared_from.Goals as goal

pub returns-in-Some : goal.returns-in-Some
returns-in-Some c =
    ap (is_behind c.args.outer) (c.in-Some.ensures ∙ c.requires.latest c.args.name.now)
    ∙ sym (declared_behind c.args.outer c.args.table.now.entries.items c.args.name.now)

pub returns-in-None : goal.returns-in-None
returns-in-None c =
    ap (is_behind c.args.outer) (c.in-None.ensures ∙ c.requires.latest c.args.name.now)
    ∙ sym (declared_behind c.args.outer c.args.table.now.entries.items c.args.name.now)
