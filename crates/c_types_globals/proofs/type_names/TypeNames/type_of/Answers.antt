-- The type at the place of the name.
use Rattle.std.specs.Str.{bytes_eq}
use Rattle.std.proofs.Common.{sym, ◌∙◌, ap}
use Rattle.c_types_rules.specs.Items.{typedef_type}
use Rattle.c_types_globals.proofs.Typed.{row_at}
use Rattle.c_types_globals.proofs.type_names.TypeNames.type_of.Goals as goal

pub returns : goal.returns
returns c = rw (c.as_slice.ensures.value, c.place_of.ensures) at c.type_at.ensures
    ∙ (sym (row_at (bytes_eq c.args.name.now) c.self.inside.names c.self.inside.types.items
    c.self.invariant)
    ∙ ap (λ rows. typedef_type rows c.args.name.now) c.self.view_is)
