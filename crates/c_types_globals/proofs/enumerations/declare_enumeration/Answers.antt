use Rattle.std.proofs.Common.{List, refl, ap}
use Rattle.c_types_rules.specs.declared.meaning.Entry.{Entry}
use Rattle.c_types_rules.specs.Items.{around_item}
use Rattle.c_types_globals.specs.Scopes.{before_of}
use Rattle.c_types_globals.proofs.enumerations.declare_enumeration.Goals as goal

pub returns-clause-scope : goal.returns-clause-scope
returns-clause-scope c =
    let before = before_of c.args.scope.now in
    ap (λ (names : List Entry). record before { names = names })
    (c.in_ok-read_enumeration.ensures.names (around_item before)
    (record { names_are = refl; outer_is = refl }))

pub returns-clause-first : goal.returns-clause-first
returns-clause-first c =
    c.in_ok-read_enumeration.ensures.first (around_item (before_of c.args.scope.now))
    (record { names_are = refl; outer_is = refl })
