-- The fact at the place of the cell says what all say of it.
use Rattle.cpa_value_changes.proofs.TableLemmas.{found}
use Rattle.cpa_value_changes.proofs.table.value_among.Goals as goal

pub returns : goal.returns
returns c =
    found c.args._count c.args.cell c.place_of.result c.args.facts.now _ c.own_value.result
    c.requires (c.place_of.ensures c.args._count c.requires) c.get.ensures c.own_value.ensures
