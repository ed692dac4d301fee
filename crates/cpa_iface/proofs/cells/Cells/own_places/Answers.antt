-- They are no more than there are.
use Rattle.std.proofs.Common.{rules}
use Rattle.cpa_iface.specs.lemmas.CellLaws.{own_within}
use Rattle.cpa_iface.proofs.cells.Cells.own_places.Goals as goal

pub returns-clause-within : goal.returns-clause-within
returns-clause-within c = search (rules, own_within)
