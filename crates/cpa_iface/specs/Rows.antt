-- The items of a row that entries may share (this project's own).
use Rattle.std.specs.Prelude.{List}
use Rattle.std.specs.Arc.{arc_value}
use Rattle.cpa_iface.specs.declared.rows.Place.{Place}
use Rattle.cpa_iface.specs.declared.rows.Place.TheVariants.{Own, Common}

-- the items, wherever they stand
abbrev pub row_items : {T : Type 0} → Place T → List T
row_items (Own items) = items
row_items (Common it) = arc_value it
