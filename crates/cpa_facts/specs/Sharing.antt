-- What a list holds that its copies share (this project's own).
use Rattle.std.specs.Prelude.{List, [], Option, Some, None}
use Rattle.std.specs.Arc.{arc_value}
use Rattle.std.specs.declared.alloc.Global.{Global}
use Rattle.std.specs.declared.sync.Arc.{Arc}

-- the items, where there are any
abbrev pub shared_items : {T : Type 0} → Option (Arc (List T) Global) → List T
shared_items None = []
shared_items (Some it) = arc_value it
