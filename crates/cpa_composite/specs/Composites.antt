-- A composite, as contracts see it (this project's own).
use Rattle.std.specs.Prelude.{List, map}
use Rattle.cpa_iface.specs.declared.analysis.Analysis.{Ghosts}
use Rattle.cpa_composite.specs.Components.{Component, picked}
use Rattle.cpa_composite.specs.declared.composite.Composite.{Composite}

-- its components
abbrev pub components : {A : Type 0} {G : Ghosts A} → Composite A G → List Component
components {A} {G} c = picked (map G.meaning c.handed.items) c.picks.items
