-- Lists of precisions that differ (this project's own).
use Rattle.std.specs.Prelude.{◌≡◌, List}
use Rattle.cpa_iface.specs.declared.entries.Entry.{Entry}
use Rattle.cpa_iface.specs.declared.precisions.Precision.{Precision}
use Rattle.cpa_reached.specs.Members.{IsIn}

-- each entry has these precisions
abbrev pub HaveAll : List Precision → List Entry → Type 0
HaveAll ps xs = (e : Entry) → IsIn e xs → e.precisions ≡ ps
