-- The entries that are told to wait again, one after the other. Nothing here is promised to a
-- caller.
use Rattle.std.specs.Prelude.{ℕ, List, if◌then◌else◌}
use Rattle.cpa_iface.specs.declared.entries.Entry.{Entry}
use Rattle.cpa_iface.specs.declared.precisions.Precision.{Precision}
use Rattle.cpa_reached.specs.Calls.{with_precisions}
use Rattle.cpa_reached.specs.Members.{is_in}

-- an entry of one of these numbers has the newest precisions
abbrev pub with_newest : List ℕ → List Precision → Entry → Entry
with_newest found newest e = if is_in e.number found then with_precisions newest e else e
