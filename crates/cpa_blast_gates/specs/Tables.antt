-- What a table of gates keeps beside them (this project's own): the place of each gate, by the
-- gate, found by hash.
use Rattle.std.specs.Prelude.{◌≡◌, ◌<◌, List, length, reverse}
use Rattle.std.specs.HashMap.{get}
use Rattle.cpa_blast_gates.specs.declared.gate.Gate.{Gate}
use Rattle.cpa_blast_gates.specs.declared.table.Table.{Table}
use Rattle.cpa_blast_gates.specs.declared.table.TheConstants.{MOST_VARIABLES}
use Rattle.cpa_blast_gates.specs.Nets.{same_gate, place_of}

-- the gates, the newest one first
abbrev pub net_of : Table → List Gate
net_of table = reverse table.gates.items

pub record IsTable (table : Table) : Type 0 where
  pub indexed : (g : Gate) → get same_gate table.places g ≡ place_of (net_of table) g
  pub few : length table.gates.items < MOST_VARIABLES
