-- What a table of nodes keeps beside them (this project's own): the number of each node, by the
-- node, found by hash.
use Rattle.std.specs.Prelude.{◌≡◌, ◌<◌, List, length, reverse}
use Rattle.std.specs.HashMap.{get}
use Rattle.cpa_interpolant_bits.specs.declared.nodes.Node.{Node}
use Rattle.cpa_interpolant_bits.specs.declared.table.Table.{Table}
use Rattle.cpa_interpolant_bits.specs.declared.table.TheConstants.{MOST_NODES}
use Rattle.cpa_interpolant_bits.specs.Nodes.{same_node, place_of}

-- the nodes, the newest one first
abbrev pub nodes_of : Table → List Node
nodes_of table = reverse table.nodes.items

pub record IsTable (table : Table) : Type 0 where
  pub indexed : (node : Node) → get same_node table.places node ≡ place_of (nodes_of table) node
  pub few : length table.nodes.items < MOST_NODES
