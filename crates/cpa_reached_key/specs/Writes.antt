-- What a hash is fed of a row (this project's own): points and stacks tell rows apart, other facts
-- need not.
use Rattle.std.specs.Prelude.{ℕ, List}
use Rattle.std.specs.List.{flat_map}
use Rattle.std.specs.Hash as fed
use Rattle.cpa_facts.specs.declared.fact.Fact.{Fact}
use Rattle.cpa_facts.specs.declared.fact.Fact.TheVariants.{At, Stack, Equals, Within, Truth}
use Rattle.cpa_model.specs.declared.facts.Elem.{Elem}

-- a point and a stack by their numbers, all other facts alike
abbrev pub fact_writes : Fact → List (List ℕ)
fact_writes (At point) = fed.u32 point
fact_writes (Stack sites) = fed.slice fed.u32 sites
fact_writes (Equals cell value) = fed.u8 0
fact_writes (Within cell low high) = fed.u8 0
fact_writes (Truth e holds) = fed.u8 0

abbrev pub elem_writes : Elem → List (List ℕ)
elem_writes e = flat_map fact_writes e.facts

abbrev pub row_writes : List Elem → List (List ℕ)
row_writes es = flat_map elem_writes es
