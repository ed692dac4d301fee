-- Where the facts of a list stand (this project's own).
use Rattle.std.specs.Prelude.{◌<◌, ◌≤◌, ◌^◌, ⊤, List, [], ◌∷◌, length}
use Rattle.std.specs.Arc.{arc_value}
use Rattle.cpa_facts.specs.declared.fact.Fact.{Fact}
use Rattle.cpa_facts.specs.declared.place.Place.{Place}
use Rattle.cpa_facts.specs.declared.place.Place.TheVariants.{One, Few, Many}
use Rattle.cpa_facts.specs.declared.pieces.Pieces.{Pieces}
use Rattle.cpa_facts.specs.declared.pieces.Pieces.TheVariants.{Slice, Blocks}
use Rattle.cpa_facts.specs.Blocks.{joined, AreFilled}

-- the facts, wherever they stand
abbrev pub facts_at : Place → List Fact
facts_at (One it) = arc_value it ∷ []
facts_at (Few facts) = facts
facts_at (Many blocks) = joined blocks

-- the facts of the pieces
abbrev pub facts_in : Pieces → List Fact
facts_in (Slice facts) = facts.now
facts_in (Blocks blocks) = joined blocks.now

-- few facts are no more than a block has, and many can be counted
abbrev pub AreCounted : Place → Type 0
AreCounted (One it) = ⊤
AreCounted (Few facts) = length facts ≤ 16
AreCounted (Many blocks) = AreFilled blocks × (length (joined blocks) < 2 ^ 64)

-- so are those of pieces
abbrev pub AreKept : Pieces → Type 0
AreKept (Slice facts) = length facts.now ≤ 16
AreKept (Blocks blocks) = AreFilled blocks.now × (length (joined blocks.now) < 2 ^ 64)
