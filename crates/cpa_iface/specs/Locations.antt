-- The analysis of locations (CAV 2007, section 2).
use Rattle.std.specs.Prelude.{ℕ, ◌==◌, Bool, true, List, [], ◌∷◌, codes, if◌then◌else◌}
use Rattle.std.specs.List.{list_all}
use Rattle.cpa_facts.specs.declared.fact.Fact.{Fact}
use Rattle.cpa_facts.specs.declared.fact.Fact.TheVariants.{At}
use Rattle.cpa_model.specs.declared.facts.Elem.{Elem}
use Rattle.cpa_model.specs.declared.automaton.Edge.{Edge}
use Rattle.cpa_iface.specs.declared.analysis.Part.TheVariants as part
use Rattle.cpa_iface.specs.Meanings.{Meaning}
use Rattle.cpa_iface.specs.Pins.{pin}
use Rattle.cpa_iface.specs.PlainMeanings.{PlainMeaning, meaning_of}

-- the fact does not name another point
abbrev pub names_point : ℕ → Fact → Bool
names_point point (At own) = own == point
names_point point fact = true

-- each fact on the point names this one, as also where there is no such fact
abbrev pub may_stand_at : Elem → ℕ → Bool
may_stand_at e point = list_all (names_point point) e.facts

-- the point to which the edge leads, where the element may stand at the one that it leaves
abbrev pub next_points : Elem → Edge → List Elem
next_points e g = if may_stand_at e g.from then pin g.to ∷ [] else []

-- it begins with the pin of the start, and is exact on the point
abbrev pub locations : PlainMeaning
locations = record {
  name = codes "location";
  part = part.Point;
  beside_store = tt;
  initial = λ cfa. pin cfa.start;
  next = next_points;
}

abbrev pub location : Meaning
location = meaning_of locations
