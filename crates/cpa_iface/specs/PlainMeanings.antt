-- What plain analyses mean: they keep the facts which two elements have in common, cover by the
-- letter, ask for nothing, and leave elements and precisions as they are (this project's own).
use Rattle.std.specs.Prelude.{ℕ, List, Some, ⊤}
use Rattle.cpa_model.specs.declared.facts.Elem.{Elem}
use Rattle.cpa_model.specs.declared.automaton.Edge.{Edge}
use Rattle.cpa_model.specs.declared.automaton.Cfa.{Cfa}
use Rattle.cpa_model.specs.Standing.{has_facts}
use Rattle.cpa_model.specs.lemmas.StandingLaws.{has_facts-within, has_facts-same}
use Rattle.cpa_iface.specs.declared.analysis.Part.{Part}
use Rattle.cpa_iface.specs.declared.analysis.Part.TheVariants.{Store}
use Rattle.cpa_iface.specs.Meanings.{Meaning, Replies}
use Rattle.cpa_iface.specs.Common.{merged_facts, fact_count, no_precision, no_suggestion}

-- the part is another one than the store
abbrev pub IsBesideStore : Part → Type 0
IsBesideStore Store = ⊥
IsBesideStore which = ⊤

-- What is its own of a plain analysis. With no precision it is not exact on the store.
pub record PlainMeaning : Type 0 where
  pub name : List ℕ
  pub part : Part
  pub beside_store : IsBesideStore part
  pub initial : Cfa → Elem
  pub next : Elem → Edge → List Elem

-- it begins and steps so, and leaves the rest as it is
abbrev pub replies_of : PlainMeaning → Replies
replies_of own = record {
  initial = own.initial;
  first_precision = λ cfa settings. no_precision;
  transfer = λ cfa g e p. own.next e g;
  strengthen = λ cfa e others p. Some e;
  merge = λ cfa rule new old p. merged_facts rule new old;
  adjust = λ cfa e p reached place. (e, p);
  refine = λ cfa path p. p;
}

-- what the analysis means, which tells what it answers
abbrev pub meaning_of : PlainMeaning → Meaning
meaning_of own = record {
  name = own.name;
  part = own.part;
  cover = has_facts;
  height = λ cfa p. 1;
  rank = fact_count;
  suggestion = λ cfa path. Some no_suggestion;
  replies = Some (replies_of own);
  within = has_facts-within;
  same = has_facts-same;
}
