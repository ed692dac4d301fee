-- An analysis for rows (this project's own): it knows nothing, and is exact on nothing.
use Rattle.std.specs.Prelude.{[], ◌∷◌, codes}
use Rattle.cpa_model.specs.declared.facts.Elem.{Elem}
use Rattle.cpa_iface.specs.declared.analysis.Part.TheVariants as part
use Rattle.cpa_iface.specs.PlainMeanings.{PlainMeaning}

-- the element without facts
abbrev pub no_facts : Elem
no_facts = record { facts = [] }

abbrev pub blinds : PlainMeaning
blinds = record {
  name = codes "blind";
  part = part.Nothing;
  beside_store = tt;
  initial = λ cfa. no_facts;
  next = λ e g. no_facts ∷ [];
}
