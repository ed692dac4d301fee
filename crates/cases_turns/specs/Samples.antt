-- Four analyses for rows: one that knows nothing, one that guesses, one that counts, and one that
-- asks for more after each path (this project's own).
use Rattle.std.specs.Prelude.{◌≡◌, ℕ, pos, [], ◌∷◌, ◌++◌, None, codes}
use Rattle.cpa_ints.specs.declared.integers.IntType.TheVariants.{I32, U32}
use Rattle.cpa_expr.specs.declared.tree.Expr.{Expr}
use Rattle.cpa_expr.specs.declared.tree.Expr.TheVariants.{Const}
use Rattle.cpa_expr.specs.Values.{is_nonzero}
use Rattle.cpa_facts.specs.declared.fact.Fact.TheVariants.{Truth}
use Rattle.cpa_model.specs.declared.facts.Elem.{Elem}
use Rattle.cpa_model.specs.declared.states.State.{State}
use Rattle.cpa_model.specs.Facts.{Holds}
use Rattle.cpa_model.specs.Standing.{has_facts}
use Rattle.cpa_model.specs.lemmas.StandingLaws.{has_facts-within, has_facts-same}
use Rattle.cpa_iface.specs.declared.analysis.Part.TheVariants as part
use Rattle.cpa_iface.specs.declared.precisions.Precision.{Precision}
use Rattle.cpa_iface.specs.Common.{fact_count}
use Rattle.cpa_iface.specs.Meanings.{Meaning}
use Rattle.cpa_iface.specs.PlainMeanings.{PlainMeaning, meaning_of}

-- the element without facts
abbrev pub no_facts : Elem
no_facts = record { facts = [] }

-- exact on nothing
abbrev pub blinds : PlainMeaning
blinds = record {
  name = codes "blind";
  part = part.Nothing;
  beside_store = tt;
  initial = λ cfa. no_facts;
  next = λ e g. no_facts ∷ [];
}

abbrev pub blind : Meaning
blind = meaning_of blinds

-- exact on nothing; it tells neither a suggestion nor what it answers
abbrev pub guess : Meaning
guess = record {
  name = codes "guess";
  part = part.Nothing;
  cover = has_facts;
  height = λ cfa p. 1;
  rank = fact_count;
  suggestion = λ cfa path. None;
  replies = None;
  within = has_facts-within;
  same = has_facts-same;
}

-- the element of a number: that it is not 0, or that it is
abbrev pub count : ℕ → Elem
count n = record { facts = Truth (Const U32 (pos n)) (is_nonzero (pos n)) ∷ [] }

-- the same, of elements that all differ
abbrev pub counter : Meaning
counter = record {
  name = codes "counter";
  part = part.Nothing;
  cover = has_facts;
  height = λ cfa p. 1;
  rank = fact_count;
  suggestion = λ cfa path. None;
  replies = None;
  within = has_facts-within;
  same = has_facts-same;
}

-- exact on nothing; it tells neither a suggestion nor what it answers
abbrev pub eager : Meaning
eager = record {
  name = codes "eager";
  part = part.Nothing;
  cover = has_facts;
  height = λ cfa p. 1;
  rank = fact_count;
  suggestion = λ cfa path. None;
  replies = None;
  within = has_facts-within;
  same = has_facts-same;
}

-- the number 1
abbrev pub one : Expr
one = Const I32 (pos 1)

-- the precision with one more predicate
abbrev pub longer_by_one : Precision → Precision
longer_by_one p = record { tracked = p.tracked; limit = p.limit; preds = p.preds ++ one ∷ [] }

-- all states of the element stand at the point
abbrev pub StandsAt : Elem → ℕ → Type 0
StandsAt e point = (s : State) → Holds e s → s.point ≡ point
