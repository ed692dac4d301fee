-- What an act leaves of bounds, beside the stores to which its step leads. The record is the
-- contract of the law of src/laws.rt; the lemma below it is its proof.
use Rattle.std.specs.Prelude.{ℤ, List, IfSome, IsSomeAnd}
use Rattle.cpa_model.specs.declared.automaton.Act.{Act}
use Rattle.cpa_model.specs.declared.automaton.Cfa.{Cfa}
use Rattle.cpa_model.specs.Acts.{IsActOf}
use Rattle.cpa_model.specs.Expressions.{types_of}
use Rattle.cpa_model.specs.Steps.{StepsStore}
use Rattle.cpa_folds.specs.lemmas.ScalarReads.{StaysInRange}
use Rattle.cpa_interval_bounds.specs.declared.bounds.Bounds.{Bounds}
use Rattle.cpa_interval_bounds.specs.ExpressionBounds.{AreOf, LieWithin}
use Rattle.cpa_interval_acts.specs.Acts.{after_act}
use Rattle.cpa_interval_acts.specs.lemmas.ActLemmas.{act_lies, act_are}

-- From bounds of the types of the cells an act of the automaton leaves bounds of these types, if
-- any; and where its step leads from a store within the bounds to another, it leaves bounds that
-- have the other store's values.
pub record BoundsFollowActs : Type 0 where
  pub typed : (cfa : Cfa) (act : Act) (all : List Bounds) → IsActOf cfa act
      → AreOf (types_of cfa.cells) all
      → IfSome (after_act cfa.cells act all) (AreOf (types_of cfa.cells))
  pub lie : (cfa : Cfa) (act : Act) (all : List Bounds) (old new : List ℤ) → IsActOf cfa act
      → AreOf (types_of cfa.cells) all → LieWithin all old → StepsStore cfa.cells act old new
      → IsSomeAnd (after_act cfa.cells act all) (λ left. LieWithin left new)

pub bounds_follow_acts : StaysInRange → BoundsFollowActs
bounds_follow_acts stays = record {
  typed = λ cfa act all sound are. act_are cfa act all sound are;
  lie = λ cfa act all old new sound are lie steps.
      act_lies stays cfa act all old new sound are lie steps;
}
