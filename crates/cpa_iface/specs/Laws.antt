-- The laws that each call of an analysis keeps, one record a call (CAV 2007, section 2, and ASE
-- 2008; the refinement, exactness, widening and telling laws are this project's own). The cover law
-- stands in `Meaning`.
use Rattle.std.specs.Prelude.{◌≡◌, ◌≢◌, ℕ, ◌<◌, ◌≤◌, List, [], ◌∷◌, ◌++◌, slice_get, Option, Some}
use Rattle.std.specs.Prelude.{None, IsSomeAnd, IfSome, IsTrue, true, ◌⊎◌, ⊤}
use Rattle.std.specs.List.{AllByRecursion, Contains}
use Rattle.cpa_model.specs.declared.facts.Elem.{Elem}
use Rattle.cpa_model.specs.declared.states.State.{State}
use Rattle.cpa_model.specs.declared.automaton.Edge.{Edge}
use Rattle.cpa_model.specs.declared.automaton.Cfa.{Cfa}
use Rattle.cpa_model.specs.declared.automaton.Path.{Path}
use Rattle.cpa_model.specs.Facts.{Holds, LiesIn}
use Rattle.cpa_model.specs.Automata.{IsStateOf, StepsAlong, initial_state}
use Rattle.cpa_iface.specs.declared.analysis.Part.TheVariants as part
use Rattle.cpa_iface.specs.declared.analysis.Settings.{Settings}
use Rattle.cpa_iface.specs.declared.merging.MergeRule.{MergeRule}
use Rattle.cpa_iface.specs.declared.merging.MergeRule.TheVariants.{Sep, Widen}
use Rattle.cpa_iface.specs.declared.precisions.Precision.{Precision}
use Rattle.cpa_iface.specs.declared.entries.Entry.{Entry}
use Rattle.cpa_iface.specs.Meanings.{Meaning, Suggestion, IsWithinOn, IsShaped, AreShaped}
use Rattle.cpa_iface.specs.Meanings.{IsPrecision}
use Rattle.cpa_iface.specs.Pins.{pin_of, PinsStep, IsSettledBy, IsControlPin, TracksAll}
use Rattle.cpa_iface.specs.Pins.{MustBeExact}

-- the state lies in some element of the list
abbrev pub SomeHolds : State → List Elem → Type 0
SomeHolds s [] = ⊥
SomeHolds s (e ∷ es) = Holds e s ⊎ SomeHolds s es

-- each successor of a state of elem by the edge of this number lies in some element
abbrev pub CoversEdge : Cfa → ℕ → Elem → List Elem → Type 0
CoversEdge cfa edge elem es =
    (g : Edge) (s t : State) → slice_get cfa.edges edge ≡ Some g → Holds elem s
    → StepsAlong cfa g s t → SomeHolds t es

-- the edge of this number pins the part: of a pin it gives the pin after the step, or nothing
abbrev pub PinsEdge : Meaning → Cfa → ℕ → Elem → List Elem → Type 0
PinsEdge m cfa edge elem es =
    (g : Edge) (s : State) → slice_get cfa.edges edge ≡ Some g → IsSettledBy m.part g.act
    → IsStateOf cfa s
    → elem ≡ pin_of m.part s → PinsStep m.part cfa g s es

-- the rank of the element is at most the height for the precision
abbrev pub IsBounded : Meaning → Cfa → Elem → Precision → Type 0
IsBounded m cfa e p = m.rank cfa e ≤ m.height cfa p

-- so it is for the element and the precision that the entry has at this place
abbrev pub IsBoundedAt : Meaning → Cfa → ℕ → Entry → Type 0
IsBoundedAt m cfa place entry =
    (e : Elem) (p : Precision) → slice_get entry.elems place ≡ Some e
    → slice_get entry.precisions place ≡ Some p → IsBounded m cfa e p

-- an analysis of the store stands beside pins of points and of stacks alone
abbrev pub StandsByPins : Meaning → Cfa → List Elem → Type 0
StandsByPins m cfa others = m.part ≡ part.Store → AllByRecursion (IsControlPin cfa) others

-- the element itself, or nothing
abbrev pub IsOwnOrNone : Elem → Option Elem → Type 0
IsOwnOrNone own None = ⊤
IsOwnOrNone own (Some e) = e ≡ own

-- each item differs from all later ones
abbrev pub AreDistinct : {X : Type 0} → List X → Type 0
AreDistinct [] = ⊤
AreDistinct (x ∷ xs) = AllByRecursion (λ y. x ≢ y) xs × AreDistinct xs

-- new is old with more items behind it
abbrev pub Extends : {X : Type 0} → List X → List X → Type 0
Extends {X} old new = (more : List X) × (new ≡ old ++ more)

-- new is old with each of the items that it lacks appended once, and nothing else
pub record AppendsMissing {X : Type 0} (items old new : List X) : Type 0 where
  pub more : List X
  pub is : new ≡ old ++ more
  pub whole : AllByRecursion (Contains new) items
  pub only : AllByRecursion (λ x. Contains items x × (Contains old x → ⊥)) more
  pub once : AreDistinct more

-- the new precision is the old one with what is suggested, and nothing else
abbrev pub AppendsSuggested : Precision → Precision → Suggestion → Type 0
AppendsSuggested old new s =
    AppendsMissing s.cells old.tracked new.tracked × AppendsMissing s.preds old.preds new.preds

-- `initial`
pub record InitialLaws (m : Meaning) (cfa : Cfa) (e : Elem) : Type 0 where
  -- the shape law
  pub shaped : IsShaped cfa e
  -- the initial law
  pub holds : Holds e (initial_state cfa)
  -- the exactness law
  pub exact : m.part ≢ part.Nothing → e ≡ pin_of m.part (initial_state cfa)
  -- of the widening law, for each precision, since another call gives the one that goes with the
  -- element
  pub bounded : (p : Precision) → IsPrecision cfa p → IsBounded m cfa e p
  -- the telling law
  pub told : IfSome m.replies (λ r. e ≡ r.initial cfa)

-- `first_precision`
pub record FirstPrecisionLaws (m : Meaning) (cfa : Cfa) (settings : Settings)
    (p : Precision) : Type 0 where
  -- the shape law
  pub shaped : IsPrecision cfa p
  -- of the exactness law
  pub exact : m.part ≡ part.Store → settings.tracked_all ≡ true → settings.limit ≡ 0
      → TracksAll cfa p
  -- the telling law
  pub told : IfSome m.replies (λ r. p ≡ r.first_precision cfa settings)

-- `transfer`
pub record TransferLaws (m : Meaning) (cfa : Cfa) (edge : ℕ) (elem : Elem) (p : Precision)
    (es : List Elem) : Type 0 where
  -- the shape law
  pub shaped : AreShaped cfa es
  -- the transfer law
  pub covers : CoversEdge cfa edge elem es
  -- the exactness law
  pub exact : MustBeExact m.part cfa p → PinsEdge m cfa edge elem es
  -- of the widening law
  pub bounded : IsBounded m cfa elem p → AllByRecursion (λ e. IsBounded m cfa e p) es
  -- the telling law
  pub told : IfSome m.replies (λ r. (g : Edge) → slice_get cfa.edges edge ≡ Some g
      → es ≡ r.transfer cfa g elem p)

-- `strengthen`
pub record StrengthenLaws (m : Meaning) (cfa : Cfa) (own : Elem) (others : List Elem)
    (p : Precision) (result : Option Elem) : Type 0 where
  -- the shape law
  pub shaped : IfSome result (IsShaped cfa)
  -- the strengthening law
  pub keeps : (s : State) → IsStateOf cfa s → Holds own s → LiesIn s others
      → IsSomeAnd result (λ e. Holds e s)
  -- the exactness law, among any others for the point and for the stack, among pins of these for
  -- the store
  pub exact : MustBeExact m.part cfa p → StandsByPins m cfa others → IsOwnOrNone own result
  -- of the widening law
  pub bounded : IsBounded m cfa own p → IfSome result (λ e. IsBounded m cfa e p)
  -- the telling law
  pub told : IfSome m.replies (λ r. result ≡ r.strengthen cfa own others p)

-- `merge`
pub record MergeLaws (m : Meaning) (cfa : Cfa) (rule : MergeRule) (new old : Elem) (p : Precision)
    (merged : Elem) : Type 0 where
  -- the shape law
  pub shaped : IsShaped cfa merged
  -- the merge law
  pub covers_old : IsWithinOn cfa old merged
  pub sep : rule ≡ Sep → merged ≡ old
  -- the widening law
  pub covers_new : rule ≡ Widen → IsWithinOn cfa new merged
  pub covered : rule ≡ Widen → IsTrue (m.cover new merged)
  pub falls : rule ≡ Widen → merged ≢ old → m.rank cfa merged < m.rank cfa old
  pub bounded : IsBounded m cfa new p → IsBounded m cfa old p → IsBounded m cfa merged p
  -- the telling law
  pub told : IfSome m.replies (λ r. merged ≡ r.merge cfa rule new old p)

-- `adjust`, which gives an element and the precision that goes with it
pub record AdjustLaws (m : Meaning) (cfa : Cfa) (elem : Elem) (p : Precision) (reached : List Entry)
    (place : ℕ) (after : Elem) (next : Precision) : Type 0 where
  -- the shape law
  pub shaped : IsShaped cfa after
  pub shaped_precision : IsPrecision cfa next
  -- the adjustment law
  pub covers : IsWithinOn cfa elem after
  -- the exactness law
  pub exact : MustBeExact m.part cfa p → after ≡ elem
  pub exact_precision : m.part ≡ part.Store → TracksAll cfa p → next ≡ p
  -- of the widening law
  pub bounded : IsBounded m cfa elem p → AllByRecursion (IsBoundedAt m cfa place) reached
      → IsBounded m cfa after next
  -- the telling law
  pub told : IfSome m.replies (λ r. (after ≡ (r.adjust cfa elem p reached place).0)
      × (next ≡ (r.adjust cfa elem p reached place).1))

-- `refine`
pub record RefineLaws (m : Meaning) (cfa : Cfa) (path : Path) (old new : Precision) : Type 0 where
  -- the shape law
  pub shaped : IsPrecision cfa new
  -- the refinement law
  pub limit : new.limit ≡ old.limit
  pub tracked : Extends old.tracked new.tracked
  pub preds : Extends old.preds new.preds
  pub suggested : IfSome (m.suggestion cfa path) (AppendsSuggested old new)
  -- the telling law
  pub told : IfSome m.replies (λ r. new ≡ r.refine cfa path old)
