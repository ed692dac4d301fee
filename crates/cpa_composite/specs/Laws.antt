-- The laws of an interface of analyses, lifted to rows of elements: one record a call of a
-- composite (CAV 2007, section 4, and ASE 2008; the refinement, exactness and widening laws are
-- this project's own). A row holds of a state where each item does.
use Rattle.std.specs.Prelude.{◌≡◌, ◌≢◌, ◌≤◌, ℕ, IsTrue, List, [], ◌∷◌, ◌++◌, length, map, slice_get}
use Rattle.std.specs.Prelude.{Option, Some, None, IfSome, ◌⊎◌, Bool, false, ◌||◌, nat_lt}
use Rattle.std.specs.List.{AllByRecursion, Contains, flat_map}
use Rattle.cpa_model.specs.declared.facts.Elem.{Elem}
use Rattle.cpa_model.specs.declared.states.State.{State}
use Rattle.cpa_model.specs.declared.automaton.Cfa.{Cfa}
use Rattle.cpa_model.specs.declared.automaton.Edge.{Edge}
use Rattle.cpa_model.specs.declared.automaton.Path.{Path}
use Rattle.cpa_model.specs.Facts.{LiesIn}
use Rattle.cpa_model.specs.Covers.{LiesInSome}
use Rattle.cpa_model.specs.Automata.{IsStateOf, StepsAlong, initial_state}
use Rattle.cpa_iface.specs.declared.analysis.Settings.{Settings}
use Rattle.cpa_iface.specs.declared.entries.Entry.{Entry}
use Rattle.cpa_iface.specs.declared.merging.MergeRule.TheVariants.{Sep, Widen}
use Rattle.cpa_iface.specs.declared.precisions.Precision.{Precision}
use Rattle.cpa_iface.specs.Laws.{InitialLaws, FirstPrecisionLaws, TransferLaws, StrengthenLaws}
use Rattle.cpa_iface.specs.Laws.{MergeLaws, AdjustLaws, RefineLaws}
use Rattle.cpa_iface.specs.Meanings.{Suggestion}
use Rattle.cpa_composite.specs.Components.{Component, AreElems, ArePrecisions, StandsAt}

-- each item is what its analysis begins with
abbrev pub EachInitial : Cfa → Settings → List Component → List Elem → List Precision → Type 0
EachInitial cfa settings cs es ps =
    (i : ℕ) (c : Component) (e : Elem) (p : Precision) → StandsAt cs es ps i c e p
    → InitialLaws c.meaning cfa e × FirstPrecisionLaws c.meaning cfa settings p

-- The row holds of the initial state.
pub record InitialRow (cs : List Component) (cfa : Cfa) (settings : Settings) (es : List Elem)
    (ps : List Precision) : Type 0 where
  pub elems : AreElems cfa (length cs) es
  pub precisions : ArePrecisions cfa (length cs) ps
  pub holds : LiesIn (initial_state cfa) es
  pub each : EachInitial cfa settings cs es ps

-- each list is what the `transfer` of its analysis gives
abbrev pub EachTransfer : Cfa → ℕ → List Component → List Elem → List Precision
    → List (List Elem) → Type 0
EachTransfer cfa edge cs es ps lists =
    (i : ℕ) (c : Component) (e : Elem) (p : Precision) (list : List Elem)
    → StandsAt cs es ps i c e p → slice_get lists i ≡ Some list
    → TransferLaws c.meaning cfa edge e p list

-- All analyses were asked, so many there are; or, in their order, no more than one that gives no
-- element: there is no choice then, whatever those after it would give.
abbrev pub AreAsked : ℕ → List (List Elem) → Type 0
AreAsked many lists =
    (length lists ≡ many)
    ⊎ ((length lists ≤ many) × ((i : ℕ) × (slice_get lists i ≡ Some [])))

-- every choice of one element from each list, the last one varying fastest
abbrev pub choices : List (List Elem) → List (List Elem)
choices [] = [] ∷ []
choices (list ∷ lists) = flat_map (λ e. map (λ row. e ∷ row) (choices lists)) list

-- What the analyses from this one on make of a row, one after the other: each strengthens its
-- element among the others as they then are. None where one of them finds that no state is left.
abbrev pub Strengthens : Cfa → List Component → List Elem → List Elem → List Precision
    → Option (List Elem) → Type 0
Strengthens cfa [] before es ps result = result ≡ Some before
Strengthens cfa (c ∷ cs) before [] ps result = ⊥
Strengthens cfa (c ∷ cs) before (e ∷ es) [] result = ⊥
Strengthens cfa (c ∷ cs) before (e ∷ es) (p ∷ ps) result =
    (StrengthenLaws c.meaning cfa e (before ++ es) p None × (result ≡ None))
    ⊎ ((f : Elem) × StrengthenLaws c.meaning cfa e (before ++ es) p (Some f)
    × Strengthens cfa cs (before ++ f ∷ []) es ps result)

-- each choice gives its row, in order, or is dropped
abbrev pub EachStrengthened : Cfa → List Component → List Precision → List (List Elem)
    → List (List Elem) → Type 0
EachStrengthened cfa cs ps [] rows = rows ≡ []
EachStrengthened cfa cs ps (choice ∷ later) rows =
    (Strengthens cfa cs [] choice ps None × EachStrengthened cfa cs ps later rows)
    ⊎ ((row : List Elem) × (others : List (List Elem)) × (rows ≡ row ∷ others)
    × Strengthens cfa cs [] choice ps (Some row) × EachStrengthened cfa cs ps later others)

-- Every successor by the edge of a state of the row lies in some row.
pub record SuccessorRows (cs : List Component) (cfa : Cfa) (edge : ℕ) (es : List Elem)
    (ps : List Precision) (rows : List (List Elem)) : Type 0 where
  pub elems : AllByRecursion (AreElems cfa (length cs)) rows
  pub covers : (g : Edge) (s t : State) → slice_get cfa.edges edge ≡ Some g → LiesIn s es
      → StepsAlong cfa g s t → LiesInSome t rows
  pub lists : List (List Elem)
  pub asked : AreAsked (length cs) lists
  pub each : EachTransfer cfa edge cs es ps lists
  pub strengthened : EachStrengthened cfa cs ps (choices lists) rows

-- the elements of each analysis that keeps them apart are equal
abbrev pub AgreeOnSep : List Component → List Elem → List Elem → Type 0
AgreeOnSep cs new old =
    (i : ℕ) (c : Component) (e f : Elem) → slice_get cs i ≡ Some c → slice_get new i ≡ Some e
    → slice_get old i ≡ Some f → c.rule ≡ Sep → e ≡ f

-- each analysis that widens takes the new element for one of the old
abbrev pub WidenCovers : List Component → List Elem → List Elem → Type 0
WidenCovers cs new old =
    (i : ℕ) (c : Component) (e f : Elem) → slice_get cs i ≡ Some c → slice_get new i ≡ Some e
    → slice_get old i ≡ Some f → c.rule ≡ Widen → IsTrue (c.meaning.cover e f)

-- each element is what its analysis merges to, by its rule
abbrev pub EachMerged : Cfa → List Component → List Elem → List Elem → List Precision → List Elem
    → Type 0
EachMerged cfa cs new old ps merged =
    (i : ℕ) (c : Component) (e : Elem) (p : Precision) (f g : Elem) → StandsAt cs new ps i c e p
    → slice_get old i ≡ Some f → slice_get merged i ≡ Some g
    → MergeLaws c.meaning cfa c.rule e f p g

-- A row in the place of the old one: it holds of all states of that, and is another one.
pub record MergedRow (cs : List Component) (cfa : Cfa) (new old : List Elem) (ps : List Precision)
    (merged : List Elem) : Type 0 where
  pub elems : AreElems cfa (length cs) merged
  pub covers : (s : State) → IsStateOf cfa s → LiesIn s old → LiesIn s merged
  pub agree : AgreeOnSep cs new old
  pub differs : merged ≢ old
  pub each : EachMerged cfa cs new old ps merged

-- each element and precision is what the `adjust` of its analysis gives
abbrev pub EachAdjusted : Cfa → List Entry → List Component → List Elem → List Precision
    → List Elem → List Precision → Type 0
EachAdjusted cfa reached cs es ps after next =
    (i : ℕ) (c : Component) (e : Elem) (p : Precision) (f : Elem) (q : Precision)
    → StandsAt cs es ps i c e p → slice_get after i ≡ Some f → slice_get next i ≡ Some q
    → AdjustLaws c.meaning cfa e p reached i f q

-- The row holds of all states of the one before.
pub record AdjustedRow (cs : List Component) (cfa : Cfa) (es : List Elem) (ps : List Precision)
    (reached : List Entry) (after : List Elem) (next : List Precision) : Type 0 where
  pub elems : AreElems cfa (length cs) after
  pub precisions : ArePrecisions cfa (length cs) next
  pub covers : (s : State) → IsStateOf cfa s → LiesIn s es → LiesIn s after
  pub each : EachAdjusted cfa reached cs es ps after next

-- each precision is what the `refine` of its analysis gives
abbrev pub EachRefined : Cfa → Path → List Component → List Precision → List Precision → Type 0
EachRefined cfa path cs old new =
    (i : ℕ) (c : Component) (p q : Precision) → slice_get cs i ≡ Some c → slice_get old i ≡ Some p
    → slice_get new i ≡ Some q → RefineLaws c.meaning cfa path p q

-- one of the two lists of a precision is longer than before
abbrev pub is_longer : Precision → Precision → Bool
is_longer p q =
    nat_lt (length p.tracked) (length q.tracked) || nat_lt (length p.preds) (length q.preds)

-- some precision is longer than the old one at its place
abbrev pub some_longer : List Precision → List Precision → Bool
some_longer [] new = false
some_longer (p ∷ old) [] = false
some_longer (p ∷ old) (q ∷ new) = is_longer p q || some_longer old new

-- Each precision extends its old one, and some one is longer.
pub record RefinedRow (cs : List Component) (cfa : Cfa) (path : Path) (old new : List Precision)
    : Type 0 where
  pub precisions : ArePrecisions cfa (length cs) new
  pub each : EachRefined cfa path cs old new
  pub longer : IsTrue (some_longer old new)

-- the precision has all that is suggested
abbrev pub Keeps : Precision → Suggestion → Type 0
Keeps p s = AllByRecursion (Contains p.tracked) s.cells × AllByRecursion (Contains p.preds) s.preds

-- each suggestion that is told for the path stands whole in its precision
abbrev pub SuggestionsStand : Cfa → Path → List Component → List Precision → Type 0
SuggestionsStand cfa path cs ps =
    (i : ℕ) (c : Component) (p : Precision) → slice_get cs i ≡ Some c → slice_get ps i ≡ Some p
    → IfSome (c.meaning.suggestion cfa path) (Keeps p)
