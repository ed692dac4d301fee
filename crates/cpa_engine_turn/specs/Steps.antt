-- The steps of which a turn is a chain, and what is known of a stage. Nothing here is promised to a
-- caller.
use Rattle.std.specs.Prelude.{◌≡◌, ℕ, ◌+◌, ◌<◌, ◌≤◌, true, false, List, [], ◌∷◌, ◌++◌, length, ◌⊎◌}
use Rattle.std.specs.Prelude.{Some, slice_get}
use Rattle.std.specs.List.{AllByRecursion, remove}
use Rattle.cpa_model.specs.declared.automaton.Cfa.{Cfa}
use Rattle.cpa_model.specs.declared.facts.Elem.{Elem}
use Rattle.cpa_model.specs.declared.states.State.{State}
use Rattle.cpa_model.specs.Automata.{EdgeStep}
use Rattle.cpa_model.specs.Facts.{LiesIn}
use Rattle.cpa_iface.specs.declared.entries.Entry.{Entry}
use Rattle.cpa_iface.specs.declared.merging.MergeRule.TheVariants.{Sep}
use Rattle.cpa_iface.specs.declared.precisions.Precision.{Precision}
use Rattle.cpa_composite.specs.Components.{Component, AreElems, ArePrecisions}
use Rattle.cpa_composite.specs.Covers.{all_cover}
use Rattle.cpa_composite.specs.Laws.{AgreeOnSep, MergedRow}
use Rattle.cpa_model.specs.Ascending.{AreAscending}
use Rattle.cpa_reached.specs.declared.marks.Mark.{Mark}
use Rattle.cpa_reached.specs.Marks.{IsMarkOf}
use Rattle.cpa_reached.specs.Members.{IsIn}
use Rattle.cpa_reached.specs.Entries.{ReachedSet, IsLive, numbers}
use Rattle.cpa_reached.specs.Calls.{closed, rename}
use Rattle.cpa_reached.specs.Successors.{LiesInNamed}
use Rattle.cpa_engine_turn.specs.declared.work.Work.{Work}
use Rattle.cpa_engine_turn.specs.Keys.{key_of, WidenBesideKeys, CoversKey, rows_of}
use Rattle.cpa_engine_turn.specs.Stages.{Stage, taking, noting, adding, replacing_at}
use Rattle.cpa_engine_turn.specs.Turns.{LiesInEntry}

-- Numbers ascend, and are used up.
pub record IsOrdered (r : ReachedSet) : Type 0 where
  pub ascend : AreAscending (numbers r.live)
  pub below : AllByRecursion (λ n. n < r.next) (numbers r.live)

abbrev pub stage : ReachedSet → Work → Stage
stage r w = record { reached = r; row = w.row; current = w.current }

-- a turn that has taken the entry of this number
abbrev pub begun : ℕ → Work
begun n = record { row = record { taken = n; added = []; replaced = [] }; current = n }

-- the row names one more entry that was added
abbrev pub with_added : ℕ → Work → Work
with_added n w = record w { row = record w.row { added = w.row.added ++ n ∷ [] } }

-- the row names one more pair, whose second number stands for the first
abbrev pub with_replaced : ℕ → ℕ → Work → Work
with_replaced old next w = record {
  row = record w.row { replaced = w.row.replaced ++ (old, next) ∷ [] };
  current = rename old next w.current;
}

-- The numbers after a comparison with that at a place: they are the same, and the next place is
-- one more; or that one is gone, another one is the last, and the place is the same.
pub record MovesOn (old new : List ℕ) (place next : ℕ) : Type 0 where
  pub step : ((next ≡ place + 1) × (new ≡ old))
      ⊎ ((next ≡ place) × (n : ℕ) × (new ≡ remove old place ++ n ∷ []))

-- so they are, whatever the next place is
abbrev pub MovesFrom : List ℕ → List ℕ → ℕ → Type 0
MovesFrom old new place = (next : ℕ) × MovesOn old new place next

-- From a place on the numbers are these, and maybe more.
pub record LeftAt (ns : List ℕ) (place : ℕ) (todo : List ℕ) : Type 0 where
  pub front : List ℕ
  pub behind : List ℕ
  pub is : ns ≡ front ++ (todo ++ behind)
  pub size : length front ≡ place

-- The mark is that of the row, and of an element that is kept apart.
pub record IsApartBy (cs : List Component) (row : List Elem) (m : Mark) : Type 0 where
  pub marked : IsMarkOf m row
  pub component : Component
  pub there : slice_get cs m.place ≡ Some component
  pub rule : component.rule ≡ Sep

-- The second row does not cover the first one, nor agrees with it where elements are kept apart.
pub record StandsApart (cs : List Component) (row other : List Elem) : Type 0 where
  pub uncovered : all_cover cs row other ≡ false
  pub differs : AgreeOnSep cs row other → ⊥

-- the entry of the number stands apart from the row
abbrev pub IsOff : List Component → List Elem → List Entry → ℕ → Type 0
IsOff cs row xs n = (e : Entry) → IsIn e xs → e.number ≡ n → StandsApart cs row e.elems

-- An entry of the list has the number and the elements of this one.
pub record HasSame (xs : List Entry) (e : Entry) : Type 0 where
  pub entry : Entry
  pub is_in : IsIn entry xs
  pub number : entry.number ≡ e.number
  pub elems : entry.elems ≡ e.elems

-- Each entry of a number that was given out before has the elements that it had then.
pub record StaysSo (old new : ReachedSet) : Type 0 where
  pub next : old.next ≤ new.next
  pub there : (e : Entry) → IsIn e new.live → e.number < old.next → HasSame old.live e

-- A live entry is noted as one that covers a successor.
pub record NotesUse (a b : Stage) : Type 0 where
  pub by : ℕ
  pub live : IsLive a.reached.live by
  pub is : b ≡ noting by a

-- A row of elements that no live entry of its key covers is added.
pub record AddsRow (cfa : Cfa) (cs : List Component) (a b : Stage) : Type 0 where
  pub elems : List Elem
  pub precisions : List Precision
  pub edge : ℕ
  pub are_elems : AreElems cfa (length cs) elems
  pub are_precisions : ArePrecisions cfa (length cs) precisions
  pub is_edge : edge < length cfa.edges
  pub uncovered : (e : Entry) → IsIn e a.reached.live → key_of cs elems ≡ key_of cs e.elems
      → all_cover cs elems e.elems ≡ false
  pub compared : WidenBesideKeys cs → AllByRecursion (CoversKey cs elems) (rows_of a.reached.live)
  pub is : b ≡ adding elems precisions edge a

-- What a merge makes of a live entry and a successor takes its place.
pub record ReplacesEntry (cfa : Cfa) (cs : List Component) (a b : Stage) : Type 0 where
  pub entry : Entry
  pub is_in : IsIn entry a.reached.live
  pub successor : List Elem
  pub precisions : List Precision
  pub elems : List Elem
  pub are_successor : AreElems cfa (length cs) successor
  pub are_old : AreElems cfa (length cs) entry.elems
  pub are_precisions : ArePrecisions cfa (length cs) precisions
  pub merged : MergedRow cs cfa successor entry.elems precisions elems
  pub is : b ≡ replacing_at entry.number elems a

abbrev pub Does : Cfa → List Component → Stage → Stage → Type 0
Does cfa cs a b = NotesUse a b ⊎ AddsRow cfa cs a b ⊎ ReplacesEntry cfa cs a b

-- By such steps the one stage leads to the other.
pub data Leads (cfa : Cfa) (cs : List Component) (a : Stage) : Stage → Type 0 where
  stays : (b : Stage) → b ≡ a → Leads cfa cs a b
  goes_on : (m b : Stage) → Leads cfa cs a m → Does cfa cs m b → Leads cfa cs a b

-- The entry that stands for the taken one waits, or uses an entry in which the state lies.
pub record IsServed (t : State) (a : Stage) : Type 0 where
  pub entry : Entry
  pub is_in : IsIn entry a.reached.live
  pub number : entry.number ≡ a.current
  pub serves : (entry.waiting ≡ true) ⊎ LiesInNamed t entry.uses a.reached.live

-- The state lies in a live entry, and what stands for the taken entry waits or uses one.
pub record IsPlaced (t : State) (a : Stage) : Type 0 where
  pub lies : LiesInEntry t a.reached.live
  pub served : IsServed t a

-- what stands for the taken entry is there
abbrev pub HasCurrent : Stage → Type 0
HasCurrent a = IsLive a.reached.live a.current

-- The turn on the entry of this number goes on to a last stage, in which each successor of a state
-- of that entry is placed, and closes its row.
pub record GoesOn (cfa : Cfa) (cs : List Component) (n : ℕ) (old new : ReachedSet) : Type 0 where
  pub ordered : IsOrdered old
  pub last : Stage
  pub leads : Leads cfa cs (taking old n) last
  pub placed : (e : Entry) (s t : State) → IsIn e old.live → e.number ≡ n → LiesIn s e.elems
      → EdgeStep cfa s t → IsPlaced t last
  pub closed : new ≡ closed last.reached last.row
