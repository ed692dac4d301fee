-- What a turn does, successor by successor: the body of the loop of CAV 2007, section 2, with the
-- adjusted precisions of ASE 2008. The row, and the number that stands for the taken entry, are
-- this project's own.
use Rattle.std.specs.Prelude.{◌≡◌, ℕ, zero, suc, ◌+◌, ◌≤◌, List, [], ◌∷◌, ◌++◌, length, ◌⊎◌}
use Rattle.std.specs.Prelude.{Option, Some, None}
use Rattle.std.specs.List.{find, filter}
use Rattle.std.specs.Option.{option_map}
use Rattle.cpa_model.specs.declared.automaton.Cfa.{Cfa}
use Rattle.cpa_model.specs.declared.facts.Elem.{Elem}
use Rattle.cpa_iface.specs.declared.entries.Entry.{Entry}
use Rattle.cpa_iface.specs.declared.entries.Turn.{Turn}
use Rattle.cpa_iface.specs.declared.precisions.Precision.{Precision}
use Rattle.cpa_composite.specs.Components.{Component}
use Rattle.cpa_composite.specs.Covers.{all_cover}
use Rattle.cpa_composite.specs.Laws.{SuccessorRows, MergedRow, AdjustedRow, AgreeOnSep, WidenCovers}
use Rattle.cpa_composite.specs.Laws.{EachMerged}
use Rattle.cpa_reached.specs.Members.{IsIn}
use Rattle.cpa_reached.specs.Entries.{ReachedSet, numbers}
use Rattle.cpa_reached.specs.Calls.{added, replaced, used, closed, rename}
use Rattle.cpa_reached_key.specs.Rows.{same_row, picked}
use Rattle.cpa_engine_turn.specs.Points.{first_point, AreEdgesFrom}

-- The reached set, the row so far, and the number that stands for the taken entry.
pub record Stage : Type 0 where
  pub reached : ReachedSet
  pub row : Turn
  pub current : ℕ

-- the entry of this number has been taken
abbrev pub taking : ReachedSet → ℕ → Stage
taking r n = record {
  reached = r;
  row = record { taken = n; added = []; replaced = [] };
  current = n;
}

-- the entry of this number is noted as one that covers a successor
abbrev pub noting : ℕ → Stage → Stage
noting by a = record a { reached = used a.reached a.current by }

-- a successor is added, below what stands for the taken entry
abbrev pub adding : List Elem → List Precision → ℕ → Stage → Stage
adding es ps edge a = record {
  reached = added a.reached es ps (a.current, edge);
  row = record a.row { added = a.row.added ++ a.reached.next ∷ [] };
  current = a.current;
}

-- a row takes the place of the entry of this number, and stands for the taken entry if that did
abbrev pub replacing_at : ℕ → List Elem → Stage → Stage
replacing_at old es a = record {
  reached = replaced a.reached old es;
  row = record a.row { replaced = a.row.replaced ++ (old, a.reached.next) ∷ [] };
  current = rename old a.reached.next a.current;
}

-- The entry stays that has the number: where those elements agree that are kept apart, each
-- analysis that widens takes the successor for covered by it, and each merges the two to what
-- stands there.
pub record Leaves (cfa : Cfa) (cs : List Component) (successor : List Elem) (ps : List Precision)
    (n : ℕ) (a b : Stage) : Type 0 where
  pub entry : Entry
  pub is_in : IsIn entry a.reached.live
  pub number : entry.number ≡ n
  pub covers : AgreeOnSep cs successor entry.elems → WidenCovers cs successor entry.elems
  pub each : AgreeOnSep cs successor entry.elems
      → EachMerged cfa cs successor entry.elems ps entry.elems
  pub is : b ≡ a

-- What merging makes of the entry and the successor takes the place of that entry.
pub record Replaces (cfa : Cfa) (cs : List Component) (successor : List Elem) (ps : List Precision)
    (n : ℕ) (a b : Stage) : Type 0 where
  pub entry : Entry
  pub is_in : IsIn entry a.reached.live
  pub number : entry.number ≡ n
  pub elems : List Elem
  pub merged : MergedRow cs cfa successor entry.elems ps elems
  pub is : b ≡ replacing_at entry.number elems a

-- the successor is compared with the entry of the number
abbrev pub Compares : Cfa → List Component → List Elem → List Precision → ℕ → Stage → Stage → Type 0
Compares cfa cs successor ps n a b =
    Leaves cfa cs successor ps n a b ⊎ Replaces cfa cs successor ps n a b

-- with the entry of each of these, one after the other
abbrev pub ComparesAll : Cfa → List Component → List Elem → List Precision → List ℕ → Stage → Stage
    → Type 0
ComparesAll cfa cs successor ps [] a b = b ≡ a
ComparesAll cfa cs successor ps (n ∷ ns) a b =
    (m : Stage) × Compares cfa cs successor ps n a m × ComparesAll cfa cs successor ps ns m b

-- the entries under a key: those that have these elements at the places of the index
abbrev pub under : ReachedSet → List Elem → List Entry
under r key = filter (λ e. same_row (picked r.places e.elems) key) r.live

-- the entries under the key of the row
abbrev pub fellows : ReachedSet → List Elem → List Entry
fellows r row = under r (picked r.places row)

-- the number of the first entry that covers the row
abbrev pub first_cover : List Component → List Elem → List Entry → Option ℕ
first_cover cs es xs = option_map (λ e. e.number) (find (λ e. all_cover cs es e.elems) xs)

-- that entry is noted, or else the successor is added
abbrev pub covered_or_added : List Elem → List Precision → ℕ → Option ℕ → Stage → Stage
covered_or_added es ps edge (Some by) a = noting by a
covered_or_added es ps edge None a = adding es ps edge a

-- One row of successors by an edge is adjusted in view of the entries that are there, compared with
-- each of those under its key in order of numbers, then covered by one of them or added.
pub record Settles (cfa : Cfa) (cs : List Component) (ps : List Precision) (edge : ℕ)
    (row : List Elem) (a b : Stage) : Type 0 where
  pub elems : List Elem
  pub precisions : List Precision
  pub adjusted : AdjustedRow cs cfa row ps a.reached.live elems precisions
  pub compared : Stage
  pub compares : ComparesAll cfa cs elems precisions (numbers (fellows a.reached elems)) a compared
  pub is : b ≡ covered_or_added elems precisions edge
      (first_cover cs elems (fellows compared.reached elems)) compared

-- each of these rows, one after the other
abbrev pub SettlesAll : Cfa → List Component → List Precision → ℕ → List (List Elem) → Stage
    → Stage → Type 0
SettlesAll cfa cs ps edge [] a b = b ≡ a
SettlesAll cfa cs ps edge (row ∷ rows) a b =
    (m : Stage) × Settles cfa cs ps edge row a m × SettlesAll cfa cs ps edge rows m b

-- The rows of successors of these elements by one edge, strengthened, are settled.
pub record Follows (cfa : Cfa) (cs : List Component) (es : List Elem) (ps : List Precision)
    (edge : ℕ) (a b : Stage) : Type 0 where
  pub rows : List (List Elem)
  pub successors : SuccessorRows cs cfa edge es ps rows
  pub settles : SettlesAll cfa cs ps edge rows a b

-- so it is with so many edges from the first one on
abbrev pub FollowsAll : Cfa → List Component → List Elem → List Precision → ℕ → ℕ → Stage → Stage
    → Type 0
FollowsAll cfa cs es ps first zero a b = b ≡ a
FollowsAll cfa cs es ps first (suc count) a b =
    (m : Stage) × FollowsAll cfa cs es ps first count a m
    × Follows cfa cs es ps (first + count) m b

-- So it is with the edges that leave the point of the first fact on one, or else with all.
pub record Expands (cfa : Cfa) (cs : List Component) (es : List Elem) (ps : List Precision)
    (a b : Stage) : Type 0 where
  pub first : ℕ
  pub count : ℕ
  pub within : first + count ≤ length cfa.edges
  pub edges : AreEdgesFrom cfa (first_point es) first count
  pub follows : FollowsAll cfa cs es ps first count a b

-- The turn on the entry of this number: it is expanded, and the row is closed in the journal.
pub record Works (cfa : Cfa) (cs : List Component) (n : ℕ) (old new : ReachedSet) : Type 0 where
  pub entry : Entry
  pub is_in : IsIn entry old.live
  pub number : entry.number ≡ n
  pub last : Stage
  pub expands : Expands cfa cs entry.elems entry.precisions (taking old n) last
  pub closed : new ≡ closed last.reached last.row
