-- A search, turn after turn and round after round: the algorithm CPA+ of ASE 2008 from the first
-- entry on. That a path without a run refines the precisions, and where a round then begins, is
-- this project's own.
use Rattle.std.specs.Prelude.{◌≡◌, ℕ, zero, suc, ◌-◌, ◌<◌, Bool, true, false, List, [], ◌∷◌, ◌++◌}
use Rattle.std.specs.Prelude.{length, Some}
use Rattle.cpa_model.specs.declared.automaton.Cfa.{Cfa}
use Rattle.cpa_model.specs.declared.automaton.Path.{Path}
use Rattle.cpa_model.specs.declared.facts.Elem.{Elem}
use Rattle.cpa_iface.specs.declared.analysis.Settings.{Settings}
use Rattle.cpa_iface.specs.declared.entries.Entry.{Entry}
use Rattle.cpa_iface.specs.declared.entries.Refined.{Refined}
use Rattle.cpa_iface.specs.declared.precisions.Precision.{Precision}
use Rattle.cpa_composite.specs.Components.{Component}
use Rattle.cpa_composite.specs.Keys.{key_places}
use Rattle.cpa_composite.specs.Laws.{InitialRow, RefinedRow, SuggestionsStand}
use Rattle.cpa_config.specs.declared.config.Config.{Config}
use Rattle.cpa_folds.specs.Along.{acts_along}
use Rattle.cpa_reached.specs.Calls.{begun, indexed}
use Rattle.cpa_reached.specs.Entries.{ReachedSet}
use Rattle.cpa_reached.specs.Members.{IsIn}
use Rattle.cpa_reached.specs.Paths.{IsPathTo}
use Rattle.cpa_engine_turn.specs.Turns.{Turned}
use Rattle.cpa_engine_rounds.specs.Clearing.{BeginsBelow}
use Rattle.cpa_engine_rounds.specs.Errors.{NoneErr, first_error}
use Rattle.cpa_engine_rounds.specs.Pivots.{acts_before, new_of}
use Rattle.cpa_engine_rounds.specs.Precisions.{HaveAll}
use Rattle.cpa_engine.specs.Kept.{IsRefuted}

-- Where a search stands: the reached set, the newest precisions, the paths that had no run, each
-- with the precisions to which it led, and whether a round began at the root again since these
-- precisions are the newest.
pub record Position : Type 0 where
  pub reached : ReachedSet
  pub newest : List Precision
  pub history : List Refined
  pub again : Bool

-- ---- paths

-- The path leads to the first entry that may be an error.
pub record LeadsToError (cfa : Cfa) (r : ReachedSet) (path : Path) : Type 0 where
  pub number : ℕ
  pub least : first_error cfa r.live ≡ Some number
  pub way : IsPathTo r.live number path.edges

-- The entry of the second number is the parent of that of the first.
pub record IsParent (xs : List Entry) (n p : ℕ) : Type 0 where
  pub entry : Entry
  pub edge : ℕ
  pub is_in : IsIn entry xs
  pub number : entry.number ≡ n
  pub parent : entry.parent ≡ Some (p, edge)

-- from the first number so many parents lead up to the second
abbrev pub LeadsUp : List Entry → ℕ → ℕ → ℕ → Type 0
LeadsUp xs n zero m = n ≡ m
LeadsUp xs n (suc count) m = (p : ℕ) × IsParent xs n p × LeadsUp xs p count m

-- how many edges of the path come before the pivot: those before the first that may write a cell
-- which the new precisions keep and the old ones do not
abbrev pub before_pivot : Cfa → Path → List Precision → List Precision → ℕ
before_pivot cfa path old new =
    acts_before (length cfa.cells) (new_of (length cfa.cells) old new) (acts_along cfa path.edges)

-- ---- the steps of a search

-- One entry waits, with the elements and the precisions with which the analyses begin. Entries are
-- indexed by the elements that tell them apart.
pub record Begins (cfa : Cfa) (cs : List Component) (settings : Settings) (p : Position) : Type 0
  where
    pub elems : List Elem
    pub row : InitialRow cs cfa settings elems p.newest
    pub reached : p.reached ≡ indexed (begun elems p.newest) (key_places cs)
    pub history : p.history ≡ []
    pub again : p.again ≡ false

-- A turn is done, where no entry may be an error, and the round has had fewer turns than it may.
pub record TakesTurn (cfa : Cfa) (cs : List Component) (config : Config) (p q : Position) : Type 0
  where
    pub none_err : NoneErr cfa p.reached.live
    pub fewer : length p.reached.journal < config.turns
    pub turned : Turned cfa cs config.order p.reached q.reached
    pub same : q ≡ record p { reached = q.reached }

-- A round begins with longer precisions: the path to the first entry that may be an error has no
-- run, and leads to them. It begins below the pivot, and the history has one refinement more.
pub record BeginsRefined (cfa : Cfa) (cs : List Component) (config : Config) (p q : Position)
    : Type 0 where
  pub path : Path
  pub leads : LeadsToError cfa p.reached path
  pub refuted : IsRefuted cfa cs config.settings path
  pub fewer : length p.history < config.rounds
  pub refined : RefinedRow cs cfa path p.newest q.newest
  pub pivot : ℕ
  pub above : LeadsUp p.reached.live leads.number
      (length path.edges - before_pivot cfa path p.newest q.newest) pivot
  pub begins : BeginsBelow pivot q.newest p.reached q.reached
  pub history : q.history ≡ p.history ++ record { path = path; precisions = q.newest } ∷ []
  pub again : q.again ≡ false

-- A round begins again at the root with the same newest precisions, once: the path to the first
-- entry that may be an error has no run, they have all that is suggested for it, and some entry has
-- others.
pub record BeginsAgain (cfa : Cfa) (cs : List Component) (config : Config) (p q : Position)
    : Type 0 where
  pub path : Path
  pub leads : LeadsToError cfa p.reached path
  pub refuted : IsRefuted cfa cs config.settings path
  pub fewer : length p.history < config.rounds
  pub stand : SuggestionsStand cfa path cs p.newest
  pub other : HaveAll p.newest p.reached.live → ⊥
  pub first : p.again ≡ false
  pub root : ℕ
  pub above : LeadsUp p.reached.live leads.number (length path.edges) root
  pub begins : BeginsBelow root p.newest p.reached q.reached
  pub same : q ≡ record p { reached = q.reached; again = true }

-- A search comes to the position: it begins there, or a step leads there from a position to which
-- it came.
pub data ComesTo (cfa : Cfa) (cs : List Component) (config : Config) : Position → Type 0 where
  at_first : (p : Position) → Begins cfa cs config.settings p → ComesTo cfa cs config p
  by_turn : (p q : Position) → ComesTo cfa cs config p → TakesTurn cfa cs config p q
      → ComesTo cfa cs config q
  by_refinement : (p q : Position) → ComesTo cfa cs config p → BeginsRefined cfa cs config p q
      → ComesTo cfa cs config q
  once_more : (p q : Position) → ComesTo cfa cs config p → BeginsAgain cfa cs config p q
      → ComesTo cfa cs config q

-- A search came to the position, and the path leads to the first entry there that may be an error.
pub record FindsPath (cfa : Cfa) (cs : List Component) (config : Config) (p : Position)
    (path : Path) : Type 0 where
  pub comes : ComesTo cfa cs config p
  pub leads : LeadsToError cfa p.reached path
