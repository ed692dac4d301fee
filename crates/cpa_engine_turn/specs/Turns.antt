-- One turn of the algorithm, as a relation of the entries before and after it (CAV 2007, section 2:
-- the body of the loop; numbers, uses and rows of a journal are this project's own). No transfer
-- and no merge is named, and of the stop operator only its outcome.
use Rattle.std.specs.Prelude.{◌≡◌, ◌≢◌, ℕ, ◌<◌, true, false, List, [], ◌∷◌, ◌++◌, map}
use Rattle.std.specs.Prelude.{length, IfSome, ◌⊎◌}
use Rattle.std.specs.List.{AllByRecursion}
use Rattle.cpa_model.specs.declared.automaton.Cfa.{Cfa}
use Rattle.cpa_model.specs.declared.states.State.{State}
use Rattle.cpa_model.specs.Automata.{IsStateOf, EdgeStep}
use Rattle.cpa_model.specs.Facts.{LiesIn}
use Rattle.cpa_iface.specs.declared.entries.Entry.{Entry}
use Rattle.cpa_iface.specs.declared.entries.Turn.{Turn}
use Rattle.cpa_iface.specs.declared.merging.Order.{Order}
use Rattle.cpa_iface.specs.Laws.{AreDistinct}
use Rattle.cpa_composite.specs.Components.{Component, IsEntryOf}
use Rattle.cpa_composite.specs.Covers.{all_cover}
use Rattle.cpa_reached.specs.Members.{IsIn}
use Rattle.cpa_reached.specs.Entries.{ReachedSet, IsLive, IsNext}
use Rattle.cpa_reached.specs.Calls.{taken}
use Rattle.cpa_engine_turn.specs.Keys.{key_of}
use Rattle.cpa_engine_turn.specs.Stages.{Works}

-- the edge by which the entry came is one of the automaton
abbrev pub HasEdge : Cfa → Entry → Type 0
HasEdge cfa e = IfSome e.parent (λ p. p.1 < length cfa.edges)

-- Each entry has so many shaped elements and precisions, and came by an edge of the automaton.
pub record AreEntries (cfa : Cfa) (count : ℕ) (xs : List Entry) : Type 0 where
  pub each : AllByRecursion (IsEntryOf cfa count) xs
  pub edges : AllByRecursion (HasEdge cfa) xs

abbrev pub firsts : List (ℕ × ℕ) → List ℕ
firsts pairs = map (λ p. p.0) pairs

abbrev pub seconds : List (ℕ × ℕ) → List ℕ
seconds pairs = map (λ p. p.1) pairs

-- the row names the number as that of an entry that was added, or that took the place of another
abbrev pub IsNamed : Turn → ℕ → Type 0
IsNamed row n = IsIn n row.added ⊎ IsIn n (seconds row.replaced)

-- by pairs of the row, one after another, the first number leads to the second one
pub data IsFollowedBy (pairs : List (ℕ × ℕ)) (n : ℕ) : ℕ → Type 0 where
  at_once : (m : ℕ) → IsIn (n, m) pairs → IsFollowedBy pairs n m
  later : (k m : ℕ) → IsFollowedBy pairs n k → IsIn (k, m) pairs → IsFollowedBy pairs n m

-- the state lies in an entry of the list
pub record LiesInEntry (s : State) (xs : List Entry) : Type 0 where
  pub entry : Entry
  pub is_in : IsIn entry xs
  pub lies : LiesIn s entry.elems

-- the entry is there still, with the same elements; one that was not taken waits if it did
pub record Stays (row : Turn) (new : List Entry) (old : Entry) : Type 0 where
  pub entry : Entry
  pub is_in : IsIn entry new
  pub number : entry.number ≡ old.number
  pub elems : entry.elems ≡ old.elems
  pub waits : old.number ≢ row.taken → old.waiting ≡ true → entry.waiting ≡ true

-- an entry that waits and holds of all its states has taken its place
pub record IsReplaced (cfa : Cfa) (row : Turn) (new : List Entry) (old : Entry) : Type 0 where
  pub entry : Entry
  pub is_in : IsIn entry new
  pub follows : IsFollowedBy row.replaced old.number entry.number
  pub waits : entry.waiting ≡ true
  pub holds : (s : State) → IsStateOf cfa s → LiesIn s old.elems → LiesIn s entry.elems

-- the entry that was taken waited, and where it is there still it waits no longer
pub record IsTaken (old new : List Entry) (n : ℕ) : Type 0 where
  pub entry : Entry
  pub is_in : IsIn entry old
  pub number : entry.number ≡ n
  pub waited : entry.waiting ≡ true
  pub rests : (e : Entry) → IsIn e new → e.number ≡ n → e.waiting ≡ false

-- What the turn of a row makes of the entries.
pub record IsTurn (cfa : Cfa) (cs : List Component) (old new : List Entry) (row : Turn) : Type 0
  where
    -- one waiting entry is taken
    pub taken : IsTaken old new row.taken
    -- each entry is there still, or another one has taken its place
    pub entries : (e : Entry) → IsIn e old → Stays row new e ⊎ IsReplaced cfa row new e
    -- each successor of a state of the taken entry lies in an entry
    pub successors : (e : Entry) (s t : State) → IsIn e old → e.number ≡ row.taken
        → LiesIn s e.elems → EdgeStep cfa s t → LiesInEntry t new
    -- what was added waits
    pub waits : (e : Entry) → IsIn e new → IsIn e.number row.added → e.waiting ≡ true
    -- the row names each entry that was not there
    pub named : (e : Entry) → IsIn e new → IsLive old e.number ⊎ IsNamed row e.number
    -- what was replaced was there, or is named, and is gone
    pub gone : (n : ℕ) → IsIn n (firsts row.replaced) → IsLive new n → ⊥
    pub known : (n : ℕ) → IsIn n (firsts row.replaced) → IsLive old n ⊎ IsNamed row n
    -- nothing is replaced twice
    pub once : AreDistinct (firsts row.replaced)
    -- what was added is covered by no earlier entry of its key
    pub uncovered : (e f : Entry) → IsIn e new → IsIn e.number row.added → IsIn f new
        → f.number < e.number → key_of cs e.elems ≡ key_of cs f.elems
        → all_cover cs e.elems f.elems ≡ false

-- One turn on the entry that is next in the order, with its row at the end of the journal. The
-- relation, which names no transfer and no merge, and the work by which it comes.
pub record Turned (cfa : Cfa) (cs : List Component) (order : Order) (old new : ReachedSet) : Type 0
  where
    pub row : Turn
    pub next : IsNext order old.live row.taken
    pub turn : IsTurn cfa cs old.live new.live row
    -- successor by successor
    pub works : Works cfa cs row.taken (taken row.taken old) new
    pub closed : new.journal ≡ old.journal ++ row ∷ []
