-- What holds between turns, and what a part of a round comes to. Nothing here is promised to a
-- caller.
use Rattle.std.specs.Prelude.{◌≡◌, ℕ, ◌+◌, ◌*◌, ◌-◌, ◌<◌, ◌≤◌, true, List, [], length, ⊤}
use Rattle.std.specs.Prelude.{if◌then◌else◌, Some}
use Rattle.cpa_model.specs.declared.automaton.Cfa.{Cfa}
use Rattle.cpa_model.specs.declared.facts.Elem.{Elem}
use Rattle.cpa_model.specs.declared.states.State.{State}
use Rattle.cpa_model.specs.Automata.{initial_state}
use Rattle.cpa_iface.specs.declared.analysis.Settings.{Settings}
use Rattle.cpa_iface.specs.declared.entries.Entry.{Entry}
use Rattle.cpa_composite.specs.Components.{Component, ArePrecisions}
use Rattle.cpa_composite.specs.Exact.{BindAll, pins}
use Rattle.cpa_composite.specs.Keys.{key_places}
use Rattle.cpa_composite.specs.Ranks.{row_height}
use Rattle.cpa_config.specs.declared.config.Config.{Config}
use Rattle.cpa_reached.specs.Entries.{ReachedSet, IsNumbered, numbers, waiting_numbers}
use Rattle.cpa_model.specs.Ascending.{AreAscending}
use Rattle.cpa_reached.specs.Members.{IsIn}
use Rattle.cpa_reached.specs.Successors.{CoversSuccessors}
use Rattle.cpa_engine_turn.specs.Bounds.{turns_left, KeysBound, AreBounded, StatesBound, ArePinned}
use Rattle.cpa_engine_turn.specs.Journals.{IsJournalOf}
use Rattle.cpa_engine_turn.specs.Keys.{key_of, WidenBesideKeys, HaveOwnKeys}
use Rattle.cpa_engine_turn.specs.Turns.{AreEntries}
use Rattle.cpa_engine_laws.specs.Cells.{TellCells, all_untracked}
use Rattle.cpa_engine_laws.specs.Lines.{AreKeyLines, ArePinLines}
use Rattle.cpa_engine_rounds.specs.Errors.{may_err, first_error, NoneErr, NoneErrBelow}
use Rattle.cpa_engine.specs.declared.answers.Answer.{Answer}
use Rattle.cpa_engine.specs.declared.answers.Answer.TheVariants.{True}
use Rattle.cpa_engine.specs.declared.search.Came.{Came}
use Rattle.cpa_engine.specs.declared.search.Came.TheVariants.{Decided, Safe, Spent, Again}
use Rattle.cpa_engine.specs.declared.search.Search.{Search}
use Rattle.cpa_engine.specs.Answers.{IsAnswer, LeadTo}
use Rattle.cpa_engine.specs.Decided.{IsTurns, IsRounds}
use Rattle.cpa_engine.specs.Kept.{IsExactRun}
use Rattle.cpa_engine.specs.Rounds.{Position, ComesTo}

-- ---- the reached set

-- The keys that steps do not leave, among them that of the initial state.
pub record KeysFrom (cfa : Cfa) (cs : List Component) (keys : List (List Elem)) : Type 0 where
  pub bound : KeysBound cfa cs keys
  pub first : IsIn (key_of cs (pins cs (initial_state cfa))) keys

-- The states that steps do not leave, among them the initial one, where all is exact.
pub record StatesFrom (cfa : Cfa) (cs : List Component) (settings : Settings)
    (states : List State) : Type 0 where
  pub bound : StatesBound cfa cs states
  pub exact : IsExactRun cs settings
  pub first : IsIn (initial_state cfa) states

-- what is left of a round's turns, with those that were taken, is no more than this
abbrev pub AreLeft : Cfa → List Component → ℕ → ReachedSet → ℕ → Type 0
AreLeft cfa cs count r limit = turns_left cfa cs count r.live + length r.journal ≤ limit

-- What holds of the reached set, which is indexed by the elements that tell entries apart.
pub record Stands (cfa : Cfa) (cs : List Component) (settings : Settings) (r : ReachedSet) : Type 0
  where
    pub entries : AreEntries cfa (length cs) r.live
    pub places : r.places ≡ key_places cs
    pub covers : CoversSuccessors cfa r.live
    pub began : List ℕ
    pub journal : IsJournalOf began r
    pub own : WidenBesideKeys cs → HaveOwnKeys cs r.live
    pub lines : AreKeyLines cfa cs r.live
    pub exact : IsExactRun cs settings → ArePinLines cfa cs r.live
    pub counted : (keys : List (List Elem)) → KeysFrom cfa cs keys
        → AreBounded cfa cs keys r.live
        × AreLeft cfa cs (length keys) r (length keys * (1 + row_height cfa cs))
    pub pinned : (states : List State) → StatesFrom cfa cs settings states
        → ArePinned cfa cs states r.live × AreLeft cfa cs (length states) r (length states)

-- The first entry that may be an error has this number.
pub record IsErrorAt (cfa : Cfa) (r : ReachedSet) (n : ℕ) : Type 0 where
  pub numbered : IsNumbered r
  pub least : first_error cfa r.live ≡ Some n
  pub entry : Entry
  pub is_in : IsIn entry r.live
  pub number : entry.number ≡ n
  pub errs : may_err cfa entry.elems ≡ true

-- ---- the search

-- where it stands
abbrev pub position : Search → Position
position s =
    record { reached = s.reached; newest = s.newest; history = s.history; again = s.again }

-- How the newest precisions came.
pub record CameBy (cfa : Cfa) (cs : List Component) (config : Config) (s : Search) : Type 0 where
  pub lead : LeadTo cfa cs config.settings s.history s.newest
  pub within : length s.history ≤ config.rounds
  pub precisions : ArePrecisions cfa (length cs) s.newest
  pub binds : IsExactRun cs config.settings → BindAll cfa cs s.newest
  pub cells : TellCells cfa cs → length s.history + all_untracked (length cfa.cells) s.newest
      ≤ length cs * length cfa.cells

-- What holds of a search between turns.
pub record IsSearch (cfa : Cfa) (cs : List Component) (config : Config) (s : Search) : Type 0 where
  pub stands : Stands cfa cs config.settings s.reached
  pub came : CameBy cfa cs config s
  pub comes : ComesTo cfa cs config (position s)
  pub checked : NoneErrBelow cfa s.checked s.reached.live

-- how many rounds may still begin
abbrev pub rounds_left : Config → Search → ℕ
rounds_left config s = (config.rounds - length s.history) * 2 + (if s.again then 0 else 1)

-- ---- what a part of a round comes to

abbrev pub ArePinnedIn : Cfa → List Component → List State → Answer → Type 0
ArePinnedIn cfa cs states (True entries) = ArePinned cfa cs states entries
ArePinnedIn cfa cs states _ = ⊤

-- What is never answered.
pub record IsSpared (cfa : Cfa) (cs : List Component) (config : Config) (a : Answer) : Type 0 where
  pub keys : (keys : List (List Elem)) → KeysFrom cfa cs keys
      → length keys * (1 + row_height cfa cs) ≤ config.turns → IsTurns a → ⊥
  pub states : (states : List State) → StatesFrom cfa cs config.settings states
      → length states ≤ config.turns → IsTurns a → ⊥
  pub listed : (states : List State) → StatesFrom cfa cs config.settings states
      → ArePinnedIn cfa cs states a
  pub rounds : TellCells cfa cs → length cs * length cfa.cells < config.rounds → IsRounds a → ⊥

-- Nothing waits, and no entry may be an error.
pub record IsDone (cfa : Cfa) (cs : List Component) (config : Config) (s : Search) : Type 0 where
  pub stands : Stands cfa cs config.settings s.reached
  pub comes : ComesTo cfa cs config (position s)
  pub ascend : AreAscending (numbers s.reached.live)
  pub none_wait : waiting_numbers s.reached.live ≡ []
  pub none_err : NoneErr cfa s.reached.live

-- All turns of the round are taken, an entry waits, and none may be an error.
pub record IsAllTaken (cfa : Cfa) (cs : List Component) (config : Config) (s : Search) : Type 0
  where
    pub within : IsSearch cfa cs config s
    pub all : length s.reached.journal ≡ config.turns
    pub waits : waiting_numbers s.reached.live ≡ [] → ⊥
    pub none_err : NoneErr cfa s.reached.live

-- where so many rounds might begin before
abbrev pub IsCome : Cfa → List Component → Config → ℕ → Search → Came → Type 0
IsCome cfa cs config left s (Decided a) = IsAnswer cfa cs config a × IsSpared cfa cs config a
IsCome cfa cs config left s Safe = IsDone cfa cs config s
IsCome cfa cs config left s Spent = IsAllTaken cfa cs config s
IsCome cfa cs config left s Again =
    IsSearch cfa cs config s × (s.reached.journal ≡ []) × (rounds_left config s < left)
