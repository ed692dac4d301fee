-- When an analysis comes to an answer, and to which (this project's own): where the reachable
-- states are few enough, where entries with keys of their own widen, where nothing is an error, and
-- where analyses suggest cells alone.
use Rattle.std.specs.Prelude.{◌≡◌, ℕ, ◌+◌, ◌*◌, ◌<◌, ◌≤◌, List, length, ⊤}
use Rattle.cpa_model.specs.declared.automaton.Cfa.{Cfa}
use Rattle.cpa_model.specs.declared.program.Program.{Program}
use Rattle.cpa_model.specs.declared.states.State.{State}
use Rattle.cpa_model.specs.Automata.{IsAutomatonOf}
use Rattle.cpa_model.specs.Programs.{IsWellFormed}
use Rattle.cpa_model.specs.Steps.{IsError}
use Rattle.cpa_iface.specs.declared.analysis.Part.TheVariants.{Point, Stack}
use Rattle.cpa_iface.specs.declared.entries.Entry.{Entry}
use Rattle.cpa_composite.specs.Components.{Component}
use Rattle.cpa_composite.specs.Exact.{pins}
use Rattle.cpa_composite.specs.Ranks.{row_height, HaveFixedHeights}
use Rattle.cpa_config.specs.declared.config.Config.{Config}
use Rattle.cpa_reached.specs.Members.{IsIn}
use Rattle.cpa_engine_turn.specs.Keys.{WidenBesideKeys}
use Rattle.cpa_engine_laws.specs.Cells.{TellCells}
use Rattle.cpa_engine_laws.specs.Chains.{HaveApart}
use Rattle.cpa_engine_laws.specs.Pairs.{ArePairs}
use Rattle.cpa_engine_laws.specs.States.{AreReachable, HasNoInput}
use Rattle.cpa_engine.specs.declared.answers.Answer.{Answer}
use Rattle.cpa_engine.specs.declared.answers.Answer.TheVariants.{True, False, Unknown}
use Rattle.cpa_engine.specs.declared.answers.Why.TheVariants.{Turns, Rounds}
use Rattle.cpa_engine.specs.Kept.{IsExactRun}

-- no statement is a call of reach_error
abbrev pub HasNoError : Program → Type 0
HasNoError P = (n : ℕ) → IsError P n → ⊥

-- Points and stacks tell entries apart, all other components widen, and the height of each does not
-- depend on the precision.
pub record WidenInKeys (cfa : Cfa) (cs : List Component) : Type 0 where
  pub points : HaveApart cs Point
  pub stacks : HaveApart cs Stack
  pub widen : WidenBesideKeys cs
  pub heights : HaveFixedHeights cfa cs

-- ---- kinds of answers

abbrev pub IsTurns : Answer → Type 0
IsTurns (Unknown (Turns journal)) = ⊤
IsTurns _ = ⊥

abbrev pub IsRounds : Answer → Type 0
IsRounds (Unknown (Rounds path history)) = ⊤
IsRounds _ = ⊥

-- it is TRUE or FALSE
abbrev pub IsVerdict : Answer → Type 0
IsVerdict (True entries) = ⊤
IsVerdict (False inputs steps) = ⊤
IsVerdict (Unknown why) = ⊥

-- it is TRUE, or the turns were spent
abbrev pub IsTrueOrTurns : Answer → Type 0
IsTrueOrTurns (True entries) = ⊤
IsTrueOrTurns (False inputs steps) = ⊥
IsTrueOrTurns (Unknown (Turns journal)) = ⊤
IsTrueOrTurns (Unknown _) = ⊥

-- The entries are the rows of the pins of these states, each state once.
pub record ListStates (cs : List Component) (states : List State) (entries : List Entry) : Type 0
  where
    pub each : (e : Entry) → IsIn e entries → (s : State) × IsIn s states × (e.elems ≡ pins cs s)
    pub all : (s : State) → IsIn s states → (e : Entry) × IsIn e entries × (e.elems ≡ pins cs s)
    pub once : (d e : Entry) → IsIn d entries → IsIn e entries → d.elems ≡ e.elems
        → d.number ≡ e.number

abbrev pub ListsStates : List Component → List State → Answer → Type 0
ListsStates cs states (True entries) = ListStates cs states entries
ListsStates cs states _ = ⊤

-- ---- what is promised of an answer

pub record IsDecided (cfa : Cfa) (cs : List Component) (config : Config) (a : Answer) : Type 0
  where
    -- without inputs, where all is exact and the turns are no fewer than the reachable states, it
    -- is TRUE or FALSE, and TRUE lists these states
    pub finite : (P : Program) (states : List State) → IsWellFormed P → IsAutomatonOf P cfa
        → HasNoInput P → AreReachable P states → IsExactRun cs config.settings
        → length states ≤ config.turns → IsVerdict a × ListsStates cs states a
    -- where elements widen beside keys, and the turns are no fewer than the points with the calls
    -- that may be open there, as often as their elements may widen and once more, they are not
    -- spent
    pub turns : (P : Program) (pairs : List (ℕ × List ℕ)) → IsWellFormed P → IsAutomatonOf P cfa
        → ArePairs P pairs → WidenInKeys cfa cs
        → length pairs * (1 + row_height cfa cs) ≤ config.turns → IsTurns a → ⊥
    -- without a call of reach_error, where points tell entries apart, it is TRUE, or the turns are
    -- spent
    pub safe : (P : Program) → IsWellFormed P → IsAutomatonOf P cfa → HasNoError P
        → HaveApart cs Point → IsTrueOrTurns a
    -- where cells alone are suggested, and more refinements are allowed than there are analyses
    -- times cells, they are not spent
    pub rounds : TellCells cfa cs → length cs * length cfa.cells < config.rounds → IsRounds a → ⊥
