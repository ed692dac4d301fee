-- What holds of each path that an answer keeps (this project's own).
use Rattle.std.specs.Prelude.{◌≡◌, ℕ, ◌<◌, List, [], length, true}
use Rattle.std.specs.List.{Contains}
use Rattle.cpa_model.specs.declared.automaton.Cfa.{Cfa}
use Rattle.cpa_model.specs.declared.automaton.Path.{Path}
use Rattle.cpa_model.specs.declared.program.Program.{Program}
use Rattle.cpa_model.specs.Automata.{IsAutomatonOf}
use Rattle.cpa_model.specs.Programs.{IsWellFormed}
use Rattle.cpa_iface.specs.declared.analysis.Part.TheVariants.{Point, Stack}
use Rattle.cpa_iface.specs.declared.analysis.Settings.{Settings}
use Rattle.cpa_iface.specs.Meanings.{IsPathOf}
use Rattle.cpa_composite.specs.Components.{Component}
use Rattle.cpa_engine_turn.specs.Keys.{WidenBesideKeys}
use Rattle.cpa_engine_laws.specs.Chains.{HaveApart, PointsChain, SitesChain, RunsToInput}
use Rattle.cpa_engine_laws.specs.Lines.{PinStates}
use Rattle.cpa_engine_laws.specs.Pairs.{ArePairs}
use Rattle.cpa_path.specs.Paths.{HasNoRun}

-- The components pin whole states, and the settings ask for each cell and no limit.
pub record IsExactRun (cs : List Component) (settings : Settings) : Type 0 where
  pub pinning : PinStates cs
  pub all : settings.tracked_all ≡ true
  pub unlimited : settings.limit ≡ 0

-- A kept path.
pub record IsKeptPath (cfa : Cfa) (cs : List Component) (settings : Settings) (path : Path)
    : Type 0 where
  -- its edges are edges of the automaton
  pub inside : IsPathOf cfa path
  -- where points tell entries apart, its points chain from the start to an error
  pub points : HaveApart cs Point
      → (q : ℕ) × PointsChain cfa cfa.start path.edges q × Contains cfa.errors q
  -- where stacks do, its call sites chain
  pub sites : HaveApart cs Stack → (last : List ℕ) × SitesChain cfa [] path.edges last
  -- where both do, and all other components widen, it is shorter than there are points with the
  -- calls that may be open there
  pub short : HaveApart cs Point → HaveApart cs Stack → WidenBesideKeys cs → (P : Program)
      → IsWellFormed P → IsAutomatonOf P cfa → (pairs : List (ℕ × List ℕ)) → ArePairs P pairs
      → length path.edges < length pairs
  -- where all is exact, it has an input, and the edges before the first one are those of an
  -- execution
  pub inputs : IsExactRun cs settings → RunsToInput cfa path.edges

-- A kept path along which there is no run.
pub record IsRefuted (cfa : Cfa) (cs : List Component) (settings : Settings) (path : Path)
    : Type 0 where
  pub no_run : HasNoRun cfa path.edges
  pub kept : IsKeptPath cfa cs settings path
