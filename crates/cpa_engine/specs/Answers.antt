-- The answers of an analysis: one relation a kind (CAV 2007, section 2; refinement after paths
-- without a run, and the causes of giving up, are this project's own). Each has a search behind it.
use Rattle.std.specs.Prelude.{◌≡◌, ℕ, ◌<◌, ◌≤◌, ℤ, true, List, [], ◌∷◌, length, ⊤, ◌⊎◌}
use Rattle.cpa_blast.specs.Formulas.{formula}
use Rattle.cpa_cnf.specs.declared.formula.Line.{Line}
use Rattle.cpa_model.specs.declared.automaton.Cfa.{Cfa}
use Rattle.cpa_model.specs.declared.automaton.Path.{Path}
use Rattle.cpa_model.specs.declared.facts.Elem.{Elem}
use Rattle.cpa_model.specs.declared.program.Program.{Program}
use Rattle.cpa_model.specs.Automata.{IsAutomatonOf}
use Rattle.cpa_model.specs.Covers.{CoversAutomaton}
use Rattle.cpa_model.specs.Programs.{IsWellFormed}
use Rattle.cpa_iface.specs.declared.analysis.Settings.{Settings}
use Rattle.cpa_iface.specs.declared.entries.Entry.{Entry}
use Rattle.cpa_iface.specs.declared.entries.Refined.{Refined}
use Rattle.cpa_iface.specs.declared.entries.Turn.{Turn}
use Rattle.cpa_iface.specs.declared.precisions.Precision.{Precision}
use Rattle.cpa_composite.specs.Components.{Component, ArePrecisions}
use Rattle.cpa_composite.specs.Laws.{InitialRow, RefinedRow, SuggestionsStand}
use Rattle.cpa_config.specs.declared.config.Config.{Config}
use Rattle.cpa_path.specs.Judgements.{WantsSolver}
use Rattle.cpa_path.specs.Paths.{ReplaysTo, ReplaysAlong, path_weight, path_form}
use Rattle.cpa_reached.specs.Entries.{numbers, waiting_numbers}
use Rattle.cpa_model.specs.Ascending.{AreAscending}
use Rattle.cpa_sat.specs.Outcomes.{IsSpent}
use Rattle.cpa_engine_turn.specs.Journals.{IsJournal}
use Rattle.cpa_engine_turn.specs.Keys.{rows_of}
use Rattle.cpa_engine_turn.specs.Turns.{AreEntries}
use Rattle.cpa_engine_rounds.specs.Errors.{NoneErr}
use Rattle.cpa_engine_rounds.specs.Precisions.{HaveAll}
use Rattle.cpa_engine.specs.declared.answers.Answer.{Answer}
use Rattle.cpa_engine.specs.declared.answers.Answer.TheVariants.{True, False, Unknown}
use Rattle.cpa_engine.specs.declared.answers.Why.{Why}
use Rattle.cpa_engine.specs.declared.answers.Why.TheVariants.{Turns, Rounds, Learnt, Gates, NoNew}
use Rattle.cpa_engine.specs.Kept.{IsKeptPath, IsRefuted}
use Rattle.cpa_engine.specs.Rounds.{Position, ComesTo, FindsPath}

-- The entries are a cover, shaped, with an element for each component, and their numbers ascend. A
-- search came to them, of which none waits and none may be an error.
pub record IsProof (cfa : Cfa) (cs : List Component) (config : Config) (entries : List Entry)
    : Type 0 where
  pub covers : CoversAutomaton cfa (rows_of entries)
  pub shaped : AreEntries cfa (length cs) entries
  pub ascend : AreAscending (numbers entries)
  pub end : Position
  pub comes : ComesTo cfa cs config end
  pub are : entries ≡ end.reached.live
  pub none_wait : waiting_numbers entries ≡ []
  pub none_err : NoneErr cfa entries

-- an execution that takes exactly these inputs calls reach_error after so many steps
abbrev pub IsErrorRun : Cfa → List ℤ → ℕ → Type 0
IsErrorRun cfa inputs steps =
    (P : Program) → IsWellFormed P → IsAutomatonOf P cfa → ReplaysTo P inputs steps

-- An error run, along the path to the first entry that may be an error.
pub record IsCounterexample (cfa : Cfa) (cs : List Component) (config : Config) (inputs : List ℤ)
    (steps : ℕ) : Type 0 where
  pub calls : IsErrorRun cfa inputs steps
  pub end : Position
  pub path : Path
  pub found : FindsPath cfa cs config end path
  pub each_edge : steps ≡ length path.edges
  pub along : (P : Program) → IsWellFormed P → IsAutomatonOf P cfa
      → ReplaysAlong P cfa path.edges inputs steps

-- As many turns as a round may have were taken: each row may follow those before it. They are those
-- of the round to which a search came; an entry waits, and none may be an error.
pub record AreTurns (cfa : Cfa) (cs : List Component) (config : Config) (rows : List Turn) : Type 0
  where
    pub all : length rows ≡ config.turns
    pub began : List ℕ
    pub journal : IsJournal began rows
    pub end : Position
    pub comes : ComesTo cfa cs config end
    pub are : rows ≡ end.reached.journal
    pub waits : waiting_numbers end.reached.live ≡ [] → ⊥
    pub none_err : NoneErr cfa end.reached.live

-- each path is refuted, and led from the precisions before it to those beside it, which keep more
abbrev pub AreRefinements : Cfa → List Component → Settings → List Precision → List Refined
    → Type 0
AreRefinements cfa cs settings before [] = ⊤
AreRefinements cfa cs settings before (r ∷ later) =
    IsRefuted cfa cs settings r.path × RefinedRow cs cfa r.path before r.precisions
    × AreRefinements cfa cs settings r.precisions later

-- the precisions to which they led
abbrev pub newest_after : List Precision → List Refined → List Precision
newest_after first [] = first
newest_after first (r ∷ later) = newest_after r.precisions later

-- The refinements led from the precisions with which analyses begin to these.
pub record LeadTo (cfa : Cfa) (cs : List Component) (settings : Settings) (history : List Refined)
    (last : List Precision) : Type 0 where
  pub elems : List Elem
  pub first : List Precision
  pub begins : InitialRow cs cfa settings elems first
  pub refinements : AreRefinements cfa cs settings first history
  pub newest : last ≡ newest_after first history

-- The path is refuted, and as many refinements as allowed were made: those of the search that found
-- it.
pub record AreRounds (cfa : Cfa) (cs : List Component) (config : Config) (path : Path)
    (history : List Refined) : Type 0 where
  pub refuted : IsRefuted cfa cs config.settings path
  pub all : length history ≡ config.rounds
  pub newest : List Precision
  pub lead : LeadTo cfa cs config.settings history newest
  pub end : Position
  pub found : FindsPath cfa cs config end path
  pub are : history ≡ end.history

-- A kept path, found by a search, that weighs no more than allowed, with as many lines as a search
-- of the solver may learn, which did not decide its query.
pub record AreLearnt (cfa : Cfa) (cs : List Component) (config : Config) (path : Path)
    (lines : List Line) : Type 0 where
  pub asks : WantsSolver cfa path.edges
  pub light : path_weight cfa path.edges ≤ config.settings.gates
  pub spent : IsSpent (formula (path_form cfa path.edges).query) config.settings.learnt lines
  pub kept : IsKeptPath cfa cs config.settings path
  pub end : Position
  pub found : FindsPath cfa cs config end path

-- A kept path, found by a search, that weighs this, which is more.
pub record AreGates (cfa : Cfa) (cs : List Component) (config : Config) (path : Path)
    (weight : ℕ) : Type 0 where
  pub asks : WantsSolver cfa path.edges
  pub weighs : weight ≡ path_weight cfa path.edges
  pub heavy : config.settings.gates < weight
  pub kept : IsKeptPath cfa cs config.settings path
  pub end : Position
  pub found : FindsPath cfa cs config end path

-- The path is refuted, and the precisions, to which fewer refinements led than allowed, have all
-- that is suggested for it. They are the newest of the search that found it, and each entry has
-- them, unless a round began again at the root with them.
pub record IsNothingNew (cfa : Cfa) (cs : List Component) (config : Config) (path : Path)
    (newest : List Precision) : Type 0 where
  pub refuted : IsRefuted cfa cs config.settings path
  pub precisions : ArePrecisions cfa (length cs) newest
  pub stand : SuggestionsStand cfa path cs newest
  pub history : List Refined
  pub lead : LeadTo cfa cs config.settings history newest
  pub fewer : length history < config.rounds
  pub end : Position
  pub found : FindsPath cfa cs config end path
  pub are : newest ≡ end.newest
  pub made : history ≡ end.history
  pub none_other : (end.again ≡ true) ⊎ HaveAll newest end.reached.live

-- why it gives up
abbrev pub IsWhy : Cfa → List Component → Config → Why → Type 0
IsWhy cfa cs config (Turns journal) = AreTurns cfa cs config journal
IsWhy cfa cs config (Rounds path history) = AreRounds cfa cs config path history
IsWhy cfa cs config (Learnt path lines) = AreLearnt cfa cs config path lines
IsWhy cfa cs config (Gates path weight) = AreGates cfa cs config path weight
IsWhy cfa cs config (NoNew path newest) = IsNothingNew cfa cs config path newest

abbrev pub IsAnswer : Cfa → List Component → Config → Answer → Type 0
IsAnswer cfa cs config (True entries) = IsProof cfa cs config entries
IsAnswer cfa cs config (False inputs steps) = IsCounterexample cfa cs config inputs steps
IsAnswer cfa cs config (Unknown why) = IsWhy cfa cs config why
