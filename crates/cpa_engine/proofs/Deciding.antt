-- When an answer that comes of a search comes, kind by kind (`is_decided`).
use Rattle.std.proofs.Common.{◌≡◌, ℕ, ◌+◌, ◌*◌, ◌≤◌, List, [], ◌∷◌, ◌++◌, length}
use Rattle.std.proofs.Common.{sym}
use Rattle.std.proofs.Common.{ap, ◌∙◌, subst}
use Rattle.cpa_model.specs.declared.automaton.Cfa.{Cfa}
use Rattle.cpa_model.specs.declared.automaton.Path.{Path}
use Rattle.cpa_model.specs.declared.facts.Elem.{Elem}
use Rattle.cpa_model.specs.declared.program.Cell.{Cell}
use Rattle.cpa_model.specs.declared.program.Program.{Program}
use Rattle.cpa_model.specs.declared.states.State.{State}
use Rattle.cpa_model.specs.Automata.{IsAutomatonOf, IsStateOf}
use Rattle.cpa_model.specs.Covers.{LiesInSome, CoversAutomaton}
use Rattle.cpa_model.specs.Facts.{LiesIn}
use Rattle.cpa_model.specs.Programs.{IsWellFormed, point_count}
use Rattle.cpa_model.specs.States.{IsState}
use Rattle.cpa_model.specs.Steps.{Step, IsChain, IsExecution, IsReachable, BeginsInState}
use Rattle.cpa_iface.specs.declared.analysis.Part.TheVariants.{Point}
use Rattle.cpa_iface.specs.declared.entries.Entry.{Entry}
use Rattle.cpa_composite.specs.Components.{Component}
use Rattle.cpa_composite.specs.Exact.{HaveEachPart, pins}
use Rattle.cpa_composite.specs.Ranks.{row_height}
use Rattle.cpa_config.specs.declared.config.Config.{Config}
use Rattle.cpa_engine_turn.specs.Bounds.{ArePinned}
use Rattle.cpa_engine_turn.specs.Keys.{rows_of}
use Rattle.cpa_engine_laws.specs.Chains.{HaveApart}
use Rattle.cpa_engine_laws.specs.Pairs.{ArePairs, pair_keys}
use Rattle.cpa_engine_laws.specs.States.{AreReachable, HasNoInput}
use Rattle.cpa_engine_laws.specs.lemmas.Starting.{edges_settled}
use Rattle.cpa_engine.specs.declared.answers.Answer.{Answer}
use Rattle.cpa_engine.specs.declared.answers.Answer.TheVariants.{True, False, Unknown}
use Rattle.cpa_engine.specs.declared.answers.Why.TheVariants.{Turns, Rounds, Learnt, Gates, NoNew}
use Rattle.cpa_engine.specs.Answers.{IsAnswer}
use Rattle.cpa_engine.specs.Decided.{IsDecided, IsVerdict, ListStates, ListsStates}
use Rattle.cpa_engine.specs.Decided.{IsTrueOrTurns, HasNoError, WidenInKeys}
use Rattle.cpa_engine.specs.Kept.{IsExactRun, IsKeptPath}
use Rattle.cpa_engine.specs.Searches.{IsSpared, KeysFrom, StatesFrom}
use Rattle.cpa_engine.proofs.Ending.{row_of}

-- ---- the reachable states are listed

last_is_state : (P : Program) (s t : State) (states : List State)
    → IsChain (Step P) s (states ++ t ∷ []) → IsState P.cells (point_count P) t
last_is_state P s t [] chain = chain.0.after
last_is_state P s t (u ∷ states) chain = last_is_state P u t states chain.1

reachable_is_state : (P : Program) → BeginsInState P → (s : State) → IsReachable P s
    → IsState P.cells (point_count P) s
reachable_is_state P begins s reach = by reach.before reach.execution
  where
    by : (before : List State) → IsExecution P (before ++ s ∷ [])
        → IsState P.cells (point_count P) s
    by [] execution = subst (IsState P.cells (point_count P)) (sym execution.0) begins
    by (u ∷ before) execution = last_is_state P u s before execution.1

state_of_cfa : (P : Program) (cfa : Cfa) (s : State) → IsAutomatonOf P cfa
    → IsState P.cells (point_count P) s → IsStateOf cfa s
state_of_cfa P cfa s of is =
    subst (λ (n : ℕ). IsState cfa.cells n s) (sym of.points)
    (subst (λ (cells : List Cell). IsState cells (point_count P) s) (sym of.cells) is)

-- What is used of laws.
pub record DecideLaws (cfa : Cfa) (cs : List Component) : Type 0 where
  pub begins : (P : Program) → IsWellFormed P → BeginsInState P
  pub reached : (P : Program) (rows : List (List Elem)) → IsWellFormed P → IsAutomatonOf P cfa
      → CoversAutomaton cfa rows → (s : State) → IsReachable P s → LiesInSome s rows
  pub tell : (s t : State) → HaveEachPart cs → IsStateOf cfa s → IsStateOf cfa t
      → LiesIn s (pins cs t) → s ≡ t
  pub keys : (P : Program) (pairs : List (ℕ × List ℕ)) → IsWellFormed P → IsAutomatonOf P cfa
      → ArePairs P pairs → WidenInKeys cfa cs → KeysFrom cfa cs (pair_keys cs pairs)
  pub count : (pairs : List (ℕ × List ℕ)) → length (pair_keys cs pairs) ≡ length pairs
  pub states : (P : Program) (config : Config) (states : List State) → IsWellFormed P
      → IsAutomatonOf P cfa → AreReachable P states → HasNoInput P
      → IsExactRun cs config.settings → StatesFrom cfa cs config.settings states

listed : (cfa : Cfa) (cs : List Component) (P : Program) (states : List State)
    (entries : List Entry) → DecideLaws cfa cs → IsWellFormed P → IsAutomatonOf P cfa
    → AreReachable P states → HaveEachPart cs → CoversAutomaton cfa (rows_of entries)
    → ArePinned cfa cs states entries → ListStates cs states entries
listed cfa cs P states entries laws W of are parts covers pinned = record {
  each = λ e there. let pin = pinned.each e there in (pin.state, pin.is_in, pin.elems);
  all = λ s there.
      let reach = (are s).1 there in
      let found = row_of entries s (laws.reached P (rows_of entries) W of covers s reach) in
      let pin = pinned.each found.0 found.1 in
      let same : s ≡ pin.state =
      laws.tell s pin.state parts
      (state_of_cfa P cfa s of (reachable_is_state P (laws.begins P W) s reach)) pin.is_state
      (subst (LiesIn s) pin.elems found.2) in
      (found.0, found.1, pin.elems ∙ ap (pins cs) (sym same));
  once = pinned.once;
}

-- ---- kept paths

no_input_kept : (cfa : Cfa) (cs : List Component) (config : Config) (P : Program) (path : Path)
    → IsAutomatonOf P cfa → HasNoInput P → IsExactRun cs config.settings
    → IsKeptPath cfa cs config.settings path → ⊥
no_input_kept cfa cs config P path of none exact kept =
    let runs = kept.inputs exact in
    runs.input (edges_settled P cfa of none runs.number runs.edge runs.at)

no_error_kept : (cfa : Cfa) (cs : List Component) (config : Config) (P : Program) (path : Path)
    → IsAutomatonOf P cfa → HasNoError P → HaveApart cs Point
    → IsKeptPath cfa cs config.settings path → ⊥
no_error_kept cfa cs config P path of none has kept =
    let chain = kept.points has in none chain.0 (of.only_errors chain.0 chain.2)

-- ---- kinds of answers

finite : (cfa : Cfa) (cs : List Component) (config : Config) (a : Answer) (P : Program)
    (states : List State) → DecideLaws cfa cs → IsAnswer cfa cs config a
    → IsSpared cfa cs config a → IsWellFormed P → IsAutomatonOf P cfa → HasNoInput P
    → AreReachable P states → IsExactRun cs config.settings → length states ≤ config.turns
    → IsVerdict a × ListsStates cs states a
finite cfa cs config (True entries) P states laws is spared W of none are exact enough = (
  tt,
  listed cfa cs P states entries laws W of are exact.pinning.parts is.covers
      (spared.listed states (laws.states P config states W of are none exact)),
)
finite cfa cs config (False inputs steps) P states laws is spared W of none are exact enough =
    (tt, tt)
finite cfa cs config (Unknown (Turns journal)) P states laws is spared W of none are exact enough =
    absurd (spared.states states (laws.states P config states W of are none exact) enough tt)
finite cfa cs config (Unknown (Rounds path history)) P states laws is spared W of none are exact
    enough =
    absurd (no_input_kept cfa cs config P path of none exact is.refuted.kept)
finite cfa cs config (Unknown (Learnt path lines)) P states laws is spared W of none are exact
    enough =
    absurd (no_input_kept cfa cs config P path of none exact is.kept)
finite cfa cs config (Unknown (Gates path weight)) P states laws is spared W of none are exact
    enough =
    absurd (no_input_kept cfa cs config P path of none exact is.kept)
finite cfa cs config (Unknown (NoNew path newest)) P states laws is spared W of none are exact
    enough =
    absurd (no_input_kept cfa cs config P path of none exact is.refuted.kept)

safe : (cfa : Cfa) (cs : List Component) (config : Config) (a : Answer) (P : Program)
    → IsAnswer cfa cs config a → IsWellFormed P → IsAutomatonOf P cfa → HasNoError P
    → HaveApart cs Point → IsTrueOrTurns a
safe cfa cs config (True entries) P is W of none has = tt
safe cfa cs config (False inputs steps) P is W of none has =
    let run = (is.calls P W of).replay in absurd (none run.at.state.point run.comes.0)
safe cfa cs config (Unknown (Turns journal)) P is W of none has = tt
safe cfa cs config (Unknown (Rounds path history)) P is W of none has =
    absurd (no_error_kept cfa cs config P path of none has is.refuted.kept)
safe cfa cs config (Unknown (Learnt path lines)) P is W of none has =
    absurd (no_error_kept cfa cs config P path of none has is.kept)
safe cfa cs config (Unknown (Gates path weight)) P is W of none has =
    absurd (no_error_kept cfa cs config P path of none has is.kept)
safe cfa cs config (Unknown (NoNew path newest)) P is W of none has =
    absurd (no_error_kept cfa cs config P path of none has is.refuted.kept)

pub is_decided : (cfa : Cfa) (cs : List Component) (config : Config) (a : Answer)
    → DecideLaws cfa cs → IsAnswer cfa cs config a → IsSpared cfa cs config a
    → IsDecided cfa cs config a
is_decided cfa cs config a laws is spared = record {
  finite = λ P states W of none are exact enough. finite cfa cs config a P states laws is spared W
      of none are exact enough;
  turns = λ P pairs W of are widen enough turns.
      let same = laws.count pairs in
      spared.keys (pair_keys cs pairs) (laws.keys P pairs W of are widen)
      (subst (λ (n : ℕ). n * (1 + row_height cfa cs) ≤ config.turns) (sym same) enough) turns;
  safe = λ P W of none has. safe cfa cs config a P is W of none has;
  rounds = spared.rounds;
}
