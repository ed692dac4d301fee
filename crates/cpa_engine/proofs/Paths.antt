-- A path that has no run, or an input, leads to no error without one (`no_settled_run`).
use Rattle.std.proofs.Common.{◌≡◌, ℕ, true, List, [], ◌∷◌, ◌++◌, Option, Some, None}
use Rattle.std.proofs.Common.{refl}
use Rattle.std.proofs.Common.{sym, subst, inl, inr, ⊎_elim, slice_get}
use Rattle.std.specs.Prelude.{◌⊎◌}
use Rattle.std.specs.List.{Contains, list_any}
use Rattle.std.proofs.lemmas.Bool.{or_cases}
use Rattle.cpa_model.specs.declared.automaton.Act.{Act}
use Rattle.cpa_model.specs.declared.automaton.Act.TheVariants as act
use Rattle.cpa_model.specs.declared.automaton.Cfa.{Cfa}
use Rattle.cpa_model.specs.declared.automaton.Edge.{Edge}
use Rattle.cpa_model.specs.declared.states.State.{State}
use Rattle.cpa_model.specs.Automata.{initial_state}
use Rattle.cpa_interp.specs.Replays.{last_of}
use Rattle.cpa_iface.specs.declared.analysis.Part.TheVariants.{Store}
use Rattle.cpa_iface.specs.Pins.{IsSettledBy}
use Rattle.cpa_path.specs.Judgements.{WantsSolver}
use Rattle.cpa_path.specs.Paths.{TakesEdges, HasNoRun, is_input, has_input}
use Rattle.cpa_folds.specs.Along.{act_of, acts_along}
use Rattle.cpa_engine_laws.specs.Chains.{WalksTo, StepsBy, AreSettled}

-- a walk takes its edges
walk_takes : (cfa : Cfa) (path : List ℕ) (s t : State) → WalksTo (StepsBy cfa) s path t
    → (states : List State) × TakesEdges cfa path s states × (last_of s states ≡ t)
walk_takes cfa [] s t walks = ([], tt, sym walks)
walk_takes cfa (n ∷ path) s t (m, (g, at, step), walks) =
    let rest = walk_takes cfa path m t walks in (m ∷ rest.0, (g, at, step, rest.1), rest.2)

-- what is settled is no input
input_not_settled : (a : Act) → is_input a ≡ true → IsSettledBy Store a → ⊥
input_not_settled act.Skip is settled = absurd (cc)
input_not_settled (act.Assign base len index value) is settled = absurd (cc)
input_not_settled (act.Assume test holds) is settled = absurd (cc)
input_not_settled (act.Input cell) is settled = settled
input_not_settled (act.Call site) is settled = absurd (cc)
input_not_settled (act.Return site) is settled = absurd (cc)

first_act : (o : Option Edge) (acts : List Act) → list_any is_input (act_of o ++ acts) ≡ true
    → ((g : Edge) → o ≡ Some g → IsSettledBy Store g.act) → list_any is_input acts ≡ true
first_act None acts has settled = has
first_act (Some g) acts has settled =
    ⊎_elim (λ here. absurd (input_not_settled g.act here (settled g refl))) (λ later. later)
    (or_cases (is_input g.act) (list_any is_input acts) has)

settled_has_none : (cfa : Cfa) (path : List ℕ) → has_input cfa path ≡ true → AreSettled cfa path
    → ⊥
settled_has_none cfa [] has settled = absurd (cc)
settled_has_none cfa (n ∷ path) has settled =
    settled_has_none cfa path
    (first_act (slice_get cfa.edges n) (acts_along cfa path) has settled.0) settled.1

pub no_settled_run : (cfa : Cfa) (path : List ℕ) → HasNoRun cfa path ⊎ WantsSolver cfa path
    → AreSettled cfa path → (t : State) → WalksTo (StepsBy cfa) (initial_state cfa) path t
    → Contains cfa.errors t.point → ⊥
no_settled_run cfa path (inl none) settled t walks error =
    let run = walk_takes cfa path (initial_state cfa) t walks in
    none run.0
    (record {
      takes = run.1;
      error = subst (λ (u : State). Contains cfa.errors u.point) (sym run.2) error;
    })
no_settled_run cfa path (inr asks) settled t walks error =
    settled_has_none cfa path asks.input settled
