-- That the analysis of locations keeps the laws.
use Rattle.std.proofs.Common.{◌≡◌, ℕ, ◌<◌, arith, ◌&&◌, Bool, true, false, List, [], ◌∷◌, refl, sym}
use Rattle.std.proofs.Common.{ap, ◌∙◌, subst, inl}
use Rattle.std.specs.Prelude.{slice_get, Some, if◌then◌else◌, ◌==◌}
use Rattle.std.specs.List.{AllByRecursion, list_all}
use Rattle.std.proofs.lemmas.Bool.{cond_both}
use Rattle.std.proofs.lemmas.Bool.Decides.{Decides-eqb}
use Rattle.cpa_facts.specs.declared.fact.Fact.{Fact}
use Rattle.cpa_facts.specs.declared.fact.Fact.TheVariants.{At, Stack, Equals, Within, Truth}
use Rattle.cpa_model.specs.declared.facts.Elem.{Elem}
use Rattle.cpa_model.specs.declared.states.State.{State}
use Rattle.cpa_model.specs.declared.automaton.Edge.{Edge}
use Rattle.cpa_model.specs.declared.automaton.Cfa.{Cfa}
use Rattle.cpa_model.specs.States.{state_at}
use Rattle.cpa_model.specs.Facts.{FactHolds, Holds}
use Rattle.cpa_model.specs.Automata.{StepsAlong, IsAutomaton}
use Rattle.cpa_iface.specs.declared.analysis.Part.TheVariants as part
use Rattle.cpa_iface.specs.declared.precisions.Precision.{Precision}
use Rattle.cpa_iface.specs.Meanings.{AreShaped}
use Rattle.cpa_iface.specs.Pins.{pin, PinsStep}
use Rattle.cpa_iface.specs.Laws.{InitialLaws, TransferLaws, SomeHolds, CoversEdge, PinsEdge}
use Rattle.cpa_iface.specs.Laws.{IsBounded}
use Rattle.cpa_model.specs.lemmas.EdgesSound.{edge_sound}
use Rattle.cpa_iface.specs.Locations.{location, names_point, may_stand_at, next_points}

names_holds : (s : State) (point : ℕ) (f : Fact) → s.point ≡ point → FactHolds s f
    → names_point point f ≡ true
names_holds s point (At own) e h = (Decides-eqb own point).1 (sym h ∙ e)
names_holds s point (Stack sites) e h = refl
names_holds s point (Equals cell value) e h = refl
names_holds s point (Within cell lo hi) e h = refl
names_holds s point (Truth expr holds) e h = refl

all_names : (s : State) (point : ℕ) (fs : List Fact) → s.point ≡ point
    → AllByRecursion (FactHolds s) fs → list_all (names_point point) fs ≡ true
all_names s point [] e h = refl
all_names s point (f ∷ fs) e h =
    ap (λ b. b && list_all (names_point point) fs) (names_holds s point f e h.0)
    ∙ all_names s point fs e h.1

-- an element that holds of a state may stand where the state stands
covers : (e : Elem) (g : Edge) (cfa : Cfa) (s t : State) → Holds e s → StepsAlong cfa g s t
    → SomeHolds t (next_points e g)
covers e g cfa s t h along =
    let stands : may_stand_at e g.from ≡ true = all_names s g.from e.facts along.from h in
    subst (λ b. SomeHolds t (if b then pin g.to ∷ [] else [])) (sym stands) (inl (along.to, tt))

same_edge : (cfa : Cfa) (edge : ℕ) (g h : Edge) → slice_get cfa.edges edge ≡ Some g
    → slice_get cfa.edges edge ≡ Some h → g ≡ h
same_edge cfa edge g h p q = cc

-- the pin of a point may stand at that point alone
pin_stands : (n point : ℕ) → may_stand_at (pin n) point ≡ (n == point)
pin_stands n point = by (n == point) where
  by : (b : Bool) → (b && true) ≡ b
  by true = refl
  by false = refl

steps : (g : Edge) (s : State) (cfa : Cfa)
    → PinsStep part.Point cfa g s (next_points (pin s.point) g)
steps g s cfa = record {
  step = λ t moves.
      let here : may_stand_at (pin s.point) g.from ≡ true =
      pin_stands s.point g.from ∙ (Decides-eqb s.point g.from).1 moves.0 in
      let to_g : (if may_stand_at (pin s.point) g.from then pin g.to ∷ [] else []) ≡ pin g.to ∷ [] =
      ap (λ b. if b then pin g.to ∷ [] else []) here in
      to_g ∙ ap (λ n. pin n ∷ []) (sym moves.1);
  stuck = λ none.
      cond_both (may_stand_at (pin s.point) g.from) (pin g.to ∷ []) [] (λ es. es ≡ [])
      (λ stands. absurd (none (state_at g.to s.stack s.store.values)
      ((Decides-eqb s.point g.from).0 (sym (pin_stands s.point g.from) ∙ stands), refl)))
      (λ _. refl);
}

pinned : (cfa : Cfa) (edge : ℕ) (e : Elem) (g : Edge) → slice_get cfa.edges edge ≡ Some g
    → PinsEdge location cfa edge e (next_points e g)
pinned cfa edge e g at h s ath _ _ is =
    subst (λ x. PinsStep part.Point cfa x s (next_points e g)) (same_edge cfa edge g h at ath)
    (subst (λ x. PinsStep part.Point cfa g s (next_points x g)) (sym is) (steps g s cfa))

covered : (cfa : Cfa) (edge : ℕ) (e : Elem) (g : Edge) → slice_get cfa.edges edge ≡ Some g
    → CoversEdge cfa edge e (next_points e g)
covered cfa edge e g at h s t ath holds along =
    covers e g cfa s t holds (subst (λ x. StepsAlong cfa x s t)
    (same_edge cfa edge h g ath at) along)

-- the analysis of locations keeps the laws of transfer
pub next_points-laws : (cfa : Cfa) (edge : ℕ) (e : Elem) (p : Precision) (g : Edge)
    → IsAutomaton cfa → slice_get cfa.edges edge ≡ Some g
    → TransferLaws location cfa edge e p (next_points e g)
next_points-laws cfa edge e p g a at =
    let inside = edge_sound cfa edge g a at in
    record {
      shaped =
          cond_both (may_stand_at e g.from) (pin g.to ∷ []) [] (AreShaped cfa)
          (λ _. ((inside.to, tt), tt)) (λ _. tt);
      covers = covered cfa edge e g at;
      exact = λ _. pinned cfa edge e g at;
      bounded =
          λ _. cond_both (may_stand_at e g.from) (pin g.to ∷ []) []
          (AllByRecursion (λ x. IsBounded location cfa x p))
          (λ _. (omega arith, tt)) (λ _. tt);
      told = λ h ath. ap (next_points e) (same_edge cfa edge g h at ath);
    }

-- and those of the initial element
pub pin-laws : (cfa : Cfa) → cfa.start < cfa.points → InitialLaws location cfa (pin cfa.start)
pin-laws cfa inside = record {
  shaped = (inside, tt);
  holds = (refl, tt);
  exact = λ _. refl;
  bounded = λ p _. omega arith;
  told = refl;
}
