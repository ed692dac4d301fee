-- That the analysis of call stacks keeps the laws.
use Rattle.std.proofs.Common.{◌≡◌, ℕ, ◌<◌, arith, ◌&&◌, true, List, [], ◌∷◌, ◌++◌, refl, sym, ap}
use Rattle.std.proofs.Common.{◌∙◌, subst, inl, inr}
use Rattle.std.specs.Prelude.{slice_get, Option, None, Some, if◌then◌else◌, ◌⊎◌}
use Rattle.std.specs.List.{AllByRecursion, list_all}
use Rattle.std.proofs.lemmas.Bool.{cond_both}
use Rattle.cpa_facts.specs.declared.fact.Fact.{Fact}
use Rattle.cpa_facts.specs.declared.fact.Fact.TheVariants.{At, Stack, Equals, Within, Truth}
use Rattle.cpa_model.specs.declared.facts.Elem.{Elem}
use Rattle.cpa_model.specs.declared.states.State.{State}
use Rattle.cpa_model.specs.declared.automaton.Act.{Act}
use Rattle.cpa_model.specs.declared.automaton.Act.TheVariants.{Skip, Assign, Assume, Input, Call}
use Rattle.cpa_model.specs.declared.automaton.Act.TheVariants.{Return}
use Rattle.cpa_model.specs.declared.automaton.Edge.{Edge}
use Rattle.cpa_model.specs.declared.automaton.Cfa.{Cfa}
use Rattle.cpa_model.specs.States.{state_at}
use Rattle.cpa_model.specs.Facts.{FactHolds, Holds, IsFact}
use Rattle.cpa_model.specs.Stacks.{stack_after}
use Rattle.cpa_model.specs.Standing.{same_sites}
use Rattle.cpa_model.specs.lemmas.Stacks.{stack_after-whole, stack_after-means}
use Rattle.cpa_model.specs.lemmas.StandingLaws.{same_fact-self}
use Rattle.cpa_model.specs.Automata.{StepsAlong}
use Rattle.cpa_model.specs.Steps.{StepsStack}
use Rattle.cpa_iface.specs.declared.analysis.Part.TheVariants as part
use Rattle.cpa_iface.specs.declared.precisions.Precision.{Precision}
use Rattle.cpa_model.specs.Acts.{IsActOf, IsEdgeOf}
use Rattle.cpa_iface.specs.Meanings.{IsShaped}
use Rattle.cpa_iface.specs.Pins.{PinsStep}
use Rattle.cpa_iface.specs.Laws.{InitialLaws, TransferLaws, SomeHolds, CoversEdge, PinsEdge}
use Rattle.cpa_iface.specs.Laws.{IsBounded}
use Rattle.cpa_callstack.specs.Stacks.{callstack, with_stack, any_stack, first_stack, names_stack}
use Rattle.cpa_callstack.specs.Stacks.{elem_of, stacks_after, next_stacks}

-- of facts that hold of a state, the first on the stack names its stack
first_is : (s : State) (fs : List Fact) → AllByRecursion (FactHolds s) fs
    → (first_stack fs ≡ None) ⊎ (first_stack fs ≡ Some s.stack)
first_is s [] all = inl refl
first_is s (At point ∷ fs) all = first_is s fs all.1
first_is s (Stack sites ∷ fs) all = inr (ap Some (sym all.0))
first_is s (Equals cell value ∷ fs) all = first_is s fs all.1
first_is s (Within cell lo hi ∷ fs) all = first_is s fs all.1
first_is s (Truth expr holds ∷ fs) all = first_is s fs all.1

-- and no fact names another
names_own : (s : State) (f : Fact) → FactHolds s f → names_stack s.stack f ≡ true
names_own s (At point) h = refl
names_own s (Stack sites) h =
    subst (λ x. same_sites x s.stack ≡ true) h (same_fact-self (Stack s.stack))
names_own s (Equals cell value) h = refl
names_own s (Within cell lo hi) h = refl
names_own s (Truth expr holds) h = refl

all_names : (s : State) (fs : List Fact) → AllByRecursion (FactHolds s) fs
    → list_all (names_stack s.stack) fs ≡ true
all_names s [] all = refl
all_names s (f ∷ fs) all =
    ap (λ b. b && list_all (names_stack s.stack) fs) (names_own s f all.0) ∙ all_names s fs all.1

covers : (e : Elem) (g : Edge) (cfa : Cfa) (s t : State) → Holds e s → StepsAlong cfa g s t
    → SomeHolds t (next_stacks e g)
covers e g cfa s t h along = by (first_stack e.facts) (first_is s e.facts h) where
  next : stack_after g.act s.stack ≡ Some t.stack
  next = stack_after-whole g.act s.stack t.stack along.stack

  named : SomeHolds t (stacks_after g.act e.facts (Some s.stack))
  named =
      subst (λ b. SomeHolds t (if b then elem_of (stack_after g.act s.stack) else []))
      (sym (all_names s e.facts h))
      (subst (λ o. SomeHolds t (elem_of o)) (sym next) (inl (refl, tt)))

  by : (o : Option (List ℕ)) → (o ≡ None) ⊎ (o ≡ Some s.stack)
      → SomeHolds t (stacks_after g.act e.facts o)
  by o (inl none) = subst (λ x. SomeHolds t (stacks_after g.act e.facts x)) (sym none) (inl tt)
  by o (inr some) = subst (λ x. SomeHolds t (stacks_after g.act e.facts x)) (sym some) named

-- what holds of the element without facts, and of each stack to which the act leads, holds of all
-- that is given
all_next : (P : Elem → Type 0) (e : Elem) (g : Edge) → P any_stack
    → ((sites new : List ℕ) → first_stack e.facts ≡ Some sites → stack_after g.act sites ≡ Some new
    → P (with_stack new))
    → AllByRecursion P (next_stacks e g)
all_next P e g none some = by (first_stack e.facts) refl where
  after : (o : Option (List ℕ)) (sites : List ℕ) → first_stack e.facts ≡ Some sites
      → stack_after g.act sites ≡ o → AllByRecursion P (elem_of o)
  after None sites first is = tt
  after (Some new) sites first is = (some sites new first is, tt)

  by : (o : Option (List ℕ)) → first_stack e.facts ≡ o
      → AllByRecursion P (stacks_after g.act e.facts o)
  by None first = (none, tt)
  by (Some sites) first =
      cond_both (list_all (names_stack sites) e.facts) (elem_of (stack_after g.act sites)) []
      (AllByRecursion P)
      (λ _. after (stack_after g.act sites) sites first refl) (λ _. tt)

-- each site of the stack is a point
ArePoints : ℕ → List ℕ → Type 0
ArePoints points sites = AllByRecursion (λ site. site < points) sites

pushed : (points : ℕ) (sites : List ℕ) (site : ℕ) → ArePoints points sites → site < points
    → ArePoints points (sites ++ site ∷ [])
unfolding ArePoints
pushed points [] site all here = (here, tt)
pushed points (s ∷ sites) site all here = (all.0, pushed points sites site all.1 here)

front : (points : ℕ) (sites : List ℕ) (site : ℕ) → ArePoints points (sites ++ site ∷ [])
    → ArePoints points sites
unfolding ArePoints
front points [] site all = tt
front points (s ∷ sites) site all = (all.0, front points sites site all.1)

first_shaped : (cfa : Cfa) (fs : List Fact) (sites : List ℕ)
    → AllByRecursion (IsFact cfa.cells cfa.points) fs → first_stack fs ≡ Some sites
    → ArePoints cfa.points sites
unfolding ArePoints
first_shaped cfa [] sites all is = absurd (cc)
first_shaped cfa (At point ∷ fs) sites all is = first_shaped cfa fs sites all.1 is
first_shaped cfa (Stack own ∷ fs) sites all is =
    let same : own ≡ sites =
    cc in subst (λ s. AllByRecursion (λ site. site < cfa.points) s) same all.0
first_shaped cfa (Equals cell value ∷ fs) sites all is = first_shaped cfa fs sites all.1 is
first_shaped cfa (Within cell lo hi ∷ fs) sites all is = first_shaped cfa fs sites all.1 is
first_shaped cfa (Truth expr holds ∷ fs) sites all is = first_shaped cfa fs sites all.1 is

after_shaped : (cfa : Cfa) (act : Act) (old new : List ℕ) → IsActOf cfa act
    → stack_after act old ≡ Some new → ArePoints cfa.points old
    → ArePoints cfa.points new
after_shaped cfa Skip old new sound is all =
    subst (ArePoints cfa.points) (sym (stack_after-means Skip old new is)) all
after_shaped cfa (Assign base len index value) old new sound is all =
    subst (ArePoints cfa.points) (sym (stack_after-means (Assign base len index value) old new is))
    all
after_shaped cfa (Assume test holds) old new sound is all =
    subst (ArePoints cfa.points) (sym (stack_after-means (Assume test holds) old new is)) all
after_shaped cfa (Input cell) old new sound is all =
    subst (ArePoints cfa.points) (sym (stack_after-means (Input cell) old new is)) all
after_shaped cfa (Call site) old new sound is all =
    subst (ArePoints cfa.points) (sym (stack_after-means (Call site) old new is))
    (pushed cfa.points old site all sound)
after_shaped cfa (Return site) old new sound is all =
    front cfa.points new site (subst (ArePoints cfa.points)
    (stack_after-means (Return site) old new is) all)

with_stack-shaped : (cfa : Cfa) (sites : List ℕ) → ArePoints cfa.points sites
    → IsShaped cfa (with_stack sites)
unfolding ArePoints
with_stack-shaped cfa sites all = (all, tt)

-- of the pin of a stack, the stack after the act
own_after : (g : Edge) (sites : List ℕ)
    → next_stacks (with_stack sites) g ≡ elem_of (stack_after g.act sites)
own_after g sites =
    ap (λ b. if b && true then elem_of (stack_after g.act sites) else [])
    (same_fact-self (Stack sites))

steps : (g : Edge) (s : State) (cfa : Cfa)
    → PinsStep part.Stack cfa g s (next_stacks (with_stack s.stack) g)
steps g s cfa = record {
  step =
      λ t moves. own_after g s.stack ∙ ap elem_of (stack_after-whole g.act s.stack t.stack moves);
  stuck = λ none. own_after g s.stack ∙ by (stack_after g.act s.stack) refl none;
} where
  by : (o : Option (List ℕ)) → stack_after g.act s.stack ≡ o
      → ((t : State) → StepsStack g.act s.stack t.stack → ⊥) → elem_of o ≡ []
  by None is none = refl
  by (Some new) is none = absurd (none (state_at 0 new []) (stack_after-means g.act s.stack new is))

same_edge : (cfa : Cfa) (edge : ℕ) (g h : Edge) → slice_get cfa.edges edge ≡ Some g
    → slice_get cfa.edges edge ≡ Some h → g ≡ h
same_edge cfa edge g h p q = cc

pinned : (cfa : Cfa) (edge : ℕ) (e : Elem) (g : Edge) → slice_get cfa.edges edge ≡ Some g
    → PinsEdge callstack cfa edge e (next_stacks e g)
pinned cfa edge e g at h s ath _ _ is =
    subst (λ x. PinsStep part.Stack cfa x s (next_stacks e g)) (same_edge cfa edge g h at ath)
    (subst (λ x. PinsStep part.Stack cfa g s (next_stacks x g)) (sym is) (steps g s cfa))

covered : (cfa : Cfa) (edge : ℕ) (e : Elem) (g : Edge) → slice_get cfa.edges edge ≡ Some g
    → CoversEdge cfa edge e (next_stacks e g)
covered cfa edge e g at h s t ath holds along =
    covers e g cfa s t holds (subst (λ x. StepsAlong cfa x s t)
    (same_edge cfa edge h g ath at) along)

-- the laws of transfer
pub next_stacks-laws : (cfa : Cfa) (edge : ℕ) (e : Elem) (p : Precision) (g : Edge) → IsEdgeOf cfa g
    → IsShaped cfa e
    → slice_get cfa.edges edge ≡ Some g → TransferLaws callstack cfa edge e p (next_stacks e g)
next_stacks-laws cfa edge e p g sound shaped at = record {
  shaped = all_next (IsShaped cfa) e g tt (λ sites new first after.
      with_stack-shaped cfa new (after_shaped cfa g.act sites new sound.act after
      (first_shaped cfa e.facts sites shaped first)));
  covers = covered cfa edge e g at;
  exact = λ _. pinned cfa edge e g at;
  bounded =
      λ _. all_next (λ x. IsBounded callstack cfa x p) e g (omega arith)
      (λ sites new first after. omega arith);
  told = λ h ath. ap (next_stacks e) (same_edge cfa edge g h at ath);
}

-- the laws of the initial element
pub with_stack-laws : (cfa : Cfa) → InitialLaws callstack cfa (with_stack [])
with_stack-laws cfa = record {
  shaped = (tt, tt);
  holds = (refl, tt);
  exact = λ _. refl;
  bounded = λ p _. omega arith;
  told = refl;
}
