-- The states of an entry stand at the point of its first fact on one, and go along its edges.
use Rattle.std.proofs.Common.{◌≡◌, ℕ, ◌+◌, ◌<◌, ◌≤◌, List, [], ◌∷◌, Option, Some, None, refl, sym}
use Rattle.std.proofs.Common.{◌∙◌, inl, inr, ⊎_elim, arith}
use Rattle.std.specs.Prelude.{◌⊎◌}
use Rattle.std.specs.List.{slice_get, AllByRecursion}
use Rattle.std.specs.Option.{option_or}
use Rattle.std.proofs.lemmas.Option.{same_Some, slice_get_within}
use Rattle.cpa_model.specs.declared.automaton.Cfa.{Cfa}
use Rattle.cpa_model.specs.declared.automaton.Edge.{Edge}
use Rattle.cpa_facts.specs.declared.fact.Fact.{Fact}
use Rattle.cpa_facts.specs.declared.fact.Fact.TheVariants.{At, Stack, Equals, Within, Truth}
use Rattle.cpa_model.specs.declared.facts.Elem.{Elem}
use Rattle.cpa_model.specs.declared.states.State.{State}
use Rattle.cpa_model.specs.Facts.{FactHolds, LiesIn}
use Rattle.cpa_engine_turn.specs.Points.{point_in, first_point, AreEdgesFrom}

fact_stands : (fs : List Fact) (p : ℕ) (s : State) → point_in fs ≡ Some p
    → AllByRecursion (FactHolds s) fs → s.point ≡ p
fact_stands [] p s is holds = absurd (cc)
fact_stands (At point ∷ fs) p s is holds = holds.0 ∙ same_Some point p is
fact_stands (Stack sites ∷ fs) p s is holds = fact_stands fs p s is holds.1
fact_stands (Equals cell value ∷ fs) p s is holds = fact_stands fs p s is holds.1
fact_stands (Within cell lo hi ∷ fs) p s is holds = fact_stands fs p s is holds.1
fact_stands (Truth expr truth ∷ fs) p s is holds = fact_stands fs p s is holds.1

either_point : (o rest : Option ℕ) (p : ℕ) → option_or o rest ≡ Some p
    → (o ≡ Some p) ⊎ (rest ≡ Some p)
either_point None rest p is = inr is
either_point (Some q) rest p is = inl is

all_stand : (es : List Elem) (p : ℕ) (s : State) → first_point es ≡ Some p → LiesIn s es
    → s.point ≡ p
all_stand [] p s is lies = absurd (cc)
all_stand (e ∷ es) p s is lies =
    ⊎_elim (λ here. fact_stands e.facts p s here lies.0) (λ later. all_stand es p s later lies.1)
    (either_point (point_in e.facts) (first_point es) p is)

along : (cfa : Cfa) (es : List Elem) (o : Option ℕ) (first count : ℕ) → first_point es ≡ o
    → AreEdgesFrom cfa o first count → (k : ℕ) (g : Edge) (s : State)
    → slice_get cfa.edges k ≡ Some g → LiesIn s es → s.point ≡ g.from
    → (first ≤ k) × (k < first + count)
along cfa es None first count is are k g s at lies from =
    let inside = slice_get_within cfa.edges k g at in
    let zero = are.0 in
    let all = are.1 in
    (omega (arith, zero), omega (arith, inside, zero, all))
along cfa es (Some p) first count is are k g s at lies from =
    (are k g at).1 (sym from ∙ all_stand es p s is lies)

-- an edge that leaves the point of a state of the row is one of them
pub leaves_along : (cfa : Cfa) (es : List Elem) (first count : ℕ)
    → AreEdgesFrom cfa (first_point es) first count → (k : ℕ) (g : Edge) (s : State)
    → slice_get cfa.edges k ≡ Some g → LiesIn s es → s.point ≡ g.from
    → (first ≤ k) × (k < first + count)
leaves_along cfa es first count are = along cfa es (first_point es) first count refl are
