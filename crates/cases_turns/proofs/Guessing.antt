-- That the two samples keep the laws of their calls.
use Rattle.std.proofs.Common.{◌≡◌, ℕ, zero, suc, ◌≤◌, List, [], ◌∷◌, Some, None, refl, sym, ap}
use Rattle.std.proofs.Common.{◌++◌, ◌∙◌, subst, inl, inr, arith}
use Rattle.std.specs.Prelude.{IfSome}
use Rattle.std.specs.List.{slice_get}
use Rattle.std.proofs.lemmas.Option.{same_Some}
use Rattle.cpa_model.specs.declared.facts.Elem.{Elem}
use Rattle.cpa_model.specs.declared.states.State.{State}
use Rattle.cpa_model.specs.declared.automaton.Cfa.{Cfa}
use Rattle.cpa_model.specs.declared.automaton.Edge.{Edge}
use Rattle.cpa_model.specs.declared.automaton.Path.{Path}
use Rattle.cpa_model.specs.Acts.{IsEdgeOf}
use Rattle.cpa_model.specs.Facts.{Holds, LiesIn}
use Rattle.cpa_iface.specs.declared.precisions.Precision.{Precision}
use Rattle.cpa_iface.specs.Laws.{InitialLaws, TransferLaws, StrengthenLaws, RefineLaws}
use Rattle.cpa_iface.specs.Meanings.{Meaning, IsPrecision}
use Rattle.cpa_iface.specs.Pins.{pin}
use Rattle.cases_turns.specs.Samples.{no_facts, blind, guess, StandsAt}

-- an element without facts
pub nothing_initial : (m : Meaning) (cfa : Cfa)
    → ((p : Precision) → m.rank cfa no_facts ≤ m.height cfa p) → m.part ≡ blind.part
    → IfSome m.replies (λ r. no_facts ≡ r.initial cfa) → InitialLaws m cfa no_facts
nothing_initial m cfa bounded same told = record {
  shaped = tt;
  holds = tt;
  exact = λ other. absurd (other same);
  bounded = λ p _. bounded p;
  told = told;
}

pub blind_transfer : (cfa : Cfa) (edge : ℕ) (e : Elem) (p : Precision)
    → TransferLaws blind cfa edge e p (no_facts ∷ [])
blind_transfer cfa edge e p = record {
  shaped = (tt, tt);
  covers = λ g s t at holds steps. inl tt;
  exact = λ binds. absurd binds;
  bounded = λ _. (omega arith, tt);
  told = λ g at. refl;
}

one_edge : (cfa : Cfa) (edge : ℕ) (g h : Edge) → slice_get cfa.edges edge ≡ Some g
    → slice_get cfa.edges edge ≡ Some h → h ≡ g
one_edge cfa edge g h at also = same_Some h g (sym also ∙ at)

pub guess_transfer : (cfa : Cfa) (edge : ℕ) (e : Elem) (p : Precision) (g : Edge)
    → IsEdgeOf cfa g → slice_get cfa.edges edge ≡ Some g
    → TransferLaws guess cfa edge e p (pin g.from ∷ pin g.to ∷ [])
guess_transfer cfa edge e p g sound at = record {
  shaped = ((sound.from, tt), ((sound.to, tt), tt));
  covers = λ h s t also holds steps.
      inr (inl (steps.to ∙ ap (λ (x : Edge). x.to) (one_edge cfa edge g h at also), tt));
  exact = λ binds. absurd binds;
  bounded = λ _. (omega arith, (omega arith, tt));
  told = tt;
}

pub guess_drops : (cfa : Cfa) (own : Elem) (others : List Elem) (p : Precision)
    → ((s : State) → Holds own s → LiesIn s others → ⊥) → StrengthenLaws guess cfa own others p None
guess_drops cfa own others p none = record {
  shaped = tt;
  keeps = λ s state holds lies. absurd (none s holds lies);
  exact = λ binds _. absurd binds;
  bounded = λ _. tt;
  told = tt;
}

nothing_more : {X : Type 0} (xs : List X) → xs ≡ xs ++ []
nothing_more [] = refl
nothing_more {X} (x ∷ xs) = ap (λ (l : List X). x ∷ l) (nothing_more xs)

-- to keep no suggestion, where none is told
pub same_refined : (m : Meaning) (cfa : Cfa) (path : Path) (p : Precision)
    → m.suggestion cfa path ≡ None → IfSome m.replies (λ r. p ≡ r.refine cfa path p)
    → IsPrecision cfa p → RefineLaws m cfa path p p
same_refined m cfa path p untold told precision = record {
  shaped = precision;
  limit = refl;
  tracked = ([], nothing_more p.tracked);
  preds = ([], nothing_more p.preds);
  suggested = rw untold tt;
  told = told;
}

-- a state stands at one point
pub elsewhere : (e : Elem) (s : State) (n m : ℕ) → StandsAt e n → Holds e s → s.point ≡ m → n ≡ m
elsewhere e s n m stands holds is = sym (stands s holds) ∙ is

pub holds_there : (s : State) (es : List Elem) (i : ℕ) (e : Elem) → slice_get es i ≡ Some e
    → LiesIn s es → Holds e s
holds_there s [] i e at lies = absurd (cc)
holds_there s (d ∷ es) zero e at lies = subst (λ (x : Elem). Holds x s) (same_Some d e at) lies.0
holds_there s (d ∷ es) (suc i) e at lies = holds_there s es i e at lies.1
