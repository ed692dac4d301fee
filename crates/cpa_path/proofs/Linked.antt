-- One edge of a path that chains (`chains_on`), and why a path does not.
use Rattle.std.proofs.Common.{◌≡◌, ℕ, List, ◌∷◌, None, Some, slice_get, sym, ap, ◌∙◌, subst}
use Rattle.std.specs.Prelude.{◌↔◌}
use Rattle.std.proofs.lemmas.Option.{same_Some, none-some}
use Rattle.cpa_model.specs.declared.automaton.Edge.{Edge}
use Rattle.cpa_model.specs.declared.automaton.Cfa.{Cfa}
use Rattle.cpa_model.specs.Stacks.{stack_after}
use Rattle.cpa_model.specs.Steps.{StepsStack}
use Rattle.cpa_model.specs.lemmas.Stacks.{stack_after-whole, stack_after-means}
use Rattle.cpa_path.specs.Paths.{ChainsFrom}

module _ (cfa : Cfa) (p n : ℕ) (calls ns : List ℕ) (g : Edge) (at : slice_get cfa.edges n ≡ Some g)
  where
    pub chains_on : (next : List ℕ) → g.from ≡ p → stack_after g.act calls ≡ Some next
        → ChainsFrom cfa g.to next ns ↔ ChainsFrom cfa p calls (n ∷ ns)
    chains_on next from stack = (
      λ rest. (g, next, at, from, stack_after-means g.act calls next stack, rest),
      λ (h, m, at_h, from_h, stack_h, rest).
          let same = same_Some h g (sym at_h ∙ at) in
          let stack_g = subst (λ (e : Edge). StepsStack e.act calls m) same stack_h in
          let one = same_Some m next (sym (stack_after-whole g.act calls m stack_g) ∙ stack) in
          subst (λ (e : Edge). ChainsFrom cfa e.to next ns) same
          (subst (λ (ks : List ℕ). ChainsFrom cfa h.to ks ns) one rest),
    )

    pub other_point : (g.from ≡ p → ⊥) → ChainsFrom cfa p calls (n ∷ ns) → ⊥
    other_point other (h, m, at_h, from_h, stack_h, rest) =
        let same = same_Some h g (sym at_h ∙ at) in
        other (ap (λ (e : Edge). e.from) (sym same) ∙ from_h)

    pub no_calls : stack_after g.act calls ≡ None → ChainsFrom cfa p calls (n ∷ ns) → ⊥
    no_calls none (h, m, at_h, from_h, stack_h, rest) =
        let same = same_Some h g (sym at_h ∙ at) in
        let stack_g = subst (λ (e : Edge). StepsStack e.act calls m) same stack_h in
        none-some m (sym none ∙ stack_after-whole g.act calls m stack_g)
