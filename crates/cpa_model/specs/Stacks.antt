-- What stack an act leaves, computed (this project's own). It is the one of `StepsStack`.
use Rattle.std.specs.Prelude.{ℕ, ◌==◌, List, [], ◌∷◌, ◌++◌, Option, None, Some, option_map}
use Rattle.std.specs.Prelude.{if◌then◌else◌}
use Rattle.cpa_model.specs.declared.automaton.Act.{Act}
use Rattle.cpa_model.specs.declared.automaton.Act.TheVariants as act

-- the stack without its top, where this site is the top
abbrev pub popped : ℕ → List ℕ → Option (List ℕ)
popped site [] = None
popped site (top ∷ []) = if top == site then Some [] else None
popped site (s ∷ next ∷ sites) = option_map (λ rest. s ∷ rest) (popped site (next ∷ sites))

-- the stack after the act: a call pushes its site, and a return pops it, or cannot be
abbrev pub stack_after : Act → List ℕ → Option (List ℕ)
stack_after (act.Call site) sites = Some (sites ++ site ∷ [])
stack_after (act.Return site) sites = popped site sites
stack_after a sites = Some sites
