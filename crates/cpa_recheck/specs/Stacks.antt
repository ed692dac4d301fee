-- Stacks that no entry says (this project's own): site 0 more often than the longest that is said.
use Rattle.std.specs.Prelude.{ℕ, ◌≤◌, List, [], ◌∷◌, ◌++◌, length, replicate, Option, IfSome}
use Rattle.std.specs.List.{AllByRecursion}
use Rattle.cpa_model.specs.declared.automaton.Act.{Act}
use Rattle.cpa_model.specs.declared.automaton.Act.TheVariants as act
use Rattle.cpa_recheck_obligations.specs.declared.spots.Spot.{Spot}

-- the stack that is said has at most so many sites
abbrev pub HasDepth : ℕ → Option Spot → Type 0
HasDepth depth found =
    IfSome found (λ (own : Spot). IfSome own.stack (λ sites. length sites ≤ depth))

abbrev pub HasDepths : ℕ → List (Option Spot) → Type 0
HasDepths depth spots = AllByRecursion (HasDepth depth) spots

-- before the act: for a return the site is on top
abbrev pub free_before : Act → ℕ → List ℕ
free_before (act.Return site) depth = replicate depth 0 ++ site ∷ []
free_before _ depth = replicate depth 0

-- after the act: a call has pushed its site
abbrev pub free_after : Act → ℕ → List ℕ
free_after (act.Call site) depth = replicate depth 0 ++ site ∷ []
free_after _ depth = replicate depth 0
