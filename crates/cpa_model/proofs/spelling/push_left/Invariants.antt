-- What is added and what is left is the whole.
use Rattle.std.proofs.Common.{◌≡◌, ◌++◌, ◌∷◌}
use Rattle.std.specs.List.{flat_map}
use Rattle.std.specs.String.{string_bytes}
use Rattle.cpa_model.specs.Spelling.{fact_text}
use Rattle.cpa_model.proofs.spelling.push_left.Given as goal

abbrev pub invariant-loop-fact : goal.invariant-loop-fact
invariant-loop-fact l =
    string_bytes l.out ++ flat_map (λ fact. 44 ∷ fact_text fact) l.fact-iterator
    ≡ string_bytes l.initial.out ++ flat_map (λ fact. 44 ∷ fact_text fact) l.fn.left
