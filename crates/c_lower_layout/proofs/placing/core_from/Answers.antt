-- What the rules make with these cells.
use Rattle.std.proofs.Common.{ℕ, List, ap, ◌∙◌}
use Rattle.c_core_rules_laws.specs.Layouts.{text_from}
use Rattle.c_lower_layout.proofs.placing.core_from.Goals as goal

pub returns-clause-cells : goal.returns-clause-cells
returns-clause-cells c =
    c.in_ok-text.ensures.cells
    ∙ ap (λ (ns : List ℕ). (text_from ns c.args.globals.now c.args.functions.now).taken.cells)
    c.as_slice.ensures

pub returns-clause-names : goal.returns-clause-names
returns-clause-names c =
    c.in_ok-text.ensures.names
    ∙ ap (λ (ns : List ℕ). (text_from ns c.args.globals.now c.args.functions.now).taken.names)
    c.as_slice.ensures

pub returns-clause-trees : goal.returns-clause-trees
returns-clause-trees c =
    c.from_vec.ensures ∙ c.in_ok-text.ensures.trees
    ∙ ap (λ (ns : List ℕ). (text_from ns c.args.globals.now c.args.functions.now).made)
    c.as_slice.ensures
