use Rattle.std.proofs.Common.{ℕ, Bool, List, [], ◌∷◌, ◌++◌, drop, ap, ◌∙◌}
use Rattle.c_lexer.specs.declared.fault.Rule.TheVariants as rule
use Rattle.c_types_rules.specs.declared.meaning.Entry.{Entry}
use Rattle.c_types_rules.specs.First.{first_with}
use Rattle.c_types_rules.specs.ExpressionRules.{broken, at_if}
use Rattle.c_types_rules.specs.Declarations.{is_declared_among, local_entry}
use Rattle.c_types_bodies.proofs.parameters.declare_parameter.Goals as goal

pub returns-clause-names : goal.returns-clause-names
returns-clause-names c =
    c.in_ok-declare.ensures.declared
    ∙ ap (λ (entry : Entry). c.args.walker.now.names ++ entry ∷ [])
    (c.in_ok-entry.ensures
    ∙ ap (λ (bytes : List ℕ). local_entry bytes c.args.object) c.as_slice-bytes.ensures)

pub returns-clause-first : goal.returns-clause-first
returns-clause-first c =
    let old = c.args.walker.now in
    c.note_if.ensures
    ∙ ap (λ (b : Bool). first_with old.first (broken rule.N2 (at_if b c.args.name.now.place)))
    (c.is_declared_from-is_declared.ensures
    ∙ ap (λ (bytes : List ℕ). is_declared_among (drop c.args.nest.outer old.names) bytes)
    c.as_slice-bytes.ensures)
