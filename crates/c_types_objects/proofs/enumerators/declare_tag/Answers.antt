use Rattle.std.proofs.Common.{ℕ, Bool, List, drop, ap, ◌∙◌}
use Rattle.c_lexer.specs.declared.fault.Rule.TheVariants as rule
use Rattle.c_types_rules.specs.First.{first_with}
use Rattle.c_types_rules.specs.ExpressionRules.{broken, at_if}
use Rattle.c_types_rules.specs.Names.{tag_key}
use Rattle.c_types_rules.specs.Declarations.{is_declared_among}
use Rattle.c_types_objects.proofs.Enumerating.{tag_first}
use Rattle.c_types_objects.proofs.enumerators.declare_tag.Goals as goal

pub returns-clause-first : goal.returns-clause-first
returns-clause-first c = λ survey around named.
    let tag = c.args.tag.now in
    let old = c.args.names.now in
    let first = c.args.first.now in
    let outer = c.args.outer in
    c.note_if.ensures
    ∙ ap (λ (b : Bool). first_with first (broken rule.N2 (at_if b tag.place)))
    (c.is_declared_from-is_declared.ensures
    ∙ ap (λ (bytes : List ℕ). is_declared_among (drop outer old) bytes)
    (c.as_slice-2.ensures ∙ c.in_ok-name.ensures
    ∙ ap (λ (bytes : List ℕ). tag_key bytes) c.as_slice.ensures))
    ∙ tag_first survey around tag outer old first named
