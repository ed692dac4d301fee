use Rattle.std.proofs.Common.{ℕ, Bool, not, List, ap, ◌∙◌}
use Rattle.c_lexer.specs.declared.fault.Rule.TheVariants as rule
use Rattle.c_types_rules.specs.First.{first_with}
use Rattle.c_types_rules.specs.ExpressionRules.{broken, at_if}
use Rattle.c_types_rules.specs.Names.{is_tag}
use Rattle.c_types_objects.proofs.Enumerating.{refers_first}
use Rattle.c_types_objects.proofs.enumerators.note_tag.Goals as goal

pub returns : goal.returns
returns c = λ survey around outer named.
    let tag = c.args.tag.now in
    let names = c.args.names.now in
    let first = c.args.first.now in
    c.note_if.ensures
    ∙ ap (λ (b : Bool). first_with first (broken rule.N1 (at_if (not b) tag.place)))
    (c.in_ok-is_declared.ensures
    ∙ ap (λ (bytes : List ℕ). is_tag names bytes) c.as_slice.ensures)
    ∙ refers_first survey around tag outer names first named
