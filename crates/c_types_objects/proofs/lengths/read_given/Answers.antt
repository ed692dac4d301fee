-- The faults of the length, and then those of its names and types.
use Rattle.std.proofs.Common.{sym, ap, ◌∙◌}
use Rattle.c_lexer.specs.declared.fault.Rule.TheVariants as rule
use Rattle.c_types_rules.specs.declared.meaning.Role.TheVariants.{Valued}
use Rattle.c_types_rules.specs.First.{first_with, first_append}
use Rattle.c_types_rules.specs.ExpressionRules.{broken}
use Rattle.c_types_rules.specs.Declarations.{misfit, given_length_faults}
use Rattle.c_types_expressions.specs.Read.{role_faults}
use Rattle.c_types_objects.proofs.Fitting.{given_noted}
use Rattle.c_types_objects.proofs.lengths.read_given.Goals as goal

pub returns-clause-first : goal.returns-clause-first
returns-clause-first c =
    let s = c.args.survey.now in
    let n = c.args.names.now in
    let d = c.args.declarator.now in
    let e = c.args.given.now in
    let held = c.args.first.now in
    let fixed = c.in_ok-fixed.fixed in
    let read = c.in_ok-fixed.ensures in
    let used = role_faults s n Valued e in
    c.note_found.ensures used read.first
    ∙ (ap (λ h. first_with h used) (c.note_misfit.ensures
    ∙ (ap (λ h. first_with h (broken rule.N12 (misfit fixed.number fixed.place d)))
    c.note_place.ensures
    ∙ given_noted held fixed.inconstant fixed.number fixed.place s n d e read.inconstant read.number
    read.place))
    ∙ sym (first_append held (broken rule.N12 (given_length_faults s n d e)) used))
