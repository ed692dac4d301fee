-- The faults of the value, and then those of its names and types.
use Rattle.std.proofs.Common.{Option, ◌++◌, sym, ap, ◌∙◌}
use Rattle.c_lexer.specs.declared.fault.Rule.TheVariants as rule
use Rattle.c_lexer.specs.declared.fault.TextFault.{TextFault}
use Rattle.c_types_rules.specs.declared.meaning.Role.TheVariants.{Valued}
use Rattle.c_types_rules.specs.First.{first_with, first_append}
use Rattle.c_types_rules.specs.ExpressionRules.{broken}
use Rattle.c_types_rules.specs.Declarations.{constant_number, inconstant}
use Rattle.c_types_expressions.specs.Read.{part_of, role_faults}
use Rattle.c_types_objects.specs.Enumerations.{outside_places}
use Rattle.c_types_objects.proofs.Enumerating.{given_outside}
use Rattle.c_types_objects.proofs.enumerators.read_given.Goals as goal

pub returns-clause-first : goal.returns-clause-first
returns-clause-first c =
    let s = c.args.survey.now in
    let n = c.args.names.now in
    let e = c.args.given.now in
    let held = c.args.first.now in
    let fixed = c.in_ok-fixed.fixed in
    let read = c.in_ok-fixed.ensures in
    let used = role_faults s n Valued e in
    let places = inconstant s n e ++ outside_places (constant_number s n e) (part_of s n e).place in
    c.note_found.ensures used read.first
    ∙ (ap (λ (h : Option TextFault). first_with h used) (c.note_outside.ensures
    ∙ (ap (λ (h : Option TextFault).
    first_with h (broken rule.N12 (outside_places fixed.number fixed.place))) c.note_place.ensures
    ∙ given_outside held fixed.inconstant fixed.number fixed.place s n e read.inconstant read.number
    read.place))
    ∙ sym (first_append held (broken rule.N12 places) used))
