use Rattle.std.proofs.Common.{◌+◌, List, drop, Option, sym, ap, ◌∙◌, arith}
use Rattle.std.specs.List.{flat_map}
use Rattle.c_lexer.specs.declared.fault.Rule.TheVariants as rule
use Rattle.c_lexer.specs.declared.fault.TextFault.{TextFault}
use Rattle.c_grammar_tree.specs.declared.item.Parameter.{Parameter}
use Rattle.c_types_rules.specs.First.{first_with}
use Rattle.c_types_rules.specs.ExpressionRules.{broken}
use Rattle.c_types_rules.specs.Declarations.{void_parameter}
use Rattle.c_types_globals.proofs.Faults.{void_more}
use Rattle.c_types_globals.proofs.Next.{next_item}
use Rattle.c_types_globals.proofs.parameters.note_void_parameters.Goals as goal

pub loop-parameter-preserved : goal.loop-parameter-preserved
loop-parameter-preserved c =
    let text = c.args.survey.now in
    let all = c.args.all.now in
    let i = c.loop-parameter.parameter-index in
    let x = c.parameter-item.result in
    let rest = drop (i + 1) all in
    let held = c.loop-parameter.first in
    ap (λ (f : Option TextFault). first_with f (broken rule.N5
    (flat_map (void_parameter text) rest)))
    c.in_ok-note_void_parameter.ensures
    ∙ sym (void_more text held x rest)
    ∙ ap (λ (ps : List Parameter). first_with held (broken rule.N5
    (flat_map (void_parameter text) ps)))
    (sym (next_item all i x (omega arith) c.parameter-item.is))
    ∙ c.loop-parameter.invariant
