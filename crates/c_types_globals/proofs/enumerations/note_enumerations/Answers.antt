use Rattle.std.proofs.Common.{◌+◌, List, drop, Option, sym, ap, ◌∙◌, arith}
use Rattle.c_lexer.specs.declared.fault.TextFault.{TextFault}
use Rattle.c_grammar_tree.specs.declared.item.Parameter.{Parameter}
use Rattle.c_types_rules.specs.First.{first_with, first_append}
use Rattle.c_types_rules.specs.Items.{Before, enumeration_faults}
use Rattle.c_types_globals.specs.Scopes.{before_of, parameters_faults}
use Rattle.c_types_globals.proofs.Next.{next_item}
use Rattle.c_types_globals.proofs.enumerations.note_enumerations.Goals as goal

pub loop-parameter-preserved : goal.loop-parameter-preserved
loop-parameter-preserved c =
    let all = c.args.all.now in
    let text = c.args.survey.now in
    let i = c.loop-parameter.parameter-index in
    let x = c.parameter-item.result in
    let rest = drop (i + 1) all in
    let before = before_of c.loop-parameter.scope in
    let behind = before_of c.note_enumeration.new.scope in
    let held = c.loop-parameter.first in
    let e = c.in_ok-note_enumeration.ensures in
    let own = enumeration_faults text x.specifiers before in
    record {
      scope = e.scope ∙ c.loop-parameter.invariant.scope;
      first = ap (λ (f : Option TextFault). first_with f (parameters_faults text rest behind))
          e.first
          ∙ ap (λ (b : Before). first_with (first_with held own) (parameters_faults text rest b))
          e.scope
          ∙ sym (first_append held own (parameters_faults text rest before))
          ∙ ap (λ (ps : List Parameter). first_with held (parameters_faults text ps before))
          (sym (next_item all i x (omega arith) c.parameter-item.is))
          ∙ c.loop-parameter.invariant.first;
    }
