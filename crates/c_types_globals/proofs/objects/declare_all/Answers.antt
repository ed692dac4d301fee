use Rattle.std.proofs.Common.{◌≡◌, ◌+◌, ◌++◌, List, ◌∷◌, drop, Option, sym, ap, ◌∙◌, arith}
use Rattle.c_lexer.specs.declared.fault.TextFault.{TextFault}
use Rattle.c_grammar_tree.specs.declared.declaration.Declarator.{Declarator}
use Rattle.c_types_rules.specs.First.{first_with}
use Rattle.c_types_rules.specs.Items.{Before, globals_behind, global_faults, globals_faults}
use Rattle.c_types_rules.specs.Sound.{Start, start_of, starts_in}
use Rattle.c_types_globals.specs.Scopes.{before_of}
use Rattle.c_types_globals.proofs.Globals.{faults_next, starts_next}
use Rattle.c_types_globals.proofs.Next.{next_item}
use Rattle.c_types_globals.proofs.objects.declare_all.Goals as goal

pub loop-declarator-preserved : goal.loop-declarator-preserved
loop-declarator-preserved c =
    let text = c.args.survey.now in
    let k = c.args.qualified.kind in
    let q = c.args.qualified.is_const in
    let all = c.args.declarators.now in
    let i = c.loop-declarator.declarator-index in
    let d = c.declarator-item.result in
    let rest = drop (i + 1) all in
    let before = before_of c.loop-declarator.scope in
    let behind = before_of c.declare_object.new.scope in
    let held = c.loop-declarator.first in
    let starts = c.loop-declarator.starts.items in
    let e = c.in_ok-declare_object.ensures in
    let next : d ∷ rest ≡ drop i all = sym (next_item all i d (omega arith) c.declarator-item.is) in
    record {
      scope = ap (globals_behind text k q rest) e.scope
          ∙ ap (λ (ds : List Declarator). globals_behind text k q ds before) next
          ∙ c.loop-declarator.invariant.scope;
      first = ap (λ (f : Option TextFault). first_with f (globals_faults text k q rest behind))
          e.first
          ∙ ap (λ (b : Before). first_with (first_with held (global_faults text before k q d))
          (globals_faults text k q rest b)) e.scope
          ∙ sym (faults_next held text k q d rest before)
          ∙ ap (λ (ds : List Declarator). first_with held (globals_faults text k q ds before)) next
          ∙ c.loop-declarator.invariant.first;
      starts = ap (λ (ss : List Start). ss ++ starts_in text k q rest behind) e.starts
          ∙ ap (λ (b : Before). (starts ++ start_of text before k q d)
          ++ starts_in text k q rest b) e.scope
          ∙ sym (starts_next starts text k q d rest before)
          ∙ ap (λ (ds : List Declarator). starts ++ starts_in text k q ds before) next
          ∙ c.loop-declarator.invariant.starts;
    }
