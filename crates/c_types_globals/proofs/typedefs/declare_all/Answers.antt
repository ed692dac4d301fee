use Rattle.std.proofs.Common.{◌≡◌, ◌+◌, List, ◌∷◌, drop, Option, sym, ap, ◌∙◌, arith}
use Rattle.c_lexer.specs.declared.fault.TextFault.{TextFault}
use Rattle.c_grammar_tree.specs.declared.name.Name.{Name}
use Rattle.c_types_rules.specs.First.{first_with}
use Rattle.c_types_rules.specs.Items.{Before, typedef_faults, typedefs_behind, typedefs_faults}
use Rattle.c_types_globals.specs.Scopes.{before_of}
use Rattle.c_types_globals.proofs.Typed.{behind_next, faults_next}
use Rattle.c_types_globals.proofs.Next.{next_item}
use Rattle.c_types_globals.proofs.typedefs.declare_all.Goals as goal

pub loop-name-preserved : goal.loop-name-preserved
loop-name-preserved c =
    let t = c.args.ty in
    let all = c.args.names.now in
    let i = c.loop-name.name-index in
    let x = c.name-item.result in
    let rest = drop (i + 1) all in
    let before = before_of c.loop-name.scope in
    let behind = before_of c.declare_typedef.new.scope in
    let held = c.loop-name.first in
    let e = c.in_ok-declare_typedef.ensures in
    let next : x ∷ rest ≡ drop i all = sym (next_item all i x (omega arith) c.name-item.is) in
    record {
      scope = ap (typedefs_behind t rest) e.scope
          ∙ behind_next t x rest before
          ∙ ap (λ (names : List Name). typedefs_behind t names before) next
          ∙ c.loop-name.invariant.scope;
      first = ap (λ (f : Option TextFault). first_with f (typedefs_faults t rest behind)) e.first
          ∙ ap (λ (b : Before). first_with (first_with held (typedef_faults t x before))
          (typedefs_faults t rest b)) e.scope
          ∙ sym (faults_next held t x rest before)
          ∙ ap (λ (names : List Name). first_with held (typedefs_faults t names before)) next
          ∙ c.loop-name.invariant.first;
    }
