use Rattle.std.proofs.Common.{ℕ, ℤ, pos, ◌+ℤ◌, Bool, List, [], ◌∷◌, ◌++◌, drop, Option, ap, ◌∙◌}
use Rattle.std.proofs.Common.{arith, rules, to_z, of_z, to_z-of_z, FitsSigned}
use Rattle.c_lexer.specs.declared.fault.Rule.TheVariants as rule
use Rattle.c_lexer.specs.declared.fault.TextFault.{TextFault}
use Rattle.c_types_rules.specs.First.{first_with}
use Rattle.c_types_rules.specs.ExpressionRules.{broken, at_if, uses_faults}
use Rattle.c_types_rules.specs.Declarations.{is_declared_among, enumerator_number}
use Rattle.c_types_rules.specs.Declarations.{enumerator_faults, enumerator_uses, enumerator_entry}
use Rattle.c_types_objects.proofs.Enumerating.{enumerated_start, enumerated_step, enumerated_end}
use Rattle.c_types_objects.proofs.Enumerating.{adds_none, adds_more}
use Rattle.c_types_objects.proofs.enumerators.read_enumerators.Goals as goal
use mir.Syntax.{w128}

pub loop-one-init : goal.loop-one-init
loop-one-init c = record {
  adds = adds_none c.args.names.now;
  gives = λ around named. enumerated_start c.args.survey.now c.args.caller c.args.list.now
      c.args.names.now c.args.outer around c.args.first.now c.args.calls.now.items named;
}

pub loop-one-preserved : goal.loop-one-preserved
loop-one-preserved c =
    let l = c.loop-one in
    let one = c.one-item.result in
    let text = c.args.survey.now in
    let next = to_z w128 l.next-bits in
    let value = c.in_ok-value.value in
    let read = c.in_ok-value.ensures in
    let fits : FitsSigned w128 value = search rules in
    let behind : FitsSigned w128 c.number_behind-next.result =
    record { sfits = c.number_behind-next.type_inv } in
    let is = to_z-of_z {w = w128} fits ∙ read.number in
    let names = c.in_ok-declare_enumerator.ensures
    ∙ ap (λ (bytes : List ℕ).
    l.names ++ enumerator_entry bytes (to_z w128 (of_z w128 value)) ∷ []) c.as_slice-name.ensures
    ∙ ap (λ (n : ℤ). l.names ++ enumerator_entry one.name.bytes n ∷ []) is in
    record {
      adds = adds_more c.args.names.now l.names c.declare_enumerator.new.names
          (enumerator_entry one.name.bytes (enumerator_number text l.names next one) ∷ [])
          l.invariant.adds names;
      gives = λ around named. enumerated_step text c.args.caller c.args.outer next
          (to_z w128 (of_z w128 c.number_behind-next.result)) c.args.list.now l.one-index one around
          l.names c.declare_enumerator.new.names l.first c.read_enumerator.new.first
          l.calls.items c.read_enumerator.new.calls.items _ _ _ (omega arith) c.one-item.is names
          (to_z-of_z {w = w128} behind ∙ c.number_behind-next.ensures
          ∙ ap (λ (n : ℤ). n +ℤ pos 1) is)
          (read.first
          ∙ ap (λ (held : Option TextFault). first_with held
          (broken rule.N12 (enumerator_faults text l.names next one)
          ++ uses_faults (enumerator_uses text l.names one)))
          (c.note_if.ensures
          ∙ ap (λ (b : Bool). first_with l.first (broken rule.N2 (at_if b one.name.place)))
          (c.is_declared_from-is_declared.ensures
          ∙ ap (λ (bytes : List ℕ). is_declared_among (drop c.args.outer l.names) bytes)
          c.as_slice-name.ensures)))
          read.calls named.outer_is (l.invariant.gives around named);
    }

pub returns-clause-names : goal.returns-clause-names
returns-clause-names c = λ around named.
    let l = c.loop-one in
    (enumerated_end c.args.survey.now c.args.caller (to_z w128 l.next-bits) c.args.list.now
    l.one-index around
    l.names l.first l.calls.items _ _ _ (omega arith) (l.invariant.gives around named)).names_at

pub returns-clause-first : goal.returns-clause-first
returns-clause-first c = λ around named.
    let l = c.loop-one in
    (enumerated_end c.args.survey.now c.args.caller (to_z w128 l.next-bits) c.args.list.now
    l.one-index around
    l.names l.first l.calls.items _ _ _ (omega arith) (l.invariant.gives around named)).first_at

pub returns-clause-calls : goal.returns-clause-calls
returns-clause-calls c = λ around named.
    let l = c.loop-one in
    (enumerated_end c.args.survey.now c.args.caller (to_z w128 l.next-bits) c.args.list.now
    l.one-index around
    l.names l.first l.calls.items _ _ _ (omega arith) (l.invariant.gives around named)).calls_at
