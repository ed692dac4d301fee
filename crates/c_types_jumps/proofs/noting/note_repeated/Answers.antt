use Rattle.std.proofs.Common.{ℕ, List, [], ◌∷◌, ◌++◌, ap, ◌∙◌, arith, is_some}
use Rattle.c_lexer.specs.declared.fault.Rule.TheVariants as rule
use Rattle.c_types_rules.specs.First.{first_with}
use Rattle.c_types_rules.specs.ExpressionRules.{broken, at_if}
use Rattle.c_types_rules.specs.Names.{place_of}
use Rattle.std.specs.Str.{bytes_eq}
use Rattle.c_types_jumps.proofs.Faults.{names_more, repeated_step}
use Rattle.c_types_jumps.proofs.noting.note_repeated.Goals as goal

pub loop-label-preserved : goal.loop-label-preserved
loop-label-preserved c =
    let label = c.label-item.result in
    let labels = c.args.labels.now in
    let held = c.loop-label.first in
    record {
      names = names_more labels c.loop-label.label-index label c.loop-label.index c.push.new.self
          (omega arith) c.label-item.is c.loop-label.invariant.names
          (c.in_ok-push.ensures.pushed
          ∙ ap (λ (bytes : List ℕ). c.loop-label.index ++ bytes ∷ []) c.as_slice.ensures);
      noted = repeated_step c.args.first.now held c.note_place.new.first rule.N7 labels
          c.loop-label.label-index label (omega arith) c.label-item.is
          (c.note_place.ensures
          ∙ ap (λ (places : List ℕ). first_with held (broken rule.N7 places)) (c.repeated.ensures
          ∙ ap (λ (names : List (List ℕ)).
          at_if (is_some (place_of (bytes_eq label.name.bytes) names)) label.name.place)
          c.loop-label.invariant.names))
          c.loop-label.invariant.noted;
    }
