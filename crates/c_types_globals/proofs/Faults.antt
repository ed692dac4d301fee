-- The faults of parameters one after the other.
use Rattle.std.proofs.Common.{◌≡◌, ℕ, List, ◌∷◌, Option, ap, ◌∙◌}
use Rattle.std.specs.List.{flat_map}
use Rattle.std.proofs.lemmas.List.{map-append}
use Rattle.c_lexer.specs.declared.fault.Rule.TheVariants as rule
use Rattle.c_lexer.specs.declared.fault.TextFault.{TextFault}
use Rattle.c_grammar_tree.specs.declared.item.Parameter.{Parameter}
use Rattle.c_types_rules.specs.Names.{Text}
use Rattle.c_types_rules.specs.First.{first_with, first_append}
use Rattle.c_types_rules.specs.ExpressionRules.{broken}
use Rattle.c_types_rules.specs.Declarations.{void_parameter}

pub void_more : (text : Text) (held : Option TextFault) (x : Parameter) (xs : List Parameter) →
    first_with held (broken rule.N5 (flat_map (void_parameter text) (x ∷ xs)))
    ≡ first_with (first_with held (broken rule.N5 (void_parameter text x)))
    (broken rule.N5 (flat_map (void_parameter text) xs))
void_more text held x xs =
    ap (first_with held) (map-append (λ (place : ℕ). record { rule = rule.N5; place = place })
    (void_parameter text x) (flat_map (void_parameter text) xs))
    ∙ first_append held (broken rule.N5 (void_parameter text x))
    (broken rule.N5 (flat_map (void_parameter text) xs))
