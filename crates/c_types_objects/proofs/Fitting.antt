-- The faults of a rule at places that stand one after the other (`broken_append`, `given_noted`);
-- no use is no call.
use Rattle.std.proofs.Common.{◌≡◌, ℕ, ℤ, List, [], ◌++◌, Option, ap, sym, ◌∙◌}
use Rattle.std.proofs.lemmas.List.{append-nil, map-append}
use Rattle.c_lexer.specs.declared.fault.Rule.{Rule}
use Rattle.c_lexer.specs.declared.fault.TextFault.{TextFault}
use Rattle.c_types_rules.specs.First.{first_with, first_append}
use Rattle.c_lexer.specs.declared.fault.Rule.TheVariants as rule
use Rattle.c_grammar_tree.specs.declared.expression.Expression.{Expression}
use Rattle.c_grammar_tree.specs.declared.declaration.Declarator.{Declarator}
use Rattle.c_types_rules.specs.declared.meaning.Entry.{Entry}
use Rattle.c_types_rules.specs.Names.{Text}
use Rattle.c_types_rules.specs.ExpressionRules.{broken, option_places}
use Rattle.c_types_rules.specs.Declarations.{constant_number, inconstant, misfit}
use Rattle.c_types_rules.specs.Declarations.{given_length_faults}
use Rattle.c_types_rules.specs.Items.{Call}
use Rattle.c_types_expressions.specs.Read.{part_of, uses_calls, calls_are}

pub broken_append : (held : Option TextFault) (one : Rule) (xs ys : List ℕ) →
    first_with held (broken one (xs ++ ys))
    ≡ first_with (first_with held (broken one xs)) (broken one ys)
broken_append held one xs ys =
    ap (first_with held) (map-append (λ (place : ℕ). record { rule = one; place = place }) xs ys)
    ∙ first_append held (broken one xs) (broken one ys)

-- the faults of a length that is there, noted one after the other
pub given_noted : (held : Option TextFault) (inconstant_at : Option ℕ) (number : Option ℤ)
    (place : ℕ) (text : Text) (names : List Entry) (declarator : Declarator) (given : Expression) →
    option_places inconstant_at ≡ inconstant text names given →
    number ≡ constant_number text names given → place ≡ (part_of text names given).place →
    first_with (first_with held (broken rule.N12 (option_places inconstant_at)))
    (broken rule.N12 (misfit number place declarator))
    ≡ first_with held (broken rule.N12 (given_length_faults text names declarator given))
given_noted held inconstant_at number place text names declarator given at_i at_n at_p =
    sym (broken_append held rule.N12 (option_places inconstant_at)
    (misfit number place declarator))
    ∙ ap (λ (places : List ℕ). first_with held (broken rule.N12 places))
    (ap (λ (xs : List ℕ). xs ++ misfit number place declarator) at_i
    ∙ (ap (λ m. inconstant text names given ++ misfit m place declarator) at_n
    ∙ ap (λ p. inconstant text names given
    ++ misfit (constant_number text names given) p declarator) at_p))

pub no_calls : (held : List Call) (caller : ℕ) → held ++ uses_calls caller [] ≡ held
no_calls held caller = ap (λ (cs : List Call). held ++ cs) (calls_are caller []) ∙ append-nil held

-- what `read_given` of src/lengths.rt proves by
pub ruleset read_given_rules = (broken_append, first_append)
