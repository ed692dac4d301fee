-- The fault of a text without main, as a place where a test holds.
use Rattle.std.proofs.Common.{◌≡◌, ℕ, Bool, true, false, not, [], ◌∷◌, refl, ap, ◌∙◌}
use Rattle.std.specs.Prelude.{if◌then◌else◌}
use Rattle.std.specs.List.{list_any}
use Rattle.c_lexer.specs.declared.fault.Rule.TheVariants as rule
use Rattle.c_grammar_tree.specs.declared.item.Unit.{Unit as UnitTree}
use Rattle.c_types_rules.specs.Names.{Text}
use Rattle.c_types_rules.specs.Items.{text_in}
use Rattle.c_types_rules.specs.ExpressionRules.{broken, at_if}
use Rattle.c_types_rules.specs.Sound.{is_main, without_main}
use Rattle.cpa_ints.specs.declared.data_model.DataModel.{DataModel}

without_by : (b : Bool) (place : ℕ) → broken rule.N11 (at_if (not b) place)
    ≡ if b then [] else (record { rule = rule.N11; place = place } ∷ [])
without_by true place = refl
without_by false place = refl

pub without_is : (model : DataModel) (text : Text) (unit : UnitTree) →
    text ≡ text_in model unit.items →
    broken rule.N11 (at_if (not (list_any (is_main text) unit.items)) unit.length)
    ≡ without_main model unit
without_is model text unit is =
    without_by (list_any (is_main text) unit.items) unit.length
    ∙ ap (λ (t : Text). if list_any (is_main t) unit.items then []
    else (record { rule = rule.N11; place = unit.length } ∷ [])) is
