-- What is read of each suffix, from what is read of its expressions (`opened`).
use Rattle.std.proofs.Common.{◌≡◌, ℕ, List, [], ◌∷◌, ◌++◌, map, length, Option, ap, sym, ◌∙◌}
use Rattle.std.specs.List.{flat_map}
use Rattle.std.proofs.lemmas.List.{length-map, append-nil, append_assoc}
use Rattle.c_lexer.specs.declared.fault.TextFault.{TextFault}
use Rattle.c_grammar_symbols.specs.declared.operators.StepOperator.{StepOperator}
use Rattle.c_grammar_tree.specs.declared.expression.Expression.{Expression}
use Rattle.c_grammar_tree.specs.declared.expression.Expression.TheOpen.{Suffix-F}
use Rattle.c_grammar_tree.specs.declared.expression.Expression.TheFolds.{fold-Suffix, map-Suffix}
use Rattle.c_grammar_tree.specs.declared.expression.Expression.TheFolds.{fold-roll-Suffix}
use Rattle.c_grammar_tree.specs.declared.expression.Suffix.{Suffix, roll-Suffix}
use Rattle.c_grammar_tree.specs.declared.expression.Suffix.TheVariants as suffix
use Rattle.c_types_rules.specs.Items.{Call}
use Rattle.c_types_rules.specs.declared.meaning.Entry.{Entry}
use Rattle.c_types_rules.specs.declared.meaning.Part.{Part}
use Rattle.c_types_rules.specs.declared.meaning.Role.TheVariants.{Valued, Changed, Indexed, Called}
use Rattle.c_types_rules.specs.declared.typed.TypedExpression.{TypedExpression}
use Rattle.c_types_rules.specs.declared.typed.TypedSuffix.TheVariants as behind
use Rattle.c_types_rules.specs.Names.{Text}
use Rattle.c_types_rules.specs.First.{first_with}
use Rattle.c_types_rules.specs.Parts.{with_value, with_values, element_of, element_form, result_of}
use Rattle.c_types_rules.specs.Parts.{changed_kind}
use Rattle.c_types_rules.specs.Expressions.{Reading, ReadSuffix, reading, reading_step, read_suffix}
use Rattle.c_types_rules.specs.Expressions.{used}
use Rattle.c_types_rules.specs.Expressions.{taken, given, plain, parts_of, suffix_part, suffix_uses}
use Rattle.c_types_rules.specs.Expressions.{suffix_typed}
use Rattle.c_types_rules.specs.ExpressionRules.{use_faults, uses_faults}
use Rattle.c_types_rules.specs.Items.{use_calls}
use Rattle.c_types_expressions.specs.Read.{part_of, typed_of, role_faults, role_calls, uses_calls}
use Rattle.c_types_expressions.specs.Read.{form_calls, suffix_of}
use Rattle.c_types_expressions.proofs.Uses.{uses_append, uses_one, uses_two, given_calls}
use Rattle.c_types_expressions.proofs.Lists.{parts_read, trees_read, list_faults, list_calls}

module _ (text : Text) (names : List Entry) where
  opened : (s : Suffix) (x : Suffix-F Expression Suffix) → roll-Suffix x ≡ s →
      suffix_of text names s ≡ read_suffix (map-Suffix Expression Suffix Reading ReadSuffix
      (reading text names) (suffix_of text names) x)
  unfolding reading suffix_of
  opened s x is =
      ap (fold-Suffix Reading ReadSuffix (reading_step text names) read_suffix) (sym is)
      ∙ fold-roll-Suffix Reading ReadSuffix (reading_step text names) read_suffix x

  open_Index : (index : Expression) (place : ℕ) →
      suffix_of text names (suffix.Index index place)
      ≡ Suffix-F.Index (reading text names index) place
  open_Index index place = opened (suffix.Index index place) (Suffix-F.Index index place)
      (suffix.rolls-Index index place)

  pub part_Index : (base : Part) (index : Expression) (place : ℕ) →
      suffix_part base (suffix_of text names (suffix.Index index place))
      ≡ record {
        place = base.place;
        kind = with_value (element_of base.form) (part_of text names index).kind;
        form = element_form base.form;
      }
  part_Index base index place = ap (suffix_part base) (open_Index index place)

  pub typed_Index : (base : Part) (index : Expression) (place : ℕ) →
      suffix_typed base (suffix_of text names (suffix.Index index place))
      ≡ behind.Index (typed_of text names index)
      (with_value (element_of base.form) (part_of text names index).kind) place
  typed_Index base index place = ap (suffix_typed base) (open_Index index place)

  pub first_Index : (held : Option TextFault) (base : Part) (index : Expression) (place : ℕ) →
      first_with held
      (uses_faults (suffix_uses base (suffix_of text names (suffix.Index index place))))
      ≡ first_with (first_with held (use_faults (taken Indexed base)))
      (role_faults text names Valued index)
  first_Index held base index place =
      ap (λ (s : ReadSuffix). first_with held (uses_faults (suffix_uses base s)))
      (open_Index index place)
      ∙ (uses_append held (taken Indexed base ∷ []) (used Valued (reading text names index))
      ∙ ap (λ h. first_with h (role_faults text names Valued index))
      (uses_one held (taken Indexed base)))

  pub calls_Index : (held : List Call) (caller : ℕ) (base : Part) (index : Expression) (place : ℕ) →
      held ++ uses_calls caller
      (suffix_uses base (suffix_of text names (suffix.Index index place)))
      ≡ held ++ role_calls text names caller Valued index
  unfolding uses_calls
  calls_Index held caller base index place =
      ap (λ (s : ReadSuffix). held ++ uses_calls caller (suffix_uses base s))
      (open_Index index place)

  open_Call : (arguments : List Expression) (place : ℕ) →
      suffix_of text names (suffix.Call arguments place)
      ≡ Suffix-F.Call (map (reading text names) arguments) place
  open_Call arguments place = opened (suffix.Call arguments place) (Suffix-F.Call arguments place)
      (suffix.rolls-Call arguments place)

  pub part_Call : (base : Part) (arguments : List Expression) (place : ℕ) →
      suffix_part base (suffix_of text names (suffix.Call arguments place))
      ≡ plain base.place
      (with_values (result_of base.form) (map (part_of text names) arguments))
  part_Call base arguments place = ap (suffix_part base) (open_Call arguments place)
      ∙ ap (λ (ps : List Part). plain base.place (with_values (result_of base.form) ps))
      (parts_read text names arguments)

  pub typed_Call : (base : Part) (arguments : List Expression) (place : ℕ) →
      suffix_typed base (suffix_of text names (suffix.Call arguments place))
      ≡ behind.Call (map (typed_of text names) arguments)
      (with_values (result_of base.form) (map (part_of text names) arguments)) place
  typed_Call base arguments place = ap (suffix_typed base) (open_Call arguments place)
      ∙ (ap (λ (ts : List TypedExpression). behind.Call ts (with_values (result_of base.form)
      (parts_of (map (reading text names) arguments))) place) (trees_read text names arguments)
      ∙ ap (λ (ps : List Part). behind.Call (map (typed_of text names) arguments)
      (with_values (result_of base.form) ps) place) (parts_read text names arguments))

  pub first_Call : (held : Option TextFault) (base : Part) (arguments : List Expression)
      (place : ℕ) → first_with held
      (uses_faults (suffix_uses base (suffix_of text names (suffix.Call arguments place))))
      ≡ first_with (first_with (first_with held (use_faults (taken Called base)))
      (use_faults (given base.form (length arguments))))
      (flat_map (role_faults text names Valued) arguments)
  first_Call held base arguments place =
      ap (λ (s : ReadSuffix). first_with held (uses_faults (suffix_uses base s)))
      (open_Call arguments place)
      ∙ (uses_append held (taken Called base
      ∷ given base.form (length (map (reading text names) arguments)) ∷ [])
      (flat_map (used Valued) (map (reading text names) arguments))
      ∙ (ap (λ h. first_with h (uses_faults (flat_map (used Valued)
      (map (reading text names) arguments)))) (uses_two held (taken Called base)
      (given base.form (length (map (reading text names) arguments))))
      ∙ (ap (λ n. first_with (first_with (first_with held (use_faults (taken Called base)))
      (use_faults (given base.form n))) (uses_faults (flat_map (used Valued)
      (map (reading text names) arguments)))) (length-map arguments (reading text names))
      ∙ ap (first_with (first_with (first_with held (use_faults (taken Called base)))
      (use_faults (given base.form (length arguments)))))
      (list_faults text names Valued arguments))))

  pub calls_Call : (held : List Call) (caller : ℕ) (base : Part) (arguments : List Expression)
      (place : ℕ) → held ++ uses_calls caller
      (suffix_uses base (suffix_of text names (suffix.Call arguments place)))
      ≡ (held ++ form_calls caller base.form)
      ++ flat_map (role_calls text names caller Valued) arguments
  unfolding uses_calls
  calls_Call held caller base arguments place =
      ap (λ (s : ReadSuffix). held ++ uses_calls caller (suffix_uses base s))
      (open_Call arguments place)
      ∙ (ap (λ (cs : List Call). held ++ (cs ++ uses_calls caller
      (flat_map (used Valued) (map (reading text names) arguments))))
      (given_calls caller base.form (length (map (reading text names) arguments)))
      ∙ (ap (λ (cs : List Call). held ++ (form_calls caller base.form ++ cs))
      (list_calls text names caller Valued arguments)
      ∙ sym (append_assoc held (form_calls caller base.form)
      (flat_map (role_calls text names caller Valued) arguments))))

  open_Step : (operator : StepOperator) (place : ℕ) →
      suffix_of text names (suffix.Step operator place) ≡ Suffix-F.Step operator place
  open_Step operator place = opened (suffix.Step operator place) (Suffix-F.Step operator place)
      (suffix.rolls-Step operator place)

  pub part_Step : (base : Part) (operator : StepOperator) (place : ℕ) →
      suffix_part base (suffix_of text names (suffix.Step operator place))
      ≡ plain base.place (changed_kind base)
  part_Step base operator place = ap (suffix_part base) (open_Step operator place)

  pub typed_Step : (base : Part) (operator : StepOperator) (place : ℕ) →
      suffix_typed base (suffix_of text names (suffix.Step operator place))
      ≡ behind.Step operator (changed_kind base) place
  typed_Step base operator place = ap (suffix_typed base) (open_Step operator place)

  pub first_Step : (held : Option TextFault) (base : Part) (operator : StepOperator) (place : ℕ) →
      first_with held
      (uses_faults (suffix_uses base (suffix_of text names (suffix.Step operator place))))
      ≡ first_with held (use_faults (taken Changed base))
  first_Step held base operator place =
      ap (λ (s : ReadSuffix). first_with held (uses_faults (suffix_uses base s)))
      (open_Step operator place)
      ∙ uses_one held (taken Changed base)

  pub calls_Step : (held : List Call) (caller : ℕ) (base : Part) (operator : StepOperator)
      (place : ℕ) → held ++ uses_calls caller
      (suffix_uses base (suffix_of text names (suffix.Step operator place))) ≡ held
  unfolding uses_calls
  calls_Step held caller base operator place =
      ap (λ (s : ReadSuffix). held ++ uses_calls caller (suffix_uses base s))
      (open_Step operator place)
      ∙ append-nil held

  open_Skipped : (place : ℕ) →
      suffix_of text names (suffix.Skipped place) ≡ Suffix-F.Skipped place
  open_Skipped place = opened (suffix.Skipped place) (Suffix-F.Skipped place)
      (suffix.rolls-Skipped place)

  pub part_Skipped : (base : Part) (place : ℕ) →
      suffix_part base (suffix_of text names (suffix.Skipped place))
      ≡ plain base.place (result_of base.form)
  part_Skipped base place = ap (suffix_part base) (open_Skipped place)

  pub typed_Skipped : (base : Part) (place : ℕ) →
      suffix_typed base (suffix_of text names (suffix.Skipped place))
      ≡ behind.Skipped (result_of base.form) place
  typed_Skipped base place = ap (suffix_typed base) (open_Skipped place)

  pub first_Skipped : (held : Option TextFault) (base : Part) (place : ℕ) →
      first_with held
      (uses_faults (suffix_uses base (suffix_of text names (suffix.Skipped place))))
      ≡ first_with (first_with held (use_faults (taken Called base)))
      (use_faults (given base.form 0))
  first_Skipped held base place =
      ap (λ (s : ReadSuffix). first_with held (uses_faults (suffix_uses base s)))
      (open_Skipped place)
      ∙ uses_two held (taken Called base) (given base.form 0)

  pub calls_Skipped : (held : List Call) (caller : ℕ) (base : Part) (place : ℕ) →
      held ++ uses_calls caller
      (suffix_uses base (suffix_of text names (suffix.Skipped place)))
      ≡ held ++ form_calls caller base.form
  unfolding uses_calls
  calls_Skipped held caller base place =
      ap (λ (s : ReadSuffix). held ++ uses_calls caller (suffix_uses base s))
      (open_Skipped place)
      ∙ ap (λ (cs : List Call). held ++ cs)
      (append-nil (use_calls caller (given base.form 0)) ∙ given_calls caller base.form 0)

-- what `read_index` of src/postfix.rt proves by
pub ruleset read_index_rules = (part_Index, typed_Index, first_Index, calls_Index)

-- what `read_call` of src/postfix.rt proves by
pub ruleset read_call_rules = (part_Call, typed_Call, first_Call, calls_Call)

-- what `read_step` of src/postfix.rt proves by
pub ruleset read_step_rules = (part_Step, typed_Step, first_Step)

-- what `read_skipped` of src/postfix.rt proves by
pub ruleset read_skipped_rules = (part_Skipped, typed_Skipped, first_Skipped, calls_Skipped)
