-- What is read of lists of expressions: their types (`with_values_more`, `comma_read`), their
-- faults (`list_faults`, `links_faults`) and their calls.
use Rattle.std.proofs.Common.{◌≡◌, ℕ, List, [], ◌∷◌, ◌++◌, map, Option, None, Some, refl, ap, ◌∙◌}
use Rattle.std.proofs.lemmas.List.Concat.{flat_map-append}
use Rattle.std.specs.List.{flat_map}
use Rattle.c_grammar_symbols.specs.declared.operators.BinaryOperator.{BinaryOperator}
use Rattle.c_grammar_tree.specs.declared.expression.Expression.{Expression}
use Rattle.c_types_rules.specs.Items.{Call}
use Rattle.c_lexer.specs.declared.fault.TextFault.{TextFault}
use Rattle.c_types_rules.specs.declared.meaning.Entry.{Entry}
use Rattle.c_types_rules.specs.declared.meaning.Kind.{Kind}
use Rattle.c_types_rules.specs.declared.meaning.Kind.TheVariants.{Void, Value}
use Rattle.c_types_rules.specs.declared.meaning.Part.{Part}
use Rattle.c_types_rules.specs.declared.meaning.Role.{Role}
use Rattle.c_types_rules.specs.declared.meaning.Role.TheVariants.{Valued}
use Rattle.c_types_rules.specs.Names.{Text}
use Rattle.c_types_rules.specs.Parts.{with_value, with_values, last_kind, comma_kind}
use Rattle.c_types_rules.specs.declared.typed.TypedExpression.{TypedExpression}
use Rattle.c_types_rules.specs.Expressions.{Reading, reading, used, parts_of, trees_of, links_of}
use Rattle.c_types_rules.specs.ExpressionRules.{use_faults, uses_faults}
use Rattle.c_types_rules.specs.Items.{use_calls}
use Rattle.c_types_expressions.specs.Read.{part_of, typed_of, role_faults, role_calls, uses_calls}
use Rattle.c_types_expressions.specs.Read.{link_part, link_typed, link_faults, link_calls}
use Rattle.c_types_expressions.specs.Read.{kind_before}

-- it does not matter which of two is asked first whether it is a value
with_value_swap : {T : Type 0} (x : Option T) (a b : Option Kind) →
    with_value (with_value x a) b ≡ with_value (with_value x b) a
with_value_swap x None None = refl
with_value_swap x None (Some Void) = refl
with_value_swap x None (Some (Value t)) = refl
with_value_swap x (Some Void) None = refl
with_value_swap x (Some Void) (Some Void) = refl
with_value_swap x (Some Void) (Some (Value t)) = refl
with_value_swap x (Some (Value t)) None = refl
with_value_swap x (Some (Value t)) (Some Void) = refl
with_value_swap x (Some (Value t)) (Some (Value u)) = refl

pub with_values_more : {T : Type 0} (x : Option T) (a : Option Kind) (parts : List Part) →
    with_values (with_value x a) parts ≡ with_value (with_values x parts) a
with_values_more x a [] = refl
with_values_more x a (part ∷ parts) =
    ap (λ y. with_value y part.kind) (with_values_more x a parts)
    ∙ with_value_swap (with_values x parts) a part.kind

module _ (text : Text) (names : List Entry) where
  pub parts_read : (es : List Expression) →
      parts_of (map (reading text names) es) ≡ map (part_of text names) es
  parts_read [] = refl
  parts_read (e ∷ es) = ap (λ (ps : List Part). part_of text names e ∷ ps) (parts_read es)

  pub trees_read : (es : List Expression) →
      trees_of (map (reading text names) es) ≡ map (typed_of text names) es
  trees_read [] = refl
  trees_read (e ∷ es) =
      ap (λ (ts : List TypedExpression). typed_of text names e ∷ ts) (trees_read es)

  pub list_faults : (role : Role) (es : List Expression) →
      uses_faults (flat_map (used role) (map (reading text names) es))
      ≡ flat_map (role_faults text names role) es
  list_faults role [] = refl
  list_faults role (e ∷ es) =
      flat_map-append use_faults (used role (reading text names e))
      (flat_map (used role) (map (reading text names) es))
      ∙ ap (λ (fs : List TextFault). role_faults text names role e ++ fs) (list_faults role es)

  pub list_calls : (caller : ℕ) (role : Role) (es : List Expression) →
      uses_calls caller (flat_map (used role) (map (reading text names) es))
      ≡ flat_map (role_calls text names caller role) es
  unfolding uses_calls
  list_calls caller role [] = refl
  list_calls caller role (e ∷ es) =
      flat_map-append (use_calls caller) (used role (reading text names e))
      (flat_map (used role) (map (reading text names) es))
      ∙ ap (λ (cs : List Call). role_calls text names caller role e ++ cs)
      (list_calls caller role es)

  -- the last item has the type, so that the type before the first one does not matter
  pub comma_read : (es : List Expression) →
      comma_kind (parts_of (map (reading text names) es))
      ≡ last_kind (kind_before es) (map (part_of text names) es)
  comma_read [] = refl
  comma_read (e ∷ es) =
      ap (λ (ps : List Part). last_kind (part_of text names e).kind ps) (parts_read es)

  abbrev pub read_link : BinaryOperator × Expression → BinaryOperator × Reading
  read_link link = (link.0, reading text names link.1)

  pub links_read : (links : List (BinaryOperator × Expression)) →
      links_of (map read_link links) ≡ map (link_part text names) links
  links_read [] = refl
  links_read (link ∷ links) =
      ap (λ (ps : List (BinaryOperator × Part)). link_part text names link ∷ ps) (links_read links)

  pub links_typed : (links : List (BinaryOperator × Expression)) →
      map (λ (link : BinaryOperator × Reading). (link.0, link.1.typed)) (map read_link links)
      ≡ map (link_typed text names) links
  links_typed [] = refl
  links_typed (link ∷ links) =
      ap (λ (ts : List (BinaryOperator × TypedExpression)). link_typed text names link ∷ ts)
      (links_typed links)

  pub links_faults : (links : List (BinaryOperator × Expression)) →
      uses_faults (flat_map (λ (link : BinaryOperator × Reading). used Valued link.1)
      (map read_link links)) ≡ flat_map (link_faults text names) links
  links_faults [] = refl
  links_faults (link ∷ links) =
      flat_map-append use_faults (used Valued (reading text names link.1))
      (flat_map (λ (link : BinaryOperator × Reading). used Valued link.1) (map read_link links))
      ∙ ap (λ (fs : List TextFault). link_faults text names link ++ fs) (links_faults links)

  pub links_calls : (caller : ℕ) (links : List (BinaryOperator × Expression)) →
      uses_calls caller (flat_map (λ (link : BinaryOperator × Reading). used Valued link.1)
      (map read_link links)) ≡ flat_map (link_calls text names caller) links
  unfolding uses_calls
  links_calls caller [] = refl
  links_calls caller (link ∷ links) =
      flat_map-append (use_calls caller) (used Valued (reading text names link.1))
      (flat_map (λ (link : BinaryOperator × Reading). used Valued link.1) (map read_link links))
      ∙ ap (λ (cs : List Call). link_calls text names caller link ++ cs) (links_calls caller links)
