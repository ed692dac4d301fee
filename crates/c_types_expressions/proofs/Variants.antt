-- What is read of each variant of an expression, from what is read of its parts (`opened`).
use Rattle.std.proofs.Common.{◌≡◌, ℕ, ℤ, List, [], ◌∷◌, ◌++◌, map, Option, Some, ap, sym, ◌∙◌}
use Rattle.std.specs.List.{flat_map}
use Rattle.std.proofs.lemmas.List.{append-nil}
use Rattle.cpa_ints.specs.declared.integers.IntType.{IntType}
use Rattle.cpa_ints.specs.declared.integers.IntType.TheVariants as ty
use Rattle.c_lexer.specs.declared.fault.TextFault.{TextFault}
use Rattle.c_grammar_symbols.specs.declared.operators.AssignmentOperator.{AssignmentOperator}
use Rattle.c_grammar_symbols.specs.declared.operators.BinaryOperator.{BinaryOperator}
use Rattle.c_grammar_symbols.specs.declared.operators.StepOperator.{StepOperator}
use Rattle.c_grammar_tree.specs.declared.expression.TypeName.{TypeName}
use Rattle.c_grammar_tree.specs.declared.name.Name.{Name as NameTree}
use Rattle.c_grammar_tree.specs.declared.expression.UnaryOperator.{UnaryOperator}
use Rattle.c_grammar_tree.specs.declared.expression.Expression.{Expression, roll-Expression}
use Rattle.c_grammar_tree.specs.declared.expression.Expression.TheVariants as tree
use Rattle.c_grammar_tree.specs.declared.expression.Expression.TheOpen.{Expression-F}
use Rattle.c_grammar_tree.specs.declared.expression.Expression.TheFolds.{fold-Expression}
use Rattle.c_grammar_tree.specs.declared.expression.Expression.TheFolds.{map-Expression}
use Rattle.c_grammar_tree.specs.declared.expression.Expression.TheFolds.{fold-roll-Expression}
use Rattle.c_grammar_tree.specs.declared.expression.Suffix.{Suffix}
use Rattle.c_types_rules.specs.Items.{Call}
use Rattle.c_types_rules.specs.declared.meaning.Kind.{Kind}
use Rattle.c_types_rules.specs.declared.meaning.Kind.TheVariants.{Value}
use Rattle.c_types_rules.specs.declared.meaning.Entry.{Entry}
use Rattle.c_types_rules.specs.declared.meaning.Form.TheVariants.{Bare}
use Rattle.c_types_rules.specs.declared.meaning.Part.{Part}
use Rattle.c_types_rules.specs.declared.meaning.Role.{Role}
use Rattle.c_types_rules.specs.declared.meaning.Role.TheVariants.{Valued, Evaluated, Changed}
use Rattle.c_types_rules.specs.declared.typed.TypedExpression.{TypedExpression}
use Rattle.c_types_rules.specs.declared.typed.TypedExpression.TheVariants as typed
use Rattle.c_types_rules.specs.Names.{Text, meaning_of}
use Rattle.c_types_rules.specs.Types.{kind_of_type_name, value_kind}
use Rattle.c_types_rules.specs.First.{first_with}
use Rattle.c_types_rules.specs.Parts.{value, with_value, named_kind, changed_kind, cast_kind}
use Rattle.c_types_rules.specs.Parts.{ends_kind}
use Rattle.c_types_rules.specs.Parts.{chain_type, last_kind, comma_kind}
use Rattle.c_types_rules.specs.Expressions.{Reading, ReadSuffix, reading, reading_step, read_suffix}
use Rattle.c_types_rules.specs.Expressions.{used}
use Rattle.c_types_rules.specs.Expressions.{Use, named, taken, paired}
use Rattle.c_types_rules.specs.Expressions.{plain, cast_role, tag_uses, links_of, parts_of}
use Rattle.c_types_rules.specs.ExpressionRules.{use_faults, uses_faults}
use Rattle.c_types_expressions.specs.Read.{part_of, typed_of, faults_of, calls_of, role_faults}
use Rattle.c_types_expressions.specs.Read.{role_calls}
use Rattle.c_types_expressions.specs.Read.{uses_calls, link_part, link_typed, link_faults}
use Rattle.c_types_expressions.specs.Read.{link_calls}
use Rattle.c_types_expressions.specs.Read.{suffix_of, suffixed_of, kind_before, unary_value_type}
use Rattle.c_types_expressions.proofs.Uses.{uses_append, uses_one, used_faults, calls_append}
use Rattle.c_types_expressions.proofs.Uses.{used_calls, tag_calls}
use Rattle.c_types_expressions.proofs.Lists.{trees_read, list_faults, list_calls, comma_read}
use Rattle.c_types_expressions.proofs.Lists.{read_link, links_read, links_typed, links_faults}
use Rattle.c_types_expressions.proofs.Lists.{links_calls}

module _ (text : Text) (names : List Entry) where
  opened : (e : Expression) (x : Expression-F Expression Suffix) → roll-Expression x ≡ e →
      reading text names e ≡ reading_step text names (map-Expression Expression Suffix Reading
      ReadSuffix (reading text names) (suffix_of text names) x)
  unfolding reading suffix_of
  opened e x is =
      ap (fold-Expression Reading ReadSuffix (reading_step text names) read_suffix) (sym is)
      ∙ fold-roll-Expression Reading ReadSuffix (reading_step text names) read_suffix x

  pub first_used : (held : Option TextFault) (role : Role) (e : Expression) →
      first_with held (role_faults text names role e)
      ≡ first_with (first_with held (faults_of text names e))
      (use_faults (taken role (part_of text names e)))
  first_used held role e = used_faults held role (reading text names e)

  pub calls_used : (held : List Call) (caller : ℕ) (role : Role) (e : Expression) →
      held ++ role_calls text names caller role e ≡ held ++ calls_of text names caller e
  calls_used held caller role e =
      ap (λ (cs : List Call). held ++ cs) (used_calls caller role (reading text names e))

  open_Name : (name : NameTree) →
      reading text names (tree.Name name)
      ≡ reading_step text names (Expression-F.Name name)
  open_Name name =
      opened (tree.Name name) (Expression-F.Name name)
      (tree.rolls-Name name)

  pub part_Name : (name : NameTree) →
      part_of text names (tree.Name name)
      ≡ record {
        place = name.place;
        kind = named_kind (meaning_of text names name.bytes);
        form = Bare name.place (meaning_of text names name.bytes);
      }
  part_Name name =
      ap (λ (r : Reading). r.part) (open_Name name)

  pub typed_Name : (name : NameTree) →
      typed_of text names (tree.Name name)
      ≡ typed.Name (meaning_of text names name.bytes) name.place
  typed_Name name =
      ap (λ (r : Reading). r.typed) (open_Name name)

  pub first_Name : (held : Option TextFault) (name : NameTree) →
      first_with held (faults_of text names (tree.Name name))
      ≡ first_with held (use_faults (named name.place (meaning_of text names name.bytes)))
  first_Name held name =
      ap (λ (r : Reading). first_with held (uses_faults r.uses)) (open_Name name)
      ∙ uses_one held (named name.place (meaning_of text names name.bytes))

  pub calls_Name : (held : List Call) (caller : ℕ) (name : NameTree) →
      held ++ calls_of text names caller (tree.Name name)
      ≡ held
  unfolding uses_calls
  calls_Name held caller name =
      ap (λ (r : Reading). held ++ uses_calls caller r.uses) (open_Name name)
      ∙ append-nil held

  open_Number : (t : IntType) (n : ℤ) (place : ℕ) →
      reading text names (tree.Number t n place)
      ≡ reading_step text names (Expression-F.Number t n place)
  open_Number t n place =
      opened (tree.Number t n place) (Expression-F.Number t n place)
      (tree.rolls-Number t n place)

  pub part_Number : (t : IntType) (n : ℤ) (place : ℕ) →
      part_of text names (tree.Number t n place)
      ≡ plain place (Some (Value t))
  part_Number t n place =
      ap (λ (r : Reading). r.part) (open_Number t n place)

  pub typed_Number : (t : IntType) (n : ℤ) (place : ℕ) →
      typed_of text names (tree.Number t n place)
      ≡ typed.Number t n place
  typed_Number t n place =
      ap (λ (r : Reading). r.typed) (open_Number t n place)

  pub first_Number : (held : Option TextFault) (t : IntType) (n : ℤ) (place : ℕ) →
      first_with held (faults_of text names (tree.Number t n place))
      ≡ held
  first_Number held t n place =
      ap (λ (r : Reading). first_with held (uses_faults r.uses)) (open_Number t n place)

  pub calls_Number : (held : List Call) (caller : ℕ) (t : IntType) (n : ℤ) (place : ℕ) →
      held ++ calls_of text names caller (tree.Number t n place)
      ≡ held
  unfolding uses_calls
  calls_Number held caller t n place =
      ap (λ (r : Reading). held ++ uses_calls caller r.uses) (open_Number t n place)
      ∙ append-nil held

  open_Character : (n : ℤ) (place : ℕ) →
      reading text names (tree.Character n place)
      ≡ reading_step text names (Expression-F.Character n place)
  open_Character n place =
      opened (tree.Character n place) (Expression-F.Character n place)
      (tree.rolls-Character n place)

  pub part_Character : (n : ℤ) (place : ℕ) →
      part_of text names (tree.Character n place)
      ≡ plain place (Some (Value ty.I32))
  part_Character n place =
      ap (λ (r : Reading). r.part) (open_Character n place)

  pub typed_Character : (n : ℤ) (place : ℕ) →
      typed_of text names (tree.Character n place)
      ≡ typed.Character n place
  typed_Character n place =
      ap (λ (r : Reading). r.typed) (open_Character n place)

  pub first_Character : (held : Option TextFault) (n : ℤ) (place : ℕ) →
      first_with held (faults_of text names (tree.Character n place))
      ≡ held
  first_Character held n place =
      ap (λ (r : Reading). first_with held (uses_faults r.uses)) (open_Character n place)

  pub calls_Character : (held : List Call) (caller : ℕ) (n : ℤ) (place : ℕ) →
      held ++ calls_of text names caller (tree.Character n place)
      ≡ held
  unfolding uses_calls
  calls_Character held caller n place =
      ap (λ (r : Reading). held ++ uses_calls caller r.uses) (open_Character n place)
      ∙ append-nil held

  open_Bracketed : (inside : Expression) (place : ℕ) →
      reading text names (tree.Bracketed inside place)
      ≡ reading_step text names (Expression-F.Bracketed (reading text names inside) place)
  open_Bracketed inside place =
      opened (tree.Bracketed inside place) (Expression-F.Bracketed inside place)
      (tree.rolls-Bracketed inside place)

  pub part_Bracketed : (inside : Expression) (place : ℕ) →
      part_of text names (tree.Bracketed inside place)
      ≡ record {
        place = place;
        kind = (part_of text names inside).kind;
        form = (part_of text names inside).form;
      }
  part_Bracketed inside place =
      ap (λ (r : Reading). r.part) (open_Bracketed inside place)

  pub typed_Bracketed : (inside : Expression) (place : ℕ) →
      typed_of text names (tree.Bracketed inside place)
      ≡ typed.Bracketed (typed_of text names inside) place
  typed_Bracketed inside place =
      ap (λ (r : Reading). r.typed) (open_Bracketed inside place)

  pub first_Bracketed : (held : Option TextFault) (inside : Expression) (place : ℕ) →
      first_with held (faults_of text names (tree.Bracketed inside place))
      ≡ first_with held (faults_of text names inside)
  first_Bracketed held inside place =
      ap (λ (r : Reading). first_with held (uses_faults r.uses)) (open_Bracketed inside place)

  pub calls_Bracketed : (held : List Call) (caller : ℕ) (inside : Expression) (place : ℕ) →
      held ++ calls_of text names caller (tree.Bracketed inside place)
      ≡ held ++ calls_of text names caller inside
  calls_Bracketed held caller inside place =
      ap (λ (r : Reading). held ++ uses_calls caller r.uses) (open_Bracketed inside place)

  open_Postfix : (base : Expression) (suffixes : List Suffix) (place : ℕ) →
      reading text names (tree.Postfix place base suffixes)
      ≡ reading_step text names (Expression-F.Postfix place
      (reading text names base) (map (suffix_of text names) suffixes))
  open_Postfix base suffixes place =
      opened (tree.Postfix place base suffixes) (Expression-F.Postfix place base suffixes)
      (tree.rolls-Postfix place base suffixes)

  pub part_Postfix : (base : Expression) (suffixes : List Suffix) (place : ℕ) →
      part_of text names (tree.Postfix place base suffixes)
      ≡ record {
        place = place;
        kind = (suffixed_of text names (part_of text names base) suffixes).part.kind;
        form = (suffixed_of text names (part_of text names base) suffixes).part.form;
      }
  part_Postfix base suffixes place =
      ap (λ (r : Reading). r.part) (open_Postfix base suffixes place)

  pub typed_Postfix : (base : Expression) (suffixes : List Suffix) (place : ℕ) →
      typed_of text names (tree.Postfix place base suffixes)
      ≡ typed.Postfix (typed_of text names base)
      (suffixed_of text names (part_of text names base) suffixes).typed place
  typed_Postfix base suffixes place =
      ap (λ (r : Reading). r.typed) (open_Postfix base suffixes place)

  pub first_Postfix : (held : Option TextFault) (base : Expression) (suffixes : List Suffix)
      (place : ℕ) →
      first_with held (faults_of text names (tree.Postfix place base suffixes))
      ≡ first_with (first_with held (faults_of text names base))
      (uses_faults (suffixed_of text names (part_of text names base) suffixes).uses)
  first_Postfix held base suffixes place =
      ap (λ (r : Reading). first_with held (uses_faults r.uses)) (open_Postfix base suffixes place)
      ∙ uses_append held (reading text names base).uses
      (suffixed_of text names (part_of text names base) suffixes).uses

  pub calls_Postfix : (held : List Call) (caller : ℕ) (base : Expression) (suffixes : List Suffix)
      (place : ℕ) →
      held ++ calls_of text names caller (tree.Postfix place base suffixes)
      ≡ (held ++ calls_of text names caller base)
      ++ uses_calls caller (suffixed_of text names (part_of text names base) suffixes).uses
  calls_Postfix held caller base suffixes place =
      ap (λ (r : Reading). held ++ uses_calls caller r.uses) (open_Postfix base suffixes place)
      ∙ calls_append held caller (reading text names base).uses
      (suffixed_of text names (part_of text names base) suffixes).uses

  open_PrefixStep : (operator : StepOperator) (operand : Expression) (place : ℕ) →
      reading text names (tree.PrefixStep operator operand place)
      ≡ reading_step text names
      (Expression-F.PrefixStep operator (reading text names operand) place)
  open_PrefixStep operator operand place =
      opened (tree.PrefixStep operator operand place)
      (Expression-F.PrefixStep operator operand place)
      (tree.rolls-PrefixStep operator operand place)

  pub part_PrefixStep : (operator : StepOperator) (operand : Expression) (place : ℕ) →
      part_of text names (tree.PrefixStep operator operand place)
      ≡ plain place (changed_kind (part_of text names operand))
  part_PrefixStep operator operand place =
      ap (λ (r : Reading). r.part) (open_PrefixStep operator operand place)

  pub typed_PrefixStep : (operator : StepOperator) (operand : Expression) (place : ℕ) →
      typed_of text names (tree.PrefixStep operator operand place)
      ≡ typed.PrefixStep operator (typed_of text names operand)
      (changed_kind (part_of text names operand)) place
  typed_PrefixStep operator operand place =
      ap (λ (r : Reading). r.typed) (open_PrefixStep operator operand place)

  pub first_PrefixStep : (held : Option TextFault) (operator : StepOperator) (operand : Expression)
      (place : ℕ) →
      first_with held (faults_of text names (tree.PrefixStep operator operand place))
      ≡ first_with held (role_faults text names Changed operand)
  first_PrefixStep held operator operand place =
      ap (λ (r : Reading). first_with held (uses_faults r.uses))
      (open_PrefixStep operator operand place)

  pub calls_PrefixStep : (held : List Call) (caller : ℕ) (operator : StepOperator)
      (operand : Expression) (place : ℕ) →
      held ++ calls_of text names caller (tree.PrefixStep operator operand place)
      ≡ held ++ role_calls text names caller Changed operand
  calls_PrefixStep held caller operator operand place =
      ap (λ (r : Reading). held ++ uses_calls caller r.uses)
      (open_PrefixStep operator operand place)

  open_Unary : (operator : UnaryOperator) (operand : Expression) (place : ℕ) →
      reading text names (tree.Unary operator operand place)
      ≡ reading_step text names (Expression-F.Unary operator (reading text names operand) place)
  open_Unary operator operand place =
      opened (tree.Unary operator operand place) (Expression-F.Unary operator operand place)
      (tree.rolls-Unary operator operand place)

  pub part_Unary : (operator : UnaryOperator) (operand : Expression) (place : ℕ) →
      part_of text names (tree.Unary operator operand place)
      ≡ plain place (value (unary_value_type operator (part_of text names operand).kind))
  part_Unary operator operand place =
      ap (λ (r : Reading). r.part) (open_Unary operator operand place)

  pub typed_Unary : (operator : UnaryOperator) (operand : Expression) (place : ℕ) →
      typed_of text names (tree.Unary operator operand place)
      ≡ typed.Unary operator (typed_of text names operand)
      (value (unary_value_type operator (part_of text names operand).kind)) place
  typed_Unary operator operand place =
      ap (λ (r : Reading). r.typed) (open_Unary operator operand place)

  pub first_Unary : (held : Option TextFault) (operator : UnaryOperator) (operand : Expression)
      (place : ℕ) →
      first_with held (faults_of text names (tree.Unary operator operand place))
      ≡ first_with held (role_faults text names Valued operand)
  first_Unary held operator operand place =
      ap (λ (r : Reading). first_with held (uses_faults r.uses)) (open_Unary operator operand place)

  pub calls_Unary : (held : List Call) (caller : ℕ) (operator : UnaryOperator)
      (operand : Expression) (place : ℕ) →
      held ++ calls_of text names caller (tree.Unary operator operand place)
      ≡ held ++ role_calls text names caller Valued operand
  calls_Unary held caller operator operand place =
      ap (λ (r : Reading). held ++ uses_calls caller r.uses) (open_Unary operator operand place)

  open_Cast : (to_type : TypeName) (operand : Expression) (place : ℕ) →
      reading text names (tree.Cast to_type operand place)
      ≡ reading_step text names (Expression-F.Cast to_type (reading text names operand) place)
  open_Cast to_type operand place =
      opened (tree.Cast to_type operand place) (Expression-F.Cast to_type operand place)
      (tree.rolls-Cast to_type operand place)

  pub part_Cast : (to_type : TypeName) (operand : Expression) (place : ℕ) →
      part_of text names (tree.Cast to_type operand place)
      ≡ plain place (cast_kind (kind_of_type_name text.model to_type)
      (part_of text names operand).kind)
  part_Cast to_type operand place =
      ap (λ (r : Reading). r.part) (open_Cast to_type operand place)

  pub typed_Cast : (to_type : TypeName) (operand : Expression) (place : ℕ) →
      typed_of text names (tree.Cast to_type operand place)
      ≡ typed.Cast (typed_of text names operand)
      (cast_kind (kind_of_type_name text.model to_type) (part_of text names operand).kind) place
  typed_Cast to_type operand place =
      ap (λ (r : Reading). r.typed) (open_Cast to_type operand place)

  pub first_Cast : (held : Option TextFault) (to_type : TypeName) (operand : Expression)
      (place : ℕ) →
      first_with held (faults_of text names (tree.Cast to_type operand place))
      ≡ first_with (first_with held (uses_faults (tag_uses names to_type)))
      (role_faults text names (cast_role (kind_of_type_name text.model to_type)) operand)
  first_Cast held to_type operand place =
      ap (λ (r : Reading). first_with held (uses_faults r.uses)) (open_Cast to_type operand place)
      ∙ uses_append held (tag_uses names to_type)
      (used (cast_role (kind_of_type_name text.model to_type)) (reading text names operand))

  pub calls_Cast : (held : List Call) (caller : ℕ) (to_type : TypeName) (operand : Expression)
      (place : ℕ) →
      held ++ calls_of text names caller (tree.Cast to_type operand place)
      ≡ held
      ++ role_calls text names caller (cast_role (kind_of_type_name text.model to_type)) operand
  calls_Cast held caller to_type operand place =
      ap (λ (r : Reading). held ++ uses_calls caller r.uses) (open_Cast to_type operand place)
      ∙ (calls_append held caller (tag_uses names to_type)
      (used (cast_role (kind_of_type_name text.model to_type)) (reading text names operand))
      ∙ ap (λ (cs : List Call). cs ++ role_calls text names caller
      (cast_role (kind_of_type_name text.model to_type)) operand)
      (ap (λ (cs : List Call). held ++ cs) (tag_calls caller names to_type) ∙ append-nil held))

  open_Chain : (head : Expression) (rest : List (BinaryOperator × Expression)) (place : ℕ) →
      reading text names (tree.Chain place head rest)
      ≡ reading_step text names (Expression-F.Chain place
      (reading text names head) (map (read_link text names) rest))
  open_Chain head rest place =
      opened (tree.Chain place head rest) (Expression-F.Chain place head rest)
      (tree.rolls-Chain place head rest)

  pub part_Chain : (head : Expression) (rest : List (BinaryOperator × Expression)) (place : ℕ) →
      part_of text names (tree.Chain place head rest)
      ≡ plain place (value (chain_type (value_kind (part_of text names head).kind)
      (map (link_part text names) rest)))
  part_Chain head rest place =
      ap (λ (r : Reading). r.part) (open_Chain head rest place)
      ∙ ap (λ (ps : List (BinaryOperator × Part)). plain place
      (value (chain_type (value_kind (part_of text names head).kind) ps)))
      (links_read text names rest)

  pub typed_Chain : (head : Expression) (rest : List (BinaryOperator × Expression)) (place : ℕ) →
      typed_of text names (tree.Chain place head rest)
      ≡ typed.Chain (typed_of text names head) (map (link_typed text names) rest)
      (value (chain_type (value_kind (part_of text names head).kind)
      (map (link_part text names) rest))) place
  typed_Chain head rest place =
      ap (λ (r : Reading). r.typed) (open_Chain head rest place)
      ∙ (ap (λ (ts : List (BinaryOperator × TypedExpression)).
      typed.Chain (typed_of text names head) ts (value (chain_type
      (value_kind (part_of text names head).kind) (links_of (map (read_link text names) rest))))
      place) (links_typed text names rest)
      ∙ ap (λ (ps : List (BinaryOperator × Part)).
      typed.Chain (typed_of text names head) (map (link_typed text names) rest)
      (value (chain_type (value_kind (part_of text names head).kind) ps)) place)
      (links_read text names rest))

  pub first_Chain : (held : Option TextFault) (head : Expression)
      (rest : List (BinaryOperator × Expression)) (place : ℕ) →
      first_with held (faults_of text names (tree.Chain place head rest))
      ≡ first_with (first_with held (role_faults text names Valued head))
      (flat_map (link_faults text names) rest)
  first_Chain held head rest place =
      ap (λ (r : Reading). first_with held (uses_faults r.uses)) (open_Chain head rest place)
      ∙ (uses_append held (used Valued (reading text names head))
      (flat_map (λ (link : BinaryOperator × Reading). used Valued link.1)
      (map (read_link text names) rest))
      ∙ ap (first_with (first_with held (role_faults text names Valued head)))
      (links_faults text names rest))

  pub calls_Chain : (held : List Call) (caller : ℕ) (head : Expression)
      (rest : List (BinaryOperator × Expression)) (place : ℕ) →
      held ++ calls_of text names caller (tree.Chain place head rest)
      ≡ (held ++ role_calls text names caller Valued head)
      ++ flat_map (link_calls text names caller) rest
  calls_Chain held caller head rest place =
      ap (λ (r : Reading). held ++ uses_calls caller r.uses) (open_Chain head rest place)
      ∙ (calls_append held caller (used Valued (reading text names head))
      (flat_map (λ (link : BinaryOperator × Reading). used Valued link.1)
      (map (read_link text names) rest))
      ∙ ap (λ (cs : List Call). (held ++ role_calls text names caller Valued head) ++ cs)
      (links_calls text names caller rest))

three_uses : (held : Option TextFault) (xs ys zs : List Use) (u : Use) →
    first_with held (uses_faults (xs ++ ys ++ zs ++ (u ∷ [])))
    ≡ first_with (first_with (first_with (first_with held (uses_faults xs)) (uses_faults ys))
    (uses_faults zs)) (use_faults u)
three_uses held xs ys zs u = uses_append held (xs ++ ys ++ zs) (u ∷ [])
    ∙ (uses_one (first_with held (uses_faults (xs ++ ys ++ zs))) u
    ∙ ap (λ h. first_with h (use_faults u)) (uses_append held (xs ++ ys) zs
    ∙ ap (λ h. first_with h (uses_faults zs)) (uses_append held xs ys)))

three_calls : (held : List Call) (caller : ℕ) (xs ys zs : List Use) (one two : Part) →
    held ++ uses_calls caller (xs ++ ys ++ zs ++ (paired one two ∷ []))
    ≡ ((held ++ uses_calls caller xs) ++ uses_calls caller ys) ++ uses_calls caller zs
unfolding uses_calls
three_calls held caller xs ys zs one two =
    calls_append held caller (xs ++ ys ++ zs) (paired one two ∷ [])
    ∙ (append-nil (held ++ uses_calls caller (xs ++ ys ++ zs))
    ∙ (calls_append held caller (xs ++ ys) zs
    ∙ ap (λ (cs : List Call). cs ++ uses_calls caller zs) (calls_append held caller xs ys)))

module _ (text : Text) (names : List Entry) where
  open_Conditional : (test : Expression) (yes_part : Expression) (no_part : Expression)
      (place : ℕ) →
      reading text names (tree.Conditional test yes_part no_part place)
      ≡ reading_step text names (Expression-F.Conditional (reading text names test)
      (reading text names yes_part) (reading text names no_part) place)
  open_Conditional test yes_part no_part place =
      opened text names (tree.Conditional test yes_part no_part place)
      (Expression-F.Conditional test yes_part no_part place)
      (tree.rolls-Conditional test yes_part no_part place)

  pub part_Conditional : (test : Expression) (yes_part : Expression) (no_part : Expression)
      (place : ℕ) →
      part_of text names (tree.Conditional test yes_part no_part place)
      ≡ plain place (with_value (ends_kind (part_of text names yes_part).kind
      (part_of text names no_part).kind) (part_of text names test).kind)
  part_Conditional test yes_part no_part place =
      ap (λ (r : Reading). r.part) (open_Conditional test yes_part no_part place)

  pub typed_Conditional : (test : Expression) (yes_part : Expression) (no_part : Expression)
      (place : ℕ) →
      typed_of text names (tree.Conditional test yes_part no_part place)
      ≡ typed.Conditional (typed_of text names test) (typed_of text names yes_part)
      (typed_of text names no_part) (with_value (ends_kind (part_of text names yes_part).kind
      (part_of text names no_part).kind) (part_of text names test).kind) place
  typed_Conditional test yes_part no_part place =
      ap (λ (r : Reading). r.typed) (open_Conditional test yes_part no_part place)

  pub first_Conditional : (held : Option TextFault) (test : Expression) (yes_part : Expression)
      (no_part : Expression) (place : ℕ) →
      first_with held (faults_of text names (tree.Conditional test yes_part no_part place))
      ≡ first_with (first_with (first_with (first_with held
      (role_faults text names Valued test)) (role_faults text names Evaluated yes_part))
      (role_faults text names Evaluated no_part))
      (use_faults (paired (part_of text names yes_part) (part_of text names no_part)))
  first_Conditional held test yes_part no_part place =
      ap (λ (r : Reading). first_with held (uses_faults r.uses))
      (open_Conditional test yes_part no_part place)
      ∙ three_uses held (used Valued (reading text names test))
      (used Evaluated (reading text names yes_part))
      (used Evaluated (reading text names no_part))
      (paired (part_of text names yes_part) (part_of text names no_part))

  pub calls_Conditional : (held : List Call) (caller : ℕ) (test : Expression)
      (yes_part : Expression) (no_part : Expression) (place : ℕ) →
      held ++ calls_of text names caller (tree.Conditional test yes_part no_part place)
      ≡ ((held ++ role_calls text names caller Valued test)
      ++ role_calls text names caller Evaluated yes_part)
      ++ role_calls text names caller Evaluated no_part
  calls_Conditional held caller test yes_part no_part place =
      ap (λ (r : Reading). held ++ uses_calls caller r.uses)
      (open_Conditional test yes_part no_part place)
      ∙ three_calls held caller (used Valued (reading text names test))
      (used Evaluated (reading text names yes_part)) (used Evaluated (reading text names no_part))
      (part_of text names yes_part) (part_of text names no_part)

  open_Assignment : (left : Expression) (operator : AssignmentOperator) (right : Expression)
      (place : ℕ) →
      reading text names (tree.Assignment left operator right place)
      ≡ reading_step text names (Expression-F.Assignment (reading text names left)
      operator (reading text names right) place)
  open_Assignment left operator right place =
      opened text names (tree.Assignment left operator right place)
      (Expression-F.Assignment left operator right place)
      (tree.rolls-Assignment left operator right place)

  pub part_Assignment : (left : Expression) (operator : AssignmentOperator) (right : Expression)
      (place : ℕ) →
      part_of text names (tree.Assignment left operator right place)
      ≡ plain place
      (with_value (changed_kind (part_of text names left)) (part_of text names right).kind)
  part_Assignment left operator right place =
      ap (λ (r : Reading). r.part) (open_Assignment left operator right place)

  pub typed_Assignment : (left : Expression) (operator : AssignmentOperator) (right : Expression)
      (place : ℕ) →
      typed_of text names (tree.Assignment left operator right place)
      ≡ typed.Assignment (typed_of text names left) operator (typed_of text names right)
      (with_value (changed_kind (part_of text names left)) (part_of text names right).kind) place
  typed_Assignment left operator right place =
      ap (λ (r : Reading). r.typed) (open_Assignment left operator right place)

  pub first_Assignment : (held : Option TextFault) (left : Expression)
      (operator : AssignmentOperator) (right : Expression) (place : ℕ) →
      first_with held (faults_of text names (tree.Assignment left operator right place))
      ≡ first_with (first_with held (role_faults text names Changed left))
      (role_faults text names Valued right)
  first_Assignment held left operator right place =
      ap (λ (r : Reading). first_with held (uses_faults r.uses))
      (open_Assignment left operator right place)
      ∙ uses_append held (used Changed (reading text names left))
      (used Valued (reading text names right))

  pub calls_Assignment : (held : List Call) (caller : ℕ) (left : Expression)
      (operator : AssignmentOperator) (right : Expression) (place : ℕ) →
      held ++ calls_of text names caller (tree.Assignment left operator right place)
      ≡ (held ++ role_calls text names caller Changed left)
      ++ role_calls text names caller Valued right
  calls_Assignment held caller left operator right place =
      ap (λ (r : Reading). held ++ uses_calls caller r.uses)
      (open_Assignment left operator right place)
      ∙ calls_append held caller (used Changed (reading text names left))
      (used Valued (reading text names right))

  open_Comma : (items : List Expression) (place : ℕ) →
      reading text names (tree.Comma items place)
      ≡ reading_step text names (Expression-F.Comma (map (reading text names) items) place)
  open_Comma items place =
      opened text names (tree.Comma items place) (Expression-F.Comma items place)
      (tree.rolls-Comma items place)

  pub part_Comma : (items : List Expression) (place : ℕ) →
      part_of text names (tree.Comma items place)
      ≡ plain place (last_kind (kind_before items) (map (part_of text names) items))
  part_Comma items place =
      ap (λ (r : Reading). r.part) (open_Comma items place)
      ∙ ap (plain place) (comma_read text names items)

  pub typed_Comma : (items : List Expression) (place : ℕ) →
      typed_of text names (tree.Comma items place)
      ≡ typed.Comma (map (typed_of text names) items)
      (last_kind (kind_before items) (map (part_of text names) items)) place
  typed_Comma items place =
      ap (λ (r : Reading). r.typed) (open_Comma items place)
      ∙ (ap (λ (ts : List TypedExpression). typed.Comma ts
      (comma_kind (parts_of (map (reading text names) items))) place) (trees_read text names items)
      ∙ ap (λ (kind : Option Kind). typed.Comma (map (typed_of text names) items) kind place)
      (comma_read text names items))

  pub first_Comma : (held : Option TextFault) (items : List Expression) (place : ℕ) →
      first_with held (faults_of text names (tree.Comma items place))
      ≡ first_with held (flat_map (role_faults text names Evaluated) items)
  first_Comma held items place =
      ap (λ (r : Reading). first_with held (uses_faults r.uses)) (open_Comma items place)
      ∙ ap (first_with held) (list_faults text names Evaluated items)

  pub calls_Comma : (held : List Call) (caller : ℕ) (items : List Expression) (place : ℕ) →
      held ++ calls_of text names caller (tree.Comma items place)
      ≡ held ++ flat_map (role_calls text names caller Evaluated) items
  calls_Comma held caller items place =
      ap (λ (r : Reading). held ++ uses_calls caller r.uses) (open_Comma items place)
      ∙ ap (λ (cs : List Call). held ++ cs) (list_calls text names caller Evaluated items)

-- what `read_name` of src/atoms.rt proves by
pub ruleset read_name_rules = (part_Name, typed_Name, first_Name)

-- what `read_character` of src/atoms.rt proves by
pub ruleset read_character_rules = (part_Character, typed_Character)

-- what `read_comma` of src/chains.rt proves by
pub ruleset read_comma_rules = (part_Comma, typed_Comma, first_Comma, calls_Comma)

-- what `read_bracketed` of src/operators.rt proves by
pub ruleset read_bracketed_rules = (
  part_Bracketed,
  typed_Bracketed,
  first_Bracketed,
  calls_Bracketed,
)

-- what `read_prefix_step` of src/operators.rt proves by
pub ruleset read_prefix_step_rules = (
  part_PrefixStep,
  typed_PrefixStep,
  first_PrefixStep,
  calls_PrefixStep,
)

-- what `read_unary` of src/operators.rt proves by
pub ruleset read_unary_rules = (part_Unary, typed_Unary, first_Unary, calls_Unary)

-- what `read_cast` of src/operators.rt proves by
pub ruleset read_cast_rules = (part_Cast, typed_Cast, first_Cast, calls_Cast)

-- what `read_expression` of src/read.rt proves by
pub ruleset read_expression_rules = (first_Number, calls_Name, calls_Number)

-- what `read_form` of src/read.rt proves by
pub ruleset read_form_rules = (
  first_Number,
  first_Character,
  calls_Name,
  calls_Number,
  calls_Character,
  part_Postfix,
  typed_Postfix,
  first_Postfix,
  calls_Postfix,
  part_Chain,
  typed_Chain,
  first_Chain,
  calls_Chain,
  part_Conditional,
  typed_Conditional,
  first_Conditional,
  calls_Conditional,
  part_Assignment,
  typed_Assignment,
  first_Assignment,
  calls_Assignment,
)
