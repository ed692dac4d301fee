-- How an expression uses its parts and its names, and the typed tree that it is (C11 6.5). Names
-- stand for one thing from its first token to its last.
use Rattle.std.specs.Prelude.{ℕ, Bool, List, [], ◌∷◌, ◌++◌, length, map, Option, None, Some}
use Rattle.std.specs.List.{flat_map}
use Rattle.cpa_ints.specs.declared.integers.IntType.TheVariants as ty
use Rattle.c_grammar_symbols.specs.declared.operators.BinaryOperator.{BinaryOperator}
use Rattle.c_grammar_tree.specs.declared.expression.Expression.{Expression}
use Rattle.c_grammar_tree.specs.declared.expression.Expression.TheOpen.{Expression-F, Suffix-F}
use Rattle.c_grammar_tree.specs.declared.expression.TypeName.{TypeName}
use Rattle.c_grammar_tree.specs.declared.expression.TypeName.TheVariants as type_name
use Rattle.c_grammar_tree.specs.declared.expression.Expression.TheFolds.{fold-Expression}
use Rattle.c_types_rules.specs.declared.meaning.Kind.{Kind}
use Rattle.c_types_rules.specs.declared.meaning.Kind.TheVariants.{Void, Value}
use Rattle.c_types_rules.specs.declared.meaning.Entry.{Entry}
use Rattle.c_types_rules.specs.declared.meaning.Meaning.{Meaning}
use Rattle.c_types_rules.specs.declared.meaning.Form.{Form}
use Rattle.c_types_rules.specs.declared.meaning.Form.TheVariants.{Bare, Plain}
use Rattle.c_types_rules.specs.declared.meaning.Part.{Part}
use Rattle.c_types_rules.specs.declared.meaning.Role.{Role}
use Rattle.c_types_rules.specs.declared.meaning.Role.TheVariants.{Valued, Evaluated, Changed}
use Rattle.c_types_rules.specs.declared.meaning.Role.TheVariants.{Indexed}
use Rattle.c_types_rules.specs.declared.meaning.Role.TheVariants.{Called}
use Rattle.c_types_rules.specs.declared.typed.TypedExpression.{TypedExpression}
use Rattle.c_types_rules.specs.declared.typed.TypedExpression.TheVariants as tree
use Rattle.c_types_rules.specs.declared.typed.TypedSuffix.{TypedSuffix}
use Rattle.c_types_rules.specs.declared.typed.TypedSuffix.TheVariants as behind
use Rattle.c_types_rules.specs.Types.{kind_of_type_name}
use Rattle.c_types_rules.specs.Names.{Text, meaning_of, is_tag}
use Rattle.c_types_rules.specs.Parts.{value, with_value, with_values, named_kind, element_form}
use Rattle.c_types_rules.specs.Parts.{element_of, result_of, changed_kind, unary_type, cast_kind}
use Rattle.c_types_rules.specs.Parts.{chain_type, ends_kind, comma_kind}
use Rattle.c_types_rules.specs.Types.{value_kind}

-- how an expression uses names and parts
pub data Use : Type 0 where
  -- a name stands at this place for this, if it is declared
  named : ℕ → Option Meaning → Use
  -- a part in a role
  taken : Role → Part → Use
  -- so many arguments are handed to this
  given : Form → ℕ → Use
  -- the two ends of a conditional
  paired : Part → Part → Use
  -- a tag stands at this place, and is declared or not
  tagged : ℕ → Bool → Use

-- what an expression is to the rules, how it uses names and parts, and its typed tree
pub record Reading : Type 0 where
  pub part : Part
  pub uses : List Use
  pub typed : TypedExpression

-- what is used in a role
abbrev pub used : Role → Reading → List Use
used role reading = reading.uses ++ (taken role reading.part ∷ [])

-- the parts, and the typed trees, of readings
abbrev pub parts_of : List Reading → List Part
parts_of = map (λ reading. reading.part)

abbrev pub trees_of : List Reading → List TypedExpression
trees_of = map (λ reading. reading.typed)

-- a part that is neither a name nor an element
abbrev pub plain : ℕ → Option Kind → Part
plain place kind = record { place = place; kind = kind; form = Plain }

-- a suffix with a reading for each expression in it
abbrev pub ReadSuffix : Type 0
ReadSuffix = Suffix-F Reading (Unit {0})

abbrev pub read_suffix : {A : Type 0} → Suffix-F Reading A → ReadSuffix
read_suffix (Suffix-F.Index index place) = Suffix-F.Index index place
read_suffix (Suffix-F.Call arguments place) = Suffix-F.Call arguments place
read_suffix (Suffix-F.Step operator place) = Suffix-F.Step operator place
read_suffix (Suffix-F.Skipped place) = Suffix-F.Skipped place

-- behind what stands before it (C11 6.5.2)
abbrev pub suffix_part : Part → ReadSuffix → Part
suffix_part base (Suffix-F.Index index place) = record {
  place = base.place;
  kind = with_value (element_of base.form) index.part.kind;
  form = element_form base.form;
}
suffix_part base (Suffix-F.Call arguments place) =
    plain base.place (with_values (result_of base.form) (parts_of arguments))
suffix_part base (Suffix-F.Step operator place) = plain base.place (changed_kind base)
suffix_part base (Suffix-F.Skipped place) = plain base.place (result_of base.form)

abbrev pub suffix_uses : Part → ReadSuffix → List Use
suffix_uses base (Suffix-F.Index index place) = (taken Indexed base ∷ []) ++ used Valued index
suffix_uses base (Suffix-F.Call arguments place) =
    (taken Called base ∷ given base.form (length arguments) ∷ [])
    ++ flat_map (used Valued) arguments
suffix_uses base (Suffix-F.Step operator place) = taken Changed base ∷ []
suffix_uses base (Suffix-F.Skipped place) = taken Called base ∷ given base.form 0 ∷ []

abbrev pub suffix_typed : Part → ReadSuffix → TypedSuffix
suffix_typed base (Suffix-F.Index index place) =
    behind.Index index.typed (suffix_part base (Suffix-F.Index index place)).kind place
suffix_typed base (Suffix-F.Call arguments place) =
    behind.Call (trees_of arguments) (suffix_part base (Suffix-F.Call arguments place)).kind place
suffix_typed base (Suffix-F.Step operator place) = behind.Step operator (changed_kind base) place
suffix_typed base (Suffix-F.Skipped place) = behind.Skipped (result_of base.form) place

-- suffixes behind a part, from left to right
pub record Suffixed : Type 0 where
  pub part : Part
  pub uses : List Use
  pub typed : List TypedSuffix

abbrev pub suffixed : Part → List ReadSuffix → Suffixed
suffixed base [] = record { part = base; uses = []; typed = [] }
suffixed base (suffix ∷ suffixes) =
    let rest = suffixed (suffix_part base suffix) suffixes in
    record {
      part = rest.part;
      uses = suffix_uses base suffix ++ rest.uses;
      typed = suffix_typed base suffix ∷ rest.typed;
    }

-- the role of what is cast to a type: to void an expression of any type is (C11 6.5.4)
abbrev pub cast_role : Kind → Role
cast_role Void = Evaluated
cast_role (Value t) = Valued

-- the tag in the type of a cast, where it has one
abbrev pub tag_uses : List Entry → TypeName → List Use
tag_uses names (type_name.Enum tag place) = tagged tag.place (is_tag names tag.bytes) ∷ []
tag_uses names _ = []

-- the parts of a chain behind its first, with their operators
abbrev pub links_of : List (BinaryOperator × Reading) → List (BinaryOperator × Part)
links_of = map (λ link. (link.0, link.1.part))

-- an expression with a reading for each part of it
abbrev pub reading_step : Text → List Entry → Expression-F Reading ReadSuffix → Reading
reading_step text names (Expression-F.Name name) =
    let found = meaning_of text names name.bytes in
    record {
      part = record { place = name.place; kind = named_kind found; form = Bare name.place found };
      uses = named name.place found ∷ [];
      typed = tree.Name found name.place;
    }
reading_step text names (Expression-F.Number t n place) = record {
  part = plain place (Some (Value t));
  uses = [];
  typed = tree.Number t n place;
}
reading_step text names (Expression-F.Character n place) = record {
  part = plain place (Some (Value ty.I32));
  uses = [];
  typed = tree.Character n place;
}
-- brackets only group (C11 6.5.1p5): what stands in them is a name, an element or a value as it is
-- without them
reading_step text names (Expression-F.Bracketed inner place) = record {
  part = record { place = place; kind = inner.part.kind; form = inner.part.form };
  uses = inner.uses;
  typed = tree.Bracketed inner.typed place;
}
reading_step text names (Expression-F.Postfix place base suffixes) =
    let all = suffixed base.part suffixes in
    record {
      part = record { place = place; kind = all.part.kind; form = all.part.form };
      uses = base.uses ++ all.uses;
      typed = tree.Postfix base.typed all.typed place;
    }
reading_step text names (Expression-F.PrefixStep operator operand place) =
    let kind = changed_kind operand.part in
    record {
      part = plain place kind;
      uses = used Changed operand;
      typed = tree.PrefixStep operator operand.typed kind place;
    }
reading_step text names (Expression-F.Unary operator operand place) =
    let kind = value (elim (value_kind operand.part.kind) [
      | None ↦ None
      | Some t
          ↦ Some (unary_type operator t)
    ]) in
    record {
      part = plain place kind;
      uses = used Valued operand;
      typed = tree.Unary operator operand.typed kind place;
    }
reading_step text names (Expression-F.Cast to operand place) =
    let wanted = kind_of_type_name text.model to in
    let kind = cast_kind wanted operand.part.kind in
    record {
      part = plain place kind;
      uses = tag_uses names to ++ used (cast_role wanted) operand;
      typed = tree.Cast operand.typed kind place;
    }
reading_step text names (Expression-F.Chain place first rest) =
    let kind = value (chain_type (value_kind first.part.kind) (links_of rest)) in
    record {
      part = plain place kind;
      uses = used Valued first ++ flat_map (λ link. used Valued link.1) rest;
      typed = tree.Chain first.typed (map (λ link. (link.0, link.1.typed)) rest) kind place;
    }
reading_step text names (Expression-F.Conditional test first second place) =
    let kind = with_value (ends_kind first.part.kind second.part.kind) test.part.kind in
    record {
      part = plain place kind;
      uses = used Valued test ++ used Evaluated first ++ used Evaluated second
          ++ (paired first.part second.part ∷ []);
      typed = tree.Conditional test.typed first.typed second.typed kind place;
    }
reading_step text names (Expression-F.Assignment left operator right place) =
    let kind = with_value (changed_kind left.part) right.part.kind in
    record {
      part = plain place kind;
      uses = used Changed left ++ used Valued right;
      typed = tree.Assignment left.typed operator right.typed kind place;
    }
reading_step text names (Expression-F.Comma items place) =
    let kind = comma_kind (parts_of items) in
    record {
      part = plain place kind;
      uses = flat_map (used Evaluated) items;
      typed = tree.Comma (trees_of items) kind place;
    }

-- an expression where these names are declared
unfoldable pub reading : Text → List Entry → Expression → Reading
reading text names = fold-Expression Reading ReadSuffix (reading_step text names) read_suffix
