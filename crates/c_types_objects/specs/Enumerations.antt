-- Enumerators as they are read (the definitions are those of c_types_rules).
use Rattle.std.specs.Prelude.{◌≡◌, ℕ, ℤ, pos, not, if◌then◌else◌, List, [], ◌++◌}
use Rattle.std.specs.Prelude.{Option, None, Some, unwrap_or}
use Rattle.c_lexer.specs.declared.fault.Rule.TheVariants as rule
use Rattle.c_lexer.specs.declared.fault.TextFault.{TextFault}
use Rattle.c_grammar_tree.specs.declared.name.Name.{Name}
use Rattle.c_grammar_tree.specs.declared.expression.Expression.{Expression}
use Rattle.c_grammar_tree.specs.declared.declaration.Enumerator.{Enumerator}
use Rattle.c_grammar_tree.specs.declared.declaration.Enumeration.TheVariants as enumeration
use Rattle.c_types_rules.specs.declared.meaning.Entry.{Entry}
use Rattle.c_types_rules.specs.declared.meaning.Role.TheVariants.{Valued}
use Rattle.c_types_rules.specs.Names.{Text}
use Rattle.c_types_rules.specs.ExpressionRules.{broken, at_if}
use Rattle.c_types_rules.specs.Declarations.{constant_number, inconstant, is_int}
use Rattle.c_types_rules.specs.Statements.{Around, Walk, enumeration_walk}
use Rattle.c_types_expressions.specs.Read.{part_of, role_faults}

-- these names are declared there, so many of them outside the scope
pub record AreNamed (names : List Entry) (outer : ℕ) (around : Around) : Type 0 where
  pub names_are : around.names ≡ names
  pub outer_is : around.outer ≡ outer

-- names are added alone
pub record AddsNames (old new : List Entry) : Type 0 where
  pub added : List Entry
  pub is : new ≡ old ++ added

-- the number, or 0 where it is none of type int
abbrev pub int_or_zero : ℤ → ℤ
int_or_zero n = if is_int n then n else pos 0

-- the value that an enumerator is given, 0 where it is no constant
abbrev pub given_value : Text → List Entry → Expression → ℤ
given_value text names value = unwrap_or (constant_number text names value) (pos 0)

-- where a value is none of type int, if there is one
abbrev pub outside_places : Option ℤ → ℕ → List ℕ
outside_places None place = []
outside_places (Some n) place = at_if (not (is_int n)) place

-- the faults of that expression
abbrev pub given_faults : Text → List Entry → Expression → List TextFault
given_faults text names value =
    broken rule.N12 (inconstant text names value
    ++ outside_places (constant_number text names value) (part_of text names value).place)
    ++ role_faults text names Valued value

-- an enumerated type with a list
abbrev pub listed_walk : Text → Option Name → List Enumerator → Walk
listed_walk text tag list = enumeration_walk text (Some (enumeration.Listed tag list))
