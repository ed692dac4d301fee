-- A function's head: what is known behind it (`head_scope`), and its faults one after the other
-- (`head_first`).
use Rattle.std.proofs.Common.{◌≡◌, ℕ, Bool, List, [], ◌∷◌, ◌++◌, Option, ap, ◌∙◌}
use Rattle.c_lexer.specs.declared.fault.TextFault.{TextFault}
use Rattle.c_grammar_tree.specs.declared.declaration.Specifiers.{Specifiers}
use Rattle.c_grammar_tree.specs.declared.item.Parameter.{Parameter}
use Rattle.c_grammar_tree.specs.declared.item.FunctionDeclarator.{FunctionDeclarator}
use Rattle.c_types_rules.specs.declared.meaning.Entry.{Entry}
use Rattle.c_types_rules.specs.declared.meaning.Kind.{Kind}
use Rattle.c_types_rules.specs.declared.meaning.ParameterType.{ParameterType}
use Rattle.c_types_rules.specs.Names.{Text, declared_as}
use Rattle.c_types_rules.specs.First.{first_with, first_append}
use Rattle.c_types_rules.specs.Declarations.{kind_of}
use Rattle.c_types_rules.specs.Items.{Before, enumeration_faults, listed, parameter_types}
use Rattle.c_types_rules.specs.Items.{merged_function, function_behind, head_faults}
use Rattle.c_types_globals.specs.Scopes.{parameters_faults, taken_faults}

regroup : (held : Option TextFault) (a b c d : List TextFault)
    → first_with (first_with (first_with held a) (b ++ c)) d
    ≡ first_with held (((a ++ b) ++ c) ++ d)
regroup held a b c d = simp first_append

pub head_first : (text : Text) (before mid : Before) (defines : Bool) (specifiers : Specifiers)
    (declarator : FunctionDeclarator) (kind : Kind) (types : Option (List ParameterType))
    (all : List Parameter) (held one two three : Option TextFault) → mid ≡ before
    → kind ≡ kind_of text specifiers → types ≡ parameter_types text defines declarator.parameters
    → all ≡ listed declarator.parameters
    → one ≡ first_with held (enumeration_faults text specifiers before)
    → two ≡ first_with one (taken_faults text mid.names kind types defines declarator)
    → three ≡ first_with two (parameters_faults text all mid)
    → three ≡ first_with held (head_faults text before defines specifiers declarator)
head_first text before mid defines specifiers declarator kind types all held one two three mid_is
    kind_is types_are all_are first second third =
    let given = parameter_types text defines declarator.parameters in
    let own = enumeration_faults text specifiers before in
    let last = parameters_faults text (listed declarator.parameters) before in
    third
    ∙ ap (λ (b : Before). first_with two (parameters_faults text all b)) mid_is
    ∙ ap (λ (ps : List Parameter). first_with two (parameters_faults text ps before)) all_are
    ∙ ap (λ (f : Option TextFault). first_with f last) (second
    ∙ ap (λ (b : Before). first_with one (taken_faults text b.names kind types defines declarator))
    mid_is
    ∙ ap (λ (k : Kind). first_with one (taken_faults text before.names k types defines declarator))
    kind_is
    ∙ ap (λ (ts : Option (List ParameterType)).
    first_with one (taken_faults text before.names (kind_of text specifiers) ts defines declarator))
    types_are
    ∙ ap (λ (f : Option TextFault).
    first_with f (taken_faults text before.names (kind_of text specifiers) given defines
    declarator)) first)
    ∙ regroup held own _ _ last

-- a function's name behind the others
abbrev pub with_function : List ℕ → Kind → Option (List ParameterType) → Bool → Before → Before
with_function name kind types defines before = record before {
  names = before.names ++ record {
    name = name;
    declared = merged_function (declared_as before.names name) kind types defines;
  } ∷ [];
}

pub head_scope : (text : Text) (before last : Before) (defines : Bool) (specifiers : Specifiers)
    (declarator : FunctionDeclarator) (name : List ℕ) (kind : Kind)
    (types : Option (List ParameterType)) (names : List Entry) → last ≡ before
    → name ≡ declarator.name.bytes → kind ≡ kind_of text specifiers
    → types ≡ parameter_types text defines declarator.parameters
    → names ≡ (with_function name kind types defines last).names
    → record last { names = names } ≡ function_behind text defines specifiers declarator before
head_scope text before last defines specifiers declarator name kind types names last_is name_is
    kind_is
    types_are names_are =
    ap (λ (ns : List Entry). record last { names = ns }) names_are
    ∙ ap (λ (b : Before). with_function name kind types defines b) last_is
    ∙ ap (λ (n : List ℕ). with_function n kind types defines before) name_is
    ∙ ap (λ (k : Kind). with_function declarator.name.bytes k types defines before) kind_is
    ∙ ap (λ (ts : Option (List ParameterType)).
    with_function declarator.name.bytes (kind_of text specifiers) ts defines before) types_are
