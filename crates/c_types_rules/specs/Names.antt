-- What a name stands for at a place (C11 6.2.1 and 6.2.3).
use Rattle.std.specs.Prelude.{ℕ, ◌+◌, Bool, true, false, List, [], ◌∷◌, ◌++◌, codes}
use Rattle.std.specs.Prelude.{length, find, Option, None, Some, is_some, option_map}
use Rattle.std.specs.Str.{bytes_eq}
use Rattle.cpa_ints.specs.declared.data_model.DataModel.{DataModel}
use Rattle.c_types_rules.specs.declared.known.KnownFunction.{KnownFunction}
use Rattle.c_types_rules.specs.declared.meaning.Kind.{Kind}
use Rattle.c_types_rules.specs.declared.meaning.ParameterType.{ParameterType}
use Rattle.c_types_rules.specs.declared.meaning.Declared.{Declared}
use Rattle.c_types_rules.specs.declared.meaning.Declared.TheVariants as declared
use Rattle.c_types_rules.specs.declared.meaning.Entry.{Entry}
use Rattle.c_types_rules.specs.declared.meaning.Function.{Function}
use Rattle.c_types_rules.specs.declared.meaning.Meaning.{Meaning}
use Rattle.c_types_rules.specs.declared.meaning.Meaning.TheVariants as meaning
use Rattle.c_types_rules.specs.Known.{known}

-- what a whole text is read by: the data model, and what it says of its functions: the names of
-- those that have a body, body by body, and how many parameters a name has by each declaration that
-- says so
pub record Text : Type 0 where
  pub model : DataModel
  pub bodies : List (List ℕ)
  pub arities : List (List ℕ × ℕ)

-- how many stand before the first that passes
abbrev pub place_of : {T : Type 0} → (T → Bool) → List T → Option ℕ
place_of test [] = None
place_of test (x ∷ xs) =
    elim (test x) [ true ↦ Some 0 | false ↦ option_map (λ n. n + 1) (place_of test xs) ]

-- the number of a function's body
abbrev pub body_of : Text → List ℕ → Option ℕ
body_of text name = place_of (bytes_eq name) text.bodies

-- how many parameters a function has by the first declaration of the text that says so
abbrev pub arity_of : Text → List ℕ → Option ℕ
arity_of text name = option_map (λ row. row.1) (find (λ row. bytes_eq name row.0) text.arities)

-- the first that there is
abbrev pub or_else : {T : Type 0} → Option T → Option T → Option T
or_else (Some x) other = Some x
or_else None other = other

-- what the last of these declarations says of a name: an inner name hides an outer one, since the
-- names of an inner scope stand behind those of the outer ones (C11 6.2.1p4)
abbrev pub declared_as : List Entry → List ℕ → Option Declared
declared_as [] name = None
declared_as (entry ∷ entries) name =
    or_else (declared_as entries name)
    (elim (bytes_eq entry.name name) [ true ↦ Some entry.declared | false ↦ None ])

-- the name under which a tag is declared: no identifier is spelled so, and so tags are a name space
-- of their own (C11 6.2.3)
abbrev pub tag_key : List ℕ → List ℕ
tag_key tag = codes "enum " ++ tag

-- a tag of this spelling is declared
abbrev pub is_tag : List Entry → List ℕ → Bool
is_tag names tag = is_some (declared_as names (tag_key tag))

-- the function of this name, as the text declares it
abbrev pub function_of : Text → List ℕ → Kind → Option (List ParameterType) → Function
function_of text name result parameters = record {
  body = body_of text name;
  result = result;
  arity = or_else (option_map (λ types. length types) parameters) (arity_of text name);
}

-- what a name stands for that is declared so or not at all: a known function needs no declaration,
-- and no declaration but one of an object or an enumerator takes its place
abbrev pub meaning_by : Text → List ℕ → Option KnownFunction → Option Declared → Option Meaning
meaning_by text name known (Some (declared.Object object initialized)) =
    Some (meaning.Object object)
meaning_by text name known (Some (declared.Enumerator value)) = Some (meaning.Enumerator value)
meaning_by text name (Some function) _ = Some (meaning.Known function)
meaning_by text name None (Some (declared.Function result parameters defined)) =
    Some (meaning.Function (function_of text name result parameters))
meaning_by text name None _ = None

-- what a name stands for where these names are declared
abbrev pub meaning_of : Text → List Entry → List ℕ → Option Meaning
meaning_of text names name = meaning_by text name (known text.model name) (declared_as names name)
