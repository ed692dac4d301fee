-- What the parts of the tables keep: the last declaration of each name by its number (this
-- project's own; the lists that they stand for are those of C11 6.2.1).
use Rattle.std.specs.Prelude.{◌≡◌, ℕ, suc, ◌<◌, ◌^◌, cond, List, [], ◌∷◌, ◌++◌}
use Rattle.std.specs.Prelude.{length, Option, None, Some, option_map}
use Rattle.std.specs.List.{AllByRecursion}
use Rattle.std.specs.Str.{bytes_eq}
use Rattle.c_types_rules.specs.declared.meaning.Declared.{Declared}
use Rattle.c_types_rules.specs.declared.meaning.Declared.TheVariants as declared
use Rattle.c_types_rules.specs.declared.meaning.Entry.{Entry}
use Rattle.c_types_rules.specs.declared.meaning.ParameterType.{ParameterType}
use Rattle.c_types_rules.specs.Names.{or_else}
use Rattle.c_types_names.specs.Found.{number_of, HasFirstArities}
use Rattle.c_types_names.specs.declared.table.Table.{Table}
use Rattle.c_types_names.specs.declared.survey.Parts.{Parts}

-- how many declarations stand before the last one of a name
abbrev pub last_of : List Entry → List ℕ → Option ℕ
last_of [] name = None
last_of (entry ∷ entries) name =
    or_else (option_map (λ n. suc n) (last_of entries name))
    (cond (bytes_eq entry.name name) (Some 0) None)

-- behind these declarations, for each of the others the last one before it that has its name
abbrev pub earlier_in : List Entry → List Entry → List (Option ℕ)
earlier_in before [] = []
earlier_in before (entry ∷ entries) =
    last_of before entry.name ∷ earlier_in (before ++ entry ∷ []) entries

-- a u32 counts them
abbrev pub AreCounted : Option (List ParameterType) → Type 0
AreCounted None = Unit {0}
AreCounted (Some types) = length types < 2 ^ 32

abbrev pub IsCounted : Declared → Type 0
IsCounted (declared.Object object initialized) = Unit {0}
IsCounted (declared.Function result parameters defined) = AreCounted parameters
IsCounted (declared.Enumerator value) = Unit {0}
IsCounted declared.Tag = Unit {0}

-- what the parts of a table of names keep
pub record IsTied (table : Table) : Type 0 where
  pub latest : (name : List ℕ) → number_of table.latest name ≡ last_of table.entries.items name
  pub earlier : table.earlier.items ≡ earlier_in [] table.entries.items
  pub counted : AllByRecursion (λ entry. IsCounted entry.declared) table.entries.items

-- what the parts of a survey keep
pub record IsSurveyed (parts : Parts) : Type 0 where
  pub arities : HasFirstArities parts.arities.items parts.first_arities
