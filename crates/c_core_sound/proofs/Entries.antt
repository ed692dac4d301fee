-- What a name is declared as where one more declaration stands.
use Rattle.std.proofs.Common.{◌≡◌, ℕ, Bool, true, false, List, [], ◌∷◌, ◌++◌, Some}
use Rattle.std.proofs.Common.{sym, ◌∙◌, refl, subst}
use Rattle.std.proofs.lemmas.Option.{same_Some}
use Rattle.std.specs.Str.{bytes_eq}
use Rattle.c_types_rules.specs.declared.meaning.Declared.{Declared}
use Rattle.c_types_rules.specs.declared.meaning.Entry.{Entry}
use Rattle.c_types_rules.specs.Names.{declared_as}
use Rattle.c_core_laws.specs.lemmas.Entries.{push_named, push_other}

by_test : (P : List ℕ → Declared → Type 0) (names : List Entry) (entry : Entry) →
    ((name : List ℕ) (d : Declared) → declared_as names name ≡ Some d → P name d) →
    ((name : List ℕ) → bytes_eq entry.name name ≡ true → P name entry.declared) →
    (name : List ℕ) (d : Declared) (b : Bool) → bytes_eq entry.name name ≡ b →
    declared_as (names ++ entry ∷ []) name ≡ Some d → P name d
by_test P names entry old fresh name d true named is =
    subst (P name) (same_Some entry.declared d (sym (push_named names entry name named) ∙ is))
    (fresh name named)
by_test P names entry old fresh name d false named is =
    old name d (sym (push_other names entry name named) ∙ is)

-- what holds of what a name is declared as holds behind one more declaration
pub pushed_by : (P : List ℕ → Declared → Type 0) (names : List Entry) (entry : Entry) →
    ((name : List ℕ) (d : Declared) → declared_as names name ≡ Some d → P name d) →
    ((name : List ℕ) → bytes_eq entry.name name ≡ true → P name entry.declared) →
    (name : List ℕ) (d : Declared) → declared_as (names ++ entry ∷ []) name ≡ Some d → P name d
pushed_by P names entry old fresh name d is =
    by_test P names entry old fresh name d (bytes_eq entry.name name) refl is
