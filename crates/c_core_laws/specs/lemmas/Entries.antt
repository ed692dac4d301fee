-- What a name is declared as where one more declaration stands.
use Rattle.std.proofs.Common.{◌≡◌, ℕ, Bool, true, false, List, [], ◌∷◌, ◌++◌, Option, None, Some}
use Rattle.std.proofs.Common.{◌||◌, ap, refl, ◌∙◌}
use Rattle.std.specs.Str.{bytes_eq}
use Rattle.c_types_rules.specs.declared.meaning.Object.{Object}
use Rattle.c_types_rules.specs.declared.meaning.Declared.{Declared}
use Rattle.c_types_rules.specs.declared.meaning.Declared.TheVariants as declared
use Rattle.c_types_rules.specs.declared.meaning.Entry.{Entry}
use Rattle.c_types_rules.specs.Names.{declared_as, or_else}
use Rattle.c_types_rules.specs.Declarations.{is_declared_among}

entry_as : Entry → List ℕ → Option Declared
entry_as entry name = elim (bytes_eq entry.name name) [ true ↦ Some entry.declared | false ↦ None ]

as_named : (entry : Entry) (name : List ℕ) → bytes_eq entry.name name ≡ true →
    entry_as entry name ≡ Some entry.declared
unfolding entry_as
as_named entry name is =
    ap (λ (b : Bool). elim b as (λ c. Option Declared) [
      | true ↦ Some entry.declared
      | false ↦ None
    ]) is

as_other : (entry : Entry) (name : List ℕ) → bytes_eq entry.name name ≡ false →
    entry_as entry name ≡ None
unfolding entry_as
as_other entry name is =
    ap (λ (b : Bool). elim b as (λ c. Option Declared) [
      | true ↦ Some entry.declared
      | false ↦ None
    ]) is

pub push_named : (names : List Entry) (entry : Entry) (name : List ℕ) →
    bytes_eq entry.name name ≡ true →
    declared_as (names ++ entry ∷ []) name ≡ Some entry.declared
unfolding entry_as
push_named [] entry name is = as_named entry name is
push_named (x ∷ names) entry name is =
    ap (λ o. or_else o (entry_as x name)) (push_named names entry name is)

pub push_other : (names : List Entry) (entry : Entry) (name : List ℕ) →
    bytes_eq entry.name name ≡ false →
    declared_as (names ++ entry ∷ []) name ≡ declared_as names name
unfolding entry_as
push_other [] entry name is = as_other entry name is
push_other (x ∷ names) entry name is =
    ap (λ o. or_else o (entry_as x name)) (push_other names entry name is)

-- a name that is none of these is not declared

first_false : (a b : Bool) → (a || b) ≡ false → a ≡ false
first_false true b h = absurd (cc)
first_false false b h = refl

rest_false : (a b : Bool) → (a || b) ≡ false → b ≡ false
rest_false true b h = absurd (cc)
rest_false false b h = h

pub none_among : (names : List Entry) (name : List ℕ) → is_declared_among names name ≡ false →
    declared_as names name ≡ None
unfolding entry_as
none_among [] name free = refl
none_among (x ∷ names) name free =
    let here = bytes_eq x.name name in
    let rest = is_declared_among names name in
    ap (λ o. or_else o (entry_as x name)) (none_among names name (rest_false here rest free))
    ∙ as_other x name (first_false here rest free)

-- what a name is declared as is one object
pub same_object : (a b : Object) (i j : Bool) →
    Some (declared.Object a i) ≡ Some (declared.Object b j) → a ≡ b
same_object a b i j is = cc
