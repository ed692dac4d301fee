-- What an enumerated type declares: ints and tags, and no object.
use Rattle.std.proofs.Common.{◌≡◌, ℕ, ℤ, ◌+ℤ◌, pos, Bool, true, false, if◌then◌else◌, List, [], ◌∷◌}
use Rattle.std.proofs.Common.{◌++◌, Option, None, Some, refl, subst}
use Rattle.std.proofs.lemmas.Bool.Decides.{Decides-int_eq}
use Rattle.cpa_ints.specs.declared.integers.IntType.TheVariants as ty
use Rattle.cpa_ints.specs.Integers.{IsInRange}
use Rattle.cpa_ints.specs.Wrapping.{wrapped}
use Rattle.cpa_ints.specs.lemmas.Arithmetic.{wrapped_in_range}
use Rattle.c_grammar_tree.specs.declared.declaration.Enumerator.{Enumerator}
use Rattle.c_grammar_tree.specs.declared.declaration.Enumeration.{Enumeration}
use Rattle.c_grammar_tree.specs.declared.declaration.Enumeration.TheVariants as enumeration
use Rattle.c_types_rules.specs.declared.meaning.Entry.{Entry}
use Rattle.c_types_rules.specs.Names.{Text}
use Rattle.c_types_rules.specs.Declarations.{is_int, given_number, enumerator_number}
use Rattle.c_types_rules.specs.Declarations.{enumerator_entry, tag_entry}
use Rattle.c_types_rules.specs.Statements.{Around, naming, enumerating, enumeration_walk}
use Rattle.c_core_laws.specs.lemmas.MadeValues.{zero_in_range}

number_by : (b : Bool) (n : ℤ) → is_int n ≡ b → IsInRange ty.I32 (if b then n else pos 0)
number_by true n is =
    subst (IsInRange ty.I32) ((Decides-int_eq (wrapped ty.I32 n) n).0 is)
    (wrapped_in_range ty.I32 n)
number_by false n is = zero_in_range ty.I32

pub enumerator_in_range : (text : Text) (names : List Entry) (next : ℤ) (one : Enumerator) →
    IsInRange ty.I32 (enumerator_number text names next one)
enumerator_in_range text names next one =
    number_by (is_int (given_number text names next one)) (given_number text names next one) refl

-- what holds of names and of one more enumerator or tag holds of all of an enumerated type
module _ (text : Text) (P : List Entry → Type 0)
    (with_enumerator : (names : List Entry) (name : List ℕ) (n : ℤ) → IsInRange ty.I32 n →
    P names → P (names ++ enumerator_entry name n ∷ []))
    (with_tag : (names : List Entry) (name : List ℕ) → P names → P (names ++ tag_entry name ∷ []))
  where
    enumerators_grow : (next : ℤ) (found : List Enumerator) (around : Around) → P around.names →
        P ((enumerating text next found).behind around).names
    enumerators_grow next [] around h = h
    enumerators_grow next (one ∷ more) around h =
        let n = enumerator_number text around.names next one in
        enumerators_grow (n +ℤ pos 1) more (naming (enumerator_entry one.name.bytes n) around)
        (with_enumerator around.names one.name.bytes n
        (enumerator_in_range text around.names next one) h)

    pub enumeration_grows : (found : Option Enumeration) (around : Around) → P around.names →
        P ((enumeration_walk text found).behind around).names
    enumeration_grows None around h = h
    enumeration_grows (Some (enumeration.Tag tag)) around h = h
    enumeration_grows (Some (enumeration.Listed None found)) around h =
        enumerators_grow (pos 0) found around h
    enumeration_grows (Some (enumeration.Listed (Some tag) found)) around h =
        enumerators_grow (pos 0) found (naming (tag_entry tag.bytes) around)
        (with_tag around.names tag.bytes h)

-- all else is as before
pub record Kept (before behind : Around) : Type 0 where
  pub objects : behind.objects ≡ before.objects
  pub result : behind.result ≡ before.result

enumerators_keep : (text : Text) (next : ℤ) (found : List Enumerator) (around : Around) →
    Kept around ((enumerating text next found).behind around)
enumerators_keep text next [] around = record { objects = refl; result = refl }
enumerators_keep text next (one ∷ more) around =
    let n = enumerator_number text around.names next one in
    let r = enumerators_keep text (n +ℤ pos 1) more
    (naming (enumerator_entry one.name.bytes n) around) in
    record { objects = r.objects; result = r.result }

pub enumeration_keeps : (text : Text) (found : Option Enumeration) (around : Around) →
    Kept around ((enumeration_walk text found).behind around)
enumeration_keeps text None around = record { objects = refl; result = refl }
enumeration_keeps text (Some (enumeration.Tag tag)) around =
    record { objects = refl; result = refl }
enumeration_keeps text (Some (enumeration.Listed None found)) around =
    enumerators_keep text (pos 0) found around
enumeration_keeps text (Some (enumeration.Listed (Some tag) found)) around =
    let r = enumerators_keep text (pos 0) found (naming (tag_entry tag.bytes) around) in
    record { objects = r.objects; result = r.result }
