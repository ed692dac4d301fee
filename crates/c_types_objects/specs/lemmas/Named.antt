-- Names are all that an enumerated type leaves, and none of them is an object's (`names_of`).
use Rattle.std.proofs.Common.{◌≡◌, ℕ, ℤ, pos, ◌+ℤ◌, List, [], ◌∷◌, ◌++◌, Option, None, Some, refl}
use Rattle.std.proofs.Common.{ap, ◌∙◌, append-nil}
use Rattle.std.specs.List.{flat_map, filter_map, cons_option}
use Rattle.std.proofs.lemmas.List.Elements.{filter_map-append}
use Rattle.c_grammar_tree.specs.declared.declaration.Enumerator.{Enumerator}
use Rattle.c_grammar_tree.specs.declared.declaration.Enumeration.{Enumeration}
use Rattle.c_grammar_tree.specs.declared.declaration.Enumeration.TheVariants as enumeration
use Rattle.c_types_rules.specs.declared.meaning.Entry.{Entry}
use Rattle.c_types_rules.specs.Names.{Text}
use Rattle.c_types_rules.specs.Declarations.{enumerator_number, enumerator_entry, tag_entry}
use Rattle.c_types_rules.specs.Statements.{Around, naming, enumerating, enumeration_walk}
use Rattle.c_types_rules.specs.StatementRules.{label_at, goto_at, object_number}

-- What an enumerated type leaves.
pub record LeavesNames (text : Text) (found : Option Enumeration) (around : Around) : Type 0 where
  pub alone : (enumeration_walk text found).behind around
      ≡ record around { names = ((enumeration_walk text found).behind around).names }
  pub objects : filter_map object_number ((enumeration_walk text found).behind around).names
      ≡ filter_map object_number around.names
  pub labels : flat_map label_at ((enumeration_walk text found).sites around) ≡ []
  pub gotos : flat_map goto_at ((enumeration_walk text found).sites around) ≡ []

-- The same of enumerators.
record ListedNames (text : Text) (next : ℤ) (list : List Enumerator) (around : Around)
    : Type 0 where
  alone : (enumerating text next list).behind around
      ≡ record around { names = ((enumerating text next list).behind around).names }
  objects : filter_map object_number ((enumerating text next list).behind around).names
      ≡ filter_map object_number around.names
  labels : flat_map label_at ((enumerating text next list).sites around) ≡ []
  gotos : flat_map goto_at ((enumerating text next list).sites around) ≡ []

-- a name that is no object's
one_name : (names : List Entry) (entry : Entry) → object_number entry ≡ None
    → filter_map object_number (names ++ entry ∷ []) ≡ filter_map object_number names
one_name names entry is =
    filter_map-append object_number names (entry ∷ [])
    ∙ ap (λ (found : Option ℕ). filter_map object_number names ++ cons_option found []) is
    ∙ append-nil (filter_map object_number names)

listed_names : (text : Text) (next : ℤ) (list : List Enumerator) (around : Around)
    → ListedNames text next list around
listed_names text next [] around = record {
  alone = refl;
  objects = refl;
  labels = refl;
  gotos = refl;
}
listed_names text next (one ∷ more) around =
    let n = enumerator_number text around.names next one in
    let entry = enumerator_entry one.name.bytes n in
    let rest = listed_names text (n +ℤ pos 1) more (naming entry around) in
    record {
      alone = rest.alone;
      objects = rest.objects ∙ one_name around.names entry refl;
      labels = rest.labels;
      gotos = rest.gotos;
    }

pub names_of : (text : Text) (found : Option Enumeration) (around : Around) → LeavesNames text found
    around
names_of text None around = record { alone = refl; objects = refl; labels = refl; gotos = refl }
names_of text (Some (enumeration.Tag tag)) around =
    record { alone = refl; objects = refl; labels = refl; gotos = refl }
names_of text (Some (enumeration.Listed None list)) around =
    let all = listed_names text (pos 0) list around in
    record {
      alone = all.alone;
      objects = all.objects;
      labels = all.labels;
      gotos = all.gotos;
    }
names_of text (Some (enumeration.Listed (Some tag) list)) around =
    let behind = naming (tag_entry tag.bytes) around in
    let all = listed_names text (pos 0) list behind in
    record {
      alone = all.alone;
      objects = all.objects ∙ one_name around.names (tag_entry tag.bytes) refl;
      labels = all.labels;
      gotos = all.gotos;
    }
