-- Enumerated types: enumerators one further (`enumerated_step`), the acts of tags (`tag_first`,
-- `refers_first`), and what stands behind a tag (`two_firsts`, `two_calls`).
use Rattle.std.proofs.Common.{◌≡◌, ℕ, ◌+◌, ◌<◌, ◌≤◌, ℤ, pos, ◌+ℤ◌, Bool, true, false, not, List, []}
use Rattle.std.proofs.Common.{◌∷◌, ◌++◌, length, get_or, drop, Option, refl, sym, ap, ◌∙◌, subst}
use Rattle.std.proofs.Common.{append_assoc, append-nil, rules}
use Rattle.std.specs.List.{flat_map}
use Rattle.std.proofs.lemmas.Bool.Decides.{Decides-int_eq}
use Rattle.std.proofs.lemmas.List.{drop_more, drop_all}
use Rattle.std.proofs.lemmas.List.Concat.{flat_map-append}
use Rattle.cpa_ints.specs.declared.integers.IntType.TheVariants as ty
use Rattle.cpa_ints.specs.Integers.{IsInRange}
use Rattle.cpa_ints.specs.Wrapping.{wrapped}
use Rattle.cpa_ints.specs.lemmas.Arithmetic.{wrapped_in_range}
use Rattle.c_lexer.specs.declared.fault.Rule.TheVariants as rule
use Rattle.c_lexer.specs.declared.fault.TextFault.{TextFault}
use Rattle.c_grammar_tree.specs.declared.name.Name.{Name}
use Rattle.c_grammar_tree.specs.declared.expression.Expression.{Expression}
use Rattle.c_grammar_tree.specs.declared.declaration.Enumerator.{Enumerator}
use Rattle.c_types_rules.specs.declared.meaning.Entry.{Entry}
use Rattle.c_types_rules.specs.Names.{Text, tag_key, is_tag}
use Rattle.c_types_rules.specs.First.{first_with, first_append}
use Rattle.c_types_rules.specs.ExpressionRules.{broken, at_if, uses_faults, option_places}
use Rattle.c_types_rules.specs.Declarations.{is_declared_among, is_int, enumerator_number}
use Rattle.c_types_rules.specs.Declarations.{enumerator_faults, enumerator_uses, enumerator_entry}
use Rattle.c_types_rules.specs.Declarations.{tag_entry, constant_number, inconstant}
use Rattle.c_types_rules.specs.Statements.{Around, Site, doing, refers, enumerating, enumerates}
use Rattle.c_types_rules.specs.Statements.{tagging, naming}
use Rattle.c_types_rules.specs.StatementRules.{act_faults, site_faults}
use Rattle.c_types_rules.specs.Items.{Call, site_calls}
use Rattle.c_types_expressions.specs.Read.{part_of, uses_calls, calls_are}
use Rattle.c_types_objects.specs.Enumerations.{AreNamed, AddsNames, outside_places}
use Rattle.c_types_objects.proofs.Fitting.{broken_append}

-- a number that stays as it is in an int is of its range
pub int_is : (n : ℤ) → is_int n ≡ true → IsInRange ty.I32 n
int_is n is =
    subst (λ (m : ℤ). IsInRange ty.I32 m) ((Decides-int_eq (wrapped ty.I32 n) n).0 is)
    (wrapped_in_range ty.I32 n)

-- the faults of a value that is given, noted one after the other
pub given_outside : (held : Option TextFault) (inconstant_at : Option ℕ) (number : Option ℤ)
    (place : ℕ) (text : Text) (names : List Entry) (given : Expression)
    → option_places inconstant_at ≡ inconstant text names given
    → number ≡ constant_number text names given → place ≡ (part_of text names given).place
    → first_with (first_with held (broken rule.N12 (option_places inconstant_at)))
    (broken rule.N12 (outside_places number place))
    ≡ first_with held (broken rule.N12 (inconstant text names given
    ++ outside_places (constant_number text names given) (part_of text names given).place))
given_outside held inconstant_at number place text names given at_i at_n at_p =
    sym (broken_append held rule.N12 (option_places inconstant_at) (outside_places number place))
    ∙ ap (λ (places : List ℕ). first_with held (broken rule.N12 places))
    (ap (λ (xs : List ℕ). xs ++ outside_places number place) at_i
    ∙ (ap (λ (m : Option ℤ). inconstant text names given ++ outside_places m place) at_n
    ∙ ap (λ (p : ℕ). inconstant text names given
    ++ outside_places (constant_number text names given) p) at_p))

-- the faults of an enumerator, that of its name apart
enumerates_faults : (text : Text) (around : Around) (next : ℤ) (one : Enumerator)
    → act_faults text around (enumerates next one)
    ≡ broken rule.N2 (at_if (is_declared_among (drop around.outer around.names) one.name.bytes)
    one.name.place)
    ++ (broken rule.N12 (enumerator_faults text around.names next one)
    ++ uses_faults (enumerator_uses text around.names one))
enumerates_faults text around next one =
    regroup (broken rule.N2 (at_if (is_declared_among (drop around.outer around.names)
    one.name.bytes) one.name.place))
    (broken rule.N12 (enumerator_faults text around.names next one))
    (uses_faults (enumerator_uses text around.names one))
  where
    regroup : (a b c : List TextFault)
        → ((((((((a ++ []) ++ []) ++ []) ++ []) ++ b) ++ []) ++ []) ++ []) ++ c ≡ a ++ (b ++ c)
    regroup a b c = simp (append-nil, append_assoc)

-- What enumerators make of the names, of the first fault and of the calls.
pub record Gives (text : Text) (caller : ℕ) (next : ℤ) (list : List Enumerator) (around : Around)
    (held : Option TextFault) (calls : List Call) (names_end : List Entry)
    (first_end : Option TextFault) (calls_end : List Call) : Type 0 where
  pub names_at : ((enumerating text next list).behind around).names ≡ names_end
  pub first_at : first_with held
      (flat_map (site_faults text) ((enumerating text next list).sites around)) ≡ first_end
  pub calls_at : calls
      ++ flat_map (site_calls text caller) ((enumerating text next list).sites around) ≡ calls_end

-- what all of them make where these names are declared
abbrev pub GivesAll : Text → ℕ → ℤ → List Enumerator → List Enumerator → Around → List Entry
    → Option TextFault → List Call → Option TextFault → List Call → Type 0
GivesAll text caller next rest list around names held calls first_start calls_start =
    Gives text caller next rest (record around { names = names }) held calls
    ((enumerating text (pos 0) list).behind around).names
    (first_with first_start
    (flat_map (site_faults text) ((enumerating text (pos 0) list).sites around)))
    (calls_start
    ++ flat_map (site_calls text caller) ((enumerating text (pos 0) list).sites around))

pub enumerated_start : (text : Text) (caller : ℕ) (list : List Enumerator) (names : List Entry)
    (outer : ℕ) (around : Around) (held : Option TextFault) (calls : List Call)
    → AreNamed names outer around
    → GivesAll text caller (pos 0) list list around names held calls held calls
enumerated_start text caller list names outer around held calls named =
    subst (λ (ns : List Entry). GivesAll text caller (pos 0) list list around ns held calls held
    calls)
    named.names_are (record { names_at = refl; first_at = refl; calls_at = refl })

drop_at : {X : Type 0} (xs : List X) (i : ℕ) (x : X) → i < length xs → x ≡ get_or xs i x
    → drop i xs ≡ x ∷ drop (i + 1) xs
drop_at {X} xs i x less is =
    drop_more xs i x less ∙ ap (λ (y : X). y ∷ drop (i + 1) xs) (sym is)

pub enumerated_step : (text : Text) (caller outer : ℕ) (next after : ℤ) (list : List Enumerator)
    (i : ℕ) (one : Enumerator) (around : Around) (names new : List Entry)
    (held noted : Option TextFault) (calls found : List Call) (names_end : List Entry)
    (first_end : Option TextFault) (calls_end : List Call)
    → i < length list → one ≡ get_or list i one
    → new ≡ names ++ enumerator_entry one.name.bytes (enumerator_number text names next one) ∷ []
    → after ≡ enumerator_number text names next one +ℤ pos 1
    → noted ≡ first_with (first_with held (broken rule.N2 (at_if
    (is_declared_among (drop outer names) one.name.bytes) one.name.place)))
    (broken rule.N12 (enumerator_faults text names next one)
    ++ uses_faults (enumerator_uses text names one))
    → found ≡ calls ++ uses_calls caller (enumerator_uses text names one) → around.outer ≡ outer
    → Gives text caller next (drop i list) (record around { names = names }) held calls names_end
    first_end calls_end
    → Gives text caller after (drop (i + 1) list) (record around { names = new }) noted found
    names_end first_end calls_end
enumerated_step text caller outer next after list i one around names new held noted calls found
    names_end first_end calls_end less is new_is after_is noted_is found_is outer_is given =
    let rest = drop (i + 1) list in
    let n = enumerator_number text names next one in
    let here : Around = record around { names = names } in
    let behind = naming (enumerator_entry one.name.bytes n) here in
    let uses = enumerator_uses text names one in
    let own = broken rule.N12 (enumerator_faults text names next one) ++ uses_faults uses in
    let sites = (enumerating text (n +ℤ pos 1) rest).sites behind in
    let faults = flat_map (site_faults text) sites in
    let called = flat_map (site_calls text caller) sites in
    let left = drop_at list i one less is in
    record {
      names_at =
          ap (λ (ns : List Entry). ((enumerating text after rest).behind
          (record around { names = ns })).names) new_is
          ∙ ap (λ (m : ℤ). ((enumerating text m rest).behind behind).names) after_is
          ∙ sym (ap (λ (xs : List Enumerator). ((enumerating text next xs).behind here).names) left)
          ∙ given.names_at;
      first_at =
          ap (λ (ns : List Entry). first_with noted (flat_map (site_faults text)
          ((enumerating text after rest).sites (record around { names = ns })))) new_is
          ∙ ap (λ (m : ℤ). first_with noted (flat_map (site_faults text)
          ((enumerating text m rest).sites behind))) after_is
          ∙ ap (λ (f : Option TextFault). first_with f faults) (noted_is
          ∙ ap (λ (k : ℕ). first_with (first_with held (broken rule.N2 (at_if
          (is_declared_among (drop k names) one.name.bytes) one.name.place))) own) (sym outer_is)
          ∙ sym (first_append held (broken rule.N2 (at_if
          (is_declared_among (drop around.outer names) one.name.bytes) one.name.place)) own)
          ∙ ap (λ (all : List TextFault). first_with held all)
          (sym (enumerates_faults text here next one)))
          ∙ sym (first_append held (act_faults text here (enumerates next one)) faults)
          ∙ sym (ap (λ (xs : List Enumerator). first_with held (flat_map (site_faults text)
          ((enumerating text next xs).sites here))) left)
          ∙ given.first_at;
      calls_at =
          ap (λ (ns : List Entry). found ++ flat_map (site_calls text caller)
          ((enumerating text after rest).sites (record around { names = ns }))) new_is
          ∙ ap (λ (m : ℤ). found ++ flat_map (site_calls text caller)
          ((enumerating text m rest).sites behind)) after_is
          ∙ ap (λ (cs : List Call). cs ++ called) found_is
          ∙ append_assoc calls (uses_calls caller uses) called
          ∙ ap (λ (cs : List Call). calls ++ (cs ++ called)) (calls_are caller uses)
          ∙ sym (ap (λ (xs : List Enumerator). calls ++ flat_map (site_calls text caller)
          ((enumerating text next xs).sites here)) left)
          ∙ given.calls_at;
    }

-- Behind the last one they are what all make.
pub record Ended (names : List Entry) (held : Option TextFault) (calls : List Call)
    (names_end : List Entry) (first_end : Option TextFault) (calls_end : List Call) : Type 0 where
  pub names_at : names ≡ names_end
  pub first_at : held ≡ first_end
  pub calls_at : calls ≡ calls_end

pub enumerated_end : (text : Text) (caller : ℕ) (next : ℤ) (list : List Enumerator) (i : ℕ)
    (around : Around) (names : List Entry) (held : Option TextFault) (calls : List Call)
    (names_end : List Entry) (first_end : Option TextFault) (calls_end : List Call)
    → length list ≤ i
    → Gives text caller next (drop i list) (record around { names = names }) held calls names_end
    first_end calls_end → Ended names held calls names_end first_end calls_end
enumerated_end text caller next list i around names held calls names_end first_end calls_end past
    given =
    let last = subst (λ (xs : List Enumerator). Gives text caller next xs
    (record around { names = names }) held calls names_end first_end calls_end)
    (drop_all i list past) given in
    record {
      names_at = last.names_at;
      first_at = last.first_at;
      calls_at = sym (append-nil calls) ∙ last.calls_at;
    }

-- a tag is declared
pub tag_first : (text : Text) (around : Around) (tag : Name) (outer : ℕ) (names : List Entry)
    (held : Option TextFault) → AreNamed names outer around
    → first_with held (broken rule.N2 (at_if
    (is_declared_among (drop outer names) (tag_key tag.bytes)) tag.place))
    ≡ first_with held (flat_map (site_faults text) ((tagging tag).sites around))
tag_first text around tag outer names held named =
    ap (λ (k : ℕ). first_with held (broken rule.N2 (at_if
    (is_declared_among (drop k names) (tag_key tag.bytes)) tag.place))) (sym named.outer_is)
    ∙ ap (λ (ns : List Entry). first_with held (broken rule.N2 (at_if
    (is_declared_among (drop around.outer ns) (tag_key tag.bytes)) tag.place)))
    (sym named.names_are)
    ∙ ap (λ (all : List TextFault). first_with held all) (sym (nils (broken rule.N2 (at_if
    (is_declared_among (drop around.outer around.names) (tag_key tag.bytes)) tag.place))))
  where
    nils : (a : List TextFault) → (((((((((a ++ []) ++ []) ++ []) ++ []) ++ []) ++ []) ++ [])
        ++ []) ++ []) ++ [] ≡ a
    nils a = simp append-nil

-- a tag is used
pub refers_first : (text : Text) (around : Around) (tag : Name) (outer : ℕ) (names : List Entry)
    (held : Option TextFault) → AreNamed names outer around
    → first_with held (broken rule.N1 (at_if (not (is_tag names tag.bytes)) tag.place))
    ≡ first_with held (flat_map (site_faults text) ((doing (refers tag)).sites around))
refers_first text around tag outer names held named =
    ap (λ (ns : List Entry). first_with held (broken rule.N1 (at_if
    (not (is_tag ns tag.bytes)) tag.place))) (sym named.names_are)
    ∙ ap (λ (all : List TextFault). first_with held all) (sym (nils (broken rule.N1 (at_if
    (not (is_tag around.names tag.bytes)) tag.place))))
  where
    nils : (a : List TextFault) → ((((((((((a ++ []) ++ []) ++ []) ++ []) ++ []) ++ []) ++ [])
        ++ []) ++ []) ++ []) ++ [] ≡ a
    nils a = simp append-nil

-- behind a tag
pub named_behind : (around : Around) (tag : Name) (outer : ℕ) (names new : List Entry)
    → AreNamed names outer around → new ≡ names ++ tag_entry tag.bytes ∷ []
    → AreNamed new outer (naming (tag_entry tag.bytes) around)
named_behind around tag outer names new named is = record {
  names_are = ap (λ (ns : List Entry). ns ++ tag_entry tag.bytes ∷ []) named.names_are ∙ sym is;
  outer_is = named.outer_is;
}

pub two_firsts : (text : Text) (held mid last : Option TextFault) (xs ys : List Site)
    → mid ≡ first_with held (flat_map (site_faults text) xs)
    → last ≡ first_with mid (flat_map (site_faults text) ys)
    → last ≡ first_with held (flat_map (site_faults text) (xs ++ ys))
two_firsts text held mid last xs ys first second =
    second
    ∙ ap (λ (f : Option TextFault). first_with f (flat_map (site_faults text) ys)) first
    ∙ sym (first_append held (flat_map (site_faults text) xs) (flat_map (site_faults text) ys))
    ∙ ap (λ (all : List TextFault). first_with held all)
    (sym (flat_map-append (site_faults text) xs ys))

pub two_calls : (text : Text) (caller : ℕ) (held mid last : List Call) (xs ys : List Site)
    → mid ≡ held ++ flat_map (site_calls text caller) xs
    → last ≡ mid ++ flat_map (site_calls text caller) ys
    → last ≡ held ++ flat_map (site_calls text caller) (xs ++ ys)
two_calls text caller held mid last xs ys first second =
    second
    ∙ ap (λ (cs : List Call). cs ++ flat_map (site_calls text caller) ys) first
    ∙ append_assoc held (flat_map (site_calls text caller) xs)
    (flat_map (site_calls text caller) ys)
    ∙ ap (λ (cs : List Call). held ++ cs) (sym (flat_map-append (site_calls text caller) xs ys))

-- names that are added alone
pub adds_none : (names : List Entry) → AddsNames names names
adds_none names = record { added = []; is = sym (append-nil names) }

pub adds_more : (old mid new : List Entry) (more : List Entry) → AddsNames old mid
    → new ≡ mid ++ more → AddsNames old new
adds_more old mid new more adds is = record {
  added = adds.added ++ more;
  is = is ∙ ap (λ (ns : List Entry). ns ++ more) adds.is ∙ append_assoc old adds.added more;
}

pub adds_then : (old mid new : List Entry) → AddsNames old mid → AddsNames mid new
    → AddsNames old new
adds_then old mid new first second = adds_more old mid new second.added first second.is
