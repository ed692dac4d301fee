-- Specifiers are spelled by their trees: the words of a declaration, of a type, and a tag.
use Rattle.std.specs.Prelude.{◌≡◌, ℕ, Bool, true, false, not, ◌&&◌, List, [], ◌∷◌, ◌++◌, Option}
use Rattle.std.specs.Prelude.{None, Some, refl}
use Rattle.std.proofs.Common.{sym, ◌∙◌, ap, subst, append_assoc}
use Rattle.std.proofs.lemmas.Bool.{and_parts, and_from}
use Rattle.c_grammar_forms.specs.Forms.{World, Form, Empty, Then, Node, Shaped, Choice, Many}
use Rattle.c_grammar_symbols.specs.declared.words.Terminal.TheVariants as terminal
use Rattle.c_grammar_symbols.specs.declared.symbol.Symbol.{Symbol}
use Rattle.c_grammar_symbols.specs.declared.symbol.Symbol.TheVariants as symbol
use Rattle.c_grammar_symbols.specs.Symbols.{Leaf, symbol_of}
use Rattle.c_grammar_tree.specs.declared.declaration.Enumeration.{Enumeration}
use Rattle.c_grammar_tree.specs.declared.declaration.SpecifierKind.TheVariants as kind
use Rattle.c_grammar_tree.specs.Parts.{begins_declared, types, have_part, have_word, is_keyword}
use Rattle.c_grammar_tree.specs.declared.declaration.Specifier.{Specifier}
use Rattle.c_grammar_tree.specs.Declarations.{specifier_at, keywords, qualifiers, Words}
use Rattle.c_grammar_tree.specs.Declarations.{declared_type_at, declared_type, specifiers, tag}
use Rattle.c_laws.specs.Spelling.{Piece, placed, in_order, spelled_specifier, spelled_specifiers}
use Rattle.c_laws.specs.Spelling.{spelled_enumeration}
use Rattle.c_laws.proofs.Spelt.{Look, blind, sharp, Any, Is, Spelt, plainly, at_place}
use Rattle.c_laws.proofs.Spelt.{spelt_nothing, spelt_behind, spelt_one, spelt_skip, spelt_pair_by}
use Rattle.c_laws.proofs.Spelt.{spelt_then_by, spelt_node, spelt_choice, spelt_many, spelt_some}
use Rattle.c_laws.proofs.Spelt.{spelt_empty, spelt_cases, spelt_shaped}
use Rattle.c_laws.proofs.SpeltExpressions.{spelt_identifier}

-- what an enumerated type is makes no difference to a word that is not enum
spelt_specifier_at : {left : ℕ} {behind : Look} (found : Option Enumeration) (s : Symbol) →
    Spelt (Is s) (specifier_at s) (spelled_specifier found) left behind sharp
unfolding specifier_at
spelt_specifier_at found (symbol.Storage w) = spelt_node _ (spelt_one (symbol.Storage w))
    (λ u. at_place (λ x. refl)
    (λ x y e. ap (λ place. record { kind = kind.Storage w; place = place }) e))
spelt_specifier_at found (symbol.Specifier w) = spelt_node _ (spelt_one (symbol.Specifier w))
    (λ u. at_place (λ x. refl)
    (λ x y e. ap (λ place. record { kind = kind.Other w; place = place }) e))
spelt_specifier_at found (symbol.TypeWord w) = spelt_node _ (spelt_one (symbol.TypeWord w))
    (λ u. at_place (λ x. refl)
    (λ x y e. ap (λ place. record { kind = kind.TypeWord w; place = place }) e))
spelt_specifier_at found _ = spelt_nothing

-- a tag alone
pub spelt_tag : {left : ℕ} {behind : Look} → Spelt Any tag spelled_enumeration left behind sharp
unfolding tag
spelt_tag = spelt_node _ spelt_identifier (λ name. plainly (λ x. refl) (λ x y. refl))

-- words of specifiers in two rows
abbrev Rows : Type 0
Rows = List Specifier × Words

abbrev spelled_words : Words → List Piece
spelled_words words = in_order (spelled_specifier words.1) words.0

abbrev spelled_rows : Rows → List Piece
spelled_rows rows = in_order (spelled_specifier rows.1.1) rows.0 ++ spelled_words rows.1

both_rows : (found : Option Enumeration) (xs ys : List Specifier) →
    in_order (spelled_specifier found) (xs ++ ys) ≡ spelled_rows (xs, (ys, found))
both_rows found [] ys = refl
both_rows found (x ∷ xs) ys = ap (λ rest. spelled_specifier found x ++ rest) (both_rows found xs ys)
    ∙ sym (append_assoc (spelled_specifier found x) (in_order (spelled_specifier found) xs)
    (in_order (spelled_specifier found) ys))

abbrev goes_so : (Symbol → Bool) → Leaf → Bool
goes_so class leaf = class (symbol_of leaf)

module _ (E : Form Leaf Enumeration) (class : Symbol → Bool) {left : ℕ}
    (c : Spelt Any E spelled_enumeration left blind sharp) where
  abbrev any_words : Form Leaf Rows
  any_words =
      Then (keywords (goes_so class)) (λ front. declared_type E (goes_so class) (have_word front))

  -- with a word of a type among the first
  abbrev typed_words : Form Leaf Rows
  typed_words = Then (Shaped (λ words. have_part words && have_word words)
      (Many (is_keyword (goes_so class)) (Choice symbol_of specifier_at)))
      (λ front. Node (λ leaf u. ([], None)) Empty)

  -- with a type that the text declares
  abbrev untyped_words : Form Leaf Rows
  untyped_words =
      Then (keywords (goes_so class)) (λ front. declared_type E (goes_so class) false)

  spelt_typed : {behind : Look} → Spelt Any typed_words spelled_rows left behind sharp
  spelt_typed {behind} = spelt_then_by {inner = behind}
      (λ words. spelt_some (λ s. class s && not (begins_declared s)) {K = Any} (λ x e. tt)
      (spelt_choice (λ s. s) (spelt_specifier_at words.1))
      (λ front. have_part front && have_word front) refl)
      (λ front. spelt_empty ([], None) refl)

  spelt_keywords : (found : Option Enumeration) → Spelt Any (keywords (goes_so class))
      (in_order (spelled_specifier found)) left sharp sharp
  unfolding keywords
  spelt_keywords found = spelt_shaped have_part
      (spelt_many (λ s. class s && not (begins_declared s)) {K = Any} (λ x e. tt)
      (spelt_choice (λ s. s) (spelt_specifier_at found)))

  spelt_qualifiers : {behind : Look} (found : Option Enumeration) →
      Spelt Any (qualifiers (goes_so class)) (in_order (spelled_specifier found)) left behind behind
  unfolding qualifiers
  spelt_qualifiers found = spelt_many
      (λ s. (class s && not (begins_declared s)) && not (types s)) {K = Any} (λ x e. tt)
      (spelt_choice (λ s. s) (spelt_specifier_at found))

  spelt_declared_type_at : {behind : Look} (s : Symbol) → Spelt (Is s)
      (declared_type_at E (goes_so class) s) spelled_words left behind sharp
  unfolding declared_type_at
  spelt_declared_type_at (symbol.TypedefName t) = spelt_node _
      (spelt_skip (symbol.TypedefName t) (spelt_qualifiers None))
      (λ words. at_place (λ x. refl)
      (λ x y e. ap (λ place.
      (record { kind = kind.TypedefName t; place = place } ∷ words, None)) e))
  spelt_declared_type_at (symbol.Terminal terminal.Enum) = spelt_node _
      (spelt_skip (symbol.Terminal terminal.Enum)
      (spelt_pair_by (spelt_behind c) (λ found. spelt_qualifiers (Some found))))
      (λ parts. at_place (λ x. refl)
      (λ x y e. ap (λ place.
      (record { kind = kind.Enum; place = place } ∷ parts.1, Some parts.0)) e))
  spelt_declared_type_at _ = spelt_nothing

  spelt_declared_type : {behind : Look} →
      Spelt Any (declared_type E (goes_so class) false) spelled_words left behind sharp
  unfolding declared_type
  spelt_declared_type = spelt_choice (λ s. s) spelt_declared_type_at

  to_typed : (w : World Leaf) (p : ℕ) (u : Rows) (q : ℕ) → have_word u.0 ≡ true →
      any_words w left p u q → typed_words w left p u q
  unfolding keywords declared_type
  to_typed w p u q e r = record {
    middle = r.middle;
    first = record { read = r.first.read; passes = and_from _ _ r.first.passes e };
    second =
        subst (λ b. declared_type E (goes_so class) b w left r.middle u.1 q) e r.second;
  }

  from_typed : (w : World Leaf) (p : ℕ) (u : Rows) (q : ℕ) → have_word u.0 ≡ true →
      typed_words w left p u q → any_words w left p u q
  unfolding keywords declared_type
  from_typed w p u q e r = record {
    middle = r.middle;
    first = record { read = r.first.read; passes = (and_parts _ _ r.first.passes).0 };
    second =
        subst (λ b. declared_type E (goes_so class) b w left r.middle u.1 q) (sym e) r.second;
  }

  to_untyped : (w : World Leaf) (p : ℕ) (u : Rows) (q : ℕ) → have_word u.0 ≡ false →
      any_words w left p u q → untyped_words w left p u q
  to_untyped w p u q e r = record {
    middle = r.middle;
    first = r.first;
    second =
        subst (λ b. declared_type E (goes_so class) b w left r.middle u.1 q) e r.second;
  }

  from_untyped : (w : World Leaf) (p : ℕ) (u : Rows) (q : ℕ) → have_word u.0 ≡ false →
      untyped_words w left p u q → any_words w left p u q
  from_untyped w p u q e r = record {
    middle = r.middle;
    first = r.first;
    second =
        subst (λ b. declared_type E (goes_so class) b w left r.middle u.1 q) (sym e) r.second;
  }

  pub spelt_specifiers : {behind : Look} →
      Spelt Any (specifiers E (goes_so class)) spelled_specifiers left behind sharp
  unfolding specifiers
  spelt_specifiers = spelt_node _
      (spelt_cases (λ rows. have_word rows.0) any_words to_typed from_typed to_untyped
      from_untyped spelt_typed
      (spelt_then_by {inner = sharp} (λ words. spelt_keywords words.1)
      (λ front. spelt_declared_type)))
      (λ parts. at_place (λ x. ap (λ list. placed x.place ∷ list)
      (both_rows parts.1.1 parts.0 parts.1.0))
      (λ x y e. ap (λ place. record {
        words = parts.0 ++ parts.1.0;
        enumeration = parts.1.1;
        place = place;
      }) e))
