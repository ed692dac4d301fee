-- Words that are put together to specifiers (this project's own), and lemmas: they are those of the
-- grammar.
use Rattle.std.specs.Prelude.{◌≡◌, ℕ, List, ◌∷◌, ◌++◌, Some}
use Rattle.std.proofs.Common.{◌∙◌, ap}
use Rattle.c_grammar_symbols.specs.Symbols.{Leaf}
use Rattle.c_grammar_tree.specs.declared.declaration.Enumeration.{Enumeration}
use Rattle.c_grammar_tree.specs.declared.declaration.Specifier.{Specifier}
use Rattle.c_grammar_tree.specs.declared.declaration.SpecifierKind.TheVariants as kind
use Rattle.c_grammar_tree.specs.declared.declaration.Specifiers.{Specifiers}
use Rattle.c_grammar_tree.specs.Declarations.{Words, enum_words, specifiers_of}

-- the words are enum at this place, with this enumerated type, and these behind it
pub record AreEnumWords (place : ℕ) (found : Enumeration) (behind : List Specifier)
    (words : Words) : Type 0 where
  pub words_are : words.0 ≡ record { kind = kind.Enum; place = place } ∷ behind
  pub found_is : words.1 ≡ Some found

-- the specifiers have these words in front, and those behind
pub record AreSpecified (front : List Specifier) (words : Words) (place : ℕ)
    (specifiers : Specifiers) : Type 0 where
  pub words_are : specifiers.words ≡ front ++ words.0
  pub found_is : specifiers.enumeration ≡ words.1
  pub place_is : specifiers.place ≡ place

pub enum_made : (found : Enumeration) (leaf : Leaf) (place : ℕ) (words : Words)
    (behind given : List Specifier) → AreEnumWords place found given words → place ≡ leaf.place →
    given ≡ behind → words ≡ enum_words leaf (found, behind)
enum_made found leaf place words behind given made here same =
    let listed = made.words_are
    ∙ (ap (λ n. record { kind = kind.Enum; place = n } ∷ given) here
    ∙ ap (λ list. record { kind = kind.Enum; place = leaf.place } ∷ list) same) in
    λ i. (listed i, made.found_is i)

pub specifiers_made : (front : List Specifier) (words : Words) (leaf : Leaf) (place : ℕ)
    (found : Specifiers) → AreSpecified front words place found → place ≡ leaf.place →
    found ≡ specifiers_of leaf (front, words)
specifiers_made front words leaf place found made here = λ i. record {
  words = made.words_are i;
  enumeration = made.found_is i;
  place = (made.place_is ∙ here) i;
}
