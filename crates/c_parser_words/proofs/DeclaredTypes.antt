-- A type that a text declares, behind keywords of specifiers.
use Rattle.std.specs.Prelude.{◌≡◌, ℕ, ◌<◌, Bool, true, false, List, ◌∷◌, length, None}
use Rattle.std.specs.Prelude.{Result}
use Rattle.std.proofs.Common.{sym, ◌∙◌, ap, subst, refl}
use Rattle.c_grammar_forms.specs.declared.fault.ReadError.{ReadError}
use Rattle.c_grammar_forms.specs.Forms.{Form, Nothing, Node, Skip, Pair}
use Rattle.c_grammar_forms.specs.lemmas.Steady.{Steady}
use Rattle.c_grammar_forms.specs.Reading.{NoneThrough}
use Rattle.c_grammar_forms.specs.lemmas.NotFound.{none_nothing}
use Rattle.c_grammar_forms.specs.lemmas.Exits.{answers_with}
use Rattle.c_grammar_forms.specs.lemmas.Choices.{Same, same_form, impossible, reads_arm, none_arm}
use Rattle.c_grammar_symbols.specs.declared.named.NamedType.{NamedType}
use Rattle.c_grammar_symbols.specs.declared.words.Terminal.TheVariants as terminal
use Rattle.c_grammar_symbols.specs.declared.symbol.Symbol.{Symbol}
use Rattle.c_grammar_symbols.specs.declared.symbol.Symbol.TheVariants as symbol
use Rattle.c_grammar_symbols.specs.Symbols.{Leaf, symbol_of}
use Rattle.c_grammar_symbols.specs.Sources.{leaf_at, is, is_terminal}
use Rattle.c_grammar_tree.specs.declared.TheConstants.{MAX_LEVEL}
use Rattle.c_grammar_tree.specs.declared.declaration.Enumeration.{Enumeration}
use Rattle.c_grammar_tree.specs.declared.declaration.Specifier.{Specifier}
use Rattle.c_grammar_tree.specs.declared.declaration.SpecifierKind.TheVariants as kind
use Rattle.c_grammar_tree.specs.Declarations.{Words, qualifiers, tag, typedef_words, enum_words}
use Rattle.c_grammar_tree.specs.Declarations.{declared_type_at, declared_type}
use Rattle.c_grammar_tree.specs.lemmas.OneReadingOfText.{good_tag}
use Rattle.c_parser_words.specs.Answers.{Finds}

pub steady_tag : Steady (λ n. tag)
steady_tag = record { good = λ n m. good_tag }

-- a typedef name, and enum with what stands behind it
abbrev pub typedef_form : NamedType → (Leaf → Bool) → Form Leaf Words
typedef_form t goes = Node (typedef_words t) (Skip (qualifiers goes))

abbrev pub enum_form : Form Leaf Enumeration → (Leaf → Bool) → Form Leaf Words
enum_form E goes = Node enum_words (Skip (Pair E (qualifiers goes)))

arm_typedef : (E : Form Leaf Enumeration) (goes : Leaf → Bool) (t : NamedType) (s : Symbol) →
    symbol.TypedefName t ≡ s → Same (declared_type_at E goes s) (typedef_form t goes)
unfolding declared_type_at
arm_typedef E goes t s e =
    subst (λ o. Same (declared_type_at E goes o) (typedef_form t goes)) e same_form

arm_enum : (E : Form Leaf Enumeration) (goes : Leaf → Bool) (s : Symbol) →
    is_terminal terminal.Enum s ≡ true → Same (declared_type_at E goes s) (enum_form E goes)
unfolding declared_type_at
arm_enum E goes (symbol.Terminal terminal.Enum) e = same_form
arm_enum E goes _ e = impossible e

arm_none : (E : Form Leaf Enumeration) (goes : Leaf → Bool) (s : Symbol) →
    is_terminal terminal.Enum s ≡ false → ((t : NamedType) → s ≡ symbol.TypedefName t → ⊥) →
    Same (declared_type_at E goes s) Nothing
unfolding declared_type_at
arm_none E goes (symbol.Terminal terminal.Enum) e none = impossible (sym e)
arm_none E goes (symbol.TypedefName t) e none = absurd (none t refl)
arm_none E goes _ e none = same_form

module _ (goes : Leaf → Bool) (leaves : List Leaf) (p : ℕ) where
  pub typedef_answers : (t : NamedType) (answer : Result (Words × ℕ) ReadError) →
      symbol.TypedefName t ≡ symbol_of (leaf_at leaves p) →
      Finds (typedef_form t goes) leaves p answer →
      Finds (declared_type tag goes false) leaves p answer
  unfolding declared_type
  typedef_answers t answer e found = λ left. answers_with MAX_LEVEL answer
      (λ u q r. reads_arm symbol_of (λ n. declared_type_at tag goes)
      (λ n. arm_typedef tag goes t _ e) r)
      (λ i g. none_arm symbol_of (λ n. declared_type_at tag goes)
      (λ n. arm_typedef tag goes t _ e) g) (found left)

  pub enum_answers : (answer : Result (Words × ℕ) ReadError) →
      is terminal.Enum (leaf_at leaves p) ≡ true →
      Finds (enum_form tag goes) leaves p answer →
      Finds (declared_type tag goes false) leaves p answer
  unfolding declared_type
  enum_answers answer e found = λ left. answers_with MAX_LEVEL answer
      (λ u q r. reads_arm symbol_of (λ n. declared_type_at tag goes)
      (λ n. arm_enum tag goes _ e) r)
      (λ i g. none_arm symbol_of (λ n. declared_type_at tag goes)
      (λ n. arm_enum tag goes _ e) g) (found left)

  pub none_declared : (left : ℕ) → is terminal.Enum (leaf_at leaves p) ≡ false →
      ((t : NamedType) → symbol_of (leaf_at leaves p) ≡ symbol.TypedefName t → ⊥) →
      p < length leaves →
      NoneThrough (λ n. declared_type tag goes false) (leaf_at leaves) (length leaves) left p p
  unfolding declared_type
  none_declared left e none fits = none_arm symbol_of (λ n. declared_type_at tag goes)
      (λ n. arm_none tag goes _ e none) (none_nothing fits)

-- words that are put together are those of the grammar
pub typedef_made : (t : NamedType) (leaf : Leaf) (place : ℕ) (words behind given : List Specifier) →
    words ≡ record { kind = kind.TypedefName t; place = place } ∷ given → place ≡ leaf.place →
    given ≡ behind → (words, None) ≡ typedef_words t leaf behind
typedef_made t leaf place words behind given made here same =
    ap (λ list. (list, None)) (made
    ∙ (ap (λ n. record { kind = kind.TypedefName t; place = n } ∷ given) here
    ∙ ap (λ list. record { kind = kind.TypedefName t; place = leaf.place } ∷ list) same))
