-- The words of a type that are read one by one.
use Rattle.std.specs.Prelude.{◌≡◌, ℕ, ◌+◌, ◌<◌, true, false, ◌==◌, List, [], ◌∷◌, ◌++◌, length}
use Rattle.std.proofs.Common.{sym, ◌∙◌, ap, subst, refl, arith, append_assoc}
use Rattle.c_grammar_forms.specs.declared.fault.ReadError.{ReadError}
use Rattle.c_grammar_forms.specs.declared.fault.ReadError.TheVariants.{Unexpected, TooDeep}
use Rattle.c_grammar_forms.specs.declared.fault.ReadError.TheVariants.{OutOfMemory}
use Rattle.c_grammar_forms.specs.Forms.{World, Form, Choice, Many}
use Rattle.c_grammar_forms.specs.lemmas.Steady.{Steady, good_many, good_choice}
use Rattle.c_grammar_forms.specs.Reading.{Reads, NoneThrough, Faults}
use Rattle.c_grammar_forms.specs.lemmas.Found.{reads_node, reads_one, reads_choice, reads_shaped}
use Rattle.c_grammar_forms.specs.lemmas.NotFound.{none_node, none_shaped_here}
use Rattle.c_grammar_forms.specs.lemmas.Choices.{Same, same_form, impossible}
use Rattle.c_grammar_forms.specs.lemmas.Loops.{SoFar, no_parts, one_more, no_more, no_such_part}
use Rattle.c_grammar_symbols.specs.declared.named.NamedType.{NamedType}
use Rattle.c_grammar_symbols.specs.declared.words.Terminal.TheVariants as terminal
use Rattle.c_grammar_symbols.specs.declared.words.TypeWord.{TypeWord}
use Rattle.c_grammar_symbols.specs.declared.symbol.Symbol.{Symbol}
use Rattle.c_grammar_symbols.specs.declared.symbol.Symbol.TheVariants as symbol
use Rattle.c_grammar_symbols.specs.Symbols.{Leaf, symbol_of}
use Rattle.c_grammar_symbols.specs.Sources.{leaf_at, is_terminal}
use Rattle.c_grammar_tree.specs.declared.TheConstants.{MAX_LEVEL}
use Rattle.c_grammar_tree.specs.declared.expression.TypeName.{TypeName}
use Rattle.c_grammar_tree.specs.declared.expression.TypeName.TheVariants as type_name'
use Rattle.c_grammar_tree.specs.declared.declaration.SpecifierKind.TheVariants as kind
use Rattle.c_grammar_tree.specs.Parts.{types, is_type_word, is_part_of_type, is_type}
use Rattle.c_grammar_tree.specs.Expressions.{type_word_at, words_of_type, type_name_at}
use Rattle.c_grammar_tree.specs.lemmas.OneReading.{good_type_word_at}
use Rattle.c_parser_words.specs.Steps.{AreGrown, IsRefused}
use Rattle.c_parser_words.proofs.TypeParts.{no_type_longer, is_type_of, no_words}

abbrev pub any_type_word : Form Leaf TypeWord
any_type_word = Choice symbol_of type_word_at

steady_word : Steady (λ n. any_type_word)
steady_word = record { good = λ n m. good_choice symbol_of good_type_word_at }

steady_words : Steady (λ n. Many is_type_word any_type_word)
steady_words =
    record { good = λ n m. good_many is_type_word (good_choice symbol_of good_type_word_at) }

-- the words are read from p up to here, and are some of one type
pub record AreTypeWords (leaves : List Leaf) (p : ℕ) (words : List TypeWord) (here : ℕ) :
    Type 0 where
  pub so_far : (left : ℕ) → SoFar (λ n. Many is_type_word any_type_word) is_type_word
      (λ n. any_type_word)
      (leaf_at leaves) (length leaves) left p words here
  pub part : is_part_of_type words ≡ true
  pub within : here < length leaves

-- what is read of a word is the word
word_read : (v : World Leaf) (left p : ℕ) (u : TypeWord) (q : ℕ) (s : Symbol) (w : TypeWord) →
    s ≡ symbol.TypeWord w →
    type_word_at s v left p u q → u ≡ w
unfolding type_word_at
word_read v left p u q s w e r =
    let moved = subst (λ t. type_word_at t v left p u q) e r in moved.made

module _ (leaves : List Leaf) (p : ℕ) where
  pub type_words_first : p < length leaves → AreTypeWords leaves p [] p
  type_words_first fits = record {
    so_far = λ left. no_parts is_type_word (λ n. any_type_word) fits;
    part = refl;
    within = fits;
  }

  module _ (words : List TypeWord) (here : ℕ) (s : AreTypeWords leaves p words here) where
    pub type_words_more : (w : TypeWord) (after : List TypeWord) →
        symbol_of (leaf_at leaves here) ≡ symbol.TypeWord w →
        here + 1 < length leaves → AreGrown words (kind.TypeWord w) after →
        AreTypeWords leaves p after (here + 1)
    unfolding type_word_at
    type_words_more w after e fits g = record {
      so_far = λ left.
          subst (λ list. SoFar (λ n. Many is_type_word any_type_word) is_type_word
          (λ n. any_type_word)
          (leaf_at leaves) (length leaves) left p list (here + 1)) (sym g.all)
          (one_more (s.so_far left) steady_word (ap types e)
          (reads_choice symbol_of (λ n. type_word_at) e (reads_node _ refl (reads_one fits))));
      part = g.part;
      within = fits;
    }

    pub type_words_refused : (left : ℕ) (w : TypeWord) →
        symbol_of (leaf_at leaves here) ≡ symbol.TypeWord w →
        (e : ReadError) → IsRefused words (kind.TypeWord w) here e →
        Faults MAX_LEVEL (λ n. words_of_type) (leaf_at leaves) (length leaves) left p e
    unfolding words_of_type
    type_words_refused left w is_word (Unexpected i) h =
        subst (λ k. NoneThrough (λ n. words_of_type) (leaf_at leaves)
        (length leaves) left p k) (sym h.0)
        (none_node _ (no_such_part (s.so_far left) is_type (ap types is_word)
        (λ n v b u k r us.
        let same = word_read v left here u k (symbol_of (v.at here)) w
        (ap symbol_of (b.tokens here (omega arith)) ∙ is_word) r.chosen in
        ap is_type (ap (λ t. words ++ t ∷ us) same ∙ sym (append_assoc words (w ∷ []) us))
        ∙ no_type_longer (words ++ w ∷ []) us h.1)))
    type_words_refused left w is_word (TooDeep i) h = absurd h
    type_words_refused left w is_word OutOfMemory h = tt

    pub type_words_none : (left : ℕ) → is_type_word (leaf_at leaves here) ≡ false →
        (length words == 0) ≡ true →
        NoneThrough (λ n. words_of_type) (leaf_at leaves) (length leaves) left p here
    unfolding words_of_type
    type_words_none left stops none =
        none_node _ (none_shaped_here is_type steady_words (no_more (s.so_far left) stops)
        (no_words words none))

    pub type_words_found : (left : ℕ) (u : TypeName) →
        u ≡ type_name'.Words words (leaf_at leaves p).place →
        is_type_word (leaf_at leaves here) ≡ false → (length words == 0) ≡ false →
        Reads (λ n. words_of_type) (leaf_at leaves) (length leaves) left p u here
    unfolding words_of_type
    type_words_found left u made stops some =
        reads_node _ made (reads_shaped is_type (is_type_of words s.part some)
        (no_more (s.so_far left) stops))

-- a symbol that is no word of a type
pub no_type_word : (s : Symbol) → ((w : TypeWord) → s ≡ symbol.TypeWord w → ⊥) → types s ≡ false
no_type_word (symbol.TypeWord w) none = absurd (none w refl)
no_type_word _ none = refl

-- enum calls for a tag
pub arm_enum : (s : Symbol) → is_terminal terminal.Enum s ≡ true →
    Same (type_name_at s) (type_name_at (symbol.Terminal terminal.Enum))
arm_enum (symbol.Terminal terminal.Enum) e = same_form
arm_enum _ e = impossible e

-- what is no typedef name and not enum calls for the words of a type
pub arm_words : (s : Symbol) → is_terminal terminal.Enum s ≡ false →
    ((t : NamedType) → s ≡ symbol.TypedefName t → ⊥) →
    Same (type_name_at s) words_of_type
unfolding type_name_at
arm_words (symbol.TypedefName t) e none = absurd (none t refl)
arm_words (symbol.Terminal terminal.Enum) e none = impossible (sym e)
arm_words _ e none = same_form
