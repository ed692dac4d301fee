-- The words of types behind the first word of specifiers.
use Rattle.std.proofs.Common.{◌≡◌, List, [], ◌∷◌, ◌++◌}
use Rattle.std.proofs.lemmas.List.Elements.{filter_map-append}
use Rattle.c_grammar_tree.specs.declared.declaration.Specifier.{Specifier}
use Rattle.c_grammar_tree.specs.Parts.{type_word_of, type_words}

pub type_words_more : (word : Specifier) (words : List Specifier) →
    type_words (word ∷ words) ≡ type_words (word ∷ []) ++ type_words words
type_words_more word words = filter_map-append type_word_of (word ∷ []) words
