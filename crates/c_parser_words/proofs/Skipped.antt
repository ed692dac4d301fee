-- Attributes that are read one by one.
use Rattle.std.specs.Prelude.{◌≡◌, ℕ, ◌<◌, true, List, [], ◌∷◌, ◌++◌, length}
use Rattle.c_grammar_forms.specs.Forms.{Many}
use Rattle.c_grammar_forms.specs.lemmas.Steady.{Steady, good_behind, good_before}
use Rattle.c_grammar_forms.specs.Reading.{Reads}
use Rattle.c_grammar_forms.specs.lemmas.Loops.{SoFar, Strict, no_parts, one_more, strict_skip}
use Rattle.c_grammar_symbols.specs.declared.words.Terminal.TheVariants as terminal
use Rattle.c_grammar_symbols.specs.Symbols.{Leaf}
use Rattle.c_grammar_symbols.specs.Sources.{leaf_at, is}
use Rattle.c_grammar_tree.specs.Expressions.{round_brackets}
use Rattle.c_grammar_tree.specs.Declarations.{attribute}
use Rattle.c_grammar_tree.specs.lemmas.OneReading.{good_round_brackets}
use Rattle.c_grammar_tree.specs.lemmas.OneReadingOfText.{good_attribute}

pub steady_round_brackets : Steady (λ n. round_brackets)
steady_round_brackets = record { good = λ n m. good_round_brackets }

pub steady_attribute : Steady (λ n. attribute)
steady_attribute = record { good = λ n m. good_attribute }

-- an attribute takes a token at least
pub strict_attribute : Strict attribute
unfolding attribute
strict_attribute =
    strict_skip (good_behind (is terminal.LeftParen) (good_behind (is terminal.LeftParen)
    (good_before good_round_brackets (is terminal.RightParen))))

-- attributes are read from p up to here
pub record AreSkipped (leaves : List Leaf) (p here : ℕ) : Type 0 where
  pub parts : List (Unit {0})
  pub so_far : (left : ℕ) → SoFar (λ n. Many (is terminal.Attribute) attribute)
      (is terminal.Attribute) (λ n. attribute)
      (leaf_at leaves) (length leaves) left p parts here
  pub within : here < length leaves

pub skipped_first : (leaves : List Leaf) (p : ℕ) → p < length leaves → AreSkipped leaves p p
skipped_first leaves p fits = record {
  parts = [];
  so_far = λ left. no_parts (is terminal.Attribute) (λ n. attribute) fits;
  within = fits;
}

pub skipped_more : (leaves : List Leaf) (p here next : ℕ) → AreSkipped leaves p here →
    is terminal.Attribute (leaf_at leaves here) ≡ true →
    ((left : ℕ) → Reads (λ n. attribute) (leaf_at leaves) (length leaves) left here tt next) →
    AreSkipped leaves p next
skipped_more leaves p here next s goes r = record {
  parts = s.parts ++ tt ∷ [];
  so_far = λ left. one_more (s.so_far left) steady_attribute goes (r left);
  within = (r 0).within;
}
