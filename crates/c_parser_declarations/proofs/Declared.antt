-- Declarators, or where they may be left out, none before a semicolon.
use Rattle.std.specs.Prelude.{◌≡◌, ℕ, ◌<◌, Bool, true, false, not, ◌&&◌, List, [], length, Result}
use Rattle.std.proofs.Common.{ap, refl}
use Rattle.c_grammar_forms.specs.declared.fault.ReadError.{ReadError}
use Rattle.c_grammar_forms.specs.Reading.{Reads}
use Rattle.c_grammar_forms.specs.lemmas.Found.{reads_node, reads_no, reads_one_more}
use Rattle.c_grammar_forms.specs.lemmas.NotFound.{none_node, none_perhaps}
use Rattle.c_grammar_forms.specs.lemmas.Exits.{answers_with}
use Rattle.c_grammar_forms.specs.lemmas.Choices.{impossible}
use Rattle.c_grammar_symbols.specs.declared.words.Terminal.TheVariants as terminal
use Rattle.c_grammar_symbols.specs.Symbols.{Leaf}
use Rattle.c_grammar_symbols.specs.Sources.{leaf_at, is}
use Rattle.c_grammar_tree.specs.declared.TheConstants.{MAX_LEVEL}
use Rattle.c_grammar_tree.specs.declared.declaration.Declarator.{Declarator}
use Rattle.c_grammar_tree.specs.Parts.{is_not}
use Rattle.c_grammar_tree.specs.Grammar.{grammar}
use Rattle.c_grammar_tree.specs.Expressions.{list_of}
use Rattle.c_grammar_tree.specs.Declarations.{declarators, declarators_by}
use Rattle.c_grammar_tree.specs.Reading.{Gives}

module _ (leaves : List Leaf) (left p : ℕ) where
  pub none_declared : (free : Bool) → (free && is terminal.Semicolon (leaf_at leaves p)) ≡ true →
      p < length leaves →
      Reads (λ n. declarators_by (grammar n) free) (leaf_at leaves) (length leaves) left p [] p
  unfolding declarators_by
  none_declared false e fits = impossible e
  none_declared true e fits = reads_node list_of refl
      (reads_no (λ n. declarators (grammar n)) (is_not terminal.Semicolon) (ap not e) fits)

  pub declared_answers : (free : Bool) (answer : Result (List Declarator × ℕ) ReadError) →
      (free && is terminal.Semicolon (leaf_at leaves p)) ≡ false →
      Gives declarators leaves left p answer →
      Gives (λ G. declarators_by G free) leaves left p answer
  unfolding declarators_by
  declared_answers false answer e a =
      answers_with MAX_LEVEL answer (λ u q r. r) (λ i g. g) a
  declared_answers true answer e a = answers_with MAX_LEVEL answer
      (λ u q r. reads_node list_of refl
      (reads_one_more (is_not terminal.Semicolon) (ap not e) r))
      (λ i g. none_node list_of (none_perhaps (is_not terminal.Semicolon) (ap not e) g)) a
