-- The names of a typedef that are read one by one.
use Rattle.std.specs.Prelude.{◌≡◌, ℕ, ◌+◌, true, List, [], ◌∷◌, ◌++◌, length}
use Rattle.std.proofs.Common.{sym, subst}
use Rattle.c_grammar_forms.specs.Forms.{Skip}
use Rattle.c_grammar_forms.specs.lemmas.Steady.{Steady, good_skip}
use Rattle.c_grammar_forms.specs.Reading.{Reads, NoneThrough}
use Rattle.c_grammar_forms.specs.lemmas.Found.{reads_skip}
use Rattle.c_grammar_forms.specs.lemmas.NotFound.{none_node, none_first}
use Rattle.c_grammar_forms.specs.lemmas.Loops.{SoFar, first_part, one_more}
use Rattle.c_grammar_symbols.specs.declared.words.Terminal.TheVariants as terminal
use Rattle.c_grammar_symbols.specs.Symbols.{Leaf}
use Rattle.c_grammar_symbols.specs.Sources.{leaf_at, is}
use Rattle.c_grammar_tree.specs.declared.name.Name.{Name}
use Rattle.c_grammar_tree.specs.Items.{typedef_name, typedef_names}
use Rattle.c_grammar_tree.specs.lemmas.OneReadingOfText.{good_typedef_name}

steady_name : Steady (λ n. typedef_name)
steady_name = record { good = λ n m. good_typedef_name }

steady_next : Steady (λ n. Skip typedef_name)
steady_next = record { good = λ n m. good_skip good_typedef_name }

-- names are read from p up to here
pub record AreNames (leaves : List Leaf) (p : ℕ) (items : List Name) (here : ℕ) : Type 0 where
  pub so_far : (left : ℕ) → SoFar (λ n. typedef_names) (is terminal.Comma)
      (λ n. Skip typedef_name) (leaf_at leaves) (length leaves) left p items here

module _ (leaves : List Leaf) (p : ℕ) where
  pub names_first : (u : Name) (here : ℕ) (items : List Name) → items ≡ u ∷ [] →
      ((left : ℕ) → Reads (λ n. typedef_name) (leaf_at leaves) (length leaves) left p u here) →
      AreNames leaves p items here
  unfolding typedef_names
  names_first u here items pushed r =
      subst (λ list. AreNames leaves p list here) (sym pushed)
      (record {
        so_far = λ left. first_part (is terminal.Comma) (λ n. Skip typedef_name) steady_name
            (r left);
      })

  pub names_more : (items : List Name) (here : ℕ) → AreNames leaves p items here →
      (u : Name) (next : ℕ) (more : List Name) → more ≡ items ++ u ∷ [] →
      is terminal.Comma (leaf_at leaves here) ≡ true →
      ((left : ℕ) → Reads (λ n. typedef_name) (leaf_at leaves) (length leaves) left (here + 1)
      u next) → AreNames leaves p more next
  names_more items here s u next more pushed goes r =
      subst (λ list. AreNames leaves p list next) (sym pushed)
      (record { so_far = λ left. one_more (s.so_far left) steady_next goes (reads_skip (r left)) })

  pub names_fail_first : (left i : ℕ) → NoneThrough (λ n. typedef_name) (leaf_at leaves)
      (length leaves) left p i →
      NoneThrough (λ n. typedef_names) (leaf_at leaves) (length leaves) left p i
  unfolding typedef_names
  names_fail_first left i g = none_node _ (none_first _ g)
