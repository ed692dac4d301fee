-- The forms of parameters have one reading; parameters that are read one by one.
use Rattle.std.specs.Prelude.{◌≡◌, ℕ, ◌+◌, Bool, true, false, cond, ◌&&◌, List, [], ◌∷◌, ◌++◌}
use Rattle.std.specs.Prelude.{length, Option, None, Some}
use Rattle.std.proofs.Common.{sym, subst, refl}
use Rattle.c_grammar_forms.specs.Forms.{Form, One, Skip, Before, Pair, Deeper, Perhaps}
use Rattle.c_grammar_forms.specs.lemmas.Steady.{Steady, good_one, good_skip, good_before}
use Rattle.c_grammar_forms.specs.lemmas.Steady.{good_deeper}
use Rattle.c_grammar_forms.specs.lemmas.Steady.{good_perhaps}
use Rattle.c_grammar_forms.specs.Reading.{Reads, NoneThrough}
use Rattle.c_grammar_forms.specs.lemmas.Found.{reads_skip}
use Rattle.c_grammar_forms.specs.lemmas.NotFound.{none_node, none_first}
use Rattle.c_grammar_forms.specs.lemmas.Loops.{SoFar, first_part, one_more}
use Rattle.c_grammar_symbols.specs.declared.words.Terminal.TheVariants as terminal
use Rattle.c_grammar_symbols.specs.Symbols.{Leaf, symbol_of}
use Rattle.c_grammar_symbols.specs.Sources.{leaf_at, is}
use Rattle.c_grammar_tree.specs.declared.name.Name.{Name}
use Rattle.c_grammar_tree.specs.declared.declaration.Specifiers.{Specifiers}
use Rattle.c_grammar_tree.specs.declared.item.Parameter.{Parameter}
use Rattle.c_grammar_tree.specs.Parts.{is_not, is_name, is_specifier, points, have_char}
use Rattle.c_grammar_tree.specs.Declarations.{identifier, specifiers, tag}
use Rattle.c_grammar_tree.specs.Items.{points_or_not, parameter, parameter_list}
use Rattle.c_grammar_tree.specs.lemmas.OneReadingOfText.{good_specifiers, good_tag, good_parameter}
use Rattle.c_grammar_tree.specs.lemmas.OneReadingOfText.{good_parameter_list}

abbrev pub any_pointer : Bool → Form Leaf (Option (Unit {0}))
any_pointer allowed = Perhaps (λ leaf. allowed && points (symbol_of leaf)) One

-- what stands behind the specifiers of a parameter
abbrev pub behind_specifiers : Specifiers → Form Leaf (Option (Unit {0}) × Option Name)
behind_specifiers front = Pair (any_pointer (have_char front.words)) (Perhaps is_name identifier)

pub steady_specifiers : Steady (λ n. specifiers tag is_specifier)
steady_specifiers = record { good = λ n m. good_specifiers good_tag is_specifier }

pub steady_pointer : (allowed : Bool) → Steady (λ n. any_pointer allowed)
steady_pointer allowed = record { good = λ n m. good_perhaps _ good_one }

pub steady_inner : Steady (λ n. Deeper parameter)
steady_inner = record { good = λ n m. good_deeper good_parameter }

steady_next : Steady (λ n. Skip (Deeper parameter))
steady_next = record { good = λ n m. good_skip (good_deeper good_parameter) }

pub steady_optional : Steady (λ n. Perhaps (is_not terminal.RightParen) parameter_list)
steady_optional = record { good = λ n m. good_perhaps _ good_parameter_list }

pub steady_closed : Steady (λ n. Before (Perhaps (is_not terminal.RightParen) parameter_list)
    (is terminal.RightParen))
steady_closed = record { good = λ n m. good_before (good_perhaps _ good_parameter_list) _ }

-- what an option says of a pointer
pub pointer_is : (found : Bool) → found ≡ points_or_not (cond found (Some tt) None)
pointer_is true = refl
pointer_is false = refl

-- the same reading, of an equal test
pub pointer_by : (leaves : List Leaf) (left p q : ℕ) (u : Option (Unit {0})) (a b : Bool) → a ≡ b →
    Reads (λ n. any_pointer a) (leaf_at leaves) (length leaves) left p u q →
    Reads (λ n. any_pointer b) (leaf_at leaves) (length leaves) left p u q
pointer_by leaves left p q u a b e r =
    subst (λ t. Reads (λ n. any_pointer t) (leaf_at leaves) (length leaves) left p u q) e r

-- parameters are read from p up to here
pub record AreParameters (leaves : List Leaf) (left p : ℕ) (items : List Parameter) (here : ℕ) :
    Type 0 where
  pub so_far : SoFar (λ n. parameter_list) (is terminal.Comma) (λ n. Skip (Deeper parameter))
      (leaf_at leaves) (length leaves) left p
      items here

module _ (leaves : List Leaf) (left p : ℕ) where
  pub parameters_first : (u : Parameter) (here : ℕ) (items : List Parameter) → items ≡ u ∷ [] →
      Reads (λ n. Deeper parameter) (leaf_at leaves) (length leaves) left p u here →
      AreParameters leaves left p items here
  unfolding parameter_list
  parameters_first u here items pushed r =
      subst (λ list. AreParameters leaves left p list here) (sym pushed)
      (record {
        so_far = first_part (is terminal.Comma)
            (λ n. Skip (Deeper parameter)) steady_inner r;
      })

  pub parameters_more : (items : List Parameter) (here : ℕ) →
      AreParameters leaves left p items here →
      (u : Parameter) (next : ℕ) (more : List Parameter) → more ≡ items ++ u ∷ [] →
      is terminal.Comma (leaf_at leaves here) ≡ true →
      Reads (λ n. Deeper parameter) (leaf_at leaves) (length leaves) left (here + 1) u next →
      AreParameters leaves left p more next
  parameters_more items here s u next more pushed goes r =
      subst (λ list. AreParameters leaves left p list next) (sym pushed)
      (record { so_far = one_more s.so_far steady_next goes (reads_skip r) })

  pub parameters_fail_first : (i : ℕ) → NoneThrough (λ n. Deeper parameter) (leaf_at leaves)
      (length leaves) left p i →
      NoneThrough (λ n. parameter_list) (leaf_at leaves) (length leaves) left p i
  unfolding parameter_list
  parameters_fail_first i g = none_node _ (none_first _ g)
