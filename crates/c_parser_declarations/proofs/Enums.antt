-- An enumerated type with enumerators behind keywords of specifiers; what stands there besides is
-- what stands there where no braces may.
use Rattle.std.specs.Prelude.{◌≡◌, ℕ, Bool, true, false, not, ◌&&◌, List, Result}
use Rattle.std.proofs.Common.{sym, ap, subst}
use Rattle.c_grammar_forms.specs.declared.fault.ReadError.{ReadError}
use Rattle.c_grammar_forms.specs.Forms.{Form, Choice}
use Rattle.c_grammar_forms.specs.Reading.{Reads, NoneThrough}
use Rattle.c_grammar_forms.specs.lemmas.Exits.{answers_with}
use Rattle.c_grammar_forms.specs.lemmas.Choices.{Same, same_form, impossible, reads_arm, none_arm}
use Rattle.c_grammar_symbols.specs.declared.words.Terminal.TheVariants as terminal
use Rattle.c_grammar_symbols.specs.declared.symbol.Symbol.{Symbol}
use Rattle.c_grammar_symbols.specs.declared.symbol.Symbol.TheVariants as symbol
use Rattle.c_grammar_symbols.specs.Symbols.{Leaf, symbol_of}
use Rattle.c_grammar_symbols.specs.Sources.{leaf_at, is, is_terminal}
use Rattle.c_grammar_tree.specs.declared.TheConstants.{MAX_LEVEL}
use Rattle.c_grammar_tree.specs.Nested.{Grammar}
use Rattle.c_grammar_tree.specs.Grammar.{grammar}
use Rattle.c_grammar_tree.specs.Declarations.{Words, tag, enumeration}
use Rattle.c_grammar_tree.specs.Declarations.{declared_type_at, declared_type}
use Rattle.c_grammar_tree.specs.Reading.{Gives}
use Rattle.c_parser_declarations.specs.Forms.{enum_type}

-- the form that is chosen, and the choice
module _ {Token K T : Type 0} (class : Token → K) (A : ℕ → K → Form Token T) {at : ℕ → Token}
    {size left p : ℕ} where
  reads_chosen : {u : T} {q : ℕ} → Reads (λ n. Choice class (A n)) at size left p u q →
      Reads (λ n. A n (class (at p))) at size left p u q
  reads_chosen r = record {
    reading = λ edge. (r.reading edge).chosen;
    onward = r.onward;
    within = r.within;
  }

  none_chosen : {i : ℕ} → NoneThrough (λ n. Choice class (A n)) at size left p i →
      NoneThrough (λ n. A n (class (at p))) at size left p i
  none_chosen g = record {
    onward = g.onward;
    within = g.within;
    none = λ n v b u q r. g.none n v b u q (record {
      chosen = subst (λ c. A n c v left p u q) (sym (ap class (b.tokens p g.onward))) r;
    });
  }

abbrev with_braces : (Leaf → Bool) → Symbol → Grammar → Form Leaf Words
with_braces goes s G = declared_type_at (enumeration G true) goes s

arm_enum : (goes : Leaf → Bool) (G : Grammar) (s : Symbol) → is_terminal terminal.Enum s ≡ true →
    Same (with_braces goes s G) (enum_type goes G)
unfolding declared_type_at
arm_enum goes G (symbol.Terminal terminal.Enum) e = same_form
arm_enum goes G _ e = impossible e

arm_other : (goes : Leaf → Bool) (G : Grammar) (s : Symbol) → is_terminal terminal.Enum s ≡ false →
    Same (with_braces goes s G) (declared_type_at tag goes s)
unfolding declared_type_at
arm_other goes G (symbol.Terminal terminal.Enum) e = impossible (sym e)
arm_other goes G (symbol.TypedefName t) e = same_form
arm_other goes G _ e = same_form

module _ (goes : Leaf → Bool) (leaves : List Leaf) (left p : ℕ) where
  abbrev given : Bool → Result (Words × ℕ) ReadError → Type 0
  given typed answer =
      Gives (λ G. declared_type (enumeration G true) goes typed) leaves left p answer

  pub enum_answers : (typed : Bool) (answer : Result (Words × ℕ) ReadError) →
      (not typed && is terminal.Enum (leaf_at leaves p)) ≡ true →
      Gives (enum_type goes) leaves left p answer → given typed answer
  unfolding declared_type
  enum_answers true answer e a = impossible e
  enum_answers false answer e a = answers_with MAX_LEVEL answer
      (λ u q r. reads_arm symbol_of (λ n s. with_braces goes s (grammar n))
      (λ n. arm_enum goes (grammar n) _ e) r)
      (λ i g. none_arm symbol_of (λ n s. with_braces goes s (grammar n))
      (λ n. arm_enum goes (grammar n) _ e) g) a

  pub other_answers : (typed : Bool) (answer : Result (Words × ℕ) ReadError) →
      (not typed && is terminal.Enum (leaf_at leaves p)) ≡ false →
      Gives (λ G. declared_type tag goes typed) leaves left p answer → given typed answer
  unfolding declared_type
  other_answers true answer e a = answers_with MAX_LEVEL answer (λ u q r. r) (λ i g. g) a
  other_answers false answer e a = answers_with MAX_LEVEL answer
      (λ u q r. reads_arm symbol_of (λ n s. with_braces goes s (grammar n))
      (λ n. arm_other goes (grammar n) _ e)
      (reads_chosen symbol_of (λ n. declared_type_at tag goes) r))
      (λ i g. none_arm symbol_of (λ n s. with_braces goes s (grammar n))
      (λ n. arm_other goes (grammar n) _ e)
      (none_chosen symbol_of (λ n. declared_type_at tag goes) g)) a
