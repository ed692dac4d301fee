-- Some specifier is char where char is among the words of types.
use Rattle.std.proofs.Common.{◌≡◌, ◌+◌, ℕ, Bool, List, [], ◌∷◌, refl, ap, ◌∙◌, sym, rules, tests}
use Rattle.std.proofs.Common.{arith, true, false, ◌||◌, cond, nat_lt, zero-add}
use denote.Enum.Bare.{sameb, true_same, false_same}
use Rattle.c_grammar_symbols.specs.declared.words.TypeWord.{TypeWord}
use Rattle.c_grammar_symbols.specs.contracts.words.TypeWord as type_word
use Rattle.std.specs.List.{list_any}
use Rattle.std.proofs.lemmas.Iterator.{YieldsList-from_slice}
use Rattle.std.proofs.lemmas.Iterator.Search.{any_from_yields_List}
use Rattle.std.proofs.lemmas.Bool.Decides.{nat_tests}
use Rattle.std.proofs.lemmas.List.Sums.{sum_by-append}
use Rattle.c_grammar_symbols.specs.declared.words.TypeWord.TheVariants as word
use Rattle.c_grammar_tree.specs.declared.declaration.Specifier.{Specifier}
use Rattle.c_grammar_tree.specs.declared.declaration.SpecifierKind.{SpecifierKind}
use Rattle.c_grammar_tree.specs.declared.declaration.SpecifierKind.TheVariants as kind
use Rattle.c_grammar_tree.specs.Parts.{have_char, occurrences, type_words}
use Rattle.c_parser_words.specs.Steps.{is_char_kind, is_char}
use Rattle.c_parser_words.proofs.parameters.have_char.Goals as goal

some_more : (n : ℕ) → nat_lt 0 (1 + n) ≡ true
some_more n = grind (arith, nat_tests)

counted : (here rest : Bool) (n : ℕ) → rest ≡ nat_lt 0 n →
    (here || rest) ≡ nat_lt 0 (cond here 1 0 + n)
counted true rest n e = sym (some_more n)
counted false rest n e = e ∙ ap (nat_lt 0) (sym (zero-add n))

char_same : (w : TypeWord) → is_char_kind (kind.TypeWord w) ≡ sameb type_word.the_type w word.Char
char_same word.Char = sym (true_same type_word.the_type word.Char word.Char refl)
char_same w = sym (false_same type_word.the_type tt w word.Char (λ e. let clash = e in cc))

one_more : (w : TypeWord) (words : List TypeWord) →
    occurrences word.Char (w ∷ words) ≡ cond (sameb type_word.the_type w word.Char) 1
    0 + occurrences word.Char words
one_more w words = omega (
  arith,
  sum_by-append (λ x. cond
      (sameb type_word.the_type x word.Char) 1 0) (w ∷ []) words,
)

any_kind : (k : SpecifierKind) (place : ℕ) (words : List Specifier) →
    list_any is_char words ≡ have_char words →
    list_any is_char (record { kind = k; place = place } ∷ words) ≡ have_char
    (record { kind = k; place = place } ∷ words)
any_kind (kind.Storage w) place words e = e
any_kind (kind.Other w) place words e = e
any_kind (kind.TypedefName t) place words e = e
any_kind kind.Enum place words e = e
any_kind (kind.TypeWord w) place words e =
    ap (λ b. b || list_any is_char words) (char_same w)
    ∙ (counted (sameb type_word.the_type w word.Char) (list_any is_char words)
    (occurrences word.Char (type_words words)) e
    ∙ ap (nat_lt 0) (sym (one_more w (type_words words))))

any_char : (words : List Specifier) → list_any is_char words ≡ have_char words
any_char [] = refl
any_char (s ∷ words) = any_kind s.kind s.place words (any_char words)

pub returns : goal.returns
returns c =
    any_from_yields_List is_char _ _ c.any.result c.any.ensures.ran
    (YieldsList-from_slice c.args.words.now cc)
    (λ x b q k. search (rules, tests)) ∙ any_char c.args.words.now
