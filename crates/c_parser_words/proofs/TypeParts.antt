-- A list that is no part of a type stays none when it grows.
use Rattle.std.specs.Prelude.{◌≡◌, ℕ, ◌+◌, ◌≤◌, Bool, true, false, not, cond, ◌&&◌, ◌||◌, ◌==◌}
use Rattle.std.specs.Prelude.{nat_le, List, ◌++◌, length}
use Rattle.std.proofs.Common.{sym, ◌∙◌, ap, arith, refl, length-append}
use Rattle.std.proofs.lemmas.Bool.{and_parts, and_from, and_left, and_right}
use Rattle.std.proofs.lemmas.Bool.Decides.{nat_tests}
use Rattle.std.proofs.lemmas.List.Sums.{sum_by-append, count_by-le-length}
use denote.Enum.Bare.{sameb}
use Rattle.c_grammar_symbols.specs.declared.words.TypeWord.{TypeWord}
use Rattle.c_grammar_symbols.specs.declared.words.TypeWord.TheVariants as word
use Rattle.c_grammar_symbols.specs.contracts.words.TypeWord as type_word
use Rattle.c_grammar_tree.specs.Parts.{occurrences, is_part_of_type, is_type}

keep : (x y x' y' : Bool) → (x' ≡ true → x ≡ true) → (y' ≡ true → y ≡ true) → (x' && y') ≡ true →
    (x && y) ≡ true
keep x y x' y' f g h = and_from x y (f (and_parts x' y' h).0) (g (and_parts x' y' h).1)

keep_or : (x y x' y' : Bool) → (x' ≡ true → x ≡ true) → (y' ≡ true → y ≡ true) → (x' || y') ≡ true →
    (x || y) ≡ true
keep_or true y x' y' f g h = refl
keep_or false y true y' f g h = let clash = f refl in cc
keep_or false y false y' f g h = g h

fewer : (most m n : ℕ) → m ≤ n → nat_le n most ≡ true → nat_le m most ≡ true
fewer most m n h e = grind (arith, nat_tests)

alone_or_none : (size more m n : ℕ) → size ≤ more → m ≤ n → m ≤ size →
    ((more == 1) || nat_le n 0) ≡ true → ((size == 1) || nat_le m 0) ≡ true
alone_or_none size more m n f g h e = grind (arith, nat_tests)

more_often : (w : TypeWord) (a b : List TypeWord) → occurrences w a ≤ occurrences w (a ++ b)
more_often w a b = omega (arith, sum_by-append (λ x. cond (sameb type_word.the_type x w) 1 0) a b)

longer : (a b : List TypeWord) → length a ≤ length (a ++ b)
longer a b = omega (arith, length-append a b)

at_most_length : (w : TypeWord) (a : List TypeWord) → occurrences w a ≤ length a
at_most_length w a = count_by-le-length (λ x. sameb type_word.the_type x w) a

pub part_of_front : (a b : List TypeWord) → is_part_of_type (a ++ b) ≡ true →
    is_part_of_type a ≡ true
part_of_front a b =
    let less = λ (most : ℕ) (w : TypeWord). fewer most (occurrences w a) (occurrences w (a ++ b))
    (more_often w a b) in
    let alone = λ (w : TypeWord). alone_or_none (length a) (length (a ++ b)) (occurrences w a)
    (occurrences w (a ++ b))
    (longer a b) (more_often w a b) (at_most_length w a) in
    let signs : occurrences word.Signed a + occurrences word.Unsigned a ≤
    occurrences word.Signed (a ++ b) + occurrences word.Unsigned (a ++ b) =
    omega (arith, more_often word.Signed a b, more_often word.Unsigned a b) in
    keep _ _ _ _ (keep _ _ _ _ (keep _ _ _ _ (keep _ _ _ _ (keep _ _ _ _ (keep _ _ _ _ (keep _ _ _ _
    (keep _ _ _ _ (alone word.Void) (alone word.Bool))
    (fewer 1 _ _ signs)) (less 1 word.Char)) (less 1 word.Short)) (less 1 word.Int))
    (less 2 word.Long))
    (keep_or _ _ _ _ (less 0 word.Char)
    (keep _ _ _ _ (keep _ _ _ _ (less 0 word.Short) (less 0 word.Int)) (less 0 word.Long))))
    (keep_or _ _ _ _ (less 0 word.Short) (less 0 word.Long))

-- what is not true is false
pub false_from : (b : Bool) → (b ≡ true → ⊥) → b ≡ false
false_from true h = absurd (h refl)
false_from false h = refl

-- with words behind that are no part of a type there is none, and no type
pub no_part_longer : (a b : List TypeWord) → is_part_of_type a ≡ false →
    is_part_of_type (a ++ b) ≡ false
no_part_longer a b h = false_from (is_part_of_type (a ++ b))
    (λ e. let clash : false ≡ true = sym h ∙ part_of_front a b e in cc)

pub no_type_longer : (a b : List TypeWord) → is_part_of_type a ≡ false → is_type (a ++ b) ≡ false
no_type_longer a b h = and_left _ _ (no_part_longer a b h)

-- some words of a type, which are not none, are those of a type
pub is_type_of : (words : List TypeWord) → is_part_of_type words ≡ true →
    (length words == 0) ≡ false → is_type words ≡ true
is_type_of words part some = and_from _ _ part (ap not some)

-- no words are no type
pub no_words : (words : List TypeWord) → (length words == 0) ≡ true → is_type words ≡ false
no_words words none = and_right _ _ (ap not none)
