-- Words are as long as their operands; a word cast to a type is as long as its width.
use Rattle.std.proofs.Common.{◌≡◌, ℕ, zero, suc, ◌+◌, ◌-◌, ◌/◌, ◌<◌, List}
use Rattle.std.proofs.Common.{[], ◌∷◌}
use Rattle.std.proofs.Common.{◌++◌, length, take, replicate, refl, sym, ap, ◌∙◌, arith}
use Rattle.std.specs.Prelude.{◌==◌, nat_le}
use Rattle.std.proofs.lemmas.Bool.{cond_both, eqb-true, leb-true, leb-false}
use Rattle.std.proofs.lemmas.List.{length-map, length-replicate, length-take-le, length-append}
use Rattle.cpa_ints.specs.declared.integers.IntType.{IntType}
use Rattle.cpa_ints.specs.Integers.{width}
use Rattle.cpa_cnf.specs.Literals.{opposite}
use Rattle.cpa_blast_gates.specs.declared.gate.Gate.{Gate}
use Rattle.cpa_blast_gates.specs.Nets.{built}
use Rattle.cpa_blast_words.specs.declared.rows.Row.{Row}
use Rattle.cpa_blast_words.specs.declared.rows.Row.TheVariants as row
use Rattle.cpa_blast_words.specs.Rows.{row_in}
use Rattle.cpa_blast_words.specs.Walks.{walk}
use Rattle.cpa_blast_words.specs.Words.{opposites, falses, and_word, or_word, xor_word, choose_word}
use Rattle.cpa_blast_words.specs.Words.{sum_word, difference_word, negated_word, some_bit, single}
use Rattle.cpa_blast_words.specs.Words.{resized_word, filling, cast_word, constant_word}

pub walk_long : (r : Row) (net : List Gate) (c : ℕ) (xs ys : List ℕ) → length xs ≡ length ys
    → length (walk r net c xs ys).value.bits ≡ length xs
unfolding walk
walk_long r net c [] ys e = refl
walk_long r net c (x ∷ xs) [] e = absurd (omega arith)
walk_long r net c (x ∷ xs) (y ∷ ys) e =
    let made = row_in r net c x y in
    ap suc (walk_long r made.net made.value.carry xs ys (omega arith))

pub and_long : (net : List Gate) (xs ys : List ℕ) → length xs ≡ length ys
    → length (and_word net xs ys).value ≡ length xs
unfolding and_word
and_long net xs ys e = walk_long row.And net 1 xs ys e

pub or_long : (net : List Gate) (xs ys : List ℕ) → length xs ≡ length ys
    → length (or_word net xs ys).value ≡ length xs
unfolding or_word
or_long net xs ys e = walk_long row.Or net 1 xs ys e

pub xor_long : (net : List Gate) (xs ys : List ℕ) → length xs ≡ length ys
    → length (xor_word net xs ys).value ≡ length xs
unfolding xor_word
xor_long net xs ys e = walk_long row.Xor net 1 xs ys e

pub choose_long : (net : List Gate) (test : ℕ) (xs ys : List ℕ) → length xs ≡ length ys
    → length (choose_word net test xs ys).value ≡ length xs
unfolding choose_word
choose_long net test xs ys e = walk_long row.Choose net test xs ys e

pub sum_long : (net : List Gate) (c : ℕ) (xs ys : List ℕ) → length xs ≡ length ys
    → length (sum_word net c xs ys).value ≡ length xs
unfolding sum_word
sum_long net c xs ys e = walk_long row.Sum net c xs ys e

pub difference_long : (net : List Gate) (xs ys : List ℕ) → length xs ≡ length ys
    → length (difference_word net xs ys).value ≡ length xs
unfolding difference_word
difference_long net xs ys e =
    sum_long net 0 xs (opposites ys) (e ∙ sym (length-map ys opposite))

pub negated_long : (net : List Gate) (xs : List ℕ)
    → length (negated_word net xs).value ≡ length xs
unfolding negated_word
negated_long net xs =
    sum_long net 0 (opposites xs) (falses xs)
    (length-map xs opposite ∙ sym (length-replicate (length xs) 1)) ∙ length-map xs opposite

resized_long : (w f : ℕ) (xs : List ℕ) → length (resized_word w f xs) ≡ w
resized_long w f xs =
    cond_both (nat_le w (length xs)) (take w xs) (xs ++ replicate (w - length xs) f)
    (λ ls. length ls ≡ w)
    (λ e. length-take-le w xs (leb-true w (length xs) e))
    (λ e. filled (length xs) w (length (xs ++ replicate (w - length xs) f))
    (leb-false w (length xs) e) (length-append xs (replicate (w - length xs) f)
    ∙ ap (λ k. length xs + k) (length-replicate (w - length xs) f)))
  where
    filled : (n w all : ℕ) → n < w → all ≡ n + (w - n) → all ≡ w
    filled n w all h e = omega arith

pub cast_long : (from onto : IntType) (net : List Gate) (xs : List ℕ)
    → length (cast_word from onto net xs).value ≡ width onto
unfolding cast_word
cast_long from onto net xs =
    cond_both (width onto == 1) (single (some_bit net xs))
    (built net (resized_word (width onto) (filling from xs) xs))
    (λ made. length made.value ≡ width onto)
    (λ e. sym (eqb-true (width onto) 1 e))
    (λ _. resized_long (width onto) (filling from xs) xs)

pub constant_long : (w n : ℕ) → length (constant_word w n) ≡ w
constant_long zero n = refl
constant_long (suc w) n = ap suc (constant_long w (n / 2))
