-- A shift by an amount of constants makes no gate: a choice by a constant is one of its words, and
-- constants are folded.
use Rattle.std.proofs.Common.{◌≡◌, ℕ, zero, suc, ◌*◌, ◌^◌, ◌<◌, List, [], ◌∷◌, length, take, drop}
use Rattle.std.proofs.Common.{replicate, refl, ◌∙◌, arith}
use Rattle.cpa_ints.specs.declared.integers.IntType.{IntType}
use Rattle.cpa_cnf.specs.Lines.{AreBelow}
use Rattle.cpa_blast_gates.specs.declared.gate.Gate.{Gate}
use Rattle.cpa_blast_gates.specs.Plans.{and_plan, xor_plan, choice_plan}
use Rattle.cpa_blast_gates.specs.Nets.{and_in, xor_in, choice_in}
use Rattle.cpa_blast_words.specs.declared.rows.Row.TheVariants as row
use Rattle.cpa_blast_words.specs.Rows.{row_in}
use Rattle.cpa_blast_words.specs.Walks.{walk}
use Rattle.cpa_blast_words.specs.Words.{choose_word, equal, some_bit, filling}
use Rattle.cpa_blast_words.specs.lemmas.WordMeanings.{front_below, back_below}
use Rattle.cpa_blast_arithmetic.specs.declared.moves.Direction.{Direction}
use Rattle.cpa_blast_arithmetic.specs.declared.moves.Direction.TheVariants as toward
use Rattle.cpa_blast_arithmetic.specs.Moves.{moved}
use Rattle.cpa_blast_arithmetic.specs.Shifts.{amount_bits, stage, stages, is_amount, shifted_left}
use Rattle.cpa_blast_arithmetic.specs.Shifts.{shifted_right}

choice_same : (net : List Gate) (c x y : ℕ) → c < 2 * 1 → (choice_in net c x y).net ≡ net
unfolding choice_in choice_plan
choice_same net zero x y h = refl
choice_same net (suc zero) x y h = refl
choice_same net (suc (suc c)) x y h = absurd (omega arith)

choose_walk : (net : List Gate) (c : ℕ) (xs ys : List ℕ) → c < 2 * 1
    → (walk row.Choose net c xs ys).net ≡ net
unfolding walk row_in
choose_walk net c [] ys h = refl
choose_walk net c (x ∷ xs) [] h = refl
choose_walk net c (x ∷ xs) (y ∷ ys) h =
    choose_walk (choice_in net c x y).net c xs ys h ∙ choice_same net c x y h

stage_same : (d : Direction) (f : ℕ) (net : List Gate) (k b : ℕ) (xs : List ℕ) → b < 2 * 1
    → (stage d f net k b xs).net ≡ net
unfolding stage choose_word
stage_same d f net k b xs h = choose_walk net b (moved d (2 ^ k) f xs) xs h

stages_same : (d : Direction) (f : ℕ) (net : List Gate) (k : ℕ) (xs bits : List ℕ)
    → AreBelow 1 bits → (stages d f net k xs bits).net ≡ net
unfolding stages
stages_same d f net k xs [] h = refl
stages_same d f net k xs (b ∷ bits) h =
    let made = stage d f net k b xs in
    stages_same d f made.net (suc k) made.value bits h.1 ∙ stage_same d f net k b xs h.0

pub left_same : (t : IntType) (s : List Gate) (xs amount : List ℕ) → AreBelow 1 amount
    → (shifted_left t s xs amount).net ≡ s
unfolding shifted_left
left_same t s xs amount h =
    stages_same toward.Left 1 s 0 xs (take (amount_bits t) amount)
    (front_below 1 (amount_bits t) amount h)

pub right_same : (t : IntType) (s : List Gate) (xs amount : List ℕ) → AreBelow 1 amount
    → (shifted_right t s xs amount).net ≡ s
unfolding shifted_right
right_same t s xs amount h =
    stages_same toward.Right (filling t xs) s 0 xs (take (amount_bits t) amount)
    (front_below 1 (amount_bits t) amount h)

-- a chain of equal bits along constants is a constant
equal_walk : (net : List Gate) (c : ℕ) (xs : List ℕ) → c < 2 * 1 → AreBelow 1 xs
    → (walk row.Equal net c xs (replicate (length xs) 1)).net ≡ net
unfolding walk row_in xor_in xor_plan and_in and_plan
equal_walk net c [] h k = refl
equal_walk net zero (zero ∷ xs) h k = equal_walk net 1 xs (omega arith) k.1
equal_walk net zero (suc zero ∷ xs) h k = equal_walk net 0 xs (omega arith) k.1
equal_walk net (suc zero) (zero ∷ xs) h k = equal_walk net 1 xs (omega arith) k.1
equal_walk net (suc zero) (suc zero ∷ xs) h k = equal_walk net 1 xs (omega arith) k.1
equal_walk net (suc (suc c)) (x ∷ xs) h k = absurd (omega arith)
equal_walk net zero (suc (suc x) ∷ xs) h k = absurd (omega (arith, k.0))
equal_walk net (suc zero) (suc (suc x) ∷ xs) h k = absurd (omega (arith, k.0))

pub amount_same : (t : IntType) (s : List Gate) (amount : List ℕ) → AreBelow 1 amount
    → (is_amount t s amount).net ≡ s
unfolding is_amount some_bit equal
amount_same t s amount h =
    equal_walk s 0 (drop (amount_bits t) amount) (omega arith)
    (back_below 1 (amount_bits t) amount h)
