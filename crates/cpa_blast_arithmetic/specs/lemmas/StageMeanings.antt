-- Stages mean that the word is moved by the number of the amount.
use Rattle.std.proofs.Common.{◌≡◌, ℕ, suc, ◌+◌, ◌*◌, ◌^◌, ◌<◌, Bool, true, false, List, []}
use Rattle.std.proofs.Common.{◌∷◌, ◌++◌, length, replicate, refl, sym, ap, ◌∙◌, arith}
use Rattle.std.specs.Prelude.{if◌then◌else◌}
use Rattle.std.proofs.Math.Nat.{pow-suc, mul_assoc, mul-add}
use Rattle.std.proofs.lemmas.List.{length-map}
use Rattle.cpa_cnf.specs.Lines.{AreBelow}
use Rattle.cpa_blast_gates.specs.declared.gate.Gate.{Gate}
use Rattle.cpa_blast_gates.specs.Gates.{lit_value}
use Rattle.cpa_blast_gates.specs.Nets.{vars, IsScoped}
use Rattle.cpa_blast_gates.specs.Laws.{nets_grow}
use Rattle.cpa_blast_words.specs.Truths.{bit, values, number}
use Rattle.cpa_blast_words.specs.Meanings.{MakesWord}
use Rattle.cpa_blast_words.specs.Laws.{words_mean_their_operators, masks_are_bitwise}
use Rattle.cpa_blast_words.specs.Laws.{words_are_long}
use Rattle.cpa_blast_words.specs.lemmas.Columns.{still_below}
use Rattle.cpa_blast_words.specs.lemmas.WalkMeanings.{all_still_below}
use Rattle.cpa_blast_words.specs.lemmas.WordMeanings.{front_below, back_below, joined_below}
use Rattle.cpa_blast_words.specs.lemmas.WordMeanings.{repeated_below}
use Rattle.cpa_blast_arithmetic.specs.declared.moves.Direction.{Direction}
use Rattle.cpa_blast_arithmetic.specs.declared.moves.Direction.TheVariants as toward
use Rattle.cpa_blast_arithmetic.specs.Moves.{moved}
use Rattle.cpa_blast_arithmetic.specs.Shifts.{stage, stages}
use Rattle.cpa_blast_arithmetic.specs.lemmas.MoveLaws.{moved_length, moved_nothing, moved_twice}
use Rattle.cpa_blast_arithmetic.specs.lemmas.MoveLaws.{values_moved}

moved_below : (n : ℕ) (d : Direction) (k f : ℕ) (xs : List ℕ) → f < 2 * n → AreBelow n xs
    → AreBelow n (moved d k f xs)
moved_below n toward.Left k f xs one below =
    front_below n (length xs) (replicate k f ++ xs)
    (joined_below n (replicate k f) xs (repeated_below n k f one) below)
moved_below n toward.Right k f xs one below =
    back_below n k (xs ++ replicate k f)
    (joined_below n xs (replicate k f) below (repeated_below n k f one))

stage_is : (d : Direction) (f : ℕ) (s : List Gate) (k b : ℕ) (xs : List ℕ) → IsScoped s
    → f < 2 * vars s → b < 2 * vars s → AreBelow (vars s) xs
    → MakesWord s (stage d f s k b xs)
    (λ m. if lit_value m b then moved d (2 ^ k) (lit_value m f) (values m xs) else values m xs)
unfolding stage
stage_is d f s k b xs scoped below_f below_b below =
    let there = moved d (2 ^ k) f xs in
    let made = words_mean_their_operators.choice s there xs scoped
    (moved_below (vars s) d (2 ^ k) f xs below_f below) below b below_b in
    record {
      grows = made.grows;
      below = made.below;
      is = λ m holds.
          made.is m holds
          ∙ masks_are_bitwise.choice (lit_value m b) (values m there) (values m xs)
          (length-map there (lit_value m) ∙ moved_length d (2 ^ k) f xs
          ∙ sym (length-map xs (lit_value m)))
          ∙ ap (λ bs. if lit_value m b then bs else values m xs) (values_moved m d (2 ^ k) f xs);
    }

-- one more bit of the amount, below the others
lower : (d : Direction) (k : ℕ) (b : Bool) (n : ℕ) (f : Bool) (bs : List Bool)
    → moved d (2 ^ suc k * n) f (if b then moved d (2 ^ k) f bs else bs)
    ≡ moved d (2 ^ k * (bit b + 2 * n)) f bs
lower d k b n f bs = by b
  where
    doubled : 2 ^ suc k * n ≡ 2 ^ k * (2 * n)
    doubled =
        ap (λ p. p * n) (pow-suc 2 k) ∙ mul_assoc (2 ^ k) 2 n

    spread : (p n x : ℕ) → x ≡ p * (2 * n) → p + x ≡ p * (1 + 2 * n)
    spread p n x e = ap (λ y. p + y) e ∙ once p (p * (2 * n)) ∙ sym (mul-add p 1 (2 * n))
      where
        once : (p y : ℕ) → p + y ≡ p * 1 + y
        once p y = omega arith

    nothing : (n : ℕ) → 2 * n ≡ bit false + 2 * n
    nothing n = omega arith

    by : (b : Bool) → moved d (2 ^ suc k * n) f (if b then moved d (2 ^ k) f bs else bs)
        ≡ moved d (2 ^ k * (bit b + 2 * n)) f bs
    by true =
        moved_twice d (2 ^ suc k * n) (2 ^ k) f bs
        ∙ ap (λ j. moved d j f bs) (spread (2 ^ k) n (2 ^ suc k * n) doubled)
    by false = ap (λ j. moved d j f bs) (doubled ∙ ap (λ j. 2 ^ k * j) (nothing n))

stages_are : (d : Direction) (f : ℕ) (s : List Gate) (k : ℕ) (xs bits : List ℕ) → IsScoped s
    → f < 2 * vars s → AreBelow (vars s) xs → AreBelow (vars s) bits
    → MakesWord s (stages d f s k xs bits)
    (λ m. moved d (2 ^ k * number (values m bits)) (lit_value m f) (values m xs))
unfolding stages
stages_are d f s k xs [] scoped below_f below below_bits = record {
  grows = nets_grow.stays s scoped;
  below = below;
  is = λ m holds.
      sym (ap (λ j. moved d j (lit_value m f) (values m xs)) (nothing (2 ^ k))
      ∙ moved_nothing d (lit_value m f) (values m xs));
}
  where
    nothing : (p : ℕ) → p * 0 ≡ 0
    nothing p = omega arith
stages_are d f s k xs (b ∷ bits) scoped below_f below below_bits =
    let first = stage_is d f s k b xs scoped below_f below_bits.0 below in
    let made = stage d f s k b xs in
    let rest = stages_are d f made.net (suc k) made.value bits first.grows.scoped
    (still_below s made.net f first.grows below_f) first.below
    (all_still_below s made.net bits first.grows below_bits.1) in
    let last = stages d f made.net (suc k) made.value bits in
    record {
      grows = nets_grow.on s made.net last.net first.grows rest.grows;
      below = rest.below;
      is = λ m holds.
          rest.is m holds
          ∙ ap (moved d (2 ^ suc k * number (values m bits)) (lit_value m f))
          (first.is m (rest.grows.keeps m holds))
          ∙ lower d k (lit_value m b) (number (values m bits)) (lit_value m f) (values m xs);
    }

pub stages_move : (d : Direction) (f : ℕ) (s : List Gate) (xs bits : List ℕ) → IsScoped s
    → f < 2 * vars s → AreBelow (vars s) xs → AreBelow (vars s) bits
    → MakesWord s (stages d f s 0 xs bits)
    (λ m. moved d (number (values m bits)) (lit_value m f) (values m xs))
stages_move d f s xs bits scoped below_f below below_bits =
    let made = stages_are d f s 0 xs bits scoped below_f below below_bits in
    record {
      grows = made.grows;
      below = made.below;
      is = λ m holds.
          made.is m holds ∙ ap (λ n. moved d n (lit_value m f) (values m xs))
          (once (number (values m bits)));
    }
  where
    once : (n : ℕ) → 2 ^ 0 * n ≡ n
    once n = omega arith

-- ---- lengths

stage_long : (d : Direction) (f : ℕ) (s : List Gate) (k b : ℕ) (xs : List ℕ)
    → length (stage d f s k b xs).value ≡ length xs
unfolding stage
stage_long d f s k b xs =
    words_are_long.choice b s (moved d (2 ^ k) f xs) xs (moved_length d (2 ^ k) f xs)
    ∙ moved_length d (2 ^ k) f xs

pub stages_long : (d : Direction) (f : ℕ) (s : List Gate) (k : ℕ) (xs bits : List ℕ)
    → length (stages d f s k xs bits).value ≡ length xs
unfolding stages
stages_long d f s k xs [] = refl
stages_long d f s k xs (b ∷ bits) =
    let made = stage d f s k b xs in
    stages_long d f made.net (suc k) made.value bits ∙ stage_long d f s k b xs
