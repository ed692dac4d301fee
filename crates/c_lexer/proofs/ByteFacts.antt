-- In which range the bytes of each class lie.
use Rattle.std.proofs.Common.{◌≡◌, ℕ, ◌<◌, ◌≤◌, true, false, ◌==◌, arith}
use Rattle.std.specs.Char.{is_ascii_digit}
use Rattle.std.proofs.lemmas.Bool.{ne_eqb, false_from_ne_true}
use Rattle.std.proofs.lemmas.Bool.Decides.{nat_tests}
use Rattle.c_lexer.specs.Bytes.{is_blank, is_word_head, is_word_byte, is_number_byte}

pub blank_low : (b : ℕ) → is_blank b ≡ true → b ≤ 32
blank_low b h = grind (arith, nat_tests)

pub not_blank : (b : ℕ) → 32 < b → is_blank b ≡ false
not_blank b h = false_from_ne_true (is_blank b) (λ t. let low = blank_low b t in omega arith)

pub word_head_high : (b : ℕ) → is_word_head b ≡ true → 64 < b
word_head_high b h = grind (arith, nat_tests)

pub not_word_head : (b : ℕ) → b ≤ 64 → is_word_head b ≡ false
not_word_head b h =
    false_from_ne_true (is_word_head b) (λ t. let high = word_head_high b t in omega arith)

pub digit_low : (b : ℕ) → is_ascii_digit b ≡ true → 47 < b
digit_low b h = grind (arith, nat_tests)

pub digit_high : (b : ℕ) → is_ascii_digit b ≡ true → b < 58
digit_high b h = grind (arith, nat_tests)

pub not_digit : (b : ℕ) → b ≤ 47 → is_ascii_digit b ≡ false
not_digit b h = false_from_ne_true (is_ascii_digit b) (λ t. let low = digit_low b t in omega arith)

pub not_digit_high : (b : ℕ) → 57 < b → is_ascii_digit b ≡ false
not_digit_high b h =
    false_from_ne_true (is_ascii_digit b) (λ t. let low = digit_high b t in omega arith)

pub word_head_goes_on : (b : ℕ) → is_word_head b ≡ true → is_word_byte b ≡ true
word_head_goes_on b h = grind (arith, nat_tests)

pub digit_goes_on : (b : ℕ) → is_ascii_digit b ≡ true → is_number_byte b ≡ true
digit_goes_on b h = grind (arith, nat_tests)

pub not_same : (a b : ℕ) → (a ≡ b → ⊥) → (a == b) ≡ false
not_same a b h = ne_eqb a b h
