-- A character as a line shows it is one byte, so that a key is shown byte by byte.
use Rattle.std.proofs.Common.{◌≡◌, refl, ℕ, Bool, true, false, cond, List, [], ◌∷◌}
use Rattle.std.proofs.Common.{length, arith}
use Rattle.std.proofs.lemmas.Bool.{and_parts}
use Rattle.std.proofs.lemmas.Bool.Decides.{nat_tests}
use Rattle.std.proofs.lemmas.Str.{encode_ascii}
use Rattle.std.specs.Prelude.{◌&&◌, nat_le, encode_utf8}
use Rattle.cpa_config.specs.Lines.{shown_character}

encoded : (b : Bool) (c : ℕ) → (nat_le 33 c && nat_le c 126) ≡ b
    → encode_utf8 (cond b c 63) ≡ cond b c 63 ∷ []
encoded true c is =
    let (low, high) = and_parts (nat_le 33 c) (nat_le c 126) is in
    grind (arith, nat_tests, encode_ascii)
encoded false c is = encode_ascii 63 (omega arith)

pub shown_encoded : (c : ℕ) → encode_utf8 (shown_character c) ≡ shown_character c ∷ []
shown_encoded c = encoded (nat_le 33 c && nat_le c 126) c refl

pub no_bytes : (bs : List ℕ) → length bs ≡ 0 → bs ≡ []
no_bytes [] h = refl
no_bytes (b ∷ bs) h = absurd (omega arith)
