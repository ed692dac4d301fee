use Rattle.std.proofs.Common.{◌≡◌, ◌+◌, ◌*◌, ◌<◌, length, take, get_or, arith, rules}
use Rattle.std.specs.Char.{digit_value}
use Rattle.std.specs.Str.Parse.{digits_value}
use Rattle.std.proofs.lemmas.Int.Digits.{digits_value_more}
use Rattle.c_lexer.proofs.Digits.{value_of_front}
use Rattle.c_lexer.proofs.integer.value_of.Goals as goal

pub loop-byte-preserved : goal.loop-byte-preserved
loop-byte-preserved c =
    let below : c.loop-byte.byte-index < length c.args.digits.now = search rules in
    let step = digits_value_more c.args.radix c.args.digits.now c.loop-byte.byte-index below in
    let digit : c.digit_value.result ≡ digit_value
    (get_or c.args.digits.now c.loop-byte.byte-index 0) = c.digit_value.ensures.value in
    let before : c.loop-byte.number ≡ digits_value c.args.radix
    (take c.loop-byte.byte-index c.args.digits.now) = c.loop-byte.invariant in
    let pushed : c.in_ok-number.number ≡ c.loop-byte.number * c.args.radix + c.digit_value.result =
    c.in_ok-number.ensures in
    cc

pub returns-in_err-number : goal.returns-in_err-number
returns-in_err-number c =
    let below : c.loop-byte.byte-index < length c.args.digits.now = search rules in
    let step = digits_value_more c.args.radix c.args.digits.now c.loop-byte.byte-index below in
    let digit : c.digit_value.result ≡ digit_value
    (get_or c.args.digits.now c.loop-byte.byte-index 0) = c.digit_value.ensures.value in
    let before : c.loop-byte.number ≡ digits_value c.args.radix
    (take c.loop-byte.byte-index c.args.digits.now) = c.loop-byte.invariant in
    let whole : digits_value c.args.radix (take (c.loop-byte.byte-index + 1) c.args.digits.now)
    ≡ c.loop-byte.number * c.args.radix + c.digit_value.result = cc in
    let least = value_of_front c.args.radix (c.loop-byte.byte-index + 1) c.args.digits.now
    (search rules) in
    rw c.from_residual.ensures (omega (arith, whole, least, c.in_err-number.ensures))
