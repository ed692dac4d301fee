use Rattle.std.proofs.Common.{sym, subst, ℤ, ◌+◌, ◌<◌, ◌^◌, ◌∙◌, ap, arith, FitsSigned}
use Rattle.std.specs.Int.{w128}
use Rattle.std.specs.Fmt.{signed_decimal}
use Rattle.std.proofs.lemmas.Int.{to_z-of_z}
use lib.Signed.{mag}
use Rattle.json.specs.Print.{IsNumber}
use Rattle.cpa_report_print.proofs.WideNumbers.{wide_number}
use Rattle.cpa_report_print.proofs.values.write_integer.Goals as goal

is_short : (z : ℤ) → FitsSigned w128 z → mag z + 1 < 10 ^ 64
is_short z h = let bound = h.sfits in omega arith

pub number-requires : goal.number-requires
number-requires c =
    subst IsNumber (sym (c.format.ensures.text ∙ ap signed_decimal
    (to_z-of_z w128 c.args.value c.ranges.value)))
    (wide_number c.args.value (is_short c.args.value c.ranges.value))
