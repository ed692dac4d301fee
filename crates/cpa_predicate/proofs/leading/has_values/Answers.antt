-- A divisor other than 0, and an amount within the width, have a value.
use Rattle.cpa_predicate.proofs.LeadingLemmas.{no_zero_divisor, no_amount_outside}
use Rattle.cpa_predicate.proofs.leading.has_values.Goals as goal

pub returns-in-Div : goal.returns-in-Div
returns-in-Div c = λ is values.
    no_zero_divisor c.args.op c.args.ty _ c.in-Div.is (c.is_number_but_zero.ensures is values)

pub returns-in-Shl : goal.returns-in-Shl
returns-in-Shl c = λ is values.
    no_amount_outside c.args.op c.args.ty _ _ c.in-Shl.is c.width.ensures
    (c.is_number_below.ensures is values)
