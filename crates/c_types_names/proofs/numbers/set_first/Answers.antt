use Rattle.std.proofs.Common.{sym, ◌∙◌}
use Rattle.c_types_names.specs.Found.{number_of}
use Rattle.c_types_names.proofs.Numbering.{first_new}
use Rattle.c_types_names.proofs.numbers.set_first.Goals as goal

pub returns-clause-set : goal.returns-clause-set
returns-clause-set c = λ q. c.in_ok-set.ensures.set q
    ∙ first_new c.args.name.now q c.args.number (number_of c.args.numbers.now)
    (sym c.contains_key.ensures ∙ c.if-contains_key.false)
