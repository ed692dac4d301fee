-- The expression of an interpolant asks for the last partial.
use Rattle.std.proofs.Common.{Bool, List, [], Option, ℤ, subst}
use Rattle.cpa_cnf.specs.declared.formula.Cnf.{Cnf}
use Rattle.cpa_cnf.specs.declared.formula.Line.{Line}
use Rattle.cpa_expr.specs.Values.{HasTruth}
use Rattle.cpa_chains.specs.Partials.{last_value, leaves_of, partials_of}
use Rattle.cpa_interpolant_bits.specs.declared.bits.Bit.{Bit}
use Rattle.cpa_interpolant_bits.specs.Meanings.{Gives}
use Rattle.cpa_interpolant_bits.specs.Laws.{expressions_ask}
use Rattle.cpa_interpolant_conditions.specs.Asked.{SharedAreBits}
use Rattle.cpa_interpolant_conditions.specs.Interpolants.{interpolant_made, interpolant_expr}
use Rattle.cpa_interpolant_conditions.specs.lemmas.Lists.{condition_is}
use Rattle.cpa_interpolant_conditions.specs.lemmas.Bits.{condition_of_bits, shared_of_bits}

pub interpolant_asks : (bits : List (Option Bit)) (store : List ℤ) (values : List Bool) (cnf : Cnf)
    (sides : List Bool) (log : List Line) → SharedAreBits bits cnf sides → Gives bits store values
    → HasTruth store (interpolant_expr bits cnf sides log)
    (last_value values (leaves_of cnf sides) (partials_of cnf sides log))
interpolant_asks bits store values cnf sides log shared gives =
    let leaves = leaves_of cnf sides in
    let partials = partials_of cnf sides log in
    let m = interpolant_made cnf sides log in
    subst (λ (b : Bool). HasTruth store (interpolant_expr bits cnf sides log) b)
    ((condition_is [] leaves partials tt).truth values)
    (expressions_ask.truth bits store values gives m.nodes m.condition
    (condition_of_bits bits [] leaves partials tt (shared_of_bits bits cnf sides shared)))
