use Rattle.std.proofs.Common.{sym, ◌∙◌}
use Rattle.std.proofs.lemmas.Bool.{both_ways, eq-eqb, not-true}
use Rattle.cases_turns.proofs.composites.guess.stands_elsewhere.Goals as goal

pub returns-in-Some : goal.returns-in-Some
returns-in-Some c = λ yes s holds is.
    both_ways _ (not-true _ yes)
    (eq-eqb c.in-Some.other c.args.point (sym (c.in-Some.ensures s holds) ∙ is))
