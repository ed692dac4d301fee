use Rattle.cpa_top_verdict.proofs.Verdicts.{is_automaton}
use Rattle.cpa_top_verdict.proofs.telling.tell.Goals as goal

pub answer_on-requires-clause-automaton : goal.answer_on-requires-clause-automaton
answer_on-requires-clause-automaton g c =
    is_automaton c.args.program.now c.in_ok-cfa.cfa c.requires.well_formed c.in_ok-cfa.ensures
