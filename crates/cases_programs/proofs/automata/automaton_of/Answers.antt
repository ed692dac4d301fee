-- The automaton of a well-formed program.
use Rattle.std.proofs.lemmas.Result.{IfOk-weaker}
use Rattle.cpa_model.specs.declared.automaton.Cfa.{Cfa}
use Rattle.cpa_model.specs.Automata.{IsAutomaton, IsAutomatonOf}
use Rattle.cases_programs.proofs.automata.automaton_of.Goals as goal

pub returns : goal.returns
returns c =
    IfOk-weaker c.build.result (IsAutomatonOf c.args.program.now) IsAutomaton
    (λ (cfa : Cfa) is. record {
      program = c.args.program.now;
      well_formed = c.requires;
      automaton = is;
    })
    c.build.ensures
