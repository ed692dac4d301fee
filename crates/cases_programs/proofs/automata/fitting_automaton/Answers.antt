use Rattle.cases_programs.proofs.Fitted.{fitted}
use Rattle.cases_programs.proofs.automata.fitting_automaton.Goals as goal

pub automaton_of-requires : goal.automaton_of-requires
automaton_of-requires c =
    fitted c.args.table.now c.requires c.statements_are_trees.ensures.trees c.tables_suffice.ensures
