use Rattle.cases_programs.proofs.automata.automaton.Goals as goal

pub fitting_automaton-requires : goal.fitting_automaton-requires
fitting_automaton-requires c =
    let yes = c.if-fits_table.true in
    record {
      each = c.fits_table.ensures.each yes;
      trees = c.fits_table.ensures.trees yes;
      stmts = c.fits_table.ensures.stmts yes;
      bodies = c.fits_table.ensures.bodies yes;
      starts = c.fits_table.ensures.starts yes;
      few_cells = c.fits_table.ensures.few_cells yes;
      few_points = c.fits_table.ensures.few_points yes;
      main = c.fits_table.ensures.main yes;
    }
