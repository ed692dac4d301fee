use Rattle.std.proofs.Common.{◌++◌, ap, map, subst, sym, ◌∙◌}
use Rattle.std.specs.Prelude.{List, length}
use Rattle.cpa_chains.specs.declared.partial.Partial.{Partial}
use Rattle.cpa_chains.specs.Interpolants.{IsInterpolant, NameEarlier}
use Rattle.cpa_chains.specs.Rooms.{partial_in}
use Rattle.cpa_chains.proofs.Filling.{all_fit, all_same}
use Rattle.cpa_chains.proofs.Interpolation.{interpolates, in_order}
use Rattle.cpa_chains.proofs.parallel.partials_par.Goals as goal

pub fill_all-requires-clause-fit : goal.fill_all-requires-clause-fit
fill_all-requires-clause-fit g c κs within =
    all_fit c.args.cnf.now c.args.sides.now c.deref.result.now c.args.log.now
    (rw c.deref.ensures.value c.in_ok-table.ensures) c.requires.refutes.good

pub returns-clause-list : goal.returns-clause-list
returns-clause-list g c =
    c.gather.ensures
    ∙ ap (λ (ps : List Partial). ps ++ map partial_in c.fill_all.new.rooms.items)
    c.in_ok-list.ensures.items
    ∙ c.fill_all.ensures
    ∙ all_same c.args.cnf.now c.args.sides.now c.deref.result.now c.args.log.now
    (rw c.deref.ensures.value c.in_ok-table.ensures) c.requires.refutes.good

pub returns-clause-interpolant : goal.returns-clause-interpolant
returns-clause-interpolant g c =
    subst (λ (ps : List Partial). IsInterpolant c.args.cnf.now c.args.sides.now ps)
    (sym (returns-clause-list g c))
    (interpolates c.args.cnf.now c.args.sides.now c.args.log.now c.requires.sides
    c.requires.refutes)

pub returns-clause-order : goal.returns-clause-order
returns-clause-order g c =
    subst (λ (ps : List Partial). NameEarlier (length c.args.cnf.now.clauses) ps)
    (sym (returns-clause-list g c))
    (in_order c.args.cnf.now c.args.sides.now c.args.log.now c.requires.refutes.good)
