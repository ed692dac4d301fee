use Rattle.std.proofs.Common.{subst, sym, ◌∙◌}
use Rattle.cpa_chains.specs.declared.partial.Partial.{Partial}
use Rattle.cpa_chains.specs.Interpolants.{IsInterpolant, NameEarlier}
use Rattle.std.specs.Prelude.{List, length}
use Rattle.cpa_chains.proofs.Filling.{all_fit, all_same}
use Rattle.cpa_chains.proofs.Interpolation.{interpolates, in_order}
use Rattle.cpa_chains.proofs.folding.partials.Goals as goal

pub all_partials-requires : goal.all_partials-requires
all_partials-requires c =
    all_fit c.args.cnf.now c.args.sides.now c.deref.result.now c.args.log.now
    (rw c.deref.ensures.value c.in_ok-table.ensures) c.requires.refutes.good

pub returns-clause-list : goal.returns-clause-list
returns-clause-list c =
    c.in_ok-list.ensures
    ∙ all_same c.args.cnf.now c.args.sides.now c.deref.result.now c.args.log.now
    (rw c.deref.ensures.value c.in_ok-table.ensures) c.requires.refutes.good

pub returns-clause-interpolant : goal.returns-clause-interpolant
returns-clause-interpolant c =
    subst (λ (ps : List Partial). IsInterpolant c.args.cnf.now c.args.sides.now ps)
    (sym (returns-clause-list c))
    (interpolates c.args.cnf.now c.args.sides.now c.args.log.now c.requires.sides
    c.requires.refutes)

pub returns-clause-order : goal.returns-clause-order
returns-clause-order c =
    subst (λ (ps : List Partial). NameEarlier (length c.args.cnf.now.clauses) ps)
    (sym (returns-clause-list c))
    (in_order c.args.cnf.now c.args.sides.now c.args.log.now c.requires.refutes.good)
