-- The formula that is searched is the query's.
use Rattle.std.proofs.Common.{◌+◌, ◌≤◌, ap, subst, ◌∙◌, length}
use Rattle.std.proofs.lemmas.Slice.Zip.{AllZip-long}
use Rattle.cpa_cnf.specs.declared.formula.Cnf.{Cnf}
use Rattle.cpa_ints.specs.Integers.{width}
use Rattle.cpa_sat.specs.Outcomes.{IsFound}
use Rattle.cpa_solver.proofs.decisions.decide.Goals as goal

pub conclude-requires : goal.conclude-requires
conclude-requires c =
    let made = c.in_ok-made in
    record {
      asked = c.requires;
      first = c.as_slice.ensures ∙ made.ensures.bits;
      long = ap length c.as_slice.ensures
          ∙ AllZip-long (λ t first. first + width t ≤ made.made.0.vars) c.args.query.now.cells
          made.made.1.first made.ensures.bits_below;
      found = subst (λ (f : Cnf). IsFound f c.args.learnt c.in_ok-found.found) made.ensures.formula
          c.in_ok-found.ensures;
    }
