-- The formula of the circuits, and why it lies in its bounds.
use Rattle.std.proofs.Common.{◌++◌, ◌+◌, ◌≤◌, map, ap, sym, subst, ◌∙◌}
use Rattle.std.specs.List.{AllByRecursion, AllZip}
use Rattle.cpa_cnf.specs.declared.formula.Cnf.{Cnf}
use Rattle.cpa_cnf.specs.Lines.{AreBelow}
use Rattle.cpa_blast_gates.specs.Clauses.{clauses_of}
use Rattle.cpa_ints.specs.Integers.{width}
use Rattle.cpa_blast.specs.declared.places.Place.{Place}
use Rattle.cpa_blast.specs.Formulas.{units, first_bits}
use Rattle.cpa_blast.specs.Laws.{IsBlastable}
use Rattle.cpa_blast.proofs.Blasted.{formula_made, firsts_made}
use Rattle.cpa_blast.proofs.formulas.blast.Goals as goal

pub returns : goal.returns
returns c =
    let q = c.args.query.now in
    let made = c.in_ok-made.made in
    let all = made.places.items in
    let formula_is = formula_made q all made.literals made.net c.vars-vars.result
    c.in_ok-clauses.clauses c.in_ok-made.ensures.literals c.in_ok-made.ensures.places
    c.vars-vars.ensures
    (c.in_ok-clauses.ensures ∙ ap (λ ls. clauses_of made.net ++ units ls) c.as_slice.ensures) in
    let firsts_are = c.in_ok-first.ensures
    ∙ ap (map (λ (p : Place). p.first)) c.as_slice-2.ensures.value
    ∙ firsts_made q all made.net c.in_ok-made.ensures.places in
    let few : IsBlastable q = record { asked = c.requires; few = c.has_few_cells.ensures } in
    record {
      formula = formula_is;
      bits = firsts_are;
      below = subst (λ (f : Cnf). AllByRecursion (AreBelow f.vars) f.clauses) (sym formula_is)
          (c.formulas_are_below.ensures.literals q few);
      bits_below = subst
          (λ fs. AllZip (λ t first. first + width t ≤ c.vars-vars.result) q.cells fs)
          (sym firsts_are)
          (subst (λ (f : Cnf). AllZip (λ t first. first + width t ≤ f.vars) q.cells
          (first_bits q)) (sym formula_is) (c.formulas_are_below.ensures.cells q few));
    }
