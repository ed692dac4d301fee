use Rattle.std.proofs.Common.{◌∙◌, ap, Vec, Global}
use Rattle.cpa_cnf.specs.declared.formula.Step.{Step}
use Rattle.cpa_cnf.specs.lemmas.Chains.{same_members}
use Rattle.cpa_sat_search.proofs.Marks.{finished}
use Rattle.cpa_sat_search.proofs.analysis.Analysis.finish.Goals as goal

pub returns-clause-line : goal.returns-clause-line
returns-clause-line c =
    let same = c.in_ok-take_all.ensures.same in
    finished c.args.arena.now c.args.self.now _ c.requires (c.number.ensures ∙ same.first)
    (c.from_vec-steps.ensures ∙ ap (λ (v : Vec Step Global). v.items) c.replace.ensures.value
    ∙ same.steps)
    c.in_ok-clause.ensures.sorted
    (λ l. c.in_ok-clause.ensures.literals l ∙ c.in_ok-take_all.ensures.taken l)
    (λ a b is_a is_b same. same_members 0 0 a b is_a is_b same)
