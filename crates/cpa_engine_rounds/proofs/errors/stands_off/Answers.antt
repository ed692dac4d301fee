use Rattle.std.proofs.Common.{not, ap, ◌∙◌, sym}
use Rattle.cpa_facts.specs.declared.fact.Fact.{Fact}
use Rattle.cpa_engine_rounds.specs.Errors.{stands_off}
use Rattle.cpa_engine_rounds.specs.lemmas.Safe.{same_test}
use Rattle.cpa_engine_rounds.proofs.errors.stands_off.Goals as goal

pub returns-in-At : goal.returns-in-At
returns-in-At c =
    ap not (same_test c.is_error.result c.args.cfa.now.errors c.in-At.point c.is_error.ensures)
    ∙ ap (λ (f : Fact). stands_off c.args.cfa.now f) (sym c.in-At.is)
