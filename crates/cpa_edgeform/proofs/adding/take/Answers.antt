-- The act, and then its weight.
use Rattle.cpa_form_rules.specs.Forms.{act_weight}
use Rattle.cpa_edgeform.specs.Parts.{form_in}
use Rattle.cpa_edgeform.proofs.Sums.{weighed_behind}
use Rattle.cpa_edgeform.proofs.adding.take.Goals as goal

pub returns-clause-ok : goal.returns-clause-ok
returns-clause-ok c =
    weighed_behind (form_in c.add_act.new.parts) _ _ c.act_weight.result
    (act_weight c.args.act.now) c.in_ok-add_act.ensures.ok c.act_weight.ensures c.weigh.ensures
