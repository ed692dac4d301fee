use Rattle.std.proofs.Common.{◌∙◌, ap, sym}
use Rattle.cpa_recheck_obligations.specs.declared.listing.Obligation.{Obligation}
use Rattle.cpa_recheck_obligations.specs.Forms.{form_at, rivals_of}
use Rattle.cpa_recheck_weights.proofs.Weighed.{begins_weighs, leads_weighs, avoids_weighs}
use Rattle.cpa_recheck_weights.proofs.weighing.weigh.Goals as goal

pub returns-in-Begins : goal.returns-in-Begins
returns-in-Begins c = λ xs are shaped named same.
    let cfa = c.args.cfa.now in
    begins_weighs cfa xs c.args.weights.now c.args.numbers.now are c.weights_are_sums.ensures
    c.added_fit.ensures c.requires.automaton shaped c.total_of-rivals.result
    (same ∙ ap (rivals_of cfa xs) c.in-Begins.is) c.total_of-rivals.ensures
    ∙ sym (ap (λ (o : Obligation). (form_at cfa xs o).weight) c.in-Begins.is)

pub returns-in-Leads : goal.returns-in-Leads
returns-in-Leads c = λ xs are shaped named same.
    let cfa = c.args.cfa.now in
    let x = c.in-Leads.entry in
    let g = c.in-Leads.edge in
    leads_weighs cfa xs c.args.weights.now c.args.numbers.now are c.weights_are_sums.ensures
    c.added_fit.ensures c.requires.automaton shaped x g c.weight_at-own.result
    c.act_weight-act.result c.total_of-rivals.result c.saturating_add-held.result
    c.saturating_add-total.result c.edge.result.now
    (same ∙ ap (rivals_of cfa xs) c.in-Leads.is) c.edge.ensures c.weight_at-own.ensures
    c.act_weight-act.ensures c.total_of-rivals.ensures c.saturating_add-held.ensures
    c.saturating_add-total.ensures
    ∙ sym (ap (λ (o : Obligation). (form_at cfa xs o).weight) c.in-Leads.is)

pub returns-in-Avoids : goal.returns-in-Avoids
returns-in-Avoids c = λ xs are shaped named same.
    let cfa = c.args.cfa.now in
    avoids_weighs cfa xs c.args.weights.now c.args.numbers.now are c.weights_are_sums.ensures
    c.added_fit.ensures c.requires.automaton shaped c.in-Avoids.entry c.in-Avoids.point
    c.weight_at.result c.weight_at.ensures
    ∙ sym (ap (λ (o : Obligation). (form_at cfa xs o).weight) c.in-Avoids.is)
