use Rattle.std.proofs.Common.{◌∙◌, ap}
use Rattle.cpa_expr.specs.declared.tree.Store.{Store}
use Rattle.cpa_recheck.proofs.Broken.{initial_breaks}
use Rattle.cpa_recheck.proofs.breaking.initial.Goals as goal

pub returns : goal.returns
returns c = λ es are.
    initial_breaks c.models_break.ensures c.args.cfa.now c.args.entries.now es c.args.form.now
    c.args.store.now.values c.requires.automaton c.requires.shaped are
    c.first_of-first.result.values c.new.result c.requires.form c.requires.model
    (ap (λ (s : Store). s.values) c.first_of-first.ensures ∙ c.in_ok-stores.ensures.first)
    c.new.ensures
