-- The globals, the functions and the main of the text.
use Rattle.std.proofs.Common.{ℕ, List, Option, None, unwrap_or, ap, sym, subst, ◌∙◌}
use Rattle.c_types_rules.specs.declared.meaning.Entry.{Entry}
use Rattle.c_types_rules.specs.Names.{Text, body_of}
use Rattle.c_types_rules.specs.Items.{text_in, nothing_before}
use Rattle.c_types_rules.specs.Sound.{globals_of, items_behind, main_name, unit_globals, BreaksTree}
use Rattle.c_types.specs.Firsts.{FindsFirst}
use Rattle.c_types.proofs.outcome.finish.Goals as goal

pub outcome_of-requires-clause-globals : goal.outcome_of-requires-clause-globals
outcome_of-requires-clause-globals c =
    let unit = c.args.unit.now in
    let behind = (items_behind (text_in c.args.survey.now.model unit.items) unit.items
    nothing_before).names in
    c.as_slice.ensures ∙ c.in_ok-globals.ensures
    ∙ ap (λ (ns : List Entry). globals_of ns c.deref.result.now) c.requires.names
    ∙ ap (globals_of behind) (c.deref.ensures.value ∙ c.requires.starts)
    ∙ ap (λ m. unit_globals m unit) (sym c.model-model.ensures)

pub outcome_of-requires-clause-main : goal.outcome_of-requires-clause-main
outcome_of-requires-clause-main c =
    c.unwrap_or-main.ensures ∙ ap (λ (o : Option ℕ). unwrap_or o 0) (c.body_of.ensures
    ∙ ap (λ (t : Text). body_of t main_name) c.requires.survey)

pub outcome_of-requires-clause-first : goal.outcome_of-requires-clause-first
outcome_of-requires-clause-first c =
    subst (λ m. FindsFirst (BreaksTree m c.args.unit.now) None) (sym c.model-model.ensures)
    c.requires.first
