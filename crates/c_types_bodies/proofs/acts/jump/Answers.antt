use Rattle.std.proofs.Common.{Bool, refl, ap, ◌∙◌, map}
use Rattle.c_lexer.specs.declared.fault.Rule.TheVariants as rule
use Rattle.c_types_rules.specs.First.{first_with}
use Rattle.c_types_rules.specs.ExpressionRules.{broken, at_if}
use Rattle.c_types_jumps.specs.Found.{Found, with_base}
use Rattle.c_types_bodies.specs.Views.{state_of, around_of, base_of}
use Rattle.c_types_bodies.proofs.Doing.{done_jumps, based_more}
use Rattle.c_types_bodies.proofs.Scopes.{tied_same, tied_found}
use Rattle.c_types_bodies.proofs.acts.jump.Goals as goal

pub returns-clause-tied : goal.returns-clause-tied
returns-clause-tied c =
    let found = c.in_ok-goto.ensures.jumping in
    tied_found c.args.frame.now _ c.args.jumps.now c.goto.new.self
    (tied_same c.args.frame.now c.args.walker.now _ c.args.jumps.now c.requires refl refl refl)
    (ap (λ (f : Found). f.current) found) (ap (λ (f : Found). f.next) found)
    (ap (λ (f : Found). f.first) found)

pub returns-clause-state : goal.returns-clause-state
returns-clause-state c = λ nest.
    let frame = c.args.frame.now in
    let walker = c.args.walker.now in
    let found = c.in_ok-goto.ensures.jumping in
    let base = base_of frame.file walker.names in
    done_jumps frame.survey.now frame.caller c.args.name.now
    (state_of frame nest walker c.args.jumps.now) _ refl
    (c.note_if.ensures
    ∙ ap (λ (b : Bool). first_with walker.first (broken rule.N6 (at_if b c.args.name.now.place)))
    c.is_missing-missing.ensures)
    refl (ap (λ (f : Found). map (with_base base) f.labels) found)
    (ap (λ (f : Found). map (with_base base) f.gotos) found
    ∙ based_more base c.args.jumps.now.gotos c.args.name.now c.args.jumps.now.current
    (around_of frame nest walker) c.requires.tied)
