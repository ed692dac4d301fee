use Rattle.std.proofs.Common.{◌≡◌, refl, sym, ap, subst, ◌∙◌, map, ◌+◌}
use Rattle.c_types_rules.specs.Statements.{marking}
use Rattle.c_types_jumps.specs.Found.{Found, with_base}
use Rattle.c_types_bodies.specs.declared.walker.Walker.{Walker}
use Rattle.c_types_bodies.specs.States.{walked}
use Rattle.c_types_bodies.specs.Views.{state_of, around_of, base_of, with_passed}
use Rattle.c_types_bodies.proofs.Doing.{marking_state, based_more}
use Rattle.c_types_bodies.proofs.Scopes.{tied_found, tied_same}
use Rattle.c_types_bodies.proofs.acts.mark.Goals as goal

pub returns-clause-tied : goal.returns-clause-tied
returns-clause-tied c =
    let frame = c.args.frame.now in
    let found = c.in_ok-label.ensures.labeled in
    let is = c.in_ok-pass_label.ensures in
    tied_same frame c.args.walker.now c.pass_label.new.walker c.label.new.self
    (tied_found frame c.args.walker.now c.args.jumps.now c.label.new.self c.requires
    (ap (λ (f : Found). f.current) found) (ap (λ (f : Found). f.next) found)
    (ap (λ (f : Found). f.first) found))
    (ap (λ (w : Walker). w.names) is) (ap (λ (w : Walker). w.objects) is)
    (ap (λ (w : Walker). w.cases) is)

pub returns-clause-state : goal.returns-clause-state
returns-clause-state c = λ nest.
    let frame = c.args.frame.now in
    let walker = c.args.walker.now in
    let found = c.in_ok-label.ensures.labeled in
    let base = base_of frame.file walker.names in
    subst (λ (w : Walker). state_of frame nest w c.label.new.self
    ≡ walked frame.survey.now frame.caller (marking c.args.name.now)
    (state_of frame nest walker c.args.jumps.now)) (sym c.in_ok-pass_label.ensures)
    (marking_state frame.survey.now frame.caller c.args.name.now
    (state_of frame nest walker c.args.jumps.now)
    (state_of frame nest (with_passed (walker.passed + 1) walker) c.label.new.self) refl refl refl
    (ap (λ (f : Found). map (with_base base) f.labels) found
    ∙ based_more base c.args.jumps.now.labels c.args.name.now c.args.jumps.now.current
    (around_of frame nest walker) c.requires.tied)
    (ap (λ (f : Found). map (with_base base) f.gotos) found))
