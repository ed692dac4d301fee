use Rattle.std.proofs.Common.{Bool, Option, ap, ◌∙◌, subst, sym}
use Rattle.c_lexer.specs.declared.fault.Rule.TheVariants as rule
use Rattle.c_lexer.specs.declared.fault.TextFault.{TextFault}
use Rattle.std.proofs.Common.{not, is_some}
use Rattle.c_types_rules.specs.First.{first_with}
use Rattle.c_types_rules.specs.ExpressionRules.{broken, at_if}
use Rattle.c_types_bodies.specs.declared.walker.Walker.{Walker}
use Rattle.c_types_bodies.specs.Views.{AreCases, entering_places}
use Rattle.c_types_bodies.proofs.Selecting.{default_state}
use Rattle.c_types_bodies.proofs.Switching.{tied_cases}
use Rattle.c_types_bodies.proofs.cases.select_rest.Goals as goal

pub returns-clause-tied : goal.returns-clause-tied
returns-clause-tied c =
    let is = c.in_ok-pass_label.ensures in
    tied_cases c.args.frame.now c.args.walker.now c.pass_label.new.walker c.args.jumps.now
    c.requires (ap (λ (w : Walker). w.names) is) (ap (λ (w : Walker). w.objects) is)
    (subst (λ (w : Walker). AreCases w.cases) (sym is) c.requires.cases)

pub returns-clause-state : goal.returns-clause-state
returns-clause-state c =
    let old = c.args.walker.now in
    let place = c.args.place in
    let outside = broken rule.N17 (at_if (not (is_some c.args.nest.switch)) place) in
    default_state c.args.frame.now c.args.nest old c.pass_label.new.walker c.args.jumps.now place
    c.note_selected.new.first
    (c.note_selected.ensures
    ∙ ap (λ (f : Option TextFault). first_with (first_with f outside)
    (broken rule.N18 (at_if c.is_some-is_second.result place))) c.note_entering.ensures
    ∙ ap (λ (b : Bool). first_with (first_with (first_with old.first (broken rule.N9
    (entering_places old.names c.args.nest.switch place))) outside)
    (broken rule.N18 (at_if b place))) c.is_some-is_second.ensures)
    c.in_ok-pass_label.ensures
