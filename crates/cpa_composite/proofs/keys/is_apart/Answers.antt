use Rattle.std.proofs.Common.{rules, map, length, ltb-true, sym, ◌∙◌, refl}
use Rattle.std.proofs.lemmas.Option.{slice_get_read}
use Rattle.cpa_composite.proofs.Apart.{apart_rule, rule_apart, no_component}
use Rattle.cpa_composite_covers.specs.lemmas.PickLaws.{within_meanings}
use Rattle.cpa_composite.proofs.keys.is_apart.Goals as goal

pub returns-in-Some : goal.returns-in-Some
returns-in-Some g c = λ d at.
    let ms = map g.A.Analysis.meaning c.args.handed.now.items in
    let picks = c.args.picks.now in
    let pick = c.in-Some.pick.now in
    let within = within_meanings g.A.Analysis.meaning c.args.handed.now.items picks c.requires in
    let found = c.in-Some.ensures.lookup in
    let there = slice_get_read picks (length picks) c.args.place pick refl
    (ltb-true _ _ (sym found.0)) found.1 in (
      (λ apart. apart_rule ms picks c.args.place pick d within there at
          (sym c.keeps_apart.ensures ∙ apart)),
      (λ sep. c.keeps_apart.ensures ∙ rule_apart ms picks c.args.place pick d within there at sep),
    )

pub returns-in-None : goal.returns-in-None
returns-in-None g c = λ d at.
    absurd (no_component (map g.A.Analysis.meaning c.args.handed.now.items) c.args.picks.now
    c.args.place d
    (within_meanings g.A.Analysis.meaning c.args.handed.now.items c.args.picks.now c.requires)
    (search rules) at)
