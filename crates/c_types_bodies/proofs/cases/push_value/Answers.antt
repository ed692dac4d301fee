use Rattle.std.proofs.Common.{ℕ, ℤ, Option, Some, cond, ap, ◌∙◌, rules, to_z-of_z}
use Rattle.std.specs.HashMap.{get}
use Rattle.std.specs.Ordering.{int_eq}
use Rattle.c_types_bodies.proofs.Selecting.{cases_more}
use Rattle.c_types_bodies.proofs.cases.push_value.Goals as goal
use mir.Syntax.{w128}

pub returns-clause-cases : goal.returns-clause-cases
returns-clause-cases c =
    let old = c.args.cases.now in
    cases_more old (record old { values = c.insert.new.self; choices = c.push.new.self })
    c.args.value c.args.label c.requires
    (λ q. c.in_ok-insert.ensures.updates.0 q
    ∙ ap (λ (n : ℤ). cond {A = Option ℕ} (int_eq n q) (Some c.args.label)
    (get int_eq old.values q)) (to_z-of_z {w = w128} c.ranges.value))
    (search rules)
