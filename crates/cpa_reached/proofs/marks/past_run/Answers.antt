use Rattle.std.proofs.Common.{◌+◌, None, Some, arith, sym, ap, ◌∙◌}
use Rattle.std.specs.Prelude.{if◌then◌else◌}
use Rattle.std.proofs.lemmas.Bool.{lt-ltb, le-ltb}
use Rattle.cpa_reached.proofs.Runs.{run_past}
use Rattle.cpa_reached.proofs.marks.past_run.Goals as goal

pub returns-then-run-least : goal.returns-then-run-least
returns-then-run-least c = λ facts is.
    let run = c.args.run in
    let below = c.if-run-least.true in
    sym (run_past facts run c.args.least is
    ∙ ap (λ b. if b then None else Some (run.first + run.count))
    (lt-ltb run.first c.args.least (omega (arith, below))))

pub returns-else-run-least : goal.returns-else-run-least
returns-else-run-least c = λ facts is.
    let run = c.args.run in
    let from = c.if-run-least.false in
    sym (run_past facts run c.args.least is
    ∙ ap (λ b. if b then None else Some (run.first + run.count))
    (le-ltb run.first c.args.least (omega (arith, from))))
