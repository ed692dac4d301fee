use Rattle.std.proofs.Common.{◌-◌, ◌∙◌, sym, length, arith}
use Rattle.std.specs.Prelude.{slice_index_or}
use Rattle.cpa_engine_rounds.proofs.Finding.{below_last, item_in, last_place}
use Rattle.cpa_engine_rounds.proofs.errors.beyond.Goals as goal

pub returns-else-is_empty-clause-above : goal.returns-else-is_empty-clause-above
returns-else-is_empty-clause-above c = λ e there.
    let xs = c.args.entries.now in
    let le = below_last xs c.requires (length xs - 1) e
    (last_place xs (sym c.is_empty.ensures ∙ c.if-is_empty.false)) there
    c.index-entries-entries.result in
    omega (arith, le)

pub returns-else-is_empty-clause-least : goal.returns-else-is_empty-clause-least
returns-else-is_empty-clause-least c = λ n all.
    let xs = c.args.entries.now in
    let many = last_place xs (sym c.is_empty.ensures ∙ c.if-is_empty.false) in
    let below = all (slice_index_or xs (length xs - 1) c.index-entries-entries.result)
    (item_in xs (length xs - 1) c.index-entries-entries.result (omega (arith, many))) in
    omega (arith, below)
