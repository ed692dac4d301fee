-- One cell more, and all cells.
use Rattle.std.proofs.Common.{◌++◌, true, ap, ◌∙◌, arith}
use Rattle.std.proofs.lemmas.Result.{IfOk-weaker}
use Rattle.cpa_model.specs.declared.facts.Elem.{Elem}
use Rattle.cpa_interval.specs.Cells.{fact_of}
use Rattle.cpa_interval.proofs.KnownLemmas.{starts_more, starts_end, starts_made}
use Rattle.cpa_interval.proofs.interval.starts.Goals as goal

pub loop-place-preserved : goal.loop-place-preserved
loop-place-preserved c =
    let l = c.loop-place in
    let cell = c.cell_at-cell.result.now in
    starts_more c.args.cells.now l.place cell l.facts c.push_fact.new.facts _
    c.cell_at-cell.ensures l.invariant
    (c.in_ok-push_fact.ensures
    ∙ ap (λ b. l.facts ++ fact_of true l.place cell.ty b) c.start_of.ensures)

pub returns : goal.returns
returns c =
    let l = c.loop-place in
    IfOk-weaker _ _ _ (λ (e : Elem) made.
    starts_made c.args.cells.now l.facts e
    (starts_end c.args.cells.now l.place l.facts _ (omega arith) l.invariant) made)
    c.new.ensures
