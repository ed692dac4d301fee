use Rattle.std.proofs.Common.{List, ap, ◌∙◌, sym, arith}
use Rattle.std.specs.Prelude.{slice_index_or}
use Rattle.cpa_iface.specs.declared.entries.Entry.{Entry}
use Rattle.cpa_engine_rounds.specs.Errors.{first_error}
use Rattle.cpa_engine_rounds.proofs.Finding.{rises, skips, item_in, rest_whole}
use Rattle.cpa_engine_rounds.proofs.errors.least_error.Goals as goal

pub first_from-requires : goal.first_from-requires
first_from-requires c = rises c.args.entries.now c.requires.ascend

pub returns : goal.returns
returns c =
    let xs = c.args.entries.now in
    let k = c.first_from.result in
    let bound = c.first_from.ensures.bound in
    c.first_error.ensures
    ∙ ap (λ (ys : List Entry). first_error c.args.cfa.now ys) (rest_whole xs k)
    ∙ sym (skips c.args.cfa.now xs k bound
    (λ i d less. c.requires.checked (slice_index_or xs i d)
    (item_in xs i d (omega (arith, bound, less))) (c.first_from.ensures.before i d less)))
