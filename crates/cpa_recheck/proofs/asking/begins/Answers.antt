use Rattle.std.proofs.Common.{◌∙◌, Some}
use Rattle.cpa_recheck_obligations.specs.Forms.{rivals, start_of}
use Rattle.cpa_recheck.proofs.Asked.{begun_failing}
use Rattle.cpa_recheck.proofs.asking.begins.Goals as goal

pub chosen-requires : goal.chosen-requires
chosen-requires c = c.requires.rivals.below

pub returns : goal.returns
returns c =
    let xs = c.args.entries.now in
    let cfa = c.args.cfa.now in
    begun_failing cfa.cells c.deref.result.now (rivals xs (Some (start_of cfa))) c.in_ok-form.form
    c.fails_now.new.self c.in_ok-form.ensures c.in_ok-fails_now.ensures.ok
    (c.deref.ensures.value ∙ (c.in_ok-failing.ensures ∙ c.requires.rivals.same))
