use Rattle.std.proofs.Common.{not, rules}
use Rattle.std.proofs.lemmas.Fn.{filter_same}
use Rattle.cpa_folds.specs.Carried.{reads_among}
use Rattle.cpa_folds.proofs.carrying.keep_others.Goals as goal

pub returns : goal.returns
returns c =
    filter_same _ (λ e. not (reads_among c.args.base c.args.len e)) _
    (λ e b f k. search rules) _ _ c.retain.ensures.filtered
