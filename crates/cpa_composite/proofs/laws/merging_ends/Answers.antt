use Rattle.cpa_composite.specs.lemmas.RankLaws.{merged_falls, merged_covers, stays_covers}
use Rattle.cpa_composite.proofs.laws.merging_ends.Goals as goal

pub returns-clause-falls : goal.returns-clause-falls
returns-clause-falls c = λ cs cfa new old ps merged other a b d row.
    merged_falls cfa cs new old ps merged a b d other row

pub returns-clause-merged : goal.returns-clause-merged
returns-clause-merged c = λ cs cfa new old ps merged other a b d row.
    merged_covers cfa cs new old ps merged a b d row.elems.size other row.agree row.each

pub returns-clause-stays : goal.returns-clause-stays
returns-clause-stays c = λ cs new old other agree covers. stays_covers cs new old other agree covers
