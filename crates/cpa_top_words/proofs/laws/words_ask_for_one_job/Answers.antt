use Rattle.std.proofs.Common.{◌≡◌, ◌∙◌, sym, Some}
use Rattle.cpa_top_words.specs.Jobs.{Job}
use Rattle.cpa_top_words.proofs.laws.words_ask_for_one_job.Goals as goal

same : (j k : Job) → Some j ≡ Some k → j ≡ k
same j k e = cc

pub returns : goal.returns
returns c words j k first second = same j k (sym first.asked ∙ second.asked)
