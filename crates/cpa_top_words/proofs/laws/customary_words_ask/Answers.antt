use Rattle.cpa_top_words.proofs.CustomaryWords.{customary}
use Rattle.cpa_top_words.proofs.laws.customary_words_ask.Goals as goal

pub returns : goal.returns
returns c = customary
