use Rattle.cpa_top_words.proofs.TakenWords.{taken_words_ask}
use Rattle.cpa_top_words.proofs.laws.taken_words_ask_for_a_job.Goals as goal

pub returns : goal.returns
returns c = taken_words_ask
