use Rattle.cpa_top_words.proofs.Benches.{benches_are_small}
use Rattle.cpa_top_words.proofs.laws.words_ask_for_small_benches.Goals as goal

pub returns : goal.returns
returns c words n asks = benches_are_small words n asks.asked
