use Rattle.cpa_config.proofs.OneAnswer.{one_answer}
use Rattle.cpa_config.proofs.laws.texts_have_one_answer.Goals as goal

pub returns : goal.returns
returns c = one_answer
