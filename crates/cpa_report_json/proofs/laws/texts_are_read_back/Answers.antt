-- The lemma.
use Rattle.cpa_report_json.specs.lemmas.Readable.{readable}
use Rattle.cpa_report_json.proofs.laws.texts_are_read_back.Goals as goal

pub returns : goal.returns
returns c = readable
