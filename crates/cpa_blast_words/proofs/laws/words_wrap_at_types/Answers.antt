use Rattle.cpa_blast_words.specs.Laws.{words_wrap, words_are_equal, words_compare, words_cast}
use Rattle.cpa_blast_words.proofs.laws.words_wrap_at_types.Goals as goal

pub returns-clause-wrap : goal.returns-clause-wrap
returns-clause-wrap c = words_wrap

pub returns-clause-equal : goal.returns-clause-equal
returns-clause-equal c = words_are_equal

pub returns-clause-compare : goal.returns-clause-compare
returns-clause-compare c = words_compare

pub returns-clause-cast : goal.returns-clause-cast
returns-clause-cast c = words_cast
