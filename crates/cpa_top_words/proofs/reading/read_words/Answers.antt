use Rattle.std.proofs.Common.{rules, ◌≡◌, inl, inr, Option, None, Some}
use Rattle.cpa_top_words.specs.Jobs.{Job}
use Rattle.cpa_top_words.proofs.reading.read_words.Goals as goal

none_is_no_job : (o : Option Job) (job : Job) → o ≡ None → o ≡ Some job → ⊥
none_is_no_job o job none some = absurd (cc)

pub returns-in-Ok-clause-refused : goal.returns-in-Ok-clause-refused
returns-in-Ok-clause-refused c = search rules

pub returns-in-Err-clause-refused : goal.returns-in-Err-clause-refused
returns-in-Err-clause-refused c is job asks =
    elim (c.in-Err.ensures.refused is) [
      | inl not_taken ↦ not_taken asks.taken
      | inr none ↦ none_is_no_job _ job none asks.asked
    ]
