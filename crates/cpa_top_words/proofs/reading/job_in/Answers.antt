use Rattle.std.proofs.Common.{inl}
use Rattle.cpa_top_words.proofs.reading.job_in.Goals as goal

pub returns-in-Err-clause-refused : goal.returns-in-Err-clause-refused
returns-in-Err-clause-refused c is =
    inl (λ none. c.fault_of.ensures is (c.in-Err.ensures.failed none))
