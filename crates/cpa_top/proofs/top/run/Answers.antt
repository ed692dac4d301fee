use Rattle.std.proofs.Common.{arith}
use Rattle.cpa_top.specs.Answers.{IsSafeText, IsCalledText, IsUnknownText, IsConfirmedText}
use Rattle.cpa_top.specs.Answers.{IsRefutedText, IsUndecidedText}
use Rattle.cpa_top.proofs.Findings.{texts_written, confirmed_text, refuted_text, undecided_text}
use Rattle.cpa_top.proofs.Headline.{written, safe_text, called_text, unknown_text}
use Rattle.cpa_top.proofs.Measurements.{line_written}
use Rattle.cpa_top.proofs.top.run.Goals as goal

pub returns-clause-safe : goal.returns-clause-safe
returns-clause-safe g c = λ is name file asked.
    written c.words_ask_for_one_job.ensures 0 (omega arith) _ _ _ _ _ name file IsSafeText
    (safe_text c.true_is_safe.ensures.told c.picks_are_places.ensures.places
    c.picks_are_places.ensures.components _ _ _)
    (rw c.as_slice.ensures.value at c.answer-answer.ensures)
    c.deliver.ensures is asked

pub returns-clause-called : goal.returns-clause-called
returns-clause-called g c = λ is name file asked.
    written c.words_ask_for_one_job.ensures 1 (omega arith) _ _ _ _ _ name file IsCalledText
    (called_text c.false_calls_the_error.ensures.told _ _ _)
    (rw c.as_slice.ensures.value at c.answer-answer.ensures)
    c.deliver.ensures is
    asked

pub returns-clause-unknown : goal.returns-clause-unknown
returns-clause-unknown g c = λ is name file asked.
    written c.words_ask_for_one_job.ensures 2 (omega arith) _ _ _ _ _ name file IsUnknownText
    (unknown_text _ _ _) (rw c.as_slice.ensures.value at c.answer-answer.ensures)
    c.deliver.ensures is asked

pub returns-clause-confirmed : goal.returns-clause-confirmed
returns-clause-confirmed g c = λ is name list file asked.
    texts_written c.words_ask_for_one_job.ensures 0 (omega arith) _ _ _ _ _ name list file
    IsConfirmedText
    (λ said bytes report. confirmed_text _ _ _ said bytes report c.checks_tell.ensures.confirmed)
    (rw c.as_slice.ensures.value at c.answer-answer.ensures) c.deliver.ensures is asked

pub returns-clause-refuted : goal.returns-clause-refuted
returns-clause-refuted g c = λ is name list file asked.
    texts_written c.words_ask_for_one_job.ensures 1 (omega arith) _ _ _ _ _ name list file
    IsRefutedText
    (λ said bytes report. refuted_text _ _ _ said bytes report c.checks_tell.ensures.refused)
    (rw c.as_slice.ensures.value at c.answer-answer.ensures) c.deliver.ensures is asked

pub returns-clause-undecided : goal.returns-clause-undecided
returns-clause-undecided g c = λ is name list file asked.
    texts_written c.words_ask_for_one_job.ensures 2 (omega arith) _ _ _ _ _ name list file
    IsUndecidedText
    (λ said bytes report. undecided_text _ _ _ said bytes report c.checks_tell.ensures.undecided)
    (rw c.as_slice.ensures.value at c.answer-answer.ensures) c.deliver.ensures is asked

pub returns-clause-measured : goal.returns-clause-measured
returns-clause-measured g c = λ few functions asked.
    line_written c.words_ask_for_one_job.ensures c.true_is_safe.ensures.answer _ _ _ _ _ functions
    (rw c.as_slice.ensures.value at c.answer-answer.ensures) c.deliver.ensures few asked
