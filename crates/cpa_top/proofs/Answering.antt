-- From what a job comes to, to what the call may answer.
use Rattle.std.proofs.Common.{refl, inl, inr, ⊎_elim}
use Rattle.std.specs.Prelude.{Result, Err}
use Rattle.cpa_top_words.specs.Jobs.{Job, Asks, IsNoJob}
use Rattle.cpa_top_jobs.specs.declared.conclusion.Conclusion.{Conclusion}
use Rattle.cpa_top_jobs.specs.declared.refusal.Refusal.{Refusal}
use Rattle.cpa_top_jobs.specs.declared.refusal.Refusal.TheVariants as refusal
use Rattle.cpa_top.specs.Answers.{MayAnswer}
use Rattle.cpa_top.specs.Calls.{Call}
use Rattle.cpa_top_jobs.specs.Files.{NoReadFailed}
use Rattle.cpa_top_jobs.specs.Refusals.{status_of, text_of, IsDone}

-- the job that is asked for was done
pub may_answer : (call : Call) (job : Job) (result : Result Conclusion Refusal)
    → Asks call.words job → IsDone call.files call.analyses job result
    → MayAnswer call (status_of result) (text_of result)
may_answer call job result asked done = record {
  rule =
      ⊎_elim (λ memory. inr (inl memory))
      (λ does. inr (inr (record { job = job; asked = asked; done = does }))) done.rule;
  reads = done.reads;
}

-- no job was asked for
pub may_tell_usage : (call : Call) → IsNoJob call.words → NoReadFailed call.files
    → MayAnswer call (status_of (Err refusal.Usage)) (text_of (Err refusal.Usage))
may_tell_usage call none steady = record {
  rule = inl (record { none = none; status = refl; text_is = refl });
  reads = λ n. steady;
}

-- memory ran out before a job was known
pub may_tell_memory : (call : Call) → NoReadFailed call.files
    → MayAnswer call (status_of (Err refusal.OutOfMemory)) (text_of (Err refusal.OutOfMemory))
may_tell_memory call steady = record {
  rule = inr (inl (record { status = refl; text_is = refl }));
  reads = λ n. steady;
}
