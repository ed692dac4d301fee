use Rattle.std.proofs.Common.{refl, map, subst}
use Rattle.std.specs.String.{string_bytes}
use Rattle.cpa_top_words.specs.Jobs.{bench, replay, meant, Asks}
use Rattle.cpa_top.proofs.Answering.{may_answer, may_tell_usage}
use Rattle.cpa_top.proofs.answers.answer.Goals as goal

pub returns-in-Ok-Replay : goal.returns-in-Ok-Replay
returns-in-Ok-Replay g c =
    let job = c.in-Ok-Replay in
    may_answer _ (replay job.program.now job.list.now job.steps job.model) c.replay.result
    (subst (λ j. Asks (map string_bytes c.args.words.now) (meant j)) job.field-0-is
    job.ensures.asked)
    (c.replay.ensures _)

pub bench-requires : goal.bench-requires
bench-requires g c =
    let job = c.in-Ok-Bench in
    c.words_ask_for_small_benches.ensures (map string_bytes c.args.words.now) job.count
    (subst (λ j. Asks (map string_bytes c.args.words.now) (meant j)) job.field-0-is
    job.ensures.asked)

pub returns-in-Ok-Bench : goal.returns-in-Ok-Bench
returns-in-Ok-Bench g c =
    let job = c.in-Ok-Bench in
    may_answer _ (bench job.count) c.bench.result
    (subst (λ j. Asks (map string_bytes c.args.words.now) (meant j)) job.field-0-is
    job.ensures.asked)
    (c.bench.ensures _ refl)

pub returns-in-Err-Refused : goal.returns-in-Err-Refused
returns-in-Err-Refused g c =
    may_tell_usage _ (c.in-Err-Refused.ensures.refused c.in-Err-Refused.field-0-is) refl
