-- What a call that is asked for a measurement has written where it answers 0, 1 or 2.
use Rattle.std.proofs.Common.{◌≡◌, ℕ, ◌≤◌, List, length, map, refl, sym, ap, ◌∙◌, subst, ⊎_elim}
use Rattle.std.proofs.Common.{arith}
use Rattle.std.proofs.lemmas.List.{length-map}
use Rattle.cpa_model.specs.declared.automaton.Cfa.{Cfa}
use Rattle.cpa_model.specs.declared.program.Program.{Program}
use Rattle.cpa_model.specs.Automata.{IsAutomatonOf}
use Rattle.cpa_model.specs.Programs.{IsWellFormed}
use Rattle.cpa_iface.specs.declared.entries.Entry.{Entry}
use Rattle.cpa_iface.specs.Meanings.{Meaning}
use Rattle.cpa_composite.specs.Components.{Component, picked}
use Rattle.cpa_config.specs.declared.config.Config.{Config}
use Rattle.cpa_engine.specs.declared.answers.Answer.{Answer}
use Rattle.cpa_engine.specs.declared.answers.Answer.TheVariants as answer
use Rattle.cpa_engine.specs.Answers.{IsAnswer}
use Rattle.cpa_report_print.specs.declared.report.Body.TheVariants as body
use Rattle.cpa_report_print.specs.declared.report.Listed.{Listed}
use Rattle.cpa_report_print.specs.declared.report.Verdict.{Verdict}
use Rattle.cpa_report_print.specs.declared.report.Verdict.TheVariants as verdict
use Rattle.cpa_report_print.specs.Reports.{verdict_of}
use Rattle.cpa_top_bench.specs.declared.measuring.Measured.{Measured}
use Rattle.cpa_top_bench.specs.Measurements.{bench_line, count_of}
use Rattle.cpa_top_verdict.specs.Reports.{IsSafeReport}
use Rattle.cpa_top_verdict.specs.Verdicts.{body_of, listed, listed_entry, report_of}
use Rattle.cpa_top_words.specs.Jobs.{bench, Asks}
use Rattle.cpa_top_jobs.specs.declared.status.Status.{Status}
use Rattle.cpa_top.specs.Answers.{IsLineWritten, IsSafeLine, MayAnswer, IsDelivered}
use Rattle.cpa_top_jobs.specs.Ends.{IsMeasuredBy}
use Rattle.cpa_top.specs.Calls.{Call, Output}
use Rattle.cpa_top_jobs.specs.Statuses.{code_of}
use Rattle.cpa_top.proofs.Headline.{AskForOneJob, concluded, number_of, unknown_number}

-- entries that prove a program safe make a report of TRUE
abbrev pub ProofsAreSafe : Type 0
ProofsAreSafe =
    (P : Program) (cfa : Cfa) (cs : List Component) (config : Config) (entries : List Entry)
    → IsWellFormed P → IsAutomatonOf P cfa → IsAnswer cfa cs config (answer.True entries)
    → IsSafeReport config.model (length cs) P
    (report_of config.model P cfa (answer.True entries))

-- the number of TRUE is that of entries alone
true_answer : (a : Answer) → number_of (verdict_of (body_of a)) ≡ 0
    → (entries : List Entry) × (a ≡ answer.True entries)
true_answer (answer.True entries) zero = (entries, refl)
true_answer (answer.False inputs steps) zero = absurd (omega (arith, zero))
true_answer (answer.Unknown why) zero =
    absurd (let two = unknown_number why in omega (arith, two, zero))

same_listed : (xs ys : List Listed) → body.True xs ≡ body.True ys → xs ≡ ys
same_listed xs ys e = cc

-- a line is that of what it counts
same_line : (functions : ℕ) (m : Measured) (points edges entries : ℕ) (v : Verdict)
    → m.points ≡ points → m.edges ≡ edges → m.entries ≡ entries → m.verdict ≡ v
    → bench_line functions m
    ≡ bench_line functions
    (record { points = points; edges = edges; entries = entries; verdict = v })
same_line functions m points edges entries v p e n s = rw (p, e, n, s) refl

safe_line : ProofsAreSafe → (analyses : List Meaning) (functions : ℕ) (with : Status)
    (line : List ℕ) → code_of with ≡ 0 → IsMeasuredBy analyses functions with line
    → IsSafeLine functions line
safe_line are_safe analyses functions with line zero m =
    let v = m.measures in
    let found = true_answer v.answer
    (sym (ap number_of v.verdict) ∙ sym (ap code_of m.status) ∙ zero) in
    let shown = are_safe m.program v.automaton (picked analyses m.config.picks) m.config found.0
    m.is.well_formed v.is
    (subst (IsAnswer v.automaton (picked analyses m.config.picks) m.config) found.1 v.says) in
    let same : length found.0 ≡ length (map (λ (entry : Listed). entry.elems) shown.entries) =
    sym (length-map found.0 listed_entry)
    ∙ ap (λ (xs : List Listed). length xs)
    (same_listed (listed found.0) shown.entries shown.body_is)
    ∙ sym (length-map shown.entries (λ (entry : Listed). entry.elems)) in
    record {
      program = m.program;
      is = m.is;
      automaton = v.automaton;
      edges = v.is;
      entries = map (λ (entry : Listed). entry.elems) shown.entries;
      cover = shown.cover;
      safe = shown.safe;
      line_is =
          m.line_is
          ∙ same_line functions m.measured v.automaton.points (length v.automaton.edges)
          (length (map (λ (entry : Listed). entry.elems) shown.entries)) verdict.True v.points
          v.edges (v.entries ∙ ap count_of found.1 ∙ same)
          (v.verdict ∙ ap (λ (a : Answer). verdict_of (body_of a)) found.1);
    }

pub line_written : AskForOneJob → ProofsAreSafe → (call : Call) (output : Output) (with : Status)
    (text : List ℕ) (code functions : ℕ) → MayAnswer call with text
    → IsDelivered with text output code → code ≤ 2 → Asks call.words (bench functions)
    → IsLineWritten call output functions code
line_written one_job are_safe call output with text code functions may delivered few asked =
    ⊎_elim
    (λ whole.
    let number : code ≡ code_of with = whole.1 in
    let is : IsMeasuredBy call.analyses functions with text =
    concluded one_job call with text (bench functions) (omega (arith, number, few)) asked may in
    record {
      with = with;
      line = text;
      whole = whole.0;
      code_is = number;
      is = is;
      safe = λ zero.
          safe_line are_safe call.analyses functions with text (sym number ∙ zero) is;
    })
    (λ cut. absurd (let nine = cut.1 in omega (arith, nine, few)))
    delivered
