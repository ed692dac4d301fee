-- The headline: what a call that is asked to verify has written where it answers 0, 1 or 2.
use Rattle.std.proofs.Common.{◌≡◌, ℕ, ◌≤◌, List, length, refl, sym, ap, ◌∙◌, subst, ⊎_elim}
use Rattle.std.proofs.Common.{arith}
use Rattle.std.proofs.lemmas.List.{length-map}
use Rattle.std.specs.Prelude.{Option}
use Rattle.cpa_model.specs.declared.program.Program.{Program}
use Rattle.cpa_model.specs.Programs.{IsWellFormed}
use Rattle.cpa_iface.specs.declared.merging.Pick.{Pick}
use Rattle.cpa_iface.specs.Meanings.{Meaning}
use Rattle.cpa_composite.specs.Components.{ArePlaces, Component, picked}
use Rattle.cpa_config.specs.declared.config.Config.{Config}
use Rattle.cpa_config.specs.Configurations.{Configures}
use Rattle.cpa_engine.specs.declared.answers.Answer.{Answer}
use Rattle.cpa_engine.specs.declared.answers.Answer.TheVariants as answer
use Rattle.cpa_engine.specs.declared.answers.Why.{Why}
use Rattle.cpa_engine.specs.declared.answers.Why.TheVariants as why
use Rattle.cpa_engine.specs.Answers.{IsAnswer}
use Rattle.cpa_report_print.specs.declared.report.Verdict.{Verdict}
use Rattle.cpa_report_print.specs.declared.report.Verdict.TheVariants as verdict
use Rattle.cpa_report_print.specs.Reports.{report_text, verdict_of}
use Rattle.cpa_top_verdict.specs.declared.reporting.Told.{Told}
use Rattle.cpa_top_verdict.specs.Reports.{IsSafeReport, IsErrorReport, IsTextOf}
use Rattle.cpa_top_verdict.specs.Verdicts.{IsTold, body_of, body_of_why, report_of}
use Rattle.cpa_top_words.specs.Jobs.{Job, verify, Asks}
use Rattle.cpa_top_jobs.specs.declared.status.Status.{Status}
use Rattle.cpa_top_jobs.specs.declared.status.Status.TheVariants as status
use Rattle.cpa_top.specs.Answers.{MayAnswer, DoesJob, IsWritten, IsUsage, IsSafeText, IsCalledText}
use Rattle.cpa_top.specs.Answers.{IsUnknownText, IsDelivered}
use Rattle.cpa_top_jobs.specs.Ends.{Stops, Ends, Refuses, Concludes, IsShortOfMemory, IsVerified}
use Rattle.cpa_top_jobs.specs.Ends.{config_bytes}
use Rattle.cpa_top.specs.Calls.{Call, Output}
use Rattle.cpa_top_jobs.specs.Files.{Files, HoldsOf}
use Rattle.cpa_top_jobs.specs.Jobs.{Stage, reading, parsing, listing, matching, configuring}
use Rattle.cpa_top_jobs.specs.Jobs.{picking, composing, stages_of, names_of}
use Rattle.cpa_top_jobs.specs.Statuses.{code_of, verdict_status}

-- ---- the laws that are called

-- words ask for one job
abbrev pub AskForOneJob : Type 0
AskForOneJob = (words : List (List ℕ)) (j k : Job) → Asks words j → Asks words k → j ≡ k

-- TRUE is told of safe programs
abbrev pub TrueIsSafe : Type 0
TrueIsSafe =
    (P : Program) (cs : List Component) (config : Config) (told : Told) → IsWellFormed P
    → IsTold P cs config told → told.verdict ≡ verdict.True
    → IsTextOf (IsSafeReport config.model (length cs) P) told.text.items

-- FALSE is told of programs that call the error
abbrev pub FalseCalls : Type 0
FalseCalls =
    (P : Program) (cs : List Component) (config : Config) (told : Told) → IsWellFormed P
    → IsTold P cs config told → told.verdict ≡ verdict.False
    → IsTextOf (IsErrorReport config.model P) told.text.items

-- a configuration picks handed analyses
abbrev pub PicksArePlaces : Type 0
PicksArePlaces =
    (text : List ℕ) (handed : List (List ℕ)) (config : Config) → Configures text handed config
    → ArePlaces (length handed) config.picks

abbrev pub PicksMakeComponents : Type 0
PicksMakeComponents =
    (ms : List Meaning) (picks : List Pick) → ArePlaces (length ms) picks
    → length (picked ms picks) ≡ length picks

-- ---- what the number of a verdict says

abbrev pub number_of : Verdict → ℕ
number_of v = code_of (verdict_status v)

pub unknown_number : (w : Why) → number_of (verdict_of (body_of_why w)) ≡ 2
unknown_number (why.Turns journal) = refl
unknown_number (why.Rounds path history) = refl
unknown_number (why.Learnt path lines) = refl
unknown_number (why.Gates path weight) = refl
unknown_number (why.NoNew path precisions) = refl

told_true : (a : Answer) (v : Verdict) → v ≡ verdict_of (body_of a) → number_of v ≡ 0
    → v ≡ verdict.True
told_true (answer.True entries) v is zero = is
told_true (answer.False inputs steps) v is zero =
    let one : 1 ≡ 0 = sym (ap number_of is) ∙ zero in absurd (omega (arith, one))
told_true (answer.Unknown w) v is zero =
    let two : 2 ≡ 0 = sym (unknown_number w) ∙ sym (ap number_of is) ∙ zero in
    absurd (omega (arith, two))

told_false : (a : Answer) (v : Verdict) → v ≡ verdict_of (body_of a) → number_of v ≡ 1
    → v ≡ verdict.False
told_false (answer.True entries) v is one =
    let zero : 0 ≡ 1 = sym (ap number_of is) ∙ one in absurd (omega (arith, zero))
told_false (answer.False inputs steps) v is one = is
told_false (answer.Unknown w) v is one =
    let two : 2 ≡ 1 = sym (unknown_number w) ∙ sym (ap number_of is) ∙ one in
    absurd (omega (arith, two))

told_unknown : (a : Answer) (v : Verdict) → v ≡ verdict_of (body_of a) → number_of v ≡ 2
    → (w : Why) × (a ≡ answer.Unknown w)
told_unknown (answer.True entries) v is two =
    let zero : 0 ≡ 2 = sym (ap number_of is) ∙ two in absurd (omega (arith, zero))
told_unknown (answer.False inputs steps) v is two =
    let one : 1 ≡ 2 = sym (ap number_of is) ∙ two in absurd (omega (arith, one))
told_unknown (answer.Unknown w) v is two = (w, refl)

-- ---- what a verified text is

pub safe_text : TrueIsSafe → PicksArePlaces → PicksMakeComponents → (analyses : List Meaning)
    (with : Status) (text said bytes : List ℕ) → code_of with ≡ 0
    → IsVerified analyses said bytes with text → IsSafeText analyses said bytes text
safe_text safe places components analyses with text said bytes zero v =
    let same : length (names_of analyses) ≡ length analyses =
    length-map analyses (λ (m : Meaning). m.name) in
    let inside : ArePlaces (length analyses) v.config.picks =
    subst (λ (n : ℕ). ArePlaces n v.config.picks) same
    (places said (names_of analyses) v.config v.configures) in
    let holds = told_true v.tells.answer v.told.verdict v.tells.verdict
    (sym (ap code_of v.status) ∙ zero) in
    let reported = safe v.program (picked analyses v.config.picks) v.config v.told
    v.is.well_formed v.tells holds in
    record {
      config = v.config;
      configures = v.configures;
      program = v.program;
      is = v.is;
      report =
          subst (λ (n : ℕ). IsTextOf (IsSafeReport v.config.model n v.program) text)
          (components analyses v.config.picks inside)
          (subst (IsTextOf
          (IsSafeReport v.config.model (length (picked analyses v.config.picks)) v.program))
          (sym v.text_is) reported);
    }

pub called_text : FalseCalls → (analyses : List Meaning) (with : Status)
    (text said bytes : List ℕ) → code_of with ≡ 1 → IsVerified analyses said bytes with text
    → IsCalledText analyses said bytes text
called_text calls analyses with text said bytes one v =
    let fails = told_false v.tells.answer v.told.verdict v.tells.verdict
    (sym (ap code_of v.status) ∙ one) in
    record {
      config = v.config;
      configures = v.configures;
      program = v.program;
      is = v.is;
      report =
          subst (IsTextOf (IsErrorReport v.config.model v.program)) (sym v.text_is)
          (calls v.program (picked analyses v.config.picks) v.config v.told v.is.well_formed
          v.tells fails);
    }

pub unknown_text : (analyses : List Meaning) (with : Status) (text said bytes : List ℕ)
    → code_of with ≡ 2 → IsVerified analyses said bytes with text
    → IsUnknownText analyses said bytes text
unknown_text analyses with text said bytes two v =
    let found = told_unknown v.tells.answer v.told.verdict v.tells.verdict
    (sym (ap code_of v.status) ∙ two) in
    record {
      config = v.config;
      configures = v.configures;
      program = v.program;
      is = v.is;
      automaton = v.tells.automaton;
      edges = v.tells.is;
      why = found.0;
      says =
          subst
          (IsAnswer v.tells.automaton (picked analyses v.config.picks) v.config) found.1
          v.tells.says;
      report =
          v.text_is ∙ v.tells.text
          ∙ ap (λ (a : Answer).
          report_text (report_of v.config.model v.program v.tells.automaton a)) found.1;
    }

-- ---- what a call came to

-- a refusal's number is none of a verdict
refused_number : (files : Files) (with : Status) (line : List ℕ) (stage : Stage)
    → Refuses files with line stage → code_of with ≤ 2 → ⊥
refused_number files status.Holds line (reading which name) h few = h
refused_number files status.Holds line (parsing source name) h few = h
refused_number files status.Holds line (listing name) h few = h
refused_number files status.Holds line (matching source name report) h few = h
refused_number files status.Holds line (configuring names file) h few = h
refused_number files status.Holds line (picking names) h few = h
refused_number files status.Holds line (composing functions) h few = h
refused_number files status.Fails line (reading which name) h few = h
refused_number files status.Fails line (parsing source name) h few = h
refused_number files status.Fails line (listing name) h few = h
refused_number files status.Fails line (matching source name report) h few = h
refused_number files status.Fails line (configuring names file) h few = h
refused_number files status.Fails line (picking names) h few = h
refused_number files status.Fails line (composing functions) h few = h
refused_number files status.Unknown line (reading which name) h few = h
refused_number files status.Unknown line (parsing source name) h few = h
refused_number files status.Unknown line (listing name) h few = h
refused_number files status.Unknown line (matching source name report) h few = h
refused_number files status.Unknown line (configuring names file) h few = h
refused_number files status.Unknown line (picking names) h few = h
refused_number files status.Unknown line (composing functions) h few = h
refused_number files status.Usage line stage h few = absurd (omega (arith, few))
refused_number files status.ReadFailed line stage h few = absurd (omega (arith, few))
refused_number files status.TooLong line stage h few = absurd (omega (arith, few))
refused_number files status.NoProgram line stage h few = absurd (omega (arith, few))
refused_number files status.NoConfig line stage h few = absurd (omega (arith, few))
refused_number files status.NoInputs line stage h few = absurd (omega (arith, few))
refused_number files status.NoReport line stage h few = absurd (omega (arith, few))
refused_number files status.WriteFailed line stage h few = absurd (omega (arith, few))
refused_number files status.OutOfMemory line stage h few = absurd (omega (arith, few))

-- what was asked for came to its end
pub concluded : AskForOneJob → (call : Call) (with : Status) (text : List ℕ) (asked_for : Job)
    → code_of with ≤ 2 → Asks call.words asked_for → MayAnswer call with text
    → Concludes call.files call.analyses asked_for with text
concluded one_job call with text asked_for few asked may =
    ⊎_elim
    (λ (usage : IsUsage call.words with text).
    absurd (let three = ap code_of usage.status in omega (arith, three, few)))
    (λ more. ⊎_elim
    (λ (memory : IsShortOfMemory with text).
    absurd (let ten = ap code_of memory.status in omega (arith, ten, few)))
    (λ (does : DoesJob call with text). ⊎_elim
    (λ (stop : Stops call.files (stages_of call.analyses does.job) with text).
    absurd (refused_number call.files with text stop.stage stop.refused few))
    (λ (end : Ends call.files call.analyses does.job with text).
    subst (λ (j : Job). Concludes call.files call.analyses j with text)
    (one_job call.words does.job asked_for does.asked asked) end.concludes)
    does.done)
    more)
    may.rule

-- what holds of two texts gives what it implies
both_weaker : (first second : Option (List ℕ)) (Has Is : List ℕ → List ℕ → Type 0)
    → ((s b : List ℕ) → Has s b → Is s b) → HoldsOf first (λ s. HoldsOf second (Has s))
    → HoldsOf first (λ s. HoldsOf second (Is s))
both_weaker first second Has Is from has = record {
  bytes = has.bytes;
  same = has.same;
  holds = record {
    bytes = has.holds.bytes;
    same = has.holds.same;
    holds = from has.bytes has.holds.bytes has.holds.holds;
  };
}

-- where the call answers the number of a verdict, its text was written whole
pub written : AskForOneJob → (k : ℕ) → k ≤ 2 → (call : Call) (output : Output) (with : Status)
    (text : List ℕ) (code : ℕ) (name : List ℕ) (file : Option (List ℕ))
    (Is : List Meaning → List ℕ → List ℕ → List ℕ → Type 0)
    → ((said bytes : List ℕ) → code_of with ≡ k → IsVerified call.analyses said bytes with text
    → Is call.analyses said bytes text)
    → MayAnswer call with text → IsDelivered with text output code → code ≡ k
    → Asks call.words (verify name file) → IsWritten call output name file Is
written one_job k few call output with text code name file Is from may delivered is asked =
    ⊎_elim
    (λ whole.
    let number : code_of with ≡ k = sym whole.1 ∙ is in
    record {
      text = text;
      whole = whole.0;
      is =
          both_weaker (config_bytes call.files.bytes_of file) (call.files.bytes_of name)
          (λ said bytes. IsVerified call.analyses said bytes with text)
          (λ said bytes. Is call.analyses said bytes text)
          (λ said bytes v. from said bytes number v)
          (concluded one_job call with text (verify name file) (omega (arith, number, few)) asked
          may);
    })
    (λ cut. absurd (let nine = cut.1 in omega (arith, nine, is, few)))
    delivered
