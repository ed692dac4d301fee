-- What a call of the program may answer, and why (this project's own).
use Rattle.std.specs.Prelude.{◌≡◌, ◌≢◌, ◌⊎◌, ℕ, List, length, Option}
use Rattle.cpa_model.specs.declared.program.Program.{Program}
use Rattle.cpa_model.specs.declared.automaton.Cfa.{Cfa}
use Rattle.cpa_model.specs.declared.facts.Elem.{Elem}
use Rattle.cpa_model.specs.Automata.{IsAutomatonOf}
use Rattle.cpa_model.specs.Covers.{IsCover, IsSafe}
use Rattle.cpa_iface.specs.Meanings.{Meaning}
use Rattle.cpa_ints.specs.declared.data_model.DataModel.TheVariants.{Lp64}
use Rattle.c_program.specs.Programs.{IsTheProgram}
use Rattle.cpa_composite.specs.Components.{picked}
use Rattle.cpa_config.specs.declared.config.Config.{Config}
use Rattle.cpa_config.specs.Configurations.{Configures}
use Rattle.cpa_engine.specs.declared.answers.Answer.TheVariants as answer
use Rattle.cpa_engine.specs.declared.answers.Why.{Why}
use Rattle.cpa_engine.specs.Answers.{IsWhy}
use Rattle.cpa_report_print.specs.declared.report.Verdict.TheVariants as verdict
use Rattle.cpa_report_print.specs.Reports.{report_text}
use Rattle.cpa_top_bench.specs.Measurements.{bench_line}
use Rattle.cpa_top_bench.specs.Texts.{bench_text}
use Rattle.cpa_top_recheck.specs.Findings.{IsConfirmation, IsRefutation, IsUndecided}
use Rattle.cpa_top_verdict.specs.Reports.{IsSafeReport, IsErrorReport, IsTextOf}
use Rattle.cpa_top_verdict.specs.Verdicts.{report_of}
use Rattle.cpa_top_words.specs.Jobs.{Job, Asks, IsNoJob, verify, recheck, bench}
use Rattle.cpa_top_jobs.specs.declared.status.Status.{Status}
use Rattle.cpa_top_jobs.specs.declared.status.Status.TheVariants as status
use Rattle.cpa_top.specs.Calls.{Call, Output, IsWhole, IsCutOff}
use Rattle.cpa_top_jobs.specs.Ends.{Stops, Ends, IsShortOfMemory, IsMeasuredBy, config_bytes}
use Rattle.cpa_top_jobs.specs.Files.{NoReadFailed, HoldsOf}
use Rattle.cpa_top_jobs.specs.Jobs.{stages_of, names_of}
use Rattle.cpa_top_jobs.specs.Lines.{usage_text}
use Rattle.cpa_top_jobs.specs.Statuses.{code_of}

-- ---- answers

-- no job is asked for
pub record IsUsage (words : List (List ℕ)) (with : Status) (text : List ℕ) : Type 0 where
  pub none : IsNoJob words
  pub status : with ≡ status.Usage
  pub text_is : text ≡ usage_text

-- the job that is asked for stops at a stage or comes to its end
pub record DoesJob (call : Call) (with : Status) (text : List ℕ) : Type 0 where
  pub job : Job
  pub asked : Asks call.words job
  pub done : Stops call.files (stages_of call.analyses job) with text
      ⊎ Ends call.files call.analyses job with text

-- What may be written, with which status: one rule for the words, one for memory, and for each
-- other status that of its stage or of the job's end. An answer other than that of a failed read
-- comes only where no read failed.
pub record MayAnswer (call : Call) (with : Status) (text : List ℕ) : Type 0 where
  pub rule : IsUsage call.words with text ⊎ (IsShortOfMemory with text ⊎ DoesJob call with text)
  pub reads : with ≢ status.ReadFailed → NoReadFailed call.files

-- the answer's text was written whole, or cut off, and the number says which
abbrev pub IsDelivered : Status → List ℕ → Output → ℕ → Type 0
IsDelivered with text output code =
    (IsWhole output text × (code ≡ code_of with))
    ⊎ (IsCutOff output text × (code ≡ code_of status.WriteFailed))

-- The call answers this number: that of a text that was written whole, and then no write failed, or
-- that of a failed write, behind a prefix of a text.
pub record Answers (call : Call) (output : Output) (code : ℕ) : Type 0 where
  pub with : Status
  pub text : List ℕ
  pub may : MayAnswer call with text
  pub delivered : (IsWhole output text × (code ≡ code_of with))
      ⊎ (IsCutOff output text × (code ≡ code_of status.WriteFailed))

-- ---- verdicts, in the words of the headline

-- TRUE: the text is the report of a safe program, the one program of the bytes in the data model of
-- the configuration, with an element of each analysis that it picks.
pub record IsSafeText (analyses : List Meaning) (said bytes text : List ℕ) : Type 0 where
  pub config : Config
  pub configures : Configures said (names_of analyses) config
  pub program : Program
  pub is : IsTheProgram config.model bytes program
  pub report : IsTextOf (IsSafeReport config.model (length config.picks) program) text

-- FALSE: the text is the report of inputs and steps: the execution of the one program of the bytes
-- in the data model of the configuration that takes exactly these inputs calls reach_error after so
-- many steps.
pub record IsCalledText (analyses : List Meaning) (said bytes text : List ℕ) : Type 0 where
  pub config : Config
  pub configures : Configures said (names_of analyses) config
  pub program : Program
  pub is : IsTheProgram config.model bytes program
  pub report : IsTextOf (IsErrorReport config.model program) text

-- UNKNOWN: the text is the report of why there is no verdict on the one program of the bytes in
-- the data model of the configuration, with what is kept of it.
pub record IsUnknownText (analyses : List Meaning) (said bytes text : List ℕ) : Type 0 where
  pub config : Config
  pub configures : Configures said (names_of analyses) config
  pub program : Program
  pub is : IsTheProgram config.model bytes program
  pub automaton : Cfa
  pub edges : IsAutomatonOf program automaton
  pub why : Why
  pub says : IsWhy automaton (picked analyses config.picks) config why
  pub report : text ≡ report_text
      (report_of config.model program automaton (answer.Unknown why))

-- TRUE of a measurement: the line has the counts of the automaton of its text's one program, and of
-- entries that cover this program, so that no execution calls reach_error.
pub record IsSafeLine (functions : ℕ) (line : List ℕ) : Type 0 where
  pub program : Program
  pub is : IsTheProgram Lp64 (bench_text functions) program
  pub automaton : Cfa
  pub edges : IsAutomatonOf program automaton
  pub entries : List (List Elem)
  pub cover : IsCover program entries
  pub safe : IsSafe program entries
  pub line_is : line ≡ bench_line functions (record {
    points = automaton.points;
    edges = length automaton.edges;
    entries = length entries;
    verdict = verdict.True;
  })

-- The line of a measurement of so many functions was written whole, and the number is that of its
-- verdict.
pub record IsLineWritten (call : Call) (output : Output) (functions code : ℕ) : Type 0 where
  pub with : Status
  pub line : List ℕ
  pub whole : IsWhole output line
  pub code_is : code ≡ code_of with
  pub is : IsMeasuredBy call.analyses functions with line
  pub safe : code ≡ 0 → IsSafeLine functions line

-- A text was written whole that is as is said of a verdict, over the bytes of the configuration and
-- of the named program, which are those that are told where they are told.
pub record IsWritten (call : Call) (output : Output) (name : List ℕ) (file : Option (List ℕ))
    (Is : List Meaning → List ℕ → List ℕ → List ℕ → Type 0) : Type 0 where
  pub text : List ℕ
  pub whole : IsWhole output text
  pub is : HoldsOf (config_bytes call.files.bytes_of file) (λ said.
      HoldsOf (call.files.bytes_of name) (λ bytes. Is call.analyses said bytes text))

-- so it is of each call that is asked to verify
abbrev pub OnVerify : (List Meaning → List ℕ → List ℕ → List ℕ → Type 0) → Call → Output → Type 0
OnVerify Is call output =
    (name : List ℕ) (file : Option (List ℕ)) → Asks call.words (verify name file)
    → IsWritten call output name file Is

-- and of each that is asked for a measurement
abbrev pub OnBench : Call → Output → ℕ → Type 0
OnBench call output code =
    (functions : ℕ) → Asks call.words (bench functions) → IsLineWritten call output functions code

-- ---- rechecks, in the words of the headline

-- CONFIRMED: the entries of the report, which is one of the one program of the bytes in the data
-- model of the configuration, are a cover of it.
pub record IsConfirmedText (analyses : List Meaning) (said bytes list text : List ℕ) : Type 0 where
  pub config : Config
  pub configures : Configures said (names_of analyses) config
  pub program : Program
  pub is : IsTheProgram config.model bytes program
  pub shows : IsConfirmation config.model program list text

-- REFUSED: the state of the text breaks the obligation that it names of the entries of the report.
pub record IsRefutedText (analyses : List Meaning) (said bytes list text : List ℕ) : Type 0 where
  pub config : Config
  pub configures : Configures said (names_of analyses) config
  pub program : Program
  pub is : IsTheProgram config.model bytes program
  pub shows : IsRefutation config.model program list text

-- UNKNOWN: what the configuration allows was spent on the obligation that the text names.
pub record IsUndecidedText (analyses : List Meaning) (said bytes list text : List ℕ) : Type 0 where
  pub config : Config
  pub configures : Configures said (names_of analyses) config
  pub program : Program
  pub is : IsTheProgram config.model bytes program
  pub shows : IsUndecided config.model program config.settings list text

-- A text was written whole that is as is said of a recheck, over the bytes of the configuration, of
-- the named program and of its report, which are those that are told where they are told.
pub record AreRechecked (call : Call) (output : Output) (name list : List ℕ)
    (file : Option (List ℕ)) (Is : List Meaning → List ℕ → List ℕ → List ℕ → List ℕ → Type 0)
    : Type 0 where
  pub text : List ℕ
  pub whole : IsWhole output text
  pub is : HoldsOf (config_bytes call.files.bytes_of file) (λ said.
      HoldsOf (call.files.bytes_of name) (λ bytes.
      HoldsOf (call.files.bytes_of list) (λ report. Is call.analyses said bytes report text)))

-- so it is of each call that is asked to recheck
abbrev pub OnRecheck : (List Meaning → List ℕ → List ℕ → List ℕ → List ℕ → Type 0) → Call → Output
    → Type 0
OnRecheck Is call output =
    (name list : List ℕ) (file : Option (List ℕ)) → Asks call.words (recheck name list file)
    → AreRechecked call output name list file Is
