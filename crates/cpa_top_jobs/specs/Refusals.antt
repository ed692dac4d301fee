-- What the code answers before anything is written, and when it may (this project's own).
use Rattle.std.specs.Prelude.{◌≡◌, ◌≢◌, ◌⊎◌, ℕ, ◌≤◌, ℤ, List, length, Option, Result}
use Rattle.std.specs.Prelude.{Ok, Err}
use Rattle.std.specs.String.{string_bytes}
use Rattle.c_lexer.specs.declared.lexer.TheConstants.{MAX_TEXT}
use Rattle.cpa_ints.specs.declared.data_model.DataModel.{DataModel}
use Rattle.cpa_model.specs.declared.program.Program.{Program}
use Rattle.cpa_iface.specs.Meanings.{Meaning}
use Rattle.cpa_interp.specs.declared.outcome.Outcome.{Outcome}
use Rattle.cpa_interp.specs.Replays.{Replay}
use Rattle.cpa_composite.specs.Components.{picked}
use Rattle.cpa_config.specs.declared.config.Config.{Config}
use Rattle.cpa_top_bench.specs.declared.measuring.Measured.{Measured}
use Rattle.cpa_top_bench.specs.Configurations.{LacksOne}
use Rattle.cpa_top_bench.specs.Measurements.{IsMeasured, bench_line}
use Rattle.cpa_top_recheck.specs.declared.finding.Rechecked.{Rechecked}
use Rattle.cpa_top_recheck.specs.Lines.{report_line}
use Rattle.cpa_top_recheck.specs.Rechecks.{BreaksFor, IsRechecked}
use Rattle.cpa_top_verdict.specs.declared.reporting.Told.{Told}
use Rattle.cpa_top_verdict.specs.Verdicts.{IsTold}
use Rattle.cpa_top_words.specs.Jobs.{Job}
use Rattle.cpa_top_jobs.specs.declared.conclusion.Conclusion.{Conclusion}
use Rattle.cpa_top_jobs.specs.declared.refusal.Refusal.{Refusal}
use Rattle.cpa_top_jobs.specs.declared.refusal.Refusal.TheVariants as refusal
use Rattle.cpa_top_jobs.specs.declared.status.Status.{Status}
use Rattle.cpa_top_jobs.specs.declared.status.Status.TheVariants as status
use Rattle.cpa_top_jobs.specs.Ends.{Refuses, Stops, Ends, IsShortOfMemory, IsFaultLine}
use Rattle.cpa_top_jobs.specs.Ends.{IsConfigLine, NoInputs}
use Rattle.cpa_top_jobs.specs.Files.{Files, NoReadFailed, HoldsOf}
use Rattle.cpa_top_jobs.specs.Jobs.{Stage, stages_of}
use Rattle.cpa_top_jobs.specs.Lines.{usage_text, read_line, long_line, inputs_line, memory_line}
use Rattle.cpa_top_jobs.specs.Lines.{lacking_line, outcome_line}
use Rattle.cpa_top_jobs.specs.Statuses.{finding_status, outcome_status, verdict_status}

abbrev pub refusal_status : Refusal → Status
refusal_status refusal.Usage = status.Usage
refusal_status (refusal.ReadFailed which) = status.ReadFailed
refusal_status (refusal.TooLong which) = status.TooLong
refusal_status (refusal.NoProgram line) = status.NoProgram
refusal_status (refusal.NoConfig line) = status.NoConfig
refusal_status refusal.LacksAnalysis = status.NoConfig
refusal_status refusal.NoInputs = status.NoInputs
refusal_status (refusal.NoReport rule) = status.NoReport
refusal_status refusal.OutOfMemory = status.OutOfMemory

abbrev pub refusal_line : Refusal → List ℕ
refusal_line refusal.Usage = usage_text
refusal_line (refusal.ReadFailed which) = read_line which
refusal_line (refusal.TooLong which) = long_line which
refusal_line (refusal.NoProgram line) = string_bytes line
refusal_line (refusal.NoConfig line) = string_bytes line
refusal_line refusal.LacksAnalysis = lacking_line
refusal_line refusal.NoInputs = inputs_line
refusal_line (refusal.NoReport rule) = report_line rule
refusal_line refusal.OutOfMemory = memory_line

abbrev pub status_of : Result Conclusion Refusal → Status
status_of (Ok conclusion) = conclusion.status
status_of (Err refused) = refusal_status refused

abbrev pub text_of : Result Conclusion Refusal → List ℕ
text_of (Ok conclusion) = conclusion.text.items
text_of (Err refused) = refusal_line refused

-- the refusal may come at the stage
pub record IsRefusedAt (files : Files) (stage : Stage) (refused : Refusal) : Type 0 where
  pub why : (refused ≡ refusal.OutOfMemory)
      ⊎ Refuses files (refusal_status refused) (refusal_line refused) stage
  pub reads : refusal_status refused ≢ status.ReadFailed → NoReadFailed files

-- it may come at one of these stages, all earlier ones of which pass
pub record IsHalted (files : Files) (stages : List Stage) (refused : Refusal) : Type 0 where
  pub why : (refused ≡ refusal.OutOfMemory)
      ⊎ Stops files stages (refusal_status refused) (refusal_line refused)
  pub reads : refusal_status refused ≢ status.ReadFailed → NoReadFailed files

-- the bytes are few enough, and they are as is said
abbrev pub IsTaken : Option (List ℕ) → (List ℕ → Type 0) → Type 0
IsTaken told Has = HoldsOf told (λ bytes. (length bytes ≤ MAX_TEXT) × Has bytes)

-- the bytes of a program are refused in the data model
abbrev pub IsTextRefused : DataModel → List ℕ → Refusal → Type 0
IsTextRefused m bytes (refusal.NoProgram line) = IsFaultLine m (string_bytes line) bytes
IsTextRefused m bytes refusal.OutOfMemory = Unit {0}
IsTextRefused m bytes _ = ⊥

-- the bytes of a list of inputs are refused
abbrev pub IsListRefused : List ℕ → Refusal → Type 0
IsListRefused bytes refusal.NoInputs = NoInputs bytes
IsListRefused bytes refusal.OutOfMemory = Unit {0}
IsListRefused bytes _ = ⊥

-- the text of a report of the program is refused
abbrev pub IsReportRefused : DataModel → Program → List ℕ → Refusal → Type 0
IsReportRefused m P text (refusal.NoReport rule) = BreaksFor m P text rule
IsReportRefused m P text refusal.OutOfMemory = Unit {0}
IsReportRefused m P text _ = ⊥

-- the bytes of a configuration are refused
abbrev pub IsConfigRefused : List (List ℕ) → List ℕ → Refusal → Type 0
IsConfigRefused names bytes (refusal.NoConfig line) = IsConfigLine names (string_bytes line) bytes
IsConfigRefused names bytes refusal.OutOfMemory = Unit {0}
IsConfigRefused names bytes _ = ⊥

-- an analysis of a measurement is not handed in
abbrev pub IsLackRefused : List (List ℕ) → Refusal → Type 0
IsLackRefused names refusal.LacksAnalysis = LacksOne names
IsLackRefused names refusal.OutOfMemory = Unit {0}
IsLackRefused names _ = ⊥

-- what comes of a program on inputs in so many steps
pub record IsOutcome (steps : ℕ) (P : Program) (inputs : List ℤ) (conclusion : Conclusion) : Type 0
  where
    pub outcome : Outcome
    pub replay : Replay P inputs steps outcome
    pub status : conclusion.status ≡ outcome_status outcome
    pub line : conclusion.text.items ≡ outcome_line outcome

-- the verdict on a program by the analyses that the configuration picks
pub record IsConcluded (analyses : List Meaning) (config : Config) (P : Program)
    (conclusion : Conclusion) : Type 0 where
  pub told : Told
  pub tells : IsTold P (picked analyses config.picks) config told
  pub status : conclusion.status ≡ verdict_status told.verdict
  pub text_is : conclusion.text.items ≡ told.text.items

-- what comes of the entries of the text of a report, checked again
pub record IsChecked (config : Config) (P : Program) (text : List ℕ) (conclusion : Conclusion)
    : Type 0 where
  pub told : Rechecked
  pub tells : IsRechecked config.model P config.settings text told
  pub status : conclusion.status ≡ finding_status told.finding
  pub text_is : conclusion.text.items ≡ told.text.items

-- what is counted of the program of a measurement of so many functions
pub record IsCounted (functions : ℕ) (analyses : List Meaning) (config : Config) (P : Program)
    (conclusion : Conclusion) : Type 0 where
  pub measured : Measured
  pub measures : IsMeasured P (picked analyses config.picks) config measured
  pub status : conclusion.status ≡ verdict_status measured.verdict
  pub line : conclusion.text.items ≡ bench_line functions measured

-- what the job comes to, before it is written
pub record IsDone (files : Files) (analyses : List Meaning) (job : Job)
    (result : Result Conclusion Refusal) : Type 0 where
  pub rule : IsShortOfMemory (status_of result) (text_of result)
      ⊎ (Stops files (stages_of analyses job) (status_of result) (text_of result)
      ⊎ Ends files analyses job (status_of result) (text_of result))
  pub reads : status_of result ≢ status.ReadFailed → NoReadFailed files
