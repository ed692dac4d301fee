-- Where a job stops, and what it comes to at its end (this project's own).
use Rattle.std.specs.Prelude.{◌≡◌, ℕ, ◌<◌, ◌≤◌, ℤ, List, [], ◌∷◌, ◌++◌, length}
use Rattle.std.specs.Prelude.{Option, Some, None, IfSome}
use Rattle.std.specs.List.{AllByRecursion}
use Rattle.c_lexer.specs.declared.fault.TextFault.{TextFault}
use Rattle.cpa_ints.specs.declared.data_model.DataModel.{DataModel}
use Rattle.cpa_ints.specs.declared.data_model.DataModel.TheVariants.{Lp64}
use Rattle.cpa_model.specs.declared.program.Program.{Program}
use Rattle.cpa_iface.specs.Meanings.{Meaning}
use Rattle.cpa_outside.specs.Outside.{Rose}
use Rattle.cpa_interp.specs.declared.outcome.Outcome.{Outcome}
use Rattle.cpa_interp.specs.Replays.{Replay}
use Rattle.c_program.specs.Programs.{IsProgram, IsTheProgram, IsTextFault, NoProgram}
use Rattle.cpa_composite.specs.Components.{picked}
use Rattle.cpa_config.specs.declared.config.Config.{Config}
use Rattle.cpa_config.specs.declared.faults.ConfigRule.{ConfigRule}
use Rattle.cpa_config.specs.Configurations.{Configures, Refuses as RefusesConfig}
use Rattle.cpa_top_bench.specs.declared.measuring.Measured.{Measured}
use Rattle.cpa_top_bench.specs.Configurations.{IsBenchConfig, LacksOne}
use Rattle.cpa_top_bench.specs.Measurements.{IsMeasured, bench_line}
use Rattle.cpa_top_bench.specs.Texts.{bench_text}
use Rattle.cpa_top_jobs.specs.Inputs.{IsInputs}
use Rattle.cpa_report.specs.declared.fault.ReportRule.{ReportRule}
use Rattle.cpa_top_recheck.specs.declared.finding.Rechecked.{Rechecked}
use Rattle.cpa_top_recheck.specs.Lines.{report_line}
use Rattle.cpa_top_recheck.specs.Rechecks.{HasReport, BreaksFor, IsRechecked}
use Rattle.cpa_top_verdict.specs.declared.reporting.Told.{Told}
use Rattle.cpa_top_verdict.specs.Verdicts.{IsTold}
use Rattle.cpa_top_words.specs.Jobs.{Job, verify, replay, recheck, bench}
use Rattle.cpa_top_jobs.specs.declared.status.Status.{Status}
use Rattle.cpa_top_jobs.specs.declared.status.Status.TheVariants as status
use Rattle.cpa_top_jobs.specs.Files.{Files, HoldsOf}
use Rattle.cpa_top_jobs.specs.Jobs.{Stage, reading, parsing, listing, matching, configuring}
use Rattle.cpa_top_jobs.specs.Jobs.{picking, composing, limit_of, stages_of, names_of}
use Rattle.cpa_top_jobs.specs.Jobs.{ModelSource, given, of_config}
use Rattle.cpa_top_jobs.specs.Lines.{fault_line, config_line, read_line, long_line, inputs_line}
use Rattle.cpa_top_jobs.specs.Lines.{lacking_line, memory_line, outcome_line}
use Rattle.cpa_top_jobs.specs.Statuses.{finding_status, outcome_status, verdict_status}

-- ---- stages

-- the bytes of the configuration: those of the named file where they are told, and none where no
-- file is named
abbrev pub config_bytes : (List ℕ → Option (List ℕ)) → Option (List ℕ) → Option (List ℕ)
config_bytes bytes_of None = Some []
config_bytes bytes_of (Some file) = bytes_of file

-- the data model is that of the source
abbrev pub IsModelOf : (List ℕ → Option (List ℕ)) → ModelSource → DataModel → Type 0
IsModelOf bytes_of (given model) m = m ≡ model
IsModelOf bytes_of (of_config names file) m =
    HoldsOf (config_bytes bytes_of file) (λ said.
    (config : Config) × Configures said names config × (m ≡ config.model))

-- it holds in the data model of the source
abbrev pub HoldsIn : Files → ModelSource → (DataModel → Type 0) → Type 0
HoldsIn files source Has = (m : DataModel) × IsModelOf files.bytes_of source m × Has m

-- the bytes stand for some program in the data model
abbrev pub HasProgram : DataModel → List ℕ → Type 0
HasProgram m bytes = (P : Program) × IsProgram m bytes P

-- the bytes are some list of inputs
abbrev pub HasInputs : List ℕ → Type 0
HasInputs bytes = (numbers : List ℤ) × IsInputs bytes numbers

-- the text is that of a TRUE report of the one program of the bytes in the data model
abbrev pub HasReportOf : DataModel → List ℕ → List ℕ → Type 0
HasReportOf m bytes text = (P : Program) × IsTheProgram m bytes P × HasReport m P text

-- the bytes give some configuration for the names
abbrev pub HasConfig : List (List ℕ) → List ℕ → Type 0
HasConfig names bytes = (config : Config) × Configures bytes names config

-- the analyses of a measurement are among the names
abbrev pub HasBenchConfig : List (List ℕ) → Type 0
HasBenchConfig names = (config : Config) × IsBenchConfig names config

-- The stage gives nothing to refuse: the bytes of its file, which are those that are told where
-- they are told, are few enough, or stand for what they are read as.
abbrev pub Passes : Files → Stage → Type 0
Passes files (reading which name) =
    HoldsOf (files.bytes_of name) (λ bytes. length bytes ≤ limit_of which)
Passes files (parsing source name) =
    HoldsIn files source (λ m. HoldsOf (files.bytes_of name) (HasProgram m))
Passes files (listing name) = HoldsOf (files.bytes_of name) HasInputs
Passes files (matching source name report) =
    HoldsIn files source (λ m. HoldsOf (files.bytes_of name) (λ bytes.
    HoldsOf (files.bytes_of report) (λ text. HasReportOf m bytes text)))
Passes files (configuring names file) =
    HoldsOf (config_bytes files.bytes_of file) (HasConfig names)
Passes files (picking names) = HasBenchConfig names
Passes files (composing functions) = HasProgram Lp64 (bench_text functions)

-- the bytes stand for no program in the data model, and the line names their fault
abbrev pub IsFaultLine : DataModel → List ℕ → List ℕ → Type 0
IsFaultLine m line bytes =
    NoProgram m bytes × (fault : TextFault) × IsTextFault m bytes fault
    × (line ≡ fault_line bytes fault)

-- the bytes are no list of inputs
abbrev pub NoInputs : List ℕ → Type 0
NoInputs bytes = (numbers : List ℤ) → IsInputs bytes numbers → ⊥

-- the text is that of no TRUE report of the one program of the bytes, and the line names the rule
-- that it breaks
abbrev pub IsReportLine : DataModel → List ℕ → List ℕ → List ℕ → Type 0
IsReportLine m line bytes text =
    (P : Program) × IsTheProgram m bytes P × (rule : ReportRule) × BreaksFor m P text rule
    × (line ≡ report_line rule)

-- the bytes give no configuration for the names, and the line names the rule and the key
abbrev pub IsConfigLine : List (List ℕ) → List ℕ → List ℕ → Type 0
IsConfigLine names line bytes =
    (rule : ConfigRule) × (key : List ℕ) × RefusesConfig bytes names rule key
    × (line ≡ config_line rule key)

-- The stage is refused with this status and this line, for the bytes of its file.
abbrev pub Refuses : Files → Status → List ℕ → Stage → Type 0
Refuses files status.ReadFailed line (reading which name) =
    Rose (files.before name) (files.after name) × (line ≡ read_line which)
Refuses files status.TooLong line (reading which name) =
    IfSome (files.bytes_of name) (λ bytes. limit_of which < length bytes)
    × (line ≡ long_line which)
Refuses files status.NoProgram line (parsing source name) =
    HoldsIn files source (λ m. HoldsOf (files.bytes_of name) (IsFaultLine m line))
Refuses files status.NoInputs line (listing name) =
    HoldsOf (files.bytes_of name) NoInputs × (line ≡ inputs_line)
Refuses files status.NoReport line (matching source name report) =
    HoldsIn files source (λ m. HoldsOf (files.bytes_of name) (λ bytes.
    HoldsOf (files.bytes_of report) (λ text. IsReportLine m line bytes text)))
Refuses files status.NoConfig line (configuring names file) =
    HoldsOf (config_bytes files.bytes_of file) (IsConfigLine names line)
Refuses files status.NoConfig line (picking names) = LacksOne names × (line ≡ lacking_line)
Refuses files status.NoProgram line (composing functions) =
    IsFaultLine Lp64 line (bench_text functions)
Refuses files _ line _ = ⊥

-- One of these stages is refused, and no earlier one is.
pub record Stops (files : Files) (stages : List Stage) (with : Status) (line : List ℕ) : Type 0
  where
    pub earlier : List Stage
    pub stage : Stage
    pub later : List Stage
    pub order : stages ≡ earlier ++ stage ∷ later
    pub passed : AllByRecursion (Passes files) earlier
    pub refused : Refuses files with line stage

-- ---- ends

-- The status and the text are those of the verdict on the one program of the bytes in the data
-- model of the configuration, by the handed analyses that it picks; it is what `said` gives.
pub record IsVerified (analyses : List Meaning) (said bytes : List ℕ) (with : Status)
    (text : List ℕ) : Type 0 where
  pub config : Config
  pub configures : Configures said (names_of analyses) config
  pub program : Program
  pub is : IsTheProgram config.model bytes program
  pub told : Told
  pub tells : IsTold program (picked analyses config.picks) config told
  pub status : with ≡ verdict_status told.verdict
  pub text_is : text ≡ told.text.items

-- The status and the line are those of what comes of the one program of the bytes in the data model
-- on the inputs in so many steps.
pub record IsReplayed (m : DataModel) (steps : ℕ) (bytes list : List ℕ) (with : Status)
    (line : List ℕ) : Type 0 where
  pub program : Program
  pub is : IsTheProgram m bytes program
  pub inputs : List ℤ
  pub are : IsInputs list inputs
  pub outcome : Outcome
  pub replay : Replay program inputs steps outcome
  pub status : with ≡ outcome_status outcome
  pub line_is : line ≡ outcome_line outcome

-- The status and the text are those of what comes of the entries of the TRUE report of the one
-- program of the bytes, checked again within what the configuration allows.
pub record IsRecheckedBy (analyses : List Meaning) (said bytes list : List ℕ) (with : Status)
    (text : List ℕ) : Type 0 where
  pub config : Config
  pub configures : Configures said (names_of analyses) config
  pub program : Program
  pub is : IsTheProgram config.model bytes program
  pub told : Rechecked
  pub tells : IsRechecked config.model program config.settings list told
  pub status : with ≡ finding_status told.finding
  pub text_is : text ≡ told.text.items

-- The status and the line are those of what is counted of the text of a measurement of so many
-- functions, by location, callstack and value of the handed analyses.
pub record IsMeasuredBy (analyses : List Meaning) (functions : ℕ) (with : Status) (line : List ℕ)
    : Type 0 where
  pub config : Config
  pub configures : IsBenchConfig (names_of analyses) config
  pub program : Program
  pub is : IsTheProgram Lp64 (bench_text functions) program
  pub measured : Measured
  pub measures : IsMeasured program (picked analyses config.picks) config measured
  pub status : with ≡ verdict_status measured.verdict
  pub line_is : line ≡ bench_line functions measured

-- What the job comes to, over the bytes of its files, which are those that are told where they are
-- told.
abbrev pub Concludes : Files → List Meaning → Job → Status → List ℕ → Type 0
Concludes files analyses (verify name file) with text =
    HoldsOf (config_bytes files.bytes_of file) (λ said.
    HoldsOf (files.bytes_of name) (λ bytes. IsVerified analyses said bytes with text))
Concludes files analyses (replay name inputs steps model) with text =
    HoldsOf (files.bytes_of name) (λ bytes.
    HoldsOf (files.bytes_of inputs) (λ list. IsReplayed model steps bytes list with text))
Concludes files analyses (recheck name report file) with text =
    HoldsOf (config_bytes files.bytes_of file) (λ said.
    HoldsOf (files.bytes_of name) (λ bytes.
    HoldsOf (files.bytes_of report) (λ list.
    IsRecheckedBy analyses said bytes list with text)))
Concludes files analyses (bench functions) with text = IsMeasuredBy analyses functions with text

-- The job passes all its stages, and comes to its end.
pub record Ends (files : Files) (analyses : List Meaning) (job : Job) (with : Status)
    (text : List ℕ) : Type 0 where
  pub passed : AllByRecursion (Passes files) (stages_of analyses job)
  pub concludes : Concludes files analyses job with text

-- memory ran out
pub record IsShortOfMemory (with : Status) (text : List ℕ) : Type 0 where
  pub status : with ≡ status.OutOfMemory
  pub text_is : text ≡ memory_line
