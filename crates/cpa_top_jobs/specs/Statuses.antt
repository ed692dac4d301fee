-- The number of each status, and that of a verdict, of an outcome of a replay and of a finding of a
-- recheck (this project's own).
use Rattle.std.specs.Prelude.{ℕ}
use Rattle.cpa_interp.specs.declared.outcome.Outcome.{Outcome}
use Rattle.cpa_interp.specs.declared.outcome.Outcome.TheVariants as outcome
use Rattle.cpa_report_print.specs.declared.report.Verdict.{Verdict}
use Rattle.cpa_report_print.specs.declared.report.Verdict.TheVariants as verdict
use Rattle.cpa_top_recheck.specs.declared.finding.Finding.{Finding}
use Rattle.cpa_top_recheck.specs.declared.finding.Finding.TheVariants as finding
use Rattle.cpa_top_jobs.specs.declared.status.Status.{Status}
use Rattle.cpa_top_jobs.specs.declared.status.Status.TheVariants as status

abbrev pub code_of : Status → ℕ
code_of status.Holds = 0
code_of status.Fails = 1
code_of status.Unknown = 2
code_of status.Usage = 3
code_of status.ReadFailed = 4
code_of status.TooLong = 5
code_of status.NoProgram = 6
code_of status.NoConfig = 7
code_of status.NoInputs = 8
code_of status.NoReport = 8
code_of status.WriteFailed = 9
code_of status.OutOfMemory = 10

-- that of what comes of a replay
abbrev pub outcome_status : Outcome → Status
outcome_status (outcome.Error steps) = status.Fails
outcome_status outcome.Ended = status.Holds
outcome_status (outcome.Trapped point) = status.Holds
outcome_status (outcome.InputsShort point) = status.Unknown
outcome_status (outcome.BadInput place) = status.Unknown
outcome_status outcome.StepsSpent = status.Unknown

-- that of a finding of a recheck
abbrev pub finding_status : Finding → Status
finding_status finding.Confirmed = status.Holds
finding_status finding.Refused = status.Fails
finding_status finding.Open = status.Unknown

-- that of a verdict
abbrev pub verdict_status : Verdict → Status
verdict_status verdict.True = status.Holds
verdict_status verdict.False = status.Fails
verdict_status verdict.Turns = status.Unknown
verdict_status verdict.Rounds = status.Unknown
verdict_status verdict.Learnt = status.Unknown
verdict_status verdict.Gates = status.Unknown
verdict_status verdict.NoNew = status.Unknown
verdict_status verdict.Proof = status.Holds
