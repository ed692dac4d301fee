use Rattle.std.proofs.Common.{◌≡◌, take, map}
use Rattle.std.specs.String.{string_bytes}
use Rattle.cpa_top_jobs.specs.Jobs.{names_of}
use Rattle.cpa_top_jobs.proofs.verify_job.names_of.Given as goal

abbrev pub invariant-loop-analysis : goal.invariant-loop-analysis
invariant-loop-analysis g l =
    map string_bytes l.names.items
    ≡ names_of (map g.A.Analysis.meaning (take l.analysis-index l.analyses))
