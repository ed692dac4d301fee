-- The lines of a recheck (this project's own).
use Rattle.std.specs.Prelude.{ℕ, List, ◌++◌, codes, decimal}
use Rattle.cpa_recheck.specs.declared.checking.Why.{Why}
use Rattle.cpa_recheck.specs.declared.checking.Why.TheVariants as why
use Rattle.cpa_recheck.specs.declared.rechecking.Confirmation.{Confirmation}
use Rattle.cpa_recheck.specs.declared.rechecking.Confirmation.TheVariants as checked
use Rattle.cpa_report.specs.declared.fault.ReportRule.{ReportRule}
use Rattle.cpa_report.specs.declared.fault.ReportRule.TheVariants.{P1, P2, P3, P4, P5, P6}
use Rattle.cpa_report_print.specs.Reports.{break_text}

-- a word and a number
abbrev pub numbered_line : List ℕ → ℕ → List ℕ
numbered_line word n = word ++ decimal n ++ codes "\n"

-- the number of the least obligation that is not shown to hold, and where a state breaks it that
-- state, and its successor for an edge
abbrev pub stopped_text : ℕ → Why → List ℕ
stopped_text number (why.Refused state next) =
    numbered_line (codes "REFUSED ") number ++ break_text state next
stopped_text number (why.Learnt lines) = numbered_line (codes "UNKNOWN learnt ") number
stopped_text number (why.Gates weight) = numbered_line (codes "UNKNOWN gates ") number

-- what comes of the obligations: how many there are, all of which hold; or the least that is not
-- shown to hold
abbrev pub checked_text : Confirmation → List ℕ
checked_text (checked.Confirmed count) = numbered_line (codes "CONFIRMED ") count
checked_text (checked.Stopped number reason) = stopped_text number reason

-- the word of a rule
abbrev pub rule_word : ReportRule → List ℕ
rule_word P1 = codes "P1"
rule_word P2 = codes "P2"
rule_word P3 = codes "P3"
rule_word P4 = codes "P4"
rule_word P5 = codes "P5"
rule_word P6 = codes "P6"

-- the line that refuses a text for a rule
abbrev pub report_line : ReportRule → List ℕ
report_line rule = codes "refused report " ++ rule_word rule ++ codes "\n"
