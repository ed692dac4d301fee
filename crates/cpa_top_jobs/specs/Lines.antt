-- The lines that the program writes (this project's own).
use Rattle.std.specs.Prelude.{ℕ, ◌+◌, Bool, not, ◌==◌, List, ◌++◌, length, take, reverse, decimal}
use Rattle.std.specs.Prelude.{codes}
use Rattle.std.specs.List.{filter, prefix_len}
use Rattle.c_lexer.specs.declared.byte.TheConstants.{LINE_FEED}
use Rattle.c_lexer.specs.declared.fault.Rule.{Rule}
use Rattle.c_lexer.specs.declared.fault.Rule.TheVariants as rule
use Rattle.c_lexer.specs.declared.fault.TextFault.{TextFault}
use Rattle.cpa_config.specs.declared.faults.ConfigRule.{ConfigRule}
use Rattle.cpa_config.specs.Lines.{fault_line as config_fault}
use Rattle.cpa_interp.specs.declared.outcome.Outcome.{Outcome}
use Rattle.cpa_interp.specs.declared.outcome.Outcome.TheVariants as outcome
use Rattle.cpa_top_recheck.specs.Lines.{numbered_line}
use Rattle.cpa_top_jobs.specs.declared.role.Role.{Role}
use Rattle.cpa_top_jobs.specs.declared.role.Role.TheVariants as role

abbrev pub is_line_feed : ℕ → Bool
is_line_feed byte = byte == LINE_FEED

-- the line, from 1 on, of what stands behind this text
abbrev pub line_behind : List ℕ → ℕ
line_behind text = length (filter is_line_feed text) + 1

-- the column, from 1 on, of what stands behind this text: the bytes since its last line feed
abbrev pub column_behind : List ℕ → ℕ
column_behind text = prefix_len (λ byte. not (is_line_feed byte)) (reverse text) + 1

-- the word of a rule
abbrev pub rule_word : Rule → List ℕ
rule_word rule.L1 = codes "L1"
rule_word rule.L2 = codes "L2"
rule_word rule.L3 = codes "L3"
rule_word rule.L4 = codes "L4"
rule_word rule.S1 = codes "S1"
rule_word rule.S2 = codes "S2"
rule_word rule.S3 = codes "S3"
rule_word rule.N1 = codes "N1"
rule_word rule.N2 = codes "N2"
rule_word rule.N3 = codes "N3"
rule_word rule.N4 = codes "N4"
rule_word rule.N5 = codes "N5"
rule_word rule.N6 = codes "N6"
rule_word rule.N7 = codes "N7"
rule_word rule.N8 = codes "N8"
rule_word rule.N9 = codes "N9"
rule_word rule.N10 = codes "N10"
rule_word rule.N11 = codes "N11"
rule_word rule.N12 = codes "N12"
rule_word rule.N13 = codes "N13"
rule_word rule.N14 = codes "N14"
rule_word rule.N15 = codes "N15"
rule_word rule.N16 = codes "N16"
rule_word rule.N17 = codes "N17"
rule_word rule.N18 = codes "N18"
rule_word rule.N19 = codes "N19"

-- the word of a rule that a text breaks, and the line and column of the place
abbrev pub placed_line : List ℕ → ℕ → ℕ → List ℕ
placed_line word line column =
    codes "refused text " ++ word ++ codes " at " ++ decimal line ++ codes ":" ++ decimal column
    ++ codes "\n"

-- the line that refuses a configuration for a rule and a key
abbrev pub config_line : ConfigRule → List ℕ → List ℕ
config_line rule key = config_fault rule key ++ codes "\n"

-- the line that refuses a list of analyses that lacks one of a measurement
abbrev pub lacking_line : List ℕ
lacking_line = codes "refused config C4 analyses\n"

-- the line that refuses a text for a fault
abbrev pub fault_line : List ℕ → TextFault → List ℕ
fault_line text fault =
    placed_line (rule_word fault.rule) (line_behind (take fault.place text))
    (column_behind (take fault.place text))

abbrev pub role_word : Role → List ℕ
role_word role.Config = codes "config"
role_word role.Program = codes "program"
role_word role.Inputs = codes "inputs"
role_word role.Report = codes "report"

abbrev pub read_line : Role → List ℕ
read_line which = codes "refused read " ++ role_word which ++ codes "\n"

abbrev pub long_line : Role → List ℕ
long_line which = codes "refused long " ++ role_word which ++ codes "\n"

abbrev pub inputs_line : List ℕ
inputs_line = codes "refused inputs\n"

abbrev pub memory_line : List ℕ
memory_line = codes "refused memory\n"

abbrev pub usage_text : List ℕ
usage_text =
    codes "usage: cpaverify verify PROGRAM [--config FILE]\n"
    ++ codes "       cpaverify replay PROGRAM INPUTS [--steps N] [--model NAME]\n"
    ++ codes "       cpaverify recheck PROGRAM REPORT [--config FILE] [--proof] [--workers N]\n"
    ++ codes "       cpaverify audit PROGRAM PROOF [--workers N] [--model NAME]\n"
    ++ codes "       cpaverify bench N\n"

-- what comes of a replay
abbrev pub outcome_line : Outcome → List ℕ
outcome_line (outcome.Error steps) = numbered_line (codes "ERROR ") steps
outcome_line outcome.Ended = codes "ENDED\n"
outcome_line (outcome.Trapped point) = numbered_line (codes "TRAPPED ") point
outcome_line (outcome.InputsShort point) = numbered_line (codes "SHORT ") point
outcome_line (outcome.BadInput place) = numbered_line (codes "BADINPUT ") place
outcome_line outcome.StepsSpent = codes "SPENT\n"
