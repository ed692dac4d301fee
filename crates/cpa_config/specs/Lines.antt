-- The line that refuses a configuration (this project's own).
use Rattle.std.specs.Prelude.{ℕ, List, ◌++◌, ◌&&◌, nat_le, map, codes, if◌then◌else◌}
use Rattle.std.specs.Str.{chars}
use Rattle.cpa_config.specs.declared.faults.ConfigRule.{ConfigRule}
use Rattle.cpa_config.specs.declared.faults.ConfigRule.TheVariants as rule

abbrev pub rule_word : ConfigRule → List ℕ
rule_word rule.C1 = codes "C1"
rule_word rule.C2 = codes "C2"
rule_word rule.C3 = codes "C3"
rule_word rule.C4 = codes "C4"
rule_word rule.C5 = codes "C5"

-- a character from ! to ~, and ? for another one
abbrev pub shown_character : ℕ → ℕ
shown_character c = if nat_le 33 c && nat_le c 126 then c else 63

abbrev pub shown : List ℕ → List ℕ
shown key = map shown_character (chars key)

-- the line without its end; C1 has no key
abbrev pub fault_line : ConfigRule → List ℕ → List ℕ
fault_line rule.C1 key = codes "refused config C1"
fault_line which key = codes "refused config " ++ rule_word which ++ codes " " ++ shown key
