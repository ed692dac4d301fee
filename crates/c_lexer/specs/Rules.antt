-- The order of the rules that a text can break (this project's own).
use Rattle.std.specs.Prelude.{ℕ}
use Rattle.c_lexer.specs.declared.fault.Rule.{Rule}
use Rattle.c_lexer.specs.declared.fault.Rule.TheVariants.{L1, L2, L3, L4, S1, S2, S3, N1, N2, N3}
use Rattle.c_lexer.specs.declared.fault.Rule.TheVariants.{N4, N5, N6, N7, N8, N9, N10, N11, N12}
use Rattle.c_lexer.specs.declared.fault.Rule.TheVariants.{N13, N14, N15, N16, N17, N18, N19}

-- how many rules come before it
abbrev pub rule_number : Rule → ℕ
rule_number L1 = 0
rule_number L2 = 1
rule_number L3 = 2
rule_number L4 = 3
rule_number S1 = 4
rule_number S2 = 5
rule_number S3 = 6
rule_number N1 = 7
rule_number N2 = 8
rule_number N3 = 9
rule_number N4 = 10
rule_number N5 = 11
rule_number N6 = 12
rule_number N7 = 13
rule_number N8 = 14
rule_number N9 = 15
rule_number N10 = 16
rule_number N11 = 17
rule_number N12 = 18
rule_number N13 = 19
rule_number N14 = 20
rule_number N15 = 21
rule_number N16 = 22
rule_number N17 = 23
rule_number N18 = 24
rule_number N19 = 25
