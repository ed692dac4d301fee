-- The command by which the words are read (this project's own), as the data that clap's promises
-- speak of.
use Rattle.std.specs.Prelude.{Some, codes, true}
use Rattle.clap.specs.Words.{App, Rule, Text, new_app, new_rule, with_rule, with_subcommand}
use Rattle.clap.specs.Simple.{on_top}
use Rattle.clap.specs.declared.builder.value_parser.ValueParser.TheVariants as vp

-- a word that must be there
abbrev pub word_rule : Text → Rule
word_rule name = record (new_rule name) { required = true }

-- --NAME TEXT
abbrev pub option_rule : Text → Rule
option_rule name = record (new_rule name) { long = Some name }

-- --steps N, a number of 64 bits
abbrev pub steps_rule : Rule
steps_rule = record (new_rule (codes "steps")) {
  long = Some (codes "steps");
  parser = Some (vp.Unsigned 0 18446744073709551615);
}

-- N, a number of at most 100 that must be there
abbrev pub count_rule : Rule
count_rule = record (new_rule (codes "N")) {
  required = true;
  parser = Some (vp.Unsigned 0 100);
}

-- NAME PROGRAM
abbrev pub on_program : Text → App
on_program name = with_rule (new_app name) (word_rule (codes "PROGRAM"))

-- verify PROGRAM [--config FILE]
abbrev pub verify_command : App
verify_command = with_rule (on_program (codes "verify")) (option_rule (codes "config"))

-- replay PROGRAM INPUTS [--steps N] [--model NAME]
abbrev pub replay_command : App
replay_command =
    with_rule
    (with_rule (with_rule (on_program (codes "replay")) (word_rule (codes "INPUTS"))) steps_rule)
    (option_rule (codes "model"))

-- recheck PROGRAM REPORT [--config FILE]
abbrev pub recheck_command : App
recheck_command =
    with_rule (with_rule (on_program (codes "recheck")) (word_rule (codes "REPORT")))
    (option_rule (codes "config"))

-- bench N
abbrev pub bench_command : App
bench_command = with_rule (new_app (codes "bench")) count_rule

-- without subcommands: the words begin behind the program's own name, and must name a subcommand
abbrev pub top_command : App
top_command = on_top (λ s. record s {
  no_binary_name = true;
  disable_help_subcommand = true;
  subcommand_required = true;
}) (new_app (codes "cpaverify"))

abbrev pub cpaverify : App
cpaverify =
    with_subcommand
    (with_subcommand
    (with_subcommand (with_subcommand top_command verify_command.top) replay_command.top)
    recheck_command.top)
    bench_command.top
