use Rattle.std.proofs.Common.{refl}
use Rattle.cpa_top_words_command.specs.Commands.{bench_command, recheck_command, replay_command}
use Rattle.cpa_top_words_command.specs.Commands.{verify_command}
use Rattle.cpa_top_words_command.proofs.command.whole_command.Goals as goal

pub returns : goal.returns
returns c =
    c.with_subcommand.ensures _ bench_command refl
    (c.with_subcommand-top-3.ensures _ recheck_command refl
    (c.with_subcommand-top-2.ensures _ replay_command refl
    (c.with_subcommand-top.ensures _ verify_command refl c.top_command.ensures
    c.verify_command.ensures) c.replay_command.ensures) c.recheck_command.ensures)
    c.bench_command.ensures
