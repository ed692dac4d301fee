use Rattle.cpa_top_words_command.proofs.command.replay_command.Goals as goal

pub returns : goal.returns
returns c =
    c.with_option.ensures _
    (c.with_steps-steps.ensures _ (c.with_word-words.ensures _ c.on_program.ensures))
