use Rattle.cpa_engine_turn.proofs.settling.left_after.Goals as goal

pub returns-in_ok-later : goal.returns-in_ok-later
returns-in_ok-later c = λ cs row by _. c.in_ok-later.ensures cs row by

pub returns-else-is_changed : goal.returns-else-is_changed
returns-else-is_changed c = λ cs row by same. same c.if-is_changed.false
