-- The step becomes less.
use Rattle.cpa_interpolant_words.proofs.selecting.fewest.Given as goal

abbrev pub decreases-loop-step : goal.decreases-loop-step
decreases-loop-step l = l.step
