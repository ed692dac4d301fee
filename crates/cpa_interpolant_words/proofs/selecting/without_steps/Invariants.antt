-- The end comes to the first.
use Rattle.cpa_interpolant_words.proofs.selecting.without_steps.Given as goal

abbrev pub decreases-loop-end : goal.decreases-loop-end
decreases-loop-end l = l.end
